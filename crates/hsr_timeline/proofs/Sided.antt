-- The hops of the rows of a direction.
use Rattle.std.proofs.Common.{◌≡◌, ℕ, zero, suc, ◌<◌, ◌+◌, List, length, map, get_or, Option, None, refl, ap, ◌∙◌, arith}
use Rattle.std.specs.List.{range_with_len}
use Rattle.std.proofs.lemmas.List.{length-map}
use Rattle.std.proofs.lemmas.List.FromFn.{get_or-map-range_with_len}
use Rattle.hsr_node.specs.declared.event.Carried.{Carried}
use Rattle.hsr_link.specs.declared.row.Dir.{Dir}
use Rattle.hsr_link.specs.declared.row.Row.{Row}
use Rattle.hsr_run_laws.specs.Run.{Run, ends_of, from_end, rows_of, to_end}
use Rattle.hsr_run_index.specs.InOrder.{copy_of_passage}
use Rattle.hsr_run_index.specs.declared.agreement.Passage.TheVariants.{Put, Taken}
use Rattle.hsr_timeline.specs.declared.hop.Hop.{Hop}
use Rattle.hsr_timeline.specs.declared.hopping.Side.{Side}
use Rattle.hsr_timeline.specs.Hops.{came_at, hop_of, judged_place, passed_at, passed_place, passed_places, spot_at}
use Rattle.hsr_timeline.specs.Partners.{partner, partners}
use Rattle.hsr_timeline.specs.Sides.{IsSide}

range_long : (a n : ℕ) → length (range_with_len a n) ≡ n
range_long a zero = refl
range_long a (suc n) = ap (λ m. suc m) (range_long (a + 1) n)

long : (xs ys : List (Option Carried)) → length (partners xs ys) ≡ length ys
long xs ys = length-map (range_with_len 0 (length ys)) (partner xs ys) ∙ range_long 0 (length ys)

at : (xs ys : List (Option Carried)) (j : ℕ) → j < length ys → get_or (partners xs ys) j None ≡ partner xs ys j
at xs ys j below = get_or-map-range_with_len (partner xs ys) 0 (length ys) j j None below (omega arith)

-- the place of the entry that passed the copy of a row
pub places_long : (run : Run) (l : ℕ) (dir : Dir) → length (passed_places run l dir) ≡ length (rows_of run l)
places_long run l dir = long (passed_at run (from_end dir (ends_of run l))) (map (copy_of_passage Put dir) (rows_of run l)) ∙ length-map (rows_of run l) (copy_of_passage Put dir)

pub place_at : (run : Run) (l : ℕ) (dir : Dir) (j : ℕ) → j < length (rows_of run l) → get_or (passed_places run l dir) j None ≡ passed_place run l dir j
place_at run l dir j below =
    let m = length-map (rows_of run l) (copy_of_passage Put dir) in
    at (passed_at run (from_end dir (ends_of run l))) (map (copy_of_passage Put dir) (rows_of run l)) j (omega (arith, m, below))

pub passed_long : (run : Run) (l : ℕ) (dir : Dir) (side : Side) (j : ℕ) → IsSide run l dir side → j < length (rows_of run l) → j < length side.passed.items
passed_long run l dir side j is below =
    let e = long (passed_at run (from_end dir (ends_of run l))) (map (copy_of_passage Put dir) (rows_of run l)) in
    let f = ap length is.passed_there in
    let m = length-map (rows_of run l) (copy_of_passage Put dir) in
    omega (arith, e, f, m, below)

pub judged_long : (run : Run) (l : ℕ) (dir : Dir) (side : Side) (j : ℕ) → IsSide run l dir side → j < length (rows_of run l) → j < length side.judged.items
judged_long run l dir side j is below =
    let e = long (came_at run (to_end dir (ends_of run l))) (map (copy_of_passage Taken dir) (rows_of run l)) in
    let f = ap length is.judged_there in
    let m = length-map (rows_of run l) (copy_of_passage Taken dir) in
    omega (arith, e, f, m, below)

abbrev pub hop_in : ℕ → ℕ → Side → Hop
hop_in l j side = record { link = l; number = j; passed = spot_at side.from (get_or side.passed.items j None); judged = spot_at side.to (get_or side.judged.items j None) }

pub hop_is : (run : Run) (l : ℕ) (side : Side) (j : ℕ) (row : Row) → IsSide run l row.dir side → j < length (rows_of run l) → hop_in l j side ≡ hop_of run l j row
hop_is run l side j row is below =
    let from = from_end row.dir (ends_of run l) in
    let to = to_end row.dir (ends_of run l) in
    let m = length-map (rows_of run l) (copy_of_passage Put row.dir) in
    let n = length-map (rows_of run l) (copy_of_passage Taken row.dir) in
    let p : get_or side.passed.items j None ≡ passed_place run l row.dir j =
    ap (λ (ps : List (Option ℕ)). get_or ps j None) is.passed_there ∙ at (passed_at run from) (map (copy_of_passage Put row.dir) (rows_of run l)) j (omega (arith, m, below)) in
    let q : get_or side.judged.items j None ≡ judged_place run l row.dir j =
    ap (λ (ps : List (Option ℕ)). get_or ps j None) is.judged_there ∙ at (came_at run to) (map (copy_of_passage Taken row.dir) (rows_of run l)) j (omega (arith, n, below)) in
    λ i. record { link = l; number = j; passed = spot_at (is.from_node i) (p i); judged = spot_at (is.to_node i) (q i) }
