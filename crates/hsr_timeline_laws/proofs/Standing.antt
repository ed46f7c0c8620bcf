-- Each row of a closed run stands at an entry that is there. So its entry has a stamp where entries have stamps.
use Rattle.std.proofs.Common.{◌≡◌, ℕ, zero, suc, ◌+◌, ◌<◌, ◌≤◌, Bool, true, false, cond, List, [], ◌∷◌, ◌++◌, length, map, take, drop, get_or, count_by, reverse, Option, Some, None, refl, sym, ap, ◌∙◌, subst, ⊎_elim, arith, slice_get}
use Rattle.std.specs.Prelude.{filter_map, option_map, is_some, not, ◌&&◌}
use Rattle.std.specs.List.{AllByRecursion, cons_option, range_with_len}
use Rattle.std.specs.Option.{option_and_then, option_or}
use Rattle.std.proofs.lemmas.Bool.{cases_eq, cases_lt, false≢true}
use Rattle.std.proofs.lemmas.List.{append_assoc, get_or-map, get_or_append_left, get_or_at, get_or_past, get_or_push, length-append, length-map, take-append-drop}
use Rattle.std.proofs.lemmas.List.Sorted.{IsPermutation-reverse, IsPermutation-sym}
use Rattle.std.proofs.lemmas.List.Sums.{sum_by-append}
use Rattle.std.proofs.lemmas.Option.{slice_get-get_or}
use Rattle.hsr_node.specs.Flow.{passes}
use Rattle.hsr_node.specs.Record.{Owner}
use Rattle.hsr_node.specs.declared.entry.Entry.{Entry}
use Rattle.hsr_node.specs.declared.event.Carried.{Carried}
use Rattle.hsr_link.specs.Rows.{is_same_dir, put_copies, put_copy}
use Rattle.hsr_link.specs.declared.row.Dir.{Dir}
use Rattle.hsr_link.specs.declared.row.Dir.TheVariants.{Forth, Back}
use Rattle.hsr_link.specs.declared.row.Row.{Row}
use Rattle.hsr_run_laws.specs.Closed.{IsClosed, IsSettled}
use Rattle.hsr_run_laws.specs.Run.{Run, ends_of, from_end, owner_of, past_of, record_of, rows_of, to_end}
use Rattle.hsr_topology.specs.declared.end.End.{End}
use Rattle.hsr_run_index.specs.InOrder.{came_by, passed, passed_by, copy_of_passage}
use Rattle.hsr_run_index.specs.Often.{is_same_carried}
use Rattle.hsr_run_index.specs.declared.agreement.Passage.TheVariants.{Put, Taken}
use Rattle.hsr_run_index.proofs.Often.{as_often, carried_itself, each_often}
use Rattle.hsr_run_index.proofs.Forwards.{passes_of}
use Rattle.hsr_finished_run.specs.declared.planned.Planned.{Planned}
use Rattle.hsr_timeline.specs.Stamps.{AreStamps, HasNoStamps, at_spot}
use Rattle.hsr_timeline.specs.declared.origin.Origin.{Origin}
use Rattle.hsr_timeline.specs.declared.origin.Spot.{Spot}
use Rattle.hsr_timeline.specs.declared.stamp.Stamp.{Stamp}
use Rattle.hsr_timeline.specs.declared.hop.Hop.{Hop}
use Rattle.hsr_timeline.specs.Hops.{came_at, hop_of, hops, hops_below, hops_from, judged_place, passed_at, passed_from, spot_at}
use Rattle.hsr_timeline.specs.Partners.{indices, indices_below, is_at, partner, partner_of}
use Rattle.hsr_frame.proofs.OneMore.{counted_more}
use Rattle.hsr_timeline.proofs.Placing.{indices_more}
use Rattle.hsr_timeline.specs.Causes.{cause_in, hop_pairs, main_pairs, origins, origins_below, origins_from}
use Rattle.hsr_timeline.specs.Story.{AreShown, HasNoStory, shown_at, shown_by, shown_then, shown_where}
use Rattle.hsr_timeline.specs.declared.shown.Shown.{Shown}
use Rattle.hsr_timeline_laws.proofs.Listed.{all_kept, holds_at, take_all}

-- ---- counts

count_step : (copy : Carried) (o : Option Carried) (os : List (Option Carried)) (cs : List Carried) → count_by (is_at copy) os ≡ count_by (is_same_carried copy) cs →
    count_by (is_at copy) (o ∷ os) ≡ count_by (is_same_carried copy) (cons_option o cs)
count_step copy None os cs same =
    let one : count_by (is_at copy) (None ∷ os) ≡ (0 + 0) + count_by (is_at copy) os = sum_by-append (λ x. cond {A = ℕ} (is_at copy x) 1 0) (None ∷ []) os in
    one ∙ (let e : (0 + 0) + count_by (is_at copy) os ≡ count_by (is_at copy) os = omega arith in e) ∙ same
count_step copy (Some c) os cs same =
    let one : count_by (is_at copy) (Some c ∷ os) ≡ (0 + cond {A = ℕ} (is_same_carried copy c) 1 0) + count_by (is_at copy) os = sum_by-append (λ x. cond {A = ℕ} (is_at copy x) 1 0) (Some c ∷ []) os in
    let other : count_by (is_same_carried copy) (c ∷ cs) ≡ (0 + cond {A = ℕ} (is_same_carried copy c) 1 0) + count_by (is_same_carried copy) cs = sum_by-append (λ x. cond {A = ℕ} (is_same_carried copy x) 1 0) (c ∷ []) cs in
    one ∙ (ap (λ n. (0 + cond {A = ℕ} (is_same_carried copy c) 1 0) + n) same ∙ sym other)

count_told : (copy : Carried) (dir : Dir) (rows : List Row) → count_by (is_at copy) (map (put_copy dir) rows) ≡ count_by (is_same_carried copy) (filter_map (put_copy dir) rows)
count_told copy dir [] = refl
count_told copy dir (row ∷ rows) = count_step copy (put_copy dir row) (map (put_copy dir) rows) (filter_map (put_copy dir) rows) (count_told copy dir rows)

count_passed : (copy : Carried) (owner : Owner) (port n : ℕ) (xs : List Entry) → count_by (is_at copy) (passed_from owner port n xs) ≡ count_by (is_same_carried copy) (passed owner port n xs)
count_passed copy owner port n [] = refl
count_passed copy owner port n (x ∷ xs) = count_step copy (passed_by owner port n x) (passed_from owner port (n + 1) xs) (passed owner port (n + 1) xs) (count_passed copy owner port (n + 1) xs)

count_turned : (copy : Carried) (xs : List Carried) → count_by (is_same_carried copy) (reverse xs) ≡ count_by (is_same_carried copy) xs
count_turned copy xs = each_often (reverse xs) xs (as_often (reverse xs) xs (IsPermutation-sym xs (reverse xs) (IsPermutation-reverse xs))) copy

-- ---- partners

indices_counted : (copy : Carried) (xs : List (Option Carried)) (n : ℕ) → n ≤ length xs → length (indices_below copy xs n) ≡ count_by (is_at copy) (take n xs)
indices_counted copy xs zero le = refl
indices_counted copy xs (suc n) le =
    let more : suc n ≡ n + 1 = omega arith in
    let so_far = indices_counted copy xs n (omega arith) in
    ap (λ k. length (indices_below copy xs k)) more
    ∙ (ap length (indices_more copy xs n)
    ∙ (length-append (indices_below copy xs n) (cond (is_at copy (get_or xs n None)) (n ∷ []) [])
    ∙ (by (is_at copy (get_or xs n None)) ∙ (ap (λ k. k + cond {A = ℕ} (is_at copy (get_or xs n None)) 1 0) so_far
    ∙ (sym (counted_more (is_at copy) xs n None (omega arith)) ∙ ap (λ k. count_by (is_at copy) (take k xs)) (sym more))))))
  where
    by : (b : Bool) → length (indices_below copy xs n) + length (cond b (n ∷ []) []) ≡ length (indices_below copy xs n) + cond {A = ℕ} b 1 0
    by true = refl
    by false = refl

all_below : (a n m : ℕ) → a + n ≤ m → AllByRecursion (λ i. i < m) (range_with_len a n)
all_below a zero m le = tt
all_below a (suc n) m le = (omega arith, all_below (a + 1) n m (omega arith))

-- a place that is found is one of the list
pub partner_within : (xs ys : List (Option Carried)) (j place : ℕ) → partner xs ys j ≡ Some place → place < length xs
partner_within xs ys j place is = of (get_or ys j None) is
  where
    of : (o : Option Carried) → partner_of xs ys j o ≡ Some place → place < length xs
    of None is = absurd (cc)
    of (Some copy) is =
        holds_at (λ i. i < length xs) (indices copy xs) (count_by (is_at copy) (take j ys)) place
        (all_kept (λ i. is_at copy (get_or xs i None)) (λ i. i < length xs) (range_with_len 0 (length xs)) (all_below 0 (length xs) (length xs) (omega arith))) is

count_front : (copy : Carried) (ys : List (Option Carried)) (n : ℕ) → count_by (is_at copy) (take n ys) ≤ count_by (is_at copy) ys
count_front copy ys n =
    let whole : count_by (is_at copy) ys ≡ count_by (is_at copy) (take n ys) + count_by (is_at copy) (drop n ys) =
    ap (count_by (is_at copy)) (sym (take-append-drop n ys)) ∙ sum_by-append (λ x. cond {A = ℕ} (is_at copy x) 1 0) (take n ys) (drop n ys) in
    omega (arith, whole)

-- a copy that is as often in both lists has a partner
pub partner_there : (xs ys : List (Option Carried)) (j : ℕ) (copy : Carried) → j < length ys → get_or ys j None ≡ Some copy → count_by (is_at copy) xs ≡ count_by (is_at copy) ys →
    (place : ℕ) × (partner xs ys j ≡ Some place)
partner_there xs ys j copy below is same =
    let k : ℕ = count_by (is_at copy) (take j ys) in
    let here : is_at copy (get_or ys j None) ≡ true = ap (is_at copy) is ∙ carried_itself copy in
    let more : count_by (is_at copy) (take (j + 1) ys) ≡ count_by (is_at copy) (take j ys) + 1 = counted_more (is_at copy) ys j None below ∙ ap (λ b. count_by (is_at copy) (take j ys) + cond {A = ℕ} b 1 0) here in
    let front = count_front copy ys (j + 1) in
    let long : length (indices copy xs) ≡ count_by (is_at copy) xs = indices_counted copy xs (length xs) (omega arith) ∙ ap (count_by (is_at copy)) (take_all xs) in
    let within : k < length (indices copy xs) = omega (arith, more, front, long, same) in
    (get_or (indices copy xs) k 0, ap (partner_of xs ys j) is ∙ slice_get-get_or (indices copy xs) k 0 within)

-- ---- the entry of a row

same_put : (row : Row) → row.injected ≡ false → put_copy row.dir row ≡ Some row.carried
same_put row own = of row.dir row.injected own
  where
    of : (dir : Dir) (injected : Bool) → injected ≡ false → cond (is_same_dir dir dir && not injected) (Some row.carried) None ≡ Some row.carried
    of Forth injected e = ap (λ b. cond (true && not b) (Some row.carried) None) e
    of Back injected e = ap (λ b. cond (true && not b) (Some row.carried) None) e

-- each entry passed something, or nothing
passed_long : (owner : Owner) (port n : ℕ) (xs : List Entry) → length (passed_from owner port n xs) ≡ length xs
passed_long owner port n [] = refl
passed_long owner port n (x ∷ xs) = ap suc (passed_long owner port (n + 1) xs)

-- an entry of a record is of a node
node_below : (run : Run) (node place : ℕ) → place < length (record_of run node) → node < length run.records
node_below run node place below = ⊎_elim (λ lt. lt)
    (λ ge. absurd (let e : length (record_of run node) ≡ 0 = ap length (get_or_past run.records node [] ge) in omega (arith, e, below)))
    (cases_lt node (length run.records))

-- an entry that is there
abbrev Stands : Run → Option Spot → Type 0
Stands run o = (spot : Spot) × (o ≡ Some spot) × (spot.place < length (record_of run spot.node))

module _ (run : Run) (closed : IsClosed run) (l : ℕ) (in_links : l < length run.links) where
  same_often : (dir : Dir) (copy : Carried) → count_by (is_at copy) (passed_at run (from_end dir (ends_of run l))) ≡ count_by (is_at copy) (map (copy_of_passage Put dir) (rows_of run l))
  same_often dir copy =
      let end : End = from_end dir (ends_of run l) in
      let owner : Owner = owner_of run end.node in
      let turned : count_by (is_same_carried copy) (passes owner end.port (past_of run end.node)) ≡ count_by (is_same_carried copy) (passed owner end.port 0 (record_of run end.node)) =
      ap (count_by (is_same_carried copy)) (passes_of owner end.port (record_of run end.node)) ∙ count_turned copy (passed owner end.port 0 (record_of run end.node)) in
      let fits : count_by (is_same_carried copy) (passes owner end.port (past_of run end.node)) ≡ count_by (is_same_carried copy) (put_copies dir (rows_of run l)) =
      each_often _ _ (as_often _ _ (closed.put l dir in_links)) copy in
      count_passed copy owner end.port 0 (record_of run end.node) ∙ (sym turned ∙ (fits ∙ sym (count_told copy dir (rows_of run l))))

  passed_there : (j : ℕ) (row : Row) → j < length (rows_of run l) → get_or (rows_of run l) j row ≡ row → row.injected ≡ false → Stands run ((hop_of run l j row).passed)
  passed_there j row below is own =
      let end : End = from_end row.dir (ends_of run l) in
      let xs : List (Option Carried) = passed_at run end in
      let ys : List (Option Carried) = map (copy_of_passage Put row.dir) (rows_of run l) in
      let long = length-map (rows_of run l) (copy_of_passage Put row.dir) in
      let told : get_or ys j None ≡ Some row.carried = get_or-map (copy_of_passage Put row.dir) (rows_of run l) j row None below ∙ (ap (put_copy row.dir) is ∙ same_put row own) in
      let found = partner_there xs ys j row.carried (omega (arith, long, below)) told (same_often row.dir row.carried) in
      let within = partner_within xs ys j found.0 found.1 in
      let entries = passed_long (owner_of run end.node) end.port 0 (record_of run end.node) in
      (record { node = end.node; place = found.0 }, ap (spot_at end.node) found.1, omega (arith, within, entries))

  judged_within : (j : ℕ) (row : Row) (spot : Spot) → (hop_of run l j row).judged ≡ Some spot → spot.place < length (record_of run spot.node)
  judged_within j row spot is = of (judged_place run l row.dir j) refl
    where
      end : End
      end = to_end row.dir (ends_of run l)

      of : (o : Option ℕ) → judged_place run l row.dir j ≡ o → spot.place < length (record_of run spot.node)
      of None e = absurd (let f : spot_at end.node None ≡ Some spot = ap (spot_at end.node) (sym e) ∙ is in cc)
      of (Some place) e =
          let f : spot_at end.node (Some place) ≡ Some spot = ap (spot_at end.node) (sym e) ∙ is in
          let g : record { node = end.node; place = place } ≡ spot = cc in
          let long = length-map (record_of run end.node) (came_by end.port) in
          let within : place < length (came_at run end) = partner_within (came_at run end) (map (copy_of_passage Taken row.dir) (rows_of run l)) j place e in
          let P : Spot → Type 0 = λ s. s.place < length (record_of run s.node) in
          subst P g (omega (arith, within, long))

  shown_there : (j : ℕ) (row : Row) → j < length (rows_of run l) → get_or (rows_of run l) j row ≡ row → row.injected ≡ false → Stands run (shown_where (hop_of run l j row))
  shown_there j row below is own = of ((hop_of run l j row).judged) refl
    where
      of : (o : Option Spot) → (hop_of run l j row).judged ≡ o → Stands run (shown_where (hop_of run l j row))
      of None e =
          let p = passed_there j row below is own in
          (p.0, ap (λ o. option_or o ((hop_of run l j row).passed)) e ∙ p.1, p.2)
      of (Some spot) e = (spot, ap (λ o. option_or o ((hop_of run l j row).passed)) e, judged_within j row spot e)

-- ---- stamps

origins_long : (planned passed : Spot → Option Spot) (node n : ℕ) (xs : List Entry) → length (origins_from planned passed node n xs) ≡ length xs
origins_long planned passed node n [] = refl
origins_long planned passed node n (x ∷ xs) = ap suc (origins_long planned passed node (n + 1) xs)

pub below_long : (run : Run) (planned passed : Spot → Option Spot) (n : ℕ) → length (origins_below run planned passed n) ≡ n
below_long run planned passed zero = refl
below_long run planned passed (suc n) =
    let e = length-append (origins_below run planned passed n) (origins_from planned passed n 0 (record_of run n) ∷ []) in
    let f = below_long run planned passed n in
    omega (arith, e, f)

pub below_at : (run : Run) (planned passed : Spot → Option Spot) (n k : ℕ) → k < n → get_or (origins_below run planned passed n) k [] ≡ origins_from planned passed k 0 (record_of run k)
below_at run planned passed zero k lt = absurd (omega arith)
below_at run planned passed (suc n) k lt = ⊎_elim here (before (λ less. below_at run planned passed n k less)) (cases_eq k n)
  where
    one : List (List Origin)
    one = origins_from planned passed n 0 (record_of run n) ∷ []

    here : k ≡ n → get_or (origins_below run planned passed (suc n)) k [] ≡ origins_from planned passed k 0 (record_of run k)
    here e =
        let P : ℕ → Type 0 = λ m. get_or (origins_below run planned passed n ++ one) m [] ≡ origins_from planned passed m 0 (record_of run m) in
        subst P (sym e) (get_or_push (origins_below run planned passed n) (origins_from planned passed n 0 (record_of run n)) [] n (below_long run planned passed n))

    before : (k < n → get_or (origins_below run planned passed n) k [] ≡ origins_from planned passed k 0 (record_of run k)) → ¬ (k ≡ n) → get_or (origins_below run planned passed (suc n)) k [] ≡ origins_from planned passed k 0 (record_of run k)
    before lower other =
        let f = below_long run planned passed n in
        get_or_append_left (origins_below run planned passed n) one [] k (omega (arith, f, other)) ∙ lower (omega (arith, other))

pub stamp_there : (run : Run) (plan : List Planned) (stamp : Spot → Option Stamp) → IsClosed run → AreStamps (origins run plan) stamp → (spot : Spot) → spot.place < length (record_of run spot.node) → (t : Stamp) × (stamp spot ≡ Some t)
stamp_there run plan stamp closed are spot below = of (stamp spot) refl
  where
    planned : Spot → Option Spot
    planned = cause_in (main_pairs run plan)

    passed_on : Spot → Option Spot
    passed_on = cause_in (hop_pairs run)

    there : at_spot (origins run plan) spot ≡ Some (get_or (origins_from planned passed_on spot.node 0 (record_of run spot.node)) spot.place (record { at = 0; planned = None; passed = None }))
    there =
        let r = closed.records in
        let inside : spot.node < length run.places = let b = node_below run spot.node spot.place below in omega (arith, r, b) in
        let long = origins_long planned passed_on spot.node 0 (record_of run spot.node) in
        ap (λ os. slice_get os spot.place) (below_at run planned passed_on (length run.places) spot.node inside)
        ∙ slice_get-get_or (origins_from planned passed_on spot.node 0 (record_of run spot.node)) spot.place (record { at = 0; planned = None; passed = None }) (omega (arith, long, below))

    of : (o : Option Stamp) → stamp spot ≡ o → (t : Stamp) × (stamp spot ≡ Some t)
    of (Some t) e = (t, e)
    of None e = absurd (false≢true (sym (ap is_some e) ∙ are.known spot _ there))

-- ---- all rows

abbrev IsShownAt : (Spot → Option Stamp) → Hop → Type 0
IsShownAt stamp hop = (row : Shown) × (shown_at stamp hop ≡ Some row)

module _ (run : Run) (plan : List Planned) (stamp : Spot → Option Stamp) (closed : IsClosed run) (are : AreStamps (origins run plan) stamp) where
  hop_shown : (l j : ℕ) (row : Row) → l < length run.links → j < length (rows_of run l) → get_or (rows_of run l) j row ≡ row → row.injected ≡ false → IsShownAt stamp (hop_of run l j row)
  hop_shown l j row in_links below is own =
      let hop : Hop = hop_of run l j row in
      let s = shown_there run closed l in_links j row below is own in
      let t = stamp_there run plan stamp closed are s.0 s.2 in
      (shown_by hop s.0 t.0, ap (option_and_then (shown_then stamp hop)) s.1 ∙ ap (option_map (shown_by hop s.0)) t.1)

  link_shown : (l : ℕ) (front rows : List Row) → l < length run.links → front ++ rows ≡ rows_of run l → AllByRecursion (IsSettled run) rows → AllByRecursion (IsShownAt stamp) (hops_from run l (length front) rows)
  link_shown l front [] in_links whole settled = tt
  link_shown l front (row ∷ rows) in_links whole settled =
      let long : length (rows_of run l) ≡ length front + suc (length rows) = ap length (sym whole) ∙ length-append front (row ∷ rows) in
      let here : get_or (rows_of run l) (length front) row ≡ row = ap (λ rs. get_or rs (length front) row) (sym whole) ∙ get_or_at front row rows row (length front) refl in
      let next : (front ++ row ∷ []) ++ rows ≡ rows_of run l = append_assoc front (row ∷ []) rows ∙ whole in
      let count : length (front ++ row ∷ []) ≡ length front + 1 = length-append front (row ∷ []) in
      let P : ℕ → Type 0 = λ n. AllByRecursion (IsShownAt stamp) (hops_from run l n rows) in
      (hop_shown l (length front) row in_links (omega (arith, long)) here settled.0.put, subst P count (link_shown l (front ++ row ∷ []) rows in_links next settled.1))

  all_append : (xs ys : List Hop) → AllByRecursion (IsShownAt stamp) xs → AllByRecursion (IsShownAt stamp) ys → AllByRecursion (IsShownAt stamp) (xs ++ ys)
  all_append [] ys xall yall = yall
  all_append (x ∷ xs) ys xall yall = (xall.0, all_append xs ys xall.1 yall)

  below_shown : (n : ℕ) → n ≤ length run.links → AllByRecursion (IsShownAt stamp) (hops_below run n)
  below_shown zero le = tt
  below_shown (suc n) le =
      all_append (hops_below run n) (hops_from run n 0 (rows_of run n)) (below_shown n (omega arith))
      (link_shown n [] (rows_of run n) (omega arith) refl (closed.settled n (omega arith)))

  collected : (list : List Hop) → AllByRecursion (IsShownAt stamp) list → (rows : List Shown) × AreShown stamp list rows
  collected [] all = ([], refl)
  collected (hop ∷ list) all =
      let more = collected list all.1 in
      (all.0.0 ∷ more.0, ap (λ o. o ∷ map (shown_at stamp) list) all.0.1 ∙ ap (λ os. Some all.0.0 ∷ os) more.1)

  pub rows_shown : (rows : List Shown) × AreShown stamp (hops run) rows
  rows_shown = collected (hops run) (below_shown (length run.links) (omega arith))

-- where there is no order of rows, there are no stamps
pub no_stamps : (run : Run) (plan : List Planned) → IsClosed run → HasNoStory run plan → HasNoStamps (origins run plan)
no_stamps run plan closed none = ⊎_elim (λ h. h) (λ h. absurd (let shown = rows_shown run plan h.0 closed h.1 in h.2 shown.0 shown.1)) none
