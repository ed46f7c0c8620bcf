-- An entry judged one copy at most.
use Rattle.std.proofs.Common.{◌≡◌, ℕ, zero, suc, ◌+◌, ◌<◌, Bool, true, false, List, [], ◌∷◌, length, map, take, get_or, count_by, Option, Some, None, refl, sym, ap, ◌∙◌, subst, ⊎_elim, arith, slice_get}
use Rattle.std.specs.Prelude.{option_map, ◌==◌}
use Rattle.std.specs.List.{range_with_len}
use Rattle.std.proofs.lemmas.Bool.{cases_eq, cases_lt, eqb-true, false≢true}
use Rattle.std.proofs.lemmas.List.{get_or_past}
use Rattle.std.proofs.lemmas.Option.{cond_some, same_Some, slice_get-get_or, slice_get-map}
use Rattle.hsr_node.specs.Flow.{copy_at}
use Rattle.hsr_node.specs.declared.entry.Entry.{Entry}
use Rattle.hsr_node.specs.declared.event.Carried.{Carried}
use Rattle.hsr_node.specs.declared.event.Event.{Event}
use Rattle.hsr_node.specs.declared.event.Event.TheVariants.{Send, Supervise, Arrive, Age}
use Rattle.hsr_link.specs.declared.row.Dir.{Dir}
use Rattle.hsr_link.specs.declared.row.Dir.TheVariants.{Forth, Back}
use Rattle.hsr_link.specs.declared.row.Row.{Row}
use Rattle.hsr_run_laws.proofs.Lists.{count_more, filter_holds, one_if}
use Rattle.hsr_run_laws.specs.Run.{Run, ends_of, record_of, rows_of, to_end}
use Rattle.hsr_topology.specs.Links.{link_from}
use Rattle.hsr_topology.specs.Wired.{IsJoin, IsWired}
use Rattle.hsr_topology.specs.declared.end.End.{End}
use Rattle.hsr_topology.proofs.Back.{back_of_wired}
use Rattle.hsr_run_index.specs.InOrder.{came_by, copy_of_passage}
use Rattle.hsr_run_index.specs.declared.agreement.Passage.TheVariants.{Taken}
use Rattle.hsr_run_index.proofs.Often.{carried_itself, carried_tells}
use Rattle.hsr_timeline.specs.declared.origin.Spot.{Spot}
use Rattle.hsr_timeline.specs.declared.hop.Hop.{Hop}
use Rattle.hsr_timeline.specs.Hops.{came_at, hop_of, hops_below, hops_from, judged_place, spot_at}
use Rattle.hsr_timeline.specs.Partners.{indices, is_at, partner, partner_of}
use Rattle.hsr_timeline_laws.proofs.Listed.{IsIn, holds_at, in_parts, one_index, range_rises, rises_kept}

-- ---- counts of fronts

-- behind one more that passes the test there are more that do
pub count_rises : {X : Type 0} (p : X → Bool) (xs : List X) (i j : ℕ) (x : X) → i < j → slice_get xs i ≡ Some x → p x ≡ true → count_by p (take i xs) < count_by p (take j xs)
count_rises p [] i j x less is good = absurd (cc)
count_rises p (y ∷ ys) i zero x less is good = absurd (omega (arith, less))
count_rises p (y ∷ ys) zero (suc j) x less is good =
    let one = one_if (p y) (ap p (same_Some y x is) ∙ good) in
    let more = count_more p y (take j ys) in
    let none : count_by p (take 0 (y ∷ ys)) ≡ 0 = refl in
    omega (arith, one, more, none)
count_rises p (y ∷ ys) (suc i) (suc j) x less is good =
    let a = count_more p y (take i ys) in
    let b = count_more p y (take j ys) in
    let c = count_rises p ys i j x (omega (arith, less)) is good in
    omega (arith, a, b, c)

-- ---- partners

-- a place that is found is one of the copy's
found : (xs ys : List (Option Carried)) (j place : ℕ) → partner xs ys j ≡ Some place →
    (copy : Carried) × (get_or ys j None ≡ Some copy) × (slice_get (indices copy xs) (count_by (is_at copy) (take j ys)) ≡ Some place)
found xs ys j place is = of (get_or ys j None) refl is
  where
    of : (o : Option Carried) → get_or ys j None ≡ o → partner_of xs ys j o ≡ Some place →
        (copy : Carried) × (get_or ys j None ≡ Some copy) × (slice_get (indices copy xs) (count_by (is_at copy) (take j ys)) ≡ Some place)
    of None e f = absurd (cc)
    of (Some copy) e f = (copy, e, f)

-- and the copy stands there
stands : (xs : List (Option Carried)) (copy : Carried) (k place : ℕ) → slice_get (indices copy xs) k ≡ Some place → get_or xs place None ≡ Some copy
stands xs copy k place is =
    is_copy (get_or xs place None)
    (holds_at (λ i. is_at copy (get_or xs i None) ≡ true) (indices copy xs) k place (filter_holds (λ i. is_at copy (get_or xs i None)) (range_with_len 0 (length xs))) is)
  where
    is_copy : (o : Option Carried) → is_at copy o ≡ true → o ≡ Some copy
    is_copy None h = absurd (false≢true h)
    is_copy (Some other) h = ap (λ c. Some c) (sym (carried_tells copy other h))

-- what isn't none stands in the list
there : (ys : List (Option Carried)) (j : ℕ) (copy : Carried) → get_or ys j None ≡ Some copy → slice_get ys j ≡ Some (Some copy)
there ys j copy is = slice_get-get_or ys j None within ∙ ap (λ o. Some o) is
  where
    within : j < length ys
    within = ⊎_elim (λ lt. lt) (λ ge. absurd (let e : get_or ys j None ≡ None = get_or_past ys j None ge in let f : None ≡ Some copy = sym e ∙ is in cc)) (cases_lt j (length ys))

not_later : (xs ys : List (Option Carried)) (i j : ℕ) (copy : Carried) → get_or ys i None ≡ Some copy → count_by (is_at copy) (take i ys) ≡ count_by (is_at copy) (take j ys) → i < j → ⊥
not_later xs ys i j copy is same less = let rises = count_rises (is_at copy) ys i j (Some copy) less (there ys i copy is) (carried_itself copy) in omega (arith, same, rises)

-- copies have different partners
one_partner : (xs ys : List (Option Carried)) (i j place : ℕ) → partner xs ys i ≡ Some place → partner xs ys j ≡ Some place → i ≡ j
one_partner xs ys i j place a b =
    let f = found xs ys i place a in
    let g = found xs ys j place b in
    let copies : f.0 ≡ g.0 = same_Some f.0 g.0 (sym (stands xs f.0 (count_by (is_at f.0) (take i ys)) place f.2) ∙ stands xs g.0 (count_by (is_at g.0) (take j ys)) place g.2) in
    let P : Carried → Type 0 = λ c. slice_get (indices c xs) (count_by (is_at c) (take j ys)) ≡ Some place in
    let other : slice_get (indices f.0 xs) (count_by (is_at f.0) (take j ys)) ≡ Some place = subst P (sym copies) g.2 in
    let up = rises_kept (λ i. is_at f.0 (get_or xs i None)) (range_with_len 0 (length xs)) (range_rises 0 (length xs)) in
    let counts : count_by (is_at f.0) (take i ys) ≡ count_by (is_at f.0) (take j ys) = one_index (indices f.0 xs) (count_by (is_at f.0) (take i ys)) (count_by (is_at f.0) (take j ys)) place up f.2 other in
    let later : get_or ys j None ≡ Some f.0 = g.1 ∙ ap (λ c. Some c) (sym copies) in
    ⊎_elim (λ same. same)
    (λ apart. absurd (⊎_elim (λ lt. not_later xs ys i j f.0 f.1 counts lt) (λ ge. not_later xs ys j i f.0 later (sym counts) (omega (arith, ge, apart))) (cases_lt i j)))
    (cases_eq i j)

-- ---- ports and links

-- a copy comes by one port
one_port : (event : Event) (a b : ℕ) (c d : Carried) → copy_at a event ≡ Some c → copy_at b event ≡ Some d → a ≡ b
one_port (Arrive x copy) a b c d is other = sym (eqb-true x a (cond_some (x == a) copy c is).0) ∙ eqb-true x b (cond_some (x == b) copy d other).0
one_port (Send from dst vlan ethertype payload) a b c d is other = absurd (cc)
one_port (Supervise about) a b c d is other = absurd (cc)
one_port Age a b c d is other = absurd (cc)

abbrev side : Dir → Bool
side Forth = false
side Back = true

one_side : (d e : Dir) → side d ≡ side e → d ≡ e
one_side Forth Forth h = refl
one_side Back Back h = refl
one_side Forth Back h = absurd (false≢true h)
one_side Back Forth h = absurd (false≢true (sym h))

-- where a link's copies go leads to the link and the direction
leads : (run : Run) → IsWired run.places run.links → (l : ℕ) (dir : Dir) → l < length run.links → link_from 0 run.links (to_end dir (ends_of run l)) ≡ Some (l, side dir)
leads run wired l dir below = of (ends_of run l) refl (wired.joined l [] below)
  where
    of : (ends : List End) → ends_of run l ≡ ends → IsJoin run.places ends → link_from 0 run.links (to_end dir (ends_of run l)) ≡ Some (l, side dir)
    of [] e join = absurd join
    of (a ∷ []) e join = absurd join
    of (a ∷ b ∷ []) e join = by_dir dir
      where
        back : (link_from 0 run.links a ≡ Some (l, true)) × (link_from 0 run.links b ≡ Some (l, false))
        back = back_of_wired run.places run.links wired l [] a b below e

        by_dir : (d : Dir) → link_from 0 run.links (to_end d (ends_of run l)) ≡ Some (l, side d)
        by_dir Forth = ap (λ ends. link_from 0 run.links (to_end Forth ends)) e ∙ back.1
        by_dir Back = ap (λ ends. link_from 0 run.links (to_end Back ends)) e ∙ back.0
    of (a ∷ b ∷ c ∷ ends) e join = absurd join

one_link : (run : Run) → IsWired run.places run.links → (l m : ℕ) (d e : Dir) → l < length run.links → m < length run.links → to_end d (ends_of run l) ≡ to_end e (ends_of run m) → (l ≡ m) × (d ≡ e)
one_link run wired l m d e below under same =
    let both : (l, side d) ≡ (m, side e) = same_Some (l, side d) (m, side e) (sym (leads run wired l d below) ∙ (ap (link_from 0 run.links) same ∙ leads run wired m e under)) in
    (ap (λ (p : ℕ × Bool). p.0) both, one_side d e (ap (λ (p : ℕ × Bool). p.1) both))

-- ---- the hop that an entry judged

pub spot_told : (node : ℕ) (o : Option ℕ) (q : Spot) → spot_at node o ≡ Some q → (node ≡ q.node) × (o ≡ Some q.place)
spot_told node None q is = absurd (cc)
spot_told node (Some p) q is =
    let e : record { node = node; place = p } ≡ q = same_Some (record { node = node; place = p }) q is in
    (ap (λ (s : Spot). s.node) e, ap (λ (s : Spot). Some s.place) e)

-- an entry that judged the copy of a row let it in where the row's direction leads
module _ (run : Run) (l : ℕ) (j : ℕ) (row : Row) (q : Spot) (judged : (hop_of run l j row).judged ≡ Some q) where
  abbrev end : End
  end = to_end row.dir (ends_of run l)

  node_is : end.node ≡ q.node
  node_is = (spot_told end.node (judged_place run l row.dir j) q judged).0

  place_is : judged_place run l row.dir j ≡ Some q.place
  place_is = (spot_told end.node (judged_place run l row.dir j) q judged).1

  let_in : (x : Entry) × (copy : Carried) × (slice_get (record_of run q.node) q.place ≡ Some x) × (came_by end.port x ≡ Some copy)
  let_in =
      let f = found (came_at run end) (map (copy_of_passage Taken row.dir) (rows_of run l)) j q.place place_is in
      let copied = there (came_at run end) q.place f.0 (stands (came_at run end) f.0 (count_by (is_at f.0) (take j (map (copy_of_passage Taken row.dir) (rows_of run l)))) q.place f.2) in
      let mapped : option_map (came_by end.port) (slice_get (record_of run end.node) q.place) ≡ Some (Some f.0) = sym (slice_get-map (came_by end.port) (record_of run end.node) q.place) ∙ copied in
      of f.0 (slice_get (record_of run end.node) q.place) refl mapped
    where
      of : (copy : Carried) (o : Option Entry) → slice_get (record_of run end.node) q.place ≡ o → option_map (came_by end.port) o ≡ Some (Some copy) →
          (x : Entry) × (copy : Carried) × (slice_get (record_of run q.node) q.place ≡ Some x) × (came_by end.port x ≡ Some copy)
      of copy None e f = absurd (cc)
      of copy (Some x) e f = (x, copy, ap (λ k. slice_get (record_of run k) q.place) (sym node_is) ∙ e, same_Some (came_by end.port x) (Some copy) f)

pub one_judged : (run : Run) → IsWired run.places run.links → (l m i j : ℕ) (row other : Row) (q : Spot) → l < length run.links → m < length run.links →
    slice_get (rows_of run l) i ≡ Some row → slice_get (rows_of run m) j ≡ Some other → (hop_of run l i row).judged ≡ Some q → (hop_of run m j other).judged ≡ Some q → hop_of run l i row ≡ hop_of run m j other
one_judged run wired l m i j row other q below under is was here also =
    let f = let_in run l i row q here in
    let g = let_in run m j other q also in
    let entries : f.0 ≡ g.0 = same_Some f.0 g.0 (sym f.2 ∙ g.2) in
    let a : End = to_end row.dir (ends_of run l) in
    let b : End = to_end other.dir (ends_of run m) in
    let ports : a.port ≡ b.port = one_port f.0.event a.port b.port f.1 g.1 f.3 (ap (λ (x : Entry). copy_at b.port x.event) entries ∙ g.3) in
    let nodes : a.node ≡ b.node = node_is run l i row q here ∙ sym (node_is run m j other q also) in
    let ends : a ≡ b = λ t. record { node = nodes t; port = ports t } in
    let links = one_link run wired l m row.dir other.dir below under ends in
    let moved : judged_place run l row.dir j ≡ judged_place run m other.dir j = ap (λ k. judged_place run k row.dir j) links.0 ∙ ap (λ d. judged_place run m d j) links.1 in
    let numbers : i ≡ j =
    one_partner (came_at run a) (map (copy_of_passage Taken row.dir) (rows_of run l)) i j q.place (place_is run l i row q here) (moved ∙ place_is run m j other q also) in
    let rows : row ≡ other = same_Some row other (sym is ∙ (ap (λ k. slice_get (rows_of run k) i) links.0 ∙ (ap (slice_get (rows_of run m)) numbers ∙ was))) in
    λ t. hop_of run (links.0 t) (numbers t) (rows t)

-- ---- the hops of a run

-- it is the hop of a row of one of the first links
abbrev pub IsHopBelow : Run → ℕ → Hop → Type 0
IsHopBelow run n hop = (l : ℕ) × (j : ℕ) × (row : Row) × (l < n) × (slice_get (rows_of run l) j ≡ Some row) × (hop_of run l j row ≡ hop)

hop_from : (run : Run) (l n : ℕ) (rows : List Row) (hop : Hop) → IsIn hop (hops_from run l n rows) → (j : ℕ) × (row : Row) × (slice_get rows j ≡ Some row) × (hop_of run l (n + j) row ≡ hop)
hop_from run l n [] hop h = absurd h
hop_from run l n (row ∷ rows) hop h = ⊎_elim
    (λ here. let e : n + 0 ≡ n = omega arith in (0, row, refl, ap (λ k. hop_of run l k row) e ∙ here))
    (λ more. let k = hop_from run l (n + 1) rows hop more in let e : n + suc k.0 ≡ (n + 1) + k.0 = omega arith in (suc k.0, k.1, k.2, ap (λ m. hop_of run l m k.1) e ∙ k.3))
    h

pub hop_below : (run : Run) (n : ℕ) (hop : Hop) → IsIn hop (hops_below run n) → IsHopBelow run n hop
hop_below run zero hop h = absurd h
hop_below run (suc n) hop h = ⊎_elim
    (λ earlier. let k = hop_below run n hop earlier in let below = k.3 in (k.0, k.1, k.2, omega (arith, below), k.4, k.5))
    (λ here. let k = hop_from run n 0 (rows_of run n) hop here in let e : k.0 ≡ 0 + k.0 = omega arith in (n, k.0, k.1, omega arith, k.2, ap (λ m. hop_of run n m k.1) e ∙ k.3))
    (in_parts (hops_below run n) (hops_from run n 0 (rows_of run n)) hop h)
