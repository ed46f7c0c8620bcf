-- Right receipts make the plan what the records tell of the main worker.
use Rattle.std.proofs.Common.{◌≡◌, ℕ, ◌+◌, ◌<◌, ◌==◌, zero, suc, cond, Bool, true, false, List, [], ◌∷◌, ◌++◌, length, map, get_or, filter_map, slice_index_or, Option, Some, None, Vec, refl, sym, ap, ◌∙◌, subst, arith, eqb-true}
use Rattle.std.specs.Global.{Global}
use Rattle.std.specs.Prelude.{slice_get}
use Rattle.std.specs.List.{AllByRecursion, cons_option}
use Rattle.std.proofs.lemmas.List.{get_or-map}
use Rattle.std.proofs.lemmas.List.Elements.{filter_map-append}
use Rattle.std.proofs.lemmas.Option.{none-some}
use Rattle.hsr_node.specs.Kept.{Receipts, Record}
use Rattle.hsr_node.specs.declared.entry.Entry.{Entry}
use Rattle.hsr_node.specs.declared.entry.Receipt.{Receipt}
use Rattle.hsr_node.specs.declared.place.Place.TheVariants.{QuadBox}
use Rattle.hsr_link.specs.declared.row.Row.{Row}
use Rattle.hsr_finished_run.specs.Finished.{IsPlanned, planned_by, planned_for, run_of}
use Rattle.hsr_finished_run.specs.Passes.{IsToldBy}
use Rattle.hsr_run_laws.specs.Run.{Run}
use Rattle.hsr_finished_run.specs.Receipts.{AreShown, IsRight, IsShown, Shows, done_in, done_of, entry_at, holds_of, named, names_of, planned_of}
use Rattle.hsr_finished_run.specs.Shape.{IsShaped}
use Rattle.hsr_topology.specs.Topology.{Topology}
use Rattle.hsr_finished_run.specs.declared.planned.Planned.{Planned}
use Rattle.hsr_finished_run.proofs.Shaped.{many}

-- what an entry of a node is in a plan
abbrev pub told_of : ℕ → Option Entry → Option Planned
told_of k None = None
told_of k (Some x) = Some (record { node = k; at = x.at; event = x.event })

abbrev told_at : List Record → ℕ → ℕ → Option Planned
told_at kept k n = told_of k (entry_at kept k n)

-- ---- receipts

-- the receipts of one pass, in a plan for a node
pass_told : (kept : List Record) (k : ℕ) (rs : List Receipt) → AreShown kept rs (length rs) →
    filter_map (planned_for k) (map planned_of rs) ≡ filter_map (told_at kept k) (filter_map (named k) rs)
pass_told kept k [] shown = refl
pass_told kept k (r ∷ rs) shown =
    let rest = pass_told kept k rs (λ i d below. shown (suc i) d (omega (arith, below))) in
    by_node (r.node == k) refl (shown 0 r (omega arith)) rest
  where
    by_node : (b : Bool) → (r.node == k) ≡ b → Shows kept r → filter_map (planned_for k) (map planned_of rs) ≡ filter_map (told_at kept k) (filter_map (named k) rs) →
        cons_option (cond b (Some (planned_of r)) None) (filter_map (planned_for k) (map planned_of rs)) ≡ filter_map (told_at kept k) (cons_option (cond b (Some r.place) None) (filter_map (named k) rs))
    by_node true same is rest =
        let node : r.node ≡ k = eqb-true r.node k same in
        let here : told_at kept k r.place ≡ Some (planned_of r) =
        (λ i. told_of (sym node i) (entry_at kept (sym node i) r.place)) ∙ ap (told_of r.node) is in
        ap (λ o. cons_option o (filter_map (planned_for k) (map planned_of rs))) (sym here) ∙ ap (λ xs. cons_option (told_at kept k r.place) xs) rest
    by_node false other is rest = rest

done_told : (kept : List Record) (k : ℕ) (ps : List Receipts) → IsShown kept 0 ps (length ps) →
    filter_map (planned_for k) (done_of ps) ≡ filter_map (told_at kept k) (names_of 0 k ps)
done_told kept k [] shown = refl
done_told kept k (p ∷ ps) shown =
    let rest = done_told kept k ps (λ j d below. shown (suc j) d (omega (arith, below))) in
    filter_map-append (planned_for k) (done_in p) (done_of ps)
    ∙ (by_worker (p.worker == 0) refl rest ∙ sym (filter_map-append (told_at kept k) (cond (p.worker == 0) (filter_map (named k) p.receipts) []) (names_of 0 k ps)))
  where
    by_worker : (b : Bool) → (p.worker == 0) ≡ b → filter_map (planned_for k) (done_of ps) ≡ filter_map (told_at kept k) (names_of 0 k ps) →
        filter_map (planned_for k) (cond b (map planned_of p.receipts) []) ++ filter_map (planned_for k) (done_of ps)
        ≡ filter_map (told_at kept k) (cond b (filter_map (named k) p.receipts) []) ++ filter_map (told_at kept k) (names_of 0 k ps)
    by_worker true same rest =
        let here = pass_told kept k p.receipts (shown 0 p (omega arith) (eqb-true p.worker 0 same)) in
        λ i. here i ++ rest i
    by_worker false other rest = rest

-- ---- records

-- from the n-th entry on
pub record_told : (k n : ℕ) (whole xs : List Entry) → ((i : ℕ) → slice_get whole (n + i) ≡ slice_get xs i) →
    filter_map (planned_by k) xs ≡ filter_map (λ m. told_of k (slice_get whole m)) (holds_of 0 n xs)
record_told k n whole [] at = refl
record_told k n whole (x ∷ xs) at =
    let rest = record_told k (n + 1) whole xs (λ i. let e : n + 1 + i ≡ n + suc i = omega arith in ap (slice_get whole) e ∙ at (suc i)) in
    by_worker (x.worker == 0) rest
  where
    here : told_of k (slice_get whole n) ≡ Some (record { node = k; at = x.at; event = x.event })
    here = let e : n ≡ n + 0 = omega arith in ap (told_of k) (ap (slice_get whole) e ∙ at 0)

    by_worker : (b : Bool) → filter_map (planned_by k) xs ≡ filter_map (λ m. told_of k (slice_get whole m)) (holds_of 0 (n + 1) xs) →
        cons_option (cond b (Some (record { node = k; at = x.at; event = x.event })) None) (filter_map (planned_by k) xs)
        ≡ filter_map (λ m. told_of k (slice_get whole m)) (cond b (n ∷ []) [] ++ holds_of 0 (n + 1) xs)
    by_worker true rest = ap (λ o. cons_option o (filter_map (planned_by k) xs)) (sym here) ∙ ap (λ ys. cons_option (told_of k (slice_get whole n)) ys) rest
    by_worker false rest = rest

-- the entries of a node are found by its number
pub found_at : (kept : List Record) (k m : ℕ) (d : Record) → k < length kept → entry_at kept k m ≡ slice_get (get_or kept k d).entries m
found_at [] k m d below = absurd (omega arith)
found_at (r ∷ rs) zero m d below = refl
found_at (r ∷ rs) (suc k) m d below = found_at rs k m d (omega (arith, below))

same_map : {X Y : Type 0} (f g : X → Option Y) (xs : List X) → ((x : X) → f x ≡ g x) → filter_map f xs ≡ filter_map g xs
same_map f g [] e = refl
same_map f g (x ∷ xs) e = λ i. cons_option (e x i) (same_map f g xs e i)

-- ---- nodes

pub node_inside : (kept : List Record) (r : Receipt) → Shows kept r → r.node < length kept
node_inside kept r is = inside kept r.node is
  where
    inside : (rs : List Record) (k : ℕ) → entry_at rs k r.place ≡ Some r.entry → k < length rs
    inside [] k h = absurd (none-some r.entry h)
    inside (x ∷ xs) zero h = omega arith
    inside (x ∷ xs) (suc k) h = let below = inside xs k h in omega (arith, below)

pub all_append : {X : Type 0} (P : X → Type 0) (xs ys : List X) → AllByRecursion P xs → AllByRecursion P ys → AllByRecursion P (xs ++ ys)
all_append P [] ys a b = b
all_append P (x ∷ xs) ys a b = (a.0, all_append P xs ys a.1 b)

pub all_at : {X : Type 0} (P : X → Type 0) (xs : List X) → AllByRecursion P xs → (i : ℕ) (d : X) → i < length xs → P (slice_index_or xs i d)
all_at P [] a i d below = absurd (omega arith)
all_at P (x ∷ xs) a zero d below = a.0
all_at P (x ∷ xs) a (suc i) d below = all_at P xs a.1 i d (omega (arith, below))

abbrev Inside : List Record → Planned → Type 0
Inside kept x = x.node < length kept

pass_inside : (kept : List Record) (rs : List Receipt) → AreShown kept rs (length rs) → AllByRecursion (Inside kept) (map planned_of rs)
pass_inside kept [] shown = tt
pass_inside kept (r ∷ rs) shown = (node_inside kept r (shown 0 r (omega arith)), pass_inside kept rs (λ i d below. shown (suc i) d (omega (arith, below))))

done_inside : (kept : List Record) (ps : List Receipts) → IsShown kept 0 ps (length ps) → AllByRecursion (Inside kept) (done_of ps)
done_inside kept [] shown = tt
done_inside kept (p ∷ ps) shown =
    all_append (Inside kept) (done_in p) (done_of ps) (by_worker (p.worker == 0) refl) (done_inside kept ps (λ j d below. shown (suc j) d (omega (arith, below))))
  where
    by_worker : (b : Bool) → (p.worker == 0) ≡ b → AllByRecursion (Inside kept) (cond b (map planned_of p.receipts) [])
    by_worker true same = pass_inside kept p.receipts (shown 0 p (omega arith) (eqb-true p.worker 0 same))
    by_worker false other = tt

-- ---- the plan

pub is_planned : (capacity : ℕ) (topology : Topology) (kept : List Record) (rows : List (Vec Row Global)) (passes : List Receipts) (plan : List Planned) →
    IsShaped topology kept rows → IsRight kept passes plan 0 → IsPlanned (run_of capacity topology kept rows) plan
is_planned capacity topology kept rows passes plan shaped right =
    let is : done_of passes ≡ plan = right.planned refl in
    let long = many capacity topology kept rows shaped in
    let P : List Planned → Type 0 = λ xs. (i : ℕ) (d : Planned) → i < length xs → (slice_index_or xs i d).node < length topology.places in
    record {
      nodes = subst P is (λ i d below. let inside = all_at (Inside kept) (done_of passes) (done_inside kept passes right.shown) i d below in omega (arith, inside, long));
      each = λ k below.
          let d : Record = record { number = 0; place = QuadBox; entries = [] } in
          let inside : k < length kept = omega (arith, below, long) in
          let entries : List Entry = (get_or kept k d).entries in
          ap (filter_map (planned_for k)) (sym is)
          ∙ (done_told kept k passes right.shown
          ∙ (ap (filter_map (told_at kept k)) (right.placed k d inside)
          ∙ (same_map (told_at kept k) (λ m. told_of k (slice_get entries m)) (holds_of 0 0 entries) (λ m. ap (told_of k) (found_at kept k m d inside))
          ∙ (sym (record_told k 0 entries entries (λ i. let e : 0 + i ≡ i = omega arith in ap (slice_get entries) e))
          ∙ ap (filter_map (planned_by k)) (sym (get_or-map (λ (r : Record). r.entries) kept k d [] inside))))));
    }

-- ---- the other way

-- a plan of a run whose records these are is told by them
pub told_by : (run : Run) (kept : List Record) (plan : List Planned) → run.records ≡ map (λ (r : Record). r.entries) kept → length run.places ≡ length kept →
    IsPlanned run plan → IsToldBy kept plan
told_by run kept plan records many_places h = record {
  nodes = λ i d below. let inside = h.nodes i d below in omega (arith, inside, many_places);
  each = λ k d below.
      h.each k (omega (arith, below, many_places))
      ∙ ap (filter_map (planned_by k)) (ap (λ (xs : List (List Entry)). get_or xs k []) records ∙ get_or-map (λ (r : Record). r.entries) kept k d [] below);
}
