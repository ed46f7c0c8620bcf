-- An order has one plan, and the records tell of it.
use Rattle.std.proofs.Common.{◌≡◌, ℕ, zero, suc, ◌<◌, ◌≤◌, cond, List, [], ◌∷◌, length, map, get_or, Option, Some, None, refl, sym, ap, ◌∙◌, arith, ⊎_elim, eq-eqb, ne_eqb}
use Rattle.std.specs.Prelude.{filter_map}
use Rattle.std.specs.List.{cons_option}
use Rattle.std.proofs.lemmas.Bool.{cases_lt}
use Rattle.std.proofs.lemmas.List.{get_or_past}
use Rattle.hsr_node.specs.Kept.{Record}
use Rattle.hsr_node.specs.declared.entry.Entry.{Entry}
use Rattle.hsr_node.specs.declared.place.Place.{Place}
use Rattle.hsr_node.specs.declared.place.Place.TheVariants.{QuadBox}
use Rattle.hsr_finished_run.specs.Finished.{IsPlanned, planned_by, planned_for}
use Rattle.hsr_finished_run.specs.Passes.{IsToldBy}
use Rattle.hsr_run_laws.specs.Run.{Run, record_in}
use Rattle.hsr_finished_run.specs.declared.planned.Planned.{Planned}
use Rattle.hsr_transcript.specs.Order.{IsOrder}
use Rattle.hsr_transcript.specs.Replay.{records_from}
use Rattle.hsr_transcript.proofs.Numbered.{many_from, record_from}
use Rattle.hsr_transcript.proofs.Unlike.{none_behind}

-- ---- what is planned for a node

planned_first : (k : ℕ) (x : Planned) (xs : List Planned) → x.node ≡ k → filter_map (planned_for k) (x ∷ xs) ≡ x ∷ filter_map (planned_for k) xs
planned_first k x xs e = ap (λ b. cons_option (cond b (Some x) None) (filter_map (planned_for k) xs)) (eq-eqb x.node k e)

planned_other : (k : ℕ) (x : Planned) (xs : List Planned) → ¬ (x.node ≡ k) → filter_map (planned_for k) (x ∷ xs) ≡ filter_map (planned_for k) xs
planned_other k x xs e = ap (λ b. cons_option (cond b (Some x) None) (filter_map (planned_for k) xs)) (ne_eqb x.node k e)

none_for : (k : ℕ) (plan : List Planned) → ((i : ℕ) (d : Planned) → i < length plan → ¬ ((get_or plan i d).node ≡ k)) → filter_map (planned_for k) plan ≡ []
none_for k [] other = refl
none_for k (x ∷ xs) other = planned_other k x xs (other 0 x (omega arith)) ∙ none_for k xs (λ i d below. other (suc i) d (omega (arith, below)))

not_for : (k : ℕ) (plan : List Planned) (i : ℕ) (d : Planned) → filter_map (planned_for k) plan ≡ [] → i < length plan → ¬ ((get_or plan i d).node ≡ k)
not_for k [] i d none below node = absurd (omega arith)
not_for k (x ∷ xs) zero d none below node = let some : x ∷ filter_map (planned_for k) xs ≡ [] = sym (planned_first k x xs node) ∙ none in absurd (cc)
not_for k (x ∷ xs) (suc i) d none below node = not_for k xs i d (none_behind (planned_for k x) (filter_map (planned_for k) xs) none).1 (omega (arith, below)) node

-- ---- the plan of an order

same_behind : (o : Option Planned) (xs ys : List Planned) → cons_option o xs ≡ cons_option o ys → xs ≡ ys
same_behind None xs ys h = h
same_behind (Some x) xs ys h = cc

same_plan : (p q : List Planned) → map (λ (x : Planned). x.node) p ≡ map (λ (x : Planned). x.node) q → ((k : ℕ) → filter_map (planned_for k) p ≡ filter_map (planned_for k) q) → p ≡ q
same_plan [] [] nodes each = refl
same_plan [] (y ∷ ys) nodes each = absurd (cc)
same_plan (x ∷ xs) [] nodes each = absurd (cc)
same_plan (x ∷ xs) (y ∷ ys) nodes each =
    let node : x.node ≡ y.node = cc in
    let more : map (λ (p : Planned). p.node) xs ≡ map (λ (p : Planned). p.node) ys = cc in
    let first : x ∷ filter_map (planned_for x.node) xs ≡ y ∷ filter_map (planned_for x.node) ys =
    sym (planned_first x.node x xs refl) ∙ each x.node ∙ planned_first x.node y ys (sym node) in
    let here : x ≡ y = cc in
    let rest : xs ≡ ys = same_plan xs ys more (λ k.
    same_behind (planned_for k x) (filter_map (planned_for k) xs) (filter_map (planned_for k) ys)
    (each k ∙ ap (λ p. cons_option (planned_for k p) (filter_map (planned_for k) ys)) (sym here))) in
    λ i. here i ∷ rest i

pub one_plan : (main : List ℕ) (records : List (List Entry)) (p q : List Planned) → IsOrder main records p → IsOrder main records q → p ≡ q
one_plan main records p q a b = same_plan p q (a.nodes ∙ sym b.nodes) (λ k. a.each k ∙ sym (b.each k))

-- what is planned in a run is the order of its nodes
pub planned_order : (run : Run) (plan : List Planned) → length run.records ≡ length run.places → IsPlanned run plan → IsOrder (map (λ (p : Planned). p.node) plan) run.records plan
planned_order run plan many h = record { nodes = refl; each = λ k. ⊎_elim (h.each k) (past k) (cases_lt k (length run.places)) }
  where
    past : (k : ℕ) → length run.places ≤ k → filter_map (planned_for k) plan ≡ filter_map (planned_by k) (record_in run.records k)
    past k over =
        none_for k plan (λ i d below node. let inside = h.nodes i d below in omega (arith, inside, node, over))
        ∙ ap (filter_map (planned_by k)) (sym (get_or_past run.records k [] (omega (arith, many, over))))

-- ---- records tell of it

pub is_told : (main : List ℕ) (records : List (List Entry)) (places : List Place) (plan : List Planned) → length records ≡ length places → IsOrder main records plan
    → IsToldBy (records_from 0 places records) plan
is_told main records places plan many o = record {
  nodes = λ i d below. ⊎_elim (λ inside. omega (arith, inside, all)) (λ over. absurd (past i d below over)) (cases_lt (get_or plan i d).node (length records));
  each = λ k d below.
      o.each k
      ∙ ap (λ (r : Record). filter_map (planned_by k) r.entries) (sym (record_from 0 k places records d QuadBox many (omega (arith, below, all))));
}
  where
    all : length (records_from 0 places records) ≡ length places
    all = many_from 0 places records many

    past : (i : ℕ) (d : Planned) → i < length plan → length records ≤ (get_or plan i d).node → ⊥
    past i d below over =
        not_for (get_or plan i d).node plan i d
        (o.each (get_or plan i d).node ∙ ap (filter_map (planned_by (get_or plan i d).node)) (get_or_past records (get_or plan i d).node [] over))
        below refl
