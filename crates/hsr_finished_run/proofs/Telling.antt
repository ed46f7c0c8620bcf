-- What is left of a plan for records to tell, one planned thing after another.
use Rattle.std.proofs.Common.{◌≡◌, ◌↔◌, ℕ, ◌+◌, ◌<◌, zero, suc, List, [], ◌∷◌, length, drop, get_or, set, filter_map, sym, ap, ◌∙◌, subst, arith, ⊎_elim}
use Rattle.std.proofs.lemmas.Bool.{cases_eq}
use Rattle.std.proofs.lemmas.List.{get_or_default, get_or-set_same, get_or-set_other}
use Rattle.hsr_node.specs.Kept.{Record}
use Rattle.hsr_node.specs.declared.entry.Entry.{Entry}
use Rattle.hsr_finished_run.specs.Finished.{planned_by, planned_for}
use Rattle.hsr_finished_run.specs.Next.{AreFirst, IsNext, holds_from}
use Rattle.hsr_finished_run.specs.Passes.{IsToldBy, left_at}
use Rattle.hsr_finished_run.specs.Reached.{AreUsedUp}
use Rattle.hsr_finished_run.specs.Told.{IsRest}
use Rattle.hsr_finished_run.specs.declared.planned.Planned.{Planned}
use Rattle.hsr_finished_run.proofs.Coming.{zero_at}
use Rattle.hsr_finished_run.proofs.Keeping.{first_for, next_told, none_told, other_for, stops}
use Rattle.hsr_finished_run.proofs.MainPass.{none_held}

-- ---- the start and the end

pub rest_first : (kept : List Record) (plan : List Planned) (next : List ℕ) → AreFirst (length kept) next → IsRest kept next plan ↔ IsToldBy kept plan
rest_first kept plan next first =
    let told : (k : ℕ) (d : Record) → filter_map (planned_by k) (left_at kept next k d) ≡ filter_map (planned_by k) (get_or kept k d).entries =
    λ k d i. filter_map (planned_by k) (drop (zero_at next first.first k i) (get_or kept k d).entries) in (
      λ h. record { nodes = h.nodes; each = λ k d below. h.left.each k d below ∙ told k d },
      λ h. record { nodes = h.nodes; left = record { each = λ k d below. h.each k d below ∙ sym (told k d) } },
    )

pub rest_none : (kept : List Record) (next : List ℕ) → AreUsedUp kept 0 next (length kept) ↔ IsRest kept next []
rest_none kept next = (
  λ h. record { nodes = λ i d below. absurd (omega (arith, below)); left = record { each = λ k d below. sym (none_told k (get_or kept k d).entries (get_or next k 0) (h k d below)) } },
  λ h k d below. none_held k (get_or next k 0) (left_at kept next k d) (sym (h.left.each k d below)),
)

-- ---- the step

module _ (kept : List Record) (next : List ℕ) (planned : Planned) (e : Record) (from : ℕ) (long : length next ≡ length kept) (inside : planned.node < length kept)
    (at : e ≡ get_or kept planned.node e) (starts : from ≡ get_or next planned.node 0) (place : ℕ) (x : Entry) (is : IsNext 0 e.entries from place) (stands : x ≡ get_or e.entries place x) where
  abbrev k : ℕ
  k = planned.node

  abbrev as_planned : Planned
  as_planned = record { node = k; at = x.at; event = x.event }

  abbrev later : List ℕ
  later = set next k (place + 1)

  -- what the node's record tells from its next place on
  here : (d : Record) → filter_map (planned_by k) (left_at kept next k d) ≡ as_planned ∷ filter_map (planned_by k) (left_at kept later k d)
  here d =
      let number : get_or later k 0 ≡ place + 1 = get_or-set_same next k (place + 1) 0 (omega (arith, inside, long)) in
      let kept_is : get_or kept k d ≡ e = get_or_default kept k d e inside ∙ sym at in
      (λ i. filter_map (planned_by k) (drop (sym starts i) (kept_is i).entries))
      ∙ (next_told k e.entries from place x is
      ∙ (λ i. record { node = k; at = (sym stands i).at; event = (sym stands i).event } ∷ filter_map (planned_by k) (drop (sym number i) (sym kept_is i).entries)))

  there : (j : ℕ) (d : Record) → (k ≡ j → ⊥) → left_at kept next j d ≡ left_at kept later j d
  there j d other =
      let number : get_or later j 0 ≡ get_or next j 0 = get_or-set_other next k j (place + 1) 0 (λ (same_node : j ≡ k). other (sym same_node)) in
      λ i. drop (sym number i) (get_or kept j d).entries

  for_node : (rest : List Planned) → filter_map (planned_for k) (planned ∷ rest) ≡ planned ∷ filter_map (planned_for k) rest
  for_node = first_for kept next planned e from long inside at starts

  for_other : (j : ℕ) (rest : List Planned) → (k ≡ j → ⊥) → filter_map (planned_for j) (planned ∷ rest) ≡ filter_map (planned_for j) rest
  for_other = other_for kept next planned e from long inside at starts

  abbrev Left : List ℕ → List Planned → ℕ → Type 0
  Left places list j = (d : Record) → filter_map (planned_for j) list ≡ filter_map (planned_by j) (left_at kept places j d)

  -- as it tells the next of the plan, the rest is left
  pub tells : (x.at ≡ planned.at) × (x.event ≡ planned.event) → (rest : List Planned) → IsRest kept next (planned ∷ rest) ↔ IsRest kept later rest
  tells one rest = (
    λ h. record { nodes = λ i d below. h.nodes (suc i) d (omega (arith, below)); left = record { each = on h } },
    λ h. record { nodes = nodes h; left = record { each = back h } },
  )
    where
      is_planned : as_planned ≡ planned
      is_planned = λ i. record { node = k; at = one.0 i; event = one.1 i }

      on : IsRest kept next (planned ∷ rest) → (j : ℕ) (d : Record) → j < length kept → filter_map (planned_for j) rest ≡ filter_map (planned_by j) (left_at kept later j d)
      on h j d below = ⊎_elim
          (λ same_node. subst (Left later rest) same_node (λ d2. ap (drop 1) (sym (for_node rest) ∙ (h.left.each k d2 inside ∙ here d2))) d)
          (λ other. sym (for_other j rest other) ∙ (h.left.each j d below ∙ ap (filter_map (planned_by j)) (there j d other)))
          (cases_eq k j)

      back : IsRest kept later rest → (j : ℕ) (d : Record) → j < length kept → filter_map (planned_for j) (planned ∷ rest) ≡ filter_map (planned_by j) (left_at kept next j d)
      back h j d below = ⊎_elim
          (λ same_node. subst (Left next (planned ∷ rest)) same_node (λ d2. for_node rest ∙ ((λ i. sym is_planned i ∷ h.left.each k d2 inside i) ∙ sym (here d2))) d)
          (λ other. for_other j rest other ∙ (h.left.each j d below ∙ ap (filter_map (planned_by j)) (sym (there j d other))))
          (cases_eq k j)

      nodes : IsRest kept later rest → (i : ℕ) (d : Planned) → i < length (planned ∷ rest) → (get_or (planned ∷ rest) i d).node < length kept
      nodes h zero d below = inside
      nodes h (suc i) d below = h.nodes i d (omega (arith, below))

  -- where the rest is told, it tells the next of the plan
  pub is_of : (rest : List Planned) → IsRest kept next (planned ∷ rest) → (x.at ≡ planned.at) × (x.event ≡ planned.event)
  is_of rest h =
      let first : planned ≡ as_planned = ap (λ ps. get_or ps 0 planned) (sym (for_node rest) ∙ (h.left.each k e inside ∙ here e)) in
      (sym (ap (λ (p : Planned). p.at) first), sym (ap (λ (p : Planned). p.event) first))

-- no entry is left for the next of the plan
pub ends : (kept : List Record) (next : List ℕ) (planned : Planned) (e : Record) (from : ℕ) → length next ≡ length kept → planned.node < length kept →
    e ≡ get_or kept planned.node e → from ≡ get_or next planned.node 0 → holds_from 0 e.entries from ≡ [] → (rest : List Planned) → IsRest kept next (planned ∷ rest) → ⊥
ends kept next planned e from long inside at starts none rest h = stops kept next planned e from long inside at starts none rest h.left
