-- One more receipt of the main worker, for what is planned next.
use Rattle.std.proofs.Common.{◌≡◌, ℕ, ◌+◌, ◌<◌, ◌==◌, zero, suc, cond, List, [], ◌∷◌, ◌++◌, length, map, drop, get_or, set, filter_map, Option, Some, None, refl, sym, ap, ◌∙◌, subst, arith, ⊎_elim, eqb-true, append_assoc}
use Rattle.std.specs.List.{cons_option}
use Rattle.std.specs.Prelude.{slice_get}
use Rattle.std.proofs.lemmas.Bool.{cases_Bool, false≢true}
use Rattle.std.proofs.lemmas.List.{get_or_default, get_or-set_same, get_or-set_other, length-set, map-append}
use Rattle.std.proofs.lemmas.List.Elements.{filter_map-append}
use Rattle.std.proofs.lemmas.Option.{slice_get-get_or}
use Rattle.hsr_node.specs.Kept.{Record}
use Rattle.hsr_node.specs.declared.entry.Entry.{Entry}
use Rattle.hsr_node.specs.declared.entry.Receipt.{Receipt}
use Rattle.hsr_finished_run.specs.Finished.{planned_by, planned_for}
use Rattle.hsr_finished_run.specs.Next.{IsNext, holds_from}
use Rattle.hsr_finished_run.specs.Passes.{IsAhead, IsKeptNext, IsLeft, IsOver, left_at}
use Rattle.hsr_finished_run.specs.Receipts.{Shows, holds_of, named, planned_of}
use Rattle.hsr_finished_run.specs.declared.planned.Planned.{Planned}
use Rattle.hsr_run_index.proofs.Decided.{not_same, same}
use Rattle.hsr_finished_run.proofs.Plan.{all_append, found_at, record_told, told_of}

-- ---- what the rest of a record tells

get-drop : {X : Type 0} (xs : List X) (n i : ℕ) → slice_get xs (n + i) ≡ slice_get (drop n xs) i
get-drop xs zero i = let e : 0 + i ≡ i = omega arith in ap (slice_get xs) e
get-drop [] (suc n) i = refl
get-drop (x ∷ xs) (suc n) i = let e : suc n + i ≡ suc (n + i) = omega arith in ap (slice_get (x ∷ xs)) e ∙ get-drop xs n i

record_from : (k n : ℕ) (xs : List Entry) → filter_map (planned_by k) (drop n xs) ≡ filter_map (λ m. told_of k (slice_get xs m)) (holds_from 0 xs n)
record_from k n xs = record_told k n xs (drop n xs) (get-drop xs n)

pub none_told : (k : ℕ) (xs : List Entry) (from : ℕ) → holds_from 0 xs from ≡ [] → filter_map (planned_by k) (drop from xs) ≡ []
none_told k xs from none = record_from k from xs ∙ ap (filter_map (λ m. told_of k (slice_get xs m))) none

pub next_told : (k : ℕ) (xs : List Entry) (from place : ℕ) (d : Entry) → IsNext 0 xs from place → filter_map (planned_by k) (drop from xs)
    ≡ record { node = k; at = (get_or xs place d).at; event = (get_or xs place d).event } ∷ filter_map (planned_by k) (drop (place + 1) xs)
next_told k xs from place d is =
    let told : ℕ → Option Planned = λ m. told_of k (slice_get xs m) in
    record_from k from xs
    ∙ (ap (filter_map told) is.holds
    ∙ (ap (λ o. cons_option (told_of k o) (filter_map told (holds_from 0 xs (place + 1)))) (slice_get-get_or xs place d is.below)
    ∙ ap (λ ys. record { node = k; at = (get_or xs place d).at; event = (get_or xs place d).event } ∷ ys) (sym (record_from k (place + 1) xs))))

-- ---- the step

module _ (kept : List Record) (next : List ℕ) (planned : Planned) (e : Record) (from : ℕ) (long : length next ≡ length kept) (inside : planned.node < length kept)
    (at : e ≡ get_or kept planned.node e) (starts : from ≡ get_or next planned.node 0) where
  abbrev k : ℕ
  k = planned.node

  -- what is planned for the node comes first
  pub first_for : (rest : List Planned) → filter_map (planned_for k) (planned ∷ rest) ≡ planned ∷ filter_map (planned_for k) rest
  first_for rest = ap (λ b. cons_option (cond b (Some planned) None) (filter_map (planned_for k) rest)) (same k k refl)

  pub other_for : (j : ℕ) (rest : List Planned) → (k ≡ j → ⊥) → filter_map (planned_for j) (planned ∷ rest) ≡ filter_map (planned_for j) rest
  other_for j rest other = ap (λ b. cons_option (cond b (Some planned) None) (filter_map (planned_for j) rest)) (not_same k j other)

  left_here : (d : Record) → left_at kept next k d ≡ drop from e.entries
  left_here d =
      let is : get_or kept k d ≡ e = get_or_default kept k d e inside ∙ sym at in
      λ i. drop (sym starts i) (is i).entries

  pub over : holds_from 0 e.entries from ≡ [] → IsOver kept next k
  over none d below = (λ i. holds_of 0 (sym starts i) (left_here d i)) ∙ none

  pub stops : holds_from 0 e.entries from ≡ [] → (rest : List Planned) → IsLeft kept next (planned ∷ rest) → ⊥
  stops over rest l =
      let nothing = sym (first_for rest) ∙ (l.each k e inside ∙ (ap (filter_map (planned_by k)) (left_here e) ∙ none_told k e.entries from over)) in
      let n : length (planned ∷ filter_map (planned_for k) rest) ≡ 0 = ap length nothing in
      omega (arith, n)

  module _ (place : ℕ) (x : Entry) (before : List Receipt) (is : IsNext 0 e.entries from place) (stands : x ≡ get_or e.entries place x) where
    abbrev receipt : Receipt
    receipt = record { node = k; place = place; entry = x }

    abbrev after : List Receipt
    after = before ++ receipt ∷ []

    abbrev later : List ℕ
    later = set next k (place + 1)

    shows : Shows kept receipt
    shows = found_at kept k place e inside
        ∙ (ap (λ (r : Record). slice_get r.entries place) (sym at)
        ∙ (slice_get-get_or e.entries place x is.below ∙ ap Some (sym stands)))

    later_here : (d : Record) → left_at kept later k d ≡ drop (place + 1) e.entries
    later_here d =
        let number : get_or later k 0 ≡ place + 1 = get_or-set_same next k (place + 1) 0 (omega (arith, inside, long)) in
        let kept_is : get_or kept k d ≡ e = get_or_default kept k d e inside ∙ sym at in
        λ i. drop (number i) (kept_is i).entries

    Named : Record → ℕ → Type 0
    Named d j = filter_map (named j) after ++ holds_of 0 (get_or later j 0) (left_at kept later j d) ≡ holds_of 0 0 (get_or kept j d).entries

    names_here : (d : Record) → IsAhead kept next before → Named d k
    unfolding Named
    names_here d a =
        let F : List ℕ = filter_map (named k) before in
        let H : List ℕ = holds_of 0 (place + 1) (drop (place + 1) e.entries) in
        let number : get_or later k 0 ≡ place + 1 = get_or-set_same next k (place + 1) 0 (omega (arith, inside, long)) in
        let tail : holds_of 0 (get_or later k 0) (left_at kept later k d) ≡ H = λ i. holds_of 0 (number i) (later_here d i) in
        let one : filter_map (named k) (receipt ∷ []) ≡ place ∷ [] = ap (λ b. cons_option (cond b (Some place) None) []) (same k k refl) in
        let start : holds_of 0 from (drop from e.entries) ≡ holds_of 0 (get_or next k 0) (left_at kept next k d) = λ i. holds_of 0 (starts i) (sym (left_here d) i) in
        ap (λ xs. xs ++ holds_of 0 (get_or later k 0) (left_at kept later k d)) (filter_map-append (named k) before (receipt ∷ []))
        ∙ ((λ i. (F ++ one i) ++ tail i)
        ∙ (append_assoc F (place ∷ []) H
        ∙ (ap (λ xs. F ++ xs) (sym is.holds ∙ start) ∙ a.names k d inside)))

    names_there : (d : Record) (j : ℕ) → (k ≡ j → ⊥) → j < length kept → IsAhead kept next before → Named d j
    unfolding Named
    names_there d j other below a =
        let number : get_or later j 0 ≡ get_or next j 0 = get_or-set_other next k j (place + 1) 0 (λ (same_node : j ≡ k). other (sym same_node)) in
        let none : filter_map (named j) (receipt ∷ []) ≡ [] = ap (λ b. cons_option (cond b (Some place) None) []) (not_same k j other) in
        (λ i. (filter_map-append (named j) before (receipt ∷ []) i) ++ holds_of 0 (number i) (drop (number i) (get_or kept j d).entries))
        ∙ ((λ i. (filter_map (named j) before ++ none i) ++ holds_of 0 (get_or next j 0) (left_at kept next j d))
        ∙ (append_assoc (filter_map (named j) before) [] (holds_of 0 (get_or next j 0) (left_at kept next j d)) ∙ a.names j d below))

    ahead_more : IsAhead kept next before → IsAhead kept later after
    unfolding Named
    ahead_more a = record {
      long = length-set next k (place + 1) ∙ long;
      shown = all_append (Shows kept) before (receipt ∷ []) a.shown (shows, tt);
      names = λ j d below. ⊎_elim (λ yes_same. subst (Named d) (eqb-true k j yes_same) (names_here d a))
          (λ not_this. names_there d j (λ e2. absurd (false≢true (sym not_this ∙ same k j e2))) below a)
          (cases_Bool (k == j));
    }

    here : (rest : List Planned) → IsLeft kept next (planned ∷ rest) →
        planned ∷ filter_map (planned_for k) rest ≡ planned_of receipt ∷ filter_map (planned_by k) (drop (place + 1) e.entries)
    here rest l =
        sym (first_for rest) ∙ (l.each k e inside ∙ (ap (filter_map (planned_by k)) (left_here e) ∙ (next_told k e.entries from place x is
        ∙ ap (λ (z : Entry). record { node = k; at = z.at; event = z.event } ∷ filter_map (planned_by k) (drop (place + 1) e.entries)) (sym stands))))

    Left : List Planned → ℕ → Type 0
    Left rest j = (d : Record) → filter_map (planned_for j) rest ≡ filter_map (planned_by j) (left_at kept later j d)

    left_more : (rest : List Planned) → IsLeft kept next (planned ∷ rest) → IsLeft kept later rest
    unfolding Left
    left_more rest l = record {
      each = λ j d below.
          ⊎_elim (λ yes_same. subst (Left rest) (eqb-true k j yes_same) (λ d2. ap (drop 1) (here rest l) ∙ ap (filter_map (planned_by k)) (sym (later_here d2))) d)
          (λ not_this.
          let other : k ≡ j → ⊥ = λ e2. absurd (false≢true (sym not_this ∙ same k j e2)) in
          let number : get_or later j 0 ≡ get_or next j 0 = get_or-set_other next k j (place + 1) 0 (λ (same_node : j ≡ k). other (sym same_node)) in
          sym (other_for j rest other) ∙ (l.each j d below ∙ (λ i. filter_map (planned_by j) (drop (sym number i) (get_or kept j d).entries))))
          (cases_Bool (k == j));
    }

    pub keeps : IsKeptNext kept planned next later before after
    keeps = record {
      node = map-append (λ (r : Receipt). r.node) before (receipt ∷ []);
      ahead = ahead_more;
      left = left_more;
      told = λ rest l.
          let is_planned : planned_of receipt ≡ planned = ap (λ xs. get_or xs 0 planned) (sym (here rest l)) in
          map-append planned_of before (receipt ∷ []) ∙ ap (λ p. map planned_of before ++ p ∷ []) is_planned;
    }
