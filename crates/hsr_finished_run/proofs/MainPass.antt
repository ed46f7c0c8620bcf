-- The main worker's receipts, of one planned thing after another.
use Rattle.std.proofs.Common.{◌≡◌, ℕ, ◌+◌, ◌<◌, ◌≤◌, ◌==◌, zero, suc, cond, Bool, true, false, List, [], ◌∷◌, ◌++◌, length, map, drop, take, get_or, filter_map, Some, None, refl, sym, ap, ◌∙◌, subst, arith, append_assoc, append-nil}
use Rattle.std.specs.List.{cons_option}
use Rattle.std.proofs.lemmas.List.{get_or_default, map_more}
use Rattle.hsr_node.specs.Kept.{Record}
use Rattle.hsr_node.specs.declared.entry.Entry.{Entry}
use Rattle.hsr_node.specs.declared.entry.Receipt.{Receipt}
use Rattle.hsr_finished_run.specs.Finished.{planned_by}
use Rattle.hsr_finished_run.specs.Next.{AreFirst}
use Rattle.hsr_finished_run.specs.Passes.{AreByPlan, AreMain, IsAhead, IsKeptNext, IsLeft, IsOver, IsToldBy, left_at, nodes_of}
use Rattle.hsr_finished_run.specs.Receipts.{holds_of, named, planned_of}
use Rattle.hsr_finished_run.specs.declared.planned.Planned.{Planned}
use Rattle.hsr_finished_run.proofs.Coming.{zero_at}

-- ---- lists

pub drop_at : {X : Type 0} (xs : List X) (i : ℕ) (x : X) → i < length xs → x ≡ get_or xs i x → drop i xs ≡ x ∷ drop (i + 1) xs
drop_at [] i x below is = absurd (omega arith)
drop_at (y ∷ ys) zero x below is = ap (λ z. z ∷ ys) (sym is)
drop_at (y ∷ ys) (suc i) x below is =
    let e : suc i + 1 ≡ suc (i + 1) = omega arith in
    drop_at ys i x (omega (arith, below)) is ∙ ap (λ n. x ∷ drop n (y ∷ ys)) (sym e)

pub drop_all : {X : Type 0} (xs : List X) (n : ℕ) → length xs ≤ n → drop n xs ≡ []
drop_all [] zero h = refl
drop_all [] (suc n) h = refl
drop_all (x ∷ xs) zero h = absurd (omega (arith, h))
drop_all (x ∷ xs) (suc n) h = drop_all xs n (omega (arith, h))

-- nothing of the main worker is left where nothing is told
pub none_held : (k n : ℕ) (xs : List Entry) → filter_map (planned_by k) xs ≡ [] → holds_of 0 n xs ≡ []
none_held k n [] h = refl
none_held k n (x ∷ xs) h = by_worker (x.worker == 0) h (none_held k (n + 1) xs)
  where
    by_worker : (b : Bool) → cons_option (cond b (Some (record { node = k; at = x.at; event = x.event })) None) (filter_map (planned_by k) xs) ≡ [] →
        (filter_map (planned_by k) xs ≡ [] → holds_of 0 (n + 1) xs ≡ []) → cond b (n ∷ []) [] ++ holds_of 0 (n + 1) xs ≡ []
    by_worker true h rest = let long = ap length h in absurd (omega (arith, long))
    by_worker false h rest = rest h

-- ---- steps

-- the first n of a plan have receipts
pub record IsUpTo (kept : List Record) (plan : List Planned) (n : ℕ) (next : List ℕ) (receipts : List Receipt) : Type 0 where
  pub ahead : IsAhead kept next receipts
  pub nodes : nodes_of receipts ≡ map (λ p. p.node) (take n plan)
  pub left : IsToldBy kept plan → IsLeft kept next (drop n plan)
  pub told : IsToldBy kept plan → map planned_of receipts ++ drop n plan ≡ plan

module _ (kept : List Record) (plan : List Planned) where
  pub up_to_none : (next : List ℕ) → AreFirst (length kept) next → IsUpTo kept plan 0 next []
  up_to_none next h = record {
    ahead = record { long = h.long; shown = tt; names = λ k d below i. holds_of 0 (zero_at next h.first k i) (drop (zero_at next h.first k i) (get_or kept k d).entries) };
    nodes = refl;
    left = λ told. record { each = λ k d below. told.each k d below ∙ (λ i. filter_map (planned_by k) (drop (sym (zero_at next h.first k) i) (get_or kept k d).entries)) };
    told = λ told. refl;
  }

  pub up_to_more : (n : ℕ) (planned : Planned) (next later : List ℕ) (before after : List Receipt) → n < length plan → planned ≡ get_or plan n planned →
      IsKeptNext kept planned next later before after → IsUpTo kept plan n next before → IsUpTo kept plan (n + 1) later after
  up_to_more n planned next later before after below is one h =
      let rest : List Planned = drop (n + 1) plan in
      let next_is : drop n plan ≡ planned ∷ rest = drop_at plan n planned below is in
      record {
        ahead = one.ahead h.ahead;
        nodes = one.node ∙ (ap (λ ks. ks ++ planned.node ∷ []) h.nodes
            ∙ ((λ i. map (λ (p : Planned). p.node) (take n plan) ++ (is i).node ∷ []) ∙ sym (map_more (λ (p : Planned). p.node) plan n planned below)));
        left = λ told. one.left rest (subst (IsLeft kept next) next_is (h.left told));
        told = λ told.
            ap (λ xs. xs ++ rest) (one.told rest (subst (IsLeft kept next) next_is (h.left told)))
            ∙ (append_assoc (map planned_of before) (planned ∷ []) rest ∙ (ap (λ xs. map planned_of before ++ xs) (sym next_is) ∙ h.told told));
      }

  pub up_to_over : (n : ℕ) (planned : Planned) (next : List ℕ) (receipts : List Receipt) → n < length plan → planned ≡ get_or plan n planned →
      IsOver kept next planned.node → IsUpTo kept plan n next receipts → AreByPlan kept plan receipts
  up_to_over n planned next receipts below is over h = record {
    count = n;
    next = next;
    ahead = h.ahead;
    nodes = h.nodes;
    below = omega (arith, below);
    over = λ d inside. subst (λ (p : Planned). IsOver kept next p.node) (is ∙ get_or_default plan n planned d below) over;
  }

  pub up_to_end : (n : ℕ) (next : List ℕ) (receipts : List Receipt) → n ≡ length plan → IsUpTo kept plan n next receipts → AreByPlan kept plan receipts
  up_to_end n next receipts all h = record {
    count = n;
    next = next;
    ahead = h.ahead;
    nodes = h.nodes;
    below = omega (arith, all);
    over = λ d inside. absurd (omega (arith, all, inside));
  }

  pub never_stops : (n : ℕ) (planned : Planned) (next : List ℕ) (before : List Receipt) → n < length plan → planned ≡ get_or plan n planned →
      (planned.node < length kept → (rest : List Planned) → IsLeft kept next (planned ∷ rest) → ⊥) → IsUpTo kept plan n next before → IsToldBy kept plan → ⊥
  never_stops n planned next before below is stops h told =
      let next_is : drop n plan ≡ planned ∷ drop (n + 1) plan = drop_at plan n planned below is in
      let N : Planned → Type 0 = λ p. p.node < length kept in
      stops (subst N (sym is) (told.nodes n planned below)) (drop (n + 1) plan) (subst (IsLeft kept next) next_is (h.left told))

  pub up_to_all : (n : ℕ) (next : List ℕ) (receipts : List Receipt) → length plan ≤ n → IsUpTo kept plan n next receipts → IsToldBy kept plan → AreMain kept plan receipts
  up_to_all n next receipts all h told =
      let none : drop n plan ≡ [] = drop_all plan n all in
      let left : IsLeft kept next [] = subst (IsLeft kept next) none (h.left told) in
      record {
        shown = h.ahead.shown;
        names = λ k d below.
            sym (append-nil (filter_map (named k) receipts))
            ∙ (ap (λ xs. filter_map (named k) receipts ++ xs) (sym (none_held k (get_or next k 0) (left_at kept next k d) (sym (left.each k d below)))) ∙ h.ahead.names k d below);
        told = sym (append-nil (map planned_of receipts)) ∙ (ap (λ xs. map planned_of receipts ++ xs) (sym none) ∙ h.told told);
      }
