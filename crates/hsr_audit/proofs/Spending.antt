-- What the moments of a run's sends say of its budget.
use Rattle.std.proofs.Common.{◌≡◌, ℕ, ◌+◌, ◌-◌, ◌<◌, ◌≤◌, ◌==◌, ◌&&◌, ◌||◌, cond, List, [], ◌∷◌, length, map, slice_index, refl, sym, ap, ◌∙◌, subst, arith, inl, inr, ⊎_elim, eq-eqb, eqb-true}
use Rattle.std.specs.Prelude.{nat_le, nat_lt}
use Rattle.std.specs.List.{list_any}
use Rattle.std.proofs.lemmas.Bool.{cases_lt}
use Rattle.std.proofs.lemmas.Bool.Decides.{nat_tests}
use Rattle.std.proofs.lemmas.List.{get_or_default, length-map, nil_from_length}
use Rattle.std.proofs.lemmas.List.Elements.{filter_agree}
use Rattle.std.proofs.lemmas.List.Folds.{Any-from_list_any, fold-map, list_any_at}
use Rattle.std.proofs.lemmas.List.Sorted.{length_permutation, list_any-IsPermutation, sum_by-IsPermutation}
use Rattle.std.proofs.lemmas.List.Sums.{length-filter}
use Rattle.hsr_node.specs.Record.{now}
use Rattle.hsr_run_laws.specs.Budget.{BudgetKeeps, BudgetTells, IsBudgetHeld, IsInTime, OnceInBudget, Sent, is_within, sends_of}
use Rattle.hsr_run_laws.specs.Closed.{IsClosed}
use Rattle.hsr_run_laws.specs.Once.{HasNodes, IsCalm, NoStorm}
use Rattle.hsr_run_laws.specs.Premises.{BoxlessNumbersFirst, NothingForgotten}
use Rattle.hsr_run_laws.specs.Run.{Run, record_of}
use Rattle.hsr_audit.specs.Budgeted.{AreInTime, IsEnough, IsFirstBreach, IsFirstCrowded, IsInTimeAt, IsMost, IsOverspent, IsSendMoment, crowd}
use Rattle.hsr_table_flaws.specs.Flaws.{IsFirstNot}
use Rattle.hsr_audit.specs.Timed.{AllInTimeBelow, AreSendMoments, IsFirstLate, moment_sent}
use Rattle.hsr_table_demand.specs.Windows.{IsFirstOver, IsMostBelow, crowd_in, lies_in}
use Rattle.hsr_audit.specs.declared.breach.BudgetFault.{BudgetFault}
use Rattle.hsr_audit.specs.declared.breach.BudgetFault.TheVariants.{Late, Crowded, NoMemory}
use Rattle.hsr_table_demand.proofs.Places.{each_from, from_each}

-- ---- the moments of sends, and the sends

lies_so : (start : ℕ) (s : Sent) → lies_in start s.moment ≡ is_within start 800000 s
lies_so start s = by_number s.moment
  where
    by_number : (m : ℕ) → (nat_le start m && nat_lt (m - start) 800000) ≡ (nat_le start m && nat_lt m (start + 800000))
    by_number m = grind (arith, nat_tests)

any_moment : (m : ℕ) (ss : List Sent) → list_any (λ n. n == m) (map moment_sent ss) ≡ list_any (λ (s : Sent). s.moment == m) ss
any_moment m [] = refl
any_moment m (s ∷ ss) = ap (λ b. s.moment == m || b) (any_moment m ss)

module _ (run : Run) (ms : List ℕ) (sends : AreSendMoments run ms) where
  crowd_is : (m : ℕ) → crowd_in ms m ≡ crowd run m
  crowd_is m =
      sum_by-IsPermutation (λ n. cond (lies_in m n) 1 0) (map moment_sent (sends_of run)) ms sends.same
      ∙ (fold-map (λ (a n : ℕ). a + cond (lies_in m n) 1 0) moment_sent 0 (sends_of run)
      ∙ (sym (length-filter (λ (s : Sent). lies_in m s.moment) (sends_of run))
      ∙ (ap length (filter_agree (λ (s : Sent). lies_in m s.moment) (is_within m 800000) (lies_so m) (sends_of run))
      ∙ length-filter (is_within m 800000) (sends_of run))))

  is_moment : (m : ℕ) → list_any (λ n. n == m) ms ≡ list_any (λ (s : Sent). s.moment == m) (sends_of run)
  is_moment m = sym (list_any-IsPermutation (λ n. n == m) (map moment_sent (sends_of run)) ms sends.same) ∙ any_moment m (sends_of run)

  moment_at_index : (i : ℕ) → i < length ms → IsSendMoment run (slice_index ms i)
  moment_at_index i below = sym (is_moment (slice_index ms i)) ∙ list_any_at (λ n. n == slice_index ms i) ms i 0 below (eq-eqb (slice_index ms i) (slice_index ms i) refl)

  index_of_moment : (m : ℕ) → IsSendMoment run m → (i : ℕ) × (i < length ms) × (slice_index ms i ≡ m)
  index_of_moment m is =
      let at = Any-from_list_any (λ n. n == m) ms (is_moment m ∙ is) in
      (at.0, at.2, get_or_default ms at.0 0 at.1 at.2 ∙ (at.3 ∙ eqb-true at.1 m at.4))

  -- a test of each place tests each moment
  each_moment : (P : ℕ → Type 0) → ((i : ℕ) → i < length ms → P (slice_index ms i)) → (m : ℕ) → IsSendMoment run m → P m
  each_moment P all m is = let at = index_of_moment m is in subst P at.2 (all at.0 at.1)

  at_most : (most : ℕ) → ((i : ℕ) → i < length ms → crowd_in ms (slice_index ms i) ≤ most) → (m : ℕ) → IsSendMoment run m → crowd run m ≤ most
  at_most most all = each_moment (λ m. crowd run m ≤ most) (λ i below. let Q : ℕ → Type 0 = λ n. n ≤ most in subst Q (crowd_is (slice_index ms i)) (all i below))

  no_sends : length ms ≡ 0 → sends_of run ≡ []
  no_sends none =
      let moved = length_permutation (map moment_sent (sends_of run)) ms sends.same in
      let many = length-map (sends_of run) moment_sent in
      nil_from_length (sends_of run) (omega (arith, none, moved, many))

  pub most_is : (most : ℕ) → IsMostBelow ms (length ms) most → IsMost run most
  most_is most h = record {
    no_more = at_most most h.upper;
    as_many = ⊎_elim
        (λ at. inl (slice_index ms at.0, moment_at_index at.0 at.1, sym (crowd_is (slice_index ms at.0)) ∙ at.2))
        (λ none. inr (no_sends none.0, none.1))
        h.reached;
  }

  pub held_is : (most : ℕ) → AreInTime run → IsMostBelow ms (length ms) most → most ≤ run.capacity → IsBudgetHeld run
  held_is most timed h room = record {
    in_time = timed;
    not_crowded = λ m is. let more = at_most most h.upper m is in omega (arith, more, room);
  }

  pub first_crowded : (m : ℕ) → AreInTime run → IsFirstOver run.capacity ms m → IsFirstCrowded run m
  first_crowded m timed first =
      let here = first.is in
      let below = first.below in
      record {
        in_time = timed;
        moment = subst (IsSendMoment run) first.is (moment_at_index first.index first.below);
        crowded = let Q : ℕ → Type 0 = λ n. run.capacity < n in subst Q (crowd_is m) first.crowded;
        before = λ n low is.
            let at = index_of_moment n is in
            let inside = at.1 in
            let there = at.2 in
            ⊎_elim
            (λ earlier.
            let Q : ℕ → Type 0 = λ c. c ≤ run.capacity in
            subst Q (ap (crowd_in ms) at.2 ∙ crowd_is n) (first.before at.0 earlier))
            (λ later. let up = sends.rise first.index at.0 0 later at.1 in absurd (omega (arith, up, here, there, low)))
            (cases_lt at.0 first.index);
      }

-- ---- arrivals

pub all_in_time : (run : Run) → AllInTimeBelow run (length run.places) → AreInTime run
all_in_time run all = λ k below. each_from (λ x past. IsInTime run (now (x ∷ past)) x.event) (record_of run k) (all k below)

pub first_late_is : (run : Run) (k i : ℕ) → k < length run.places → IsFirstLate run k i → AllInTimeBelow run k → IsFirstNot run (IsInTimeAt run) k i
first_late_is run k i below first before = record {
  node = below;
  place = first.below;
  fails = first.late;
  before = first.before;
  nodes = λ l j low inside. before l low j inside;
}

-- ---- answers

pub breach_refuses : (run : Run) (fault : BudgetFault) → IsFirstBreach run fault → IsOverspent run fault
breach_refuses run (Late k i) first = λ held.
    first.fails (from_each (λ x past. IsInTime run (now (x ∷ past)) x.event) (record_of run k) (held.in_time k first.node) i first.place)
breach_refuses run (Crowded m) first = λ held.
    let room = held.not_crowded m first.moment in
    let over = first.crowded in
    omega (arith, room, over)
breach_refuses run NoMemory first = tt

-- no storm, with what it is of
calm_here : (run : Run) → IsCalm run → NothingForgotten run → Rattle.hsr_audit.specs.Budgeted.CarriesOnce run
unfolding IsCalm
calm_here run calm kept = λ l dir send below. calm kept l dir send below

pub enough_is : (run : Run) → HasNodes run → IsClosed run → BudgetKeeps → BudgetTells → OnceInBudget → BoxlessNumbersFirst → NoStorm → IsBudgetHeld run → IsEnough run
enough_is run nodes closed keeps tells once boxless no_storm held = record {
  keeps = λ first. keeps run closed first held;
  boxless = λ none. keeps run closed (boxless run closed none) held;
  calm = λ first. calm_here run (no_storm run nodes closed first) (keeps run closed first held);
  tells = λ macs ring. tells run macs closed ring held;
  once = λ macs ring losses. once run macs closed ring losses held;
}
