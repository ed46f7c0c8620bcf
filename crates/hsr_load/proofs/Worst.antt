-- The worst millisecond of copies, from the first ones to all, and in whatever order they stand.
use Rattle.std.proofs.Common.{◌≡◌, ℕ, ◌+◌, ◌<◌, ◌≤◌, ◌==◌, ⊎_elim, Bool, true, false, cond, List, length, slice_index_or, Option, Some, None, Result, Ok, Err, IfOk, refl, sym, ap, ◌∙◌, subst, arith, eq-eqb, eqb-true, leb-false, leb-true}
use Rattle.std.specs.Prelude.{nat_le, IsPermutation}
use Rattle.std.specs.List.Sorted.{IsNonDecreasingBy}
use Rattle.std.proofs.lemmas.Bool.{cases_lt}
use Rattle.std.proofs.lemmas.List.{get_or_default, nil_from_length}
use Rattle.std.proofs.lemmas.List.Folds.{Any-from_list_any, list_any_at}
use Rattle.std.proofs.lemmas.List.Sorted.{length_permutation, list_any-IsPermutation, sum_by-IsPermutation}
use Rattle.hsr_load.specs.Sums.{IsWorstAmong, IsWorstBelow, worse}
use Rattle.hsr_load.specs.Windows.{IsMoment, IsWorst, IsWorstIf, moment_in, octets_from, octets_in}
use Rattle.hsr_load.specs.declared.transit.Transit.{Transit}
use Rattle.hsr_load.specs.declared.window.Window.{Window}

-- ---- one more copy

module _ (ts : List Transit) (rise : IsNonDecreasingBy moment_in ts) (i : ℕ) (d : Transit) (below : i < length ts) (octets : ℕ)
    (is : octets ≡ octets_from ts (slice_index_or ts i d).moment) where
  abbrev here : Window
  here = record { octets = octets; at = (slice_index_or ts i d).moment }

  -- its moment, whatever stands for a copy that isn't there
  same : (e : Transit) → (slice_index_or ts i e).moment ≡ (slice_index_or ts i d).moment
  same e = ap moment_in (get_or_default ts i e d below)

  same_octets : (e : Transit) → octets_from ts (slice_index_or ts i e).moment ≡ octets
  same_octets e = ap (octets_from ts) (same e) ∙ sym is

  -- what holds of the copies before and of this one holds of one more
  with_last : (P : ℕ → Type 0) → ((j : ℕ) → j < i → P j) → P i → (j : ℕ) → j < i + 1 → P j
  with_last P before last j low =
      ⊎_elim (λ lower. before j lower) (λ here_it. let e : i ≡ j = omega (arith, low, here_it) in subst P e last) (cases_lt j i)

  first_worst : i ≡ 0 → IsWorstAmong ts (i + 1) here
  first_worst none = record {
    index = i;
    below = omega arith;
    short = omega (arith, below);
    at = same;
    octets = is;
    no_more = λ j e. with_last (λ (k : ℕ). octets_from ts (slice_index_or ts k e).moment ≤ octets) (λ k low. absurd (omega (arith, low, none))) (let s = same_octets e in omega (arith, s)) j;
    first = λ j e. with_last (λ (k : ℕ). (slice_index_or ts k e).moment < (slice_index_or ts i d).moment → octets_from ts (slice_index_or ts k e).moment < octets)
        (λ k low. absurd (omega (arith, low, none))) (λ less. let s = same e in absurd (omega (arith, s, less))) j;
  }

  new_worst : (old : Window) → IsWorstAmong ts i old → old.octets < octets → IsWorstAmong ts (i + 1) here
  new_worst old was more = record {
    index = i;
    below = omega arith;
    short = omega (arith, below);
    at = same;
    octets = is;
    no_more = λ j e. with_last (λ (k : ℕ). octets_from ts (slice_index_or ts k e).moment ≤ octets) (λ k low. let n = was.no_more k e low in omega (arith, n, more)) (let s = same_octets e in omega (arith, s)) j;
    first = λ j e. with_last (λ (k : ℕ). (slice_index_or ts k e).moment < (slice_index_or ts i d).moment → octets_from ts (slice_index_or ts k e).moment < octets)
        (λ k low less. let n = was.no_more k e low in omega (arith, n, more)) (λ less. let s = same e in absurd (omega (arith, s, less))) j;
  }

  -- moments rise, so this one isn't before that of the worst
  old_worst : (old : Window) → IsWorstAmong ts i old → octets ≤ old.octets → IsWorstAmong ts (i + 1) old
  old_worst old was less = record {
    index = was.index;
    below = let b = was.below in omega (arith, b);
    short = omega (arith, below);
    at = was.at;
    octets = was.octets;
    no_more = λ j e. with_last (λ (k : ℕ). octets_from ts (slice_index_or ts k e).moment ≤ old.octets) (λ k low. was.no_more k e low) (let s = same_octets e in omega (arith, s, less)) j;
    first = λ j e. with_last (λ (k : ℕ). (slice_index_or ts k e).moment < old.at → octets_from ts (slice_index_or ts k e).moment < old.octets)
        (λ k low. was.first k e low)
        (λ earlier. let b = was.below in let a = was.at e in let up = rise was.index i e (omega (arith, b)) below in absurd (omega (arith, a, up, earlier))) j;
  }

  by_more : (old : Window) (b : Bool) → nat_le octets old.octets ≡ b → IsWorstAmong ts i old → IsWorstAmong ts (i + 1) (cond b old here)
  by_more old true e was = old_worst old was (leb-true octets old.octets e)
  by_more old false e was = new_worst old was (leb-false octets old.octets e)

  pub worst_more : (old : Option Window) → IsWorstBelow ts i old → IsWorstBelow ts (i + 1) (Some (worse old here))
  worst_more None none = first_worst none
  worst_more (Some old) was = by_more old (nat_le octets old.octets) refl was

-- ---- all copies

index_of : (ts : List Transit) (m : ℕ) → IsMoment ts m → (i : ℕ) × (i < length ts) × ((d : Transit) → (slice_index_or ts i d).moment ≡ m)
index_of ts m is =
    let at = Any-from_list_any (λ (t : Transit). t.moment == m) ts is in
    (at.0, at.2, λ d. ap moment_in (get_or_default ts at.0 d at.1 at.2) ∙ (ap moment_in at.3 ∙ eqb-true at.1.moment m at.4))

all_worst : (ts : List Transit) (w : Window) → IsWorstAmong ts (length ts) w → IsWorst ts w
all_worst ts w is =
    let none : Transit = record { moment = 0; octets = 0 } in
    record {
      moment = list_any_at (λ (t : Transit). t.moment == w.at) ts is.index none is.below (eq-eqb (slice_index_or ts is.index none).moment w.at (is.at none));
      octets = is.octets;
      no_more = λ m at. let i = index_of ts m at in subst (λ (n : ℕ). octets_from ts n ≤ w.octets) (i.2 none) (is.no_more i.0 none i.1);
      first = λ m at low.
          let i = index_of ts m at in
          let e = i.2 none in
          subst (λ (n : ℕ). octets_from ts n < w.octets) e (is.first i.0 none i.1 (omega (arith, e, low)));
    }

pub worst_is : (ts : List Transit) (o : Option Window) → IsWorstBelow ts (length ts) o → IsWorstIf ts o
worst_is ts None none = nil_from_length ts none
worst_is ts (Some w) is = all_worst ts w is

-- ---- any order

module _ (ts ss : List Transit) (moved : IsPermutation ts ss) where
  octets_same : (m : ℕ) → octets_from ss m ≡ octets_from ts m
  octets_same m = sum_by-IsPermutation (octets_in m) ts ss moved

  moment_there : (m : ℕ) → IsMoment ts m → IsMoment ss m
  moment_there m at = sym (list_any-IsPermutation (λ (t : Transit). t.moment == m) ts ss moved) ∙ at

  moment_back : (m : ℕ) → IsMoment ss m → IsMoment ts m
  moment_back m at = list_any-IsPermutation (λ (t : Transit). t.moment == m) ts ss moved ∙ at

  moved_worst : (w : Window) → IsWorst ss w → IsWorst ts w
  moved_worst w is = record {
    moment = moment_back w.at is.moment;
    octets = is.octets ∙ octets_same w.at;
    no_more = λ m at. subst (λ (n : ℕ). n ≤ w.octets) (octets_same m) (is.no_more m (moment_there m at));
    first = λ m at low. subst (λ (n : ℕ). n < w.octets) (octets_same m) (is.first m (moment_there m at) low);
  }

  pub worst_moved : (o : Option Window) → IsWorstIf ss o → IsWorstIf ts o
  worst_moved None none =
      let many = length_permutation ts ss moved in
      let empty = ap (λ (xs : List Transit). length xs) none in
      nil_from_length ts (omega (arith, many, empty))
  worst_moved (Some w) is = moved_worst w is

pub result_moved : {E : Type 0} (r : Result (Option Window) E) (ts ss : List Transit) → IsPermutation ts ss → IfOk r (IsWorstIf ss) → IfOk r (IsWorstIf ts)
result_moved (Ok o) ts ss moved is = worst_moved ts ss moved o is
result_moved (Err e) ts ss moved is = tt
