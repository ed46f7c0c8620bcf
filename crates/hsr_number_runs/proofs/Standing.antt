-- Numbers that stand between others.
use Rattle.std.proofs.Common.{◌≡◌, ℕ, zero, suc, ◌+◌, ◌-◌, ◌<◌, ◌≤◌, ◌^◌, Bool, true, false, cond, min, List, [], ◌∷◌, ◌++◌, length, drop, get_or, set, map, replicate, ◌⊎◌, inl, inr, refl, sym, ap, subst, ◌∙◌, append_assoc, arith, Option, Some, None}
use Rattle.std.specs.Prelude.{nat_eq, IfSome, option_map, option_to_list, slice_get, unwrap_or}
use Rattle.std.proofs.lemmas.Bool.{eq-eqb, ne_eqb}
use Rattle.std.proofs.lemmas.List.{drop_more}
use Rattle.std.proofs.lemmas.Option.{same_Some, slice_get-get_or, slice_get-map, slice_get_within}
use Rattle.hsr_number_runs.specs.declared.elsewhere.Nearest.{Nearest}
use Rattle.hsr_number_runs.specs.declared.elsewhere.Told.{Told}
use Rattle.hsr_number_runs.specs.declared.gaps.Gap.{Gap}
use Rattle.hsr_number_runs.specs.declared.run.InRun.{InRun}
use Rattle.hsr_number_runs.specs.Elsewhere.{behind_own, elsewhere_in}
use Rattle.hsr_number_runs.specs.Gaps.{gap_in_front, gaps_from}
use Rattle.hsr_number_runs.specs.Nearest.{AreTold, IsTold, told_behind}

-- ---- gaps

pub gaps_more : (done new : List Gap) (last : Option InRun) (xs : List InRun) (i : ℕ) (d : InRun) (gap : Option Gap) → i < length xs → new ≡ done ++ option_to_list gap
    → gap ≡ gap_in_front last (get_or xs i d) → {all : List Gap} → done ++ gaps_from last (drop i xs) ≡ all → new ++ gaps_from (Some (get_or xs i d)) (drop (i + 1) xs) ≡ all
gaps_more done new last xs i d gap below new_is gap_is {all} rest =
    let behind = gaps_from (Some (get_or xs i d)) (drop (i + 1) xs) in
    ap (λ l. l ++ behind) new_is ∙ append_assoc done (option_to_list gap) behind ∙ ap (λ g. done ++ (option_to_list g ++ behind)) gap_is
    ∙ ap (λ l. done ++ gaps_from last l) (sym (drop_more xs i d below)) ∙ rest

-- ---- what is told of a sender

-- how many numbers stand behind the nearest one of a sender
abbrev pub trailing : ℕ → List InRun → ℕ
trailing sender [] = 0
trailing sender (p ∷ before) = cond (nat_eq p.sender sender) 0 (trailing sender before + 1)

behind_few : (sender run : ℕ) (before : List InRun) → unwrap_or (behind_own sender run before) 0 ≤ trailing sender before
behind_few sender run [] = omega arith
behind_few sender run (p ∷ before) = by_case (nat_eq p.sender sender) (nat_eq p.run run) (behind_own sender run before) (behind_few sender run before)
  where
    by_case : (own same : Bool) (rest : Option ℕ) → unwrap_or rest 0 ≤ trailing sender before
        → unwrap_or (cond own (cond same (Some 0) None) (option_map (λ n. n + 1) rest)) 0 ≤ cond own 0 (trailing sender before + 1)
    by_case true true rest h = omega arith
    by_case true false rest h = omega arith
    by_case false same None h = omega arith
    by_case false same (Some n) h = omega (arith, h)

elsewhere_few : (sender : ℕ) (before : List InRun) → elsewhere_in sender before + trailing sender before ≤ length before
elsewhere_few sender [] = omega arith
elsewhere_few sender (p ∷ before) = by_case (elsewhere_few sender before) (behind_few sender p.run before) (nat_eq p.sender sender)
  where
    by_case : elsewhere_in sender before + trailing sender before ≤ length before → unwrap_or (behind_own sender p.run before) 0 ≤ trailing sender before → (is_own : Bool)
        → cond is_own (elsewhere_in sender before + unwrap_or (behind_own sender p.run before) 0) (elsewhere_in sender before) + cond is_own 0 (trailing sender before + 1) ≤ suc (length before)
    by_case rest own true = omega (arith, rest, own)
    by_case rest own false = omega (arith, rest)

-- with a number of its own
pub own_told : (before : List InRun) (place : ℕ) (p : InRun) (told : Told) (count more : ℕ) → place < 2 ^ 64 → count ≡ min (told.count + more) (2 ^ 64 - 1)
    → more ≡ unwrap_or (told_behind place p.run told.nearest) 0 → IsTold before place p.sender told
    → IsTold (p ∷ before) (place + 1) p.sender (record { count = count; nearest = Some (record { run = p.run; place = place }) })
own_told before place p told count more few count_is more_is h =
    let itself : nat_eq p.sender p.sender ≡ true = eq-eqb p.sender p.sender refl in
    let more_here : more ≡ unwrap_or (behind_own p.sender p.run before) 0 = more_is ∙ ap (λ o. unwrap_or o 0) (sym (h.nearest p.run)) in
    let own = behind_few p.sender p.run before in
    let all = elsewhere_few p.sender before in
    record {
      count = rw itself (omega (arith, count_is, more_here, own, all, h.long, h.count, few));
      nearest = λ run. rw itself (by_run (nat_eq p.run run));
      below = omega arith;
      long = omega (arith, h.long);
    }
  where
    by_run : (b : Bool) → cond b (Some 0) None ≡ cond b (Some (place + 1 - place - 1)) None
    by_run true = ap Some (omega arith)
    by_run false = refl

-- with a number of another one
pub other_told : (before : List InRun) (place sender : ℕ) (p : InRun) (told : Told) → (p.sender ≡ sender → ⊥) → IsTold before place sender told → IsTold (p ∷ before) (place + 1) sender told
other_told before place sender p told other h = let is : nat_eq p.sender sender ≡ false = ne_eqb p.sender sender other in record {
  count = rw is h.count;
  nearest = λ run. rw is (ap (option_map (λ n. n + 1)) (h.nearest run) ∙ later run told.nearest h.below);
  below = still told.nearest h.below;
  long = omega (arith, h.long);
}
  where
    by_run : (b : Bool) (own : Nearest) → own.place < place → option_map (λ n. n + 1) (cond b (Some (place - own.place - 1)) None) ≡ cond b (Some (place + 1 - own.place - 1)) None
    by_run true own below = ap Some (omega (arith, below))
    by_run false own below = refl

    later : (run : ℕ) (nearest : Option Nearest) → IfSome nearest (λ own. own.place < place) → option_map (λ n. n + 1) (told_behind place run nearest) ≡ told_behind (place + 1) run nearest
    later run None below = refl
    later run (Some own) below = by_run (nat_eq own.run run) own below

    still : (nearest : Option Nearest) → IfSome nearest (λ own. own.place < place) → IfSome nearest (λ own. own.place < place + 1)
    still None below = tt
    still (Some own) below = omega (arith, below)

-- ---- what is told of all

slice_get_set : {X : Type 0} (xs : List X) (i j : ℕ) (y own : X) → slice_get (set xs i y) j ≡ Some own → ((j ≡ i) × (own ≡ y)) ⊎ ((i ≡ j → ⊥) × (slice_get xs j ≡ Some own))
slice_get_set [] i j y own h = absurd cc
slice_get_set (x ∷ xs) zero zero y own h = inl (refl, sym (same_Some y own h))
slice_get_set (x ∷ xs) zero (suc j) y own h = inr ((λ e. omega (arith, e)), h)
slice_get_set (x ∷ xs) (suc i) zero y own h = inr ((λ e. omega (arith, e)), h)
slice_get_set (x ∷ xs) (suc i) (suc j) y own h = by_case (slice_get_set xs i j y own h)
  where
    by_case : ((j ≡ i) × (own ≡ y)) ⊎ ((i ≡ j → ⊥) × (slice_get xs j ≡ Some own)) → ((suc j ≡ suc i) × (own ≡ y)) ⊎ ((suc i ≡ suc j → ⊥) × (slice_get xs j ≡ Some own))
    by_case (inl same) = inl (ap suc same.0, same.1)
    by_case (inr other) = inr ((λ e. other.0 (omega (arith, e))), other.1)

pub put_told : (before : List InRun) (place : ℕ) (p : InRun) (old : List Told) (d new : Told) → p.sender < length old
    → (IsTold before place p.sender (get_or old p.sender d) → IsTold (p ∷ before) (place + 1) p.sender new) → AreTold before place old → AreTold (p ∷ before) (place + 1) (set old p.sender new)
put_told before place p old d new below step all sender own h = by_case (slice_get_set old p.sender sender new own h)
  where
    itself : IsTold (p ∷ before) (place + 1) p.sender new
    itself = step (all p.sender (get_or old p.sender d) (slice_get-get_or old p.sender d below))

    by_case : ((sender ≡ p.sender) × (own ≡ new)) ⊎ ((p.sender ≡ sender → ⊥) × (slice_get old sender ≡ Some own)) → IsTold (p ∷ before) (place + 1) sender own
    by_case (inl same) = subst (λ s. IsTold (p ∷ before) (place + 1) s own) (sym same.0) (subst (λ t. IsTold (p ∷ before) (place + 1) p.sender t) (sym same.1) itself)
    by_case (inr other) = other_told before place sender p own other.0 (all sender own other.1)

pub still_told : (before : List InRun) (place : ℕ) (p : InRun) (told : List Told) → length told ≤ p.sender → AreTold before place told → AreTold (p ∷ before) (place + 1) told
still_told before place p told past all sender own h =
    let below : sender < length told = slice_get_within told sender own h in
    other_told before place sender p own (λ e. omega (arith, e, below, past)) (all sender own h)

abbrev pub nothing : Told
nothing = record { count = 0; nearest = None }

same_nothing : (n sender : ℕ) (own : Told) → slice_get (replicate n nothing) sender ≡ Some own → nothing ≡ own
same_nothing zero sender own h = absurd cc
same_nothing (suc n) zero own h = same_Some nothing own h
same_nothing (suc n) (suc sender) own h = same_nothing n sender own h

pub nothing_told : (n : ℕ) → AreTold [] 0 (replicate n nothing)
nothing_told n sender own h = subst (IsTold [] 0 sender) (same_nothing n sender own h) (record { count = refl; nearest = λ run. refl; below = tt; long = refl })

pub counts_told : (told : List Told) (before : List InRun) (place : ℕ) (counts : List ℕ) → counts ≡ map (λ t. t.count) told → AreTold before place told
    → (sender : ℕ) → sender < length told → slice_get counts sender ≡ Some (elsewhere_in sender before)
counts_told told before place counts is all sender below =
    let own = get_or told sender nothing in
    let here : slice_get told sender ≡ Some own = slice_get-get_or told sender nothing below in
    ap (λ l. slice_get l sender) is ∙ slice_get-map (λ t. t.count) told sender ∙ ap (option_map (λ t. t.count)) here ∙ ap Some (all sender own here).count
