-- Sends, counted one after another.
use Rattle.std.proofs.Common.{◌≡◌, ℕ, zero, suc, ◌+◌, ◌-◌, ◌<◌, ◌≤◌, ◌^◌, ◌&&◌, Bool, true, false, List, [], ◌∷◌, ◌++◌, length, take, get_or, refl, sym, ap, ◌∙◌, arith, Option, Some}
use Rattle.std.specs.Prelude.{nat_eq, slice_get}
use Rattle.std.proofs.lemmas.List.{take_more}
use Rattle.std.proofs.lemmas.Option.{get_or_from_slice_get, same_Some, slice_get-get_or, slice_get_within}
use Rattle.hsr_plan_sweep.specs.Counting.{is_complete, stream_if}
use Rattle.hsr_plan_report.specs.Streams.{AreSent, Counts, complete_at, counts_at, one_if, row_of, sends_at, sent_if, tallied}
use Rattle.hsr_plan_sweep.specs.declared.counting.Outcome.{Outcome}
use Rattle.hsr_plan_report.specs.declared.sent.Sent.{Sent}

one_at_most : (b : Bool) → one_if b ≤ 1
one_at_most true = omega arith
one_at_most false = omega arith

tallied_most : (test : Outcome → Bool) (streams : List (Option ℕ)) (last k i : ℕ) (os : List Outcome) → tallied test streams last k i os ≤ length os
tallied_most test streams last k i [] = omega arith
tallied_most test streams last k i (o ∷ os) =
    let rest = tallied_most test streams last k (i + 1) os in
    let one = one_at_most (counts_at streams last k i && test o) in
    omega (arith, rest, one)

tallied_push : (test : Outcome → Bool) (streams : List (Option ℕ)) (last k i : ℕ) (os : List Outcome) (o : Outcome)
    → tallied test streams last k i (os ++ o ∷ []) ≡ tallied test streams last k i os + one_if (counts_at streams last k (i + length os) && test o)
tallied_push test streams last k i [] o =
    let place : i + 0 ≡ i = omega arith in
    let same = ap (λ n. one_if (counts_at streams last k n && test o)) place in
    omega (arith, same)
tallied_push test streams last k i (p ∷ os) o =
    let rest = tallied_push test streams last k (i + 1) os o in
    let place : (i + 1) + length os ≡ i + suc (length os) = omega arith in
    let same = ap (λ n. one_if (counts_at streams last k n && test o)) place in
    omega (arith, rest, same)

tallied_more : (test : Outcome → Bool) (streams : List (Option ℕ)) (last k i : ℕ) (os : List Outcome) (o : Outcome) → slice_get os i ≡ Some o
    → tallied test streams last k 0 (take (i + 1) os) ≡ tallied test streams last k 0 (take i os) + one_if (counts_at streams last k i && test o)
tallied_more test streams last k i os o here =
    let inside = slice_get_within os i o here in
    let own : get_or os i o ≡ o = get_or_from_slice_get os i o o here in
    let long : 0 + length (take i os) ≡ i = omega (arith, length_taken os i inside) in
    ap (tallied test streams last k 0) (take_more os i o inside ∙ ap (λ x. take i os ++ x ∷ []) own) ∙ tallied_push test streams last k 0 (take i os) o
    ∙ ap (λ n. tallied test streams last k 0 (take i os) + one_if (counts_at streams last k n && test o)) long
  where
    length_taken : (xs : List Outcome) (n : ℕ) → n < length xs → length (take n xs) ≡ n
    length_taken [] n lt = absurd (omega (arith, lt))
    length_taken (x ∷ xs) zero lt = refl
    length_taken (x ∷ xs) (suc n) lt = ap suc (length_taken xs n (omega (arith, lt)))

one_more : (here complete : Bool) (s : Sent) (n m : ℕ) → s.sends ≡ n → s.complete ≡ m → n < 2 ^ 64 - 1 → m < 2 ^ 64 - 1
    → ((sent_if here complete s).sends ≡ n + one_if (here && true)) × ((sent_if here complete s).complete ≡ m + one_if (here && complete))
one_more true true s n m sends complete few less = (omega (arith, sends, few), omega (arith, complete, less))
one_more true false s n m sends complete few less = (omega (arith, sends, few), omega (arith, complete))
one_more false true s n m sends complete few less = (omega (arith, sends), omega (arith, complete))
one_more false false s n m sends complete few less = (omega (arith, sends), omega (arith, complete))

taken_most : (os : List Outcome) (i : ℕ) → length (take i os) ≤ i
taken_most [] zero = omega arith
taken_most [] (suc i) = omega arith
taken_most (o ∷ os) zero = omega arith
taken_most (o ∷ os) (suc i) = let rest = taken_most os i in omega (arith, rest)

-- one send more is counted
pub sent_more : (streams : List (Option ℕ)) (last i row : ℕ) (os : List Outcome) (o : Outcome) (complete : Bool) (old new : List Sent) → slice_get os i ≡ Some o → i < 2 ^ 64 - 1
    → row ≡ row_of last (stream_if (slice_get streams i)) → complete ≡ is_complete o → Counts row complete old new → AreSent streams last (take i os) old
    → AreSent streams last (take (i + 1) os) new
sent_more streams last i row os o complete old new here few row_is complete_is counts are k own at_k = (
  ap (λ (x : Sent). x.sends) (sym same) ∙ step.0 ∙ ap (λ b. sends_at streams last (take i os) k + one_if (b && true)) there ∙ sym (tallied_more (λ x. true) streams last k i os o here),
  ap (λ (x : Sent). x.complete) (sym same) ∙ step.1 ∙ ap (λ b. complete_at streams last (take i os) k + one_if (b && complete)) there
      ∙ ap (λ b. complete_at streams last (take i os) k + one_if (counts_at streams last k i && b)) complete_is ∙ sym (tallied_more is_complete streams last k i os o here),
)
  where
    before : Sent
    before = get_or old k own

    was : slice_get old k ≡ Some before
    was = slice_get-get_or old k own (let inside = slice_get_within new k own at_k in omega (arith, inside, counts.long))

    same : sent_if (nat_eq row k) complete before ≡ own
    same = same_Some _ _ (sym (counts.each k before was) ∙ at_k)

    there : nat_eq row k ≡ counts_at streams last k i
    there = ap (λ n. nat_eq n k) row_is

    step : ((sent_if (nat_eq row k) complete before).sends ≡ sends_at streams last (take i os) k + one_if (nat_eq row k && true))
        × ((sent_if (nat_eq row k) complete before).complete ≡ complete_at streams last (take i os) k + one_if (nat_eq row k && complete))
    step =
        let all = tallied_most (λ x. true) streams last k 0 (take i os) in
        let some = tallied_most is_complete streams last k 0 (take i os) in
        let most = taken_most os i in
        one_more (nat_eq row k) complete before _ _ (are k before was).0 (are k before was).1 (omega (arith, all, most, few)) (omega (arith, some, most, few))
