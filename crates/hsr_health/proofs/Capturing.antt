-- Packets in the order of time, each with its own number.
use Rattle.std.proofs.Common.{◌≡◌, ℕ, zero, suc, ◌+◌, ◌<◌, ◌≤◌, Bool, true, false, cond, List, [], ◌∷◌, refl, sym, ap, ◌∙◌, arith, Some}
use Rattle.std.specs.Prelude.{nat_eq, count_by, slice_get, IsPermutation}
use Rattle.std.specs.List.Sorted.{IsSortedByKey}
use Rattle.std.specs.Ordering.{nat_cmp}
use Rattle.std.proofs.lemmas.Bool.{eqb-true}
use Rattle.std.proofs.lemmas.Bool.Decides.{nat_tests}
use Rattle.std.proofs.lemmas.List.Sorted.{IsNonDecreasingBy-from_sort, sum_by-IsPermutation}
use Rattle.std.proofs.lemmas.Option.{get_or_from_slice_get, same_Some, slice_get_within}
use Rattle.hsr_capture_reader.specs.Fields.{PacketFields}
use Rattle.hsr_packet_order.specs.Disorder.{moment_of}
use Rattle.hsr_taps.specs.Came.{AreInOrder, ArePackets}
use Rattle.hsr_health.proofs.Finding.{count_cons}

pub in_order_from : (packets : List PacketFields) → IsSortedByKey moment_of nat_cmp packets → AreInOrder packets
in_order_from packets sorted i p q at_i at_next =
    let below = slice_get_within packets (i + 1) q at_next in
    let rises = IsNonDecreasingBy-from_sort moment_of packets sorted i (i + 1) p (omega arith) below in
    let first = ap (λ (x : PacketFields). x.moment) (get_or_from_slice_get packets i p p at_i) in
    let second = ap (λ (x : PacketFields). x.moment) (get_or_from_slice_get packets (i + 1) q p at_next) in
    omega (arith, rises, first, second)

-- ---- numbers, by how often each is there

same_number : (n : ℕ) → nat_eq n n ≡ true
same_number n = grind (arith, nat_tests)

none_has : (n : ℕ) (packets : List PacketFields) → ((k : ℕ) (p : PacketFields) → slice_get packets k ≡ Some p → p.number ≡ n → ⊥) → count_by (λ (p : PacketFields). nat_eq p.number n) packets ≡ 0
none_has n [] none = refl
none_has n (p ∷ packets) none =
    count_cons (λ (x : PacketFields). nat_eq x.number n) p packets ∙ ap (λ b. cond b 1 0 + count_by (λ (x : PacketFields). nat_eq x.number n) packets) (apart (nat_eq p.number n) refl)
    ∙ ap (λ m. 0 + m) (none_has n packets (λ k x at_k. none (suc k) x at_k))
  where
    apart : (b : Bool) → nat_eq p.number n ≡ b → nat_eq p.number n ≡ false
    apart false is = is
    apart true is = absurd (none 0 p refl (eqb-true p.number n is))

some_has : (n : ℕ) (packets : List PacketFields) (k : ℕ) (p : PacketFields) → slice_get packets k ≡ Some p → p.number ≡ n → 0 < count_by (λ (x : PacketFields). nat_eq x.number n) packets
some_has n [] k p here is = absurd cc
some_has n (x ∷ packets) zero p here is =
    let own : nat_eq x.number n ≡ true = ap (λ (y : PacketFields). nat_eq y.number n) (same_Some x p here) ∙ ap (λ m. nat_eq m n) is ∙ same_number n in
    let count = count_cons (λ (y : PacketFields). nat_eq y.number n) x packets ∙ ap (λ b. cond b 1 0 + count_by (λ (y : PacketFields). nat_eq y.number n) packets) own in
    omega (arith, count)
some_has n (x ∷ packets) (suc k) p here is =
    let rest = some_has n packets k p here is in
    let count = count_cons (λ (y : PacketFields). nat_eq y.number n) x packets in
    omega (arith, rest, count)

at_most_one : (n : ℕ) (packets : List PacketFields) → ArePackets packets → count_by (λ (x : PacketFields). nat_eq x.number n) packets ≤ 1
at_most_one n [] own = omega arith
at_most_one n (p ∷ packets) own =
    by_first (nat_eq p.number n) refl (at_most_one n packets (λ i j x y at_i at_j same. let next = own (suc i) (suc j) x y at_i at_j same in omega (arith, next)))
  where
    by_first : (b : Bool) → nat_eq p.number n ≡ b → count_by (λ (x : PacketFields). nat_eq x.number n) packets ≤ 1 → count_by (λ (x : PacketFields). nat_eq x.number n) (p ∷ packets) ≤ 1
    by_first false is rest =
        let count = count_cons (λ (x : PacketFields). nat_eq x.number n) p packets ∙ ap (λ b. cond b 1 0 + count_by (λ (x : PacketFields). nat_eq x.number n) packets) is in
        omega (arith, count, rest)
    by_first true is rest =
        let count = count_cons (λ (x : PacketFields). nat_eq x.number n) p packets ∙ ap (λ b. cond b 1 0 + count_by (λ (x : PacketFields). nat_eq x.number n) packets) is in
        let none = none_has n packets (λ k x at_k same. let place = own 0 (suc k) p x refl at_k (eqb-true p.number n is ∙ sym same) in absurd (omega (arith, place))) in
        omega (arith, count, none)

own_numbers : (packets : List PacketFields) → ((n : ℕ) → count_by (λ (x : PacketFields). nat_eq x.number n) packets ≤ 1) → ArePackets packets
own_numbers [] one i j p q at_i at_j same = absurd cc
own_numbers (x ∷ packets) one zero zero p q at_i at_j same = refl
own_numbers (x ∷ packets) one zero (suc j) p q at_i at_j same =
    let some = some_has p.number packets j q at_j (sym same) in
    let own : nat_eq x.number p.number ≡ true = ap (λ (y : PacketFields). nat_eq y.number p.number) (same_Some x p at_i) ∙ same_number p.number in
    let count = count_cons (λ (y : PacketFields). nat_eq y.number p.number) x packets ∙ ap (λ b. cond b 1 0 + count_by (λ (y : PacketFields). nat_eq y.number p.number) packets) own in
    let most = one p.number in
    absurd (omega (arith, some, count, most))
own_numbers (x ∷ packets) one (suc i) zero p q at_i at_j same =
    let some = some_has q.number packets i p at_i same in
    let own : nat_eq x.number q.number ≡ true = ap (λ (y : PacketFields). nat_eq y.number q.number) (same_Some x q at_j) ∙ same_number q.number in
    let count = count_cons (λ (y : PacketFields). nat_eq y.number q.number) x packets ∙ ap (λ b. cond b 1 0 + count_by (λ (y : PacketFields). nat_eq y.number q.number) packets) own in
    let most = one q.number in
    absurd (omega (arith, some, count, most))
own_numbers (x ∷ packets) one (suc i) (suc j) p q at_i at_j same =
    ap suc (own_numbers packets (λ n. let count = count_cons (λ (y : PacketFields). nat_eq y.number n) x packets in let most = one n in omega (arith, count, most)) i j p q at_i at_j same)

pub own_numbers_from : (before after : List PacketFields) → IsPermutation before after → ArePackets before → ArePackets after
own_numbers_from before after moved own =
    own_numbers after (λ n. let one = at_most_one n before own in let count = sum_by-IsPermutation (λ (x : PacketFields). cond (nat_eq x.number n) 1 0) before after moved in omega (arith, one, count))
