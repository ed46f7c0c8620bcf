-- The octets of copies whose moments rise, as sums of the first of them.
use Rattle.std.proofs.Common.{◌≡◌, ℕ, ◌+◌, ◌-◌, ◌<◌, ◌≤◌, ◌&&◌, nat_lt, ⊎_elim, Bool, true, false, cond, List, [], ◌∷◌, ◌++◌, length, take, slice_index, slice_index_or, refl, sym, ap, ◌∙◌, arith, zero, suc}
use Rattle.std.specs.Prelude.{nat_le}
use Rattle.std.specs.List.{sum_by}
use Rattle.std.specs.List.Sorted.{IsPartitionPoint}
use Rattle.std.proofs.lemmas.Bool.{cases_lt}
use Rattle.std.proofs.lemmas.Bool.Decides.{nat_tests}
use Rattle.std.proofs.lemmas.List.{get_or_append_left, get_or_push, length_push}
use Rattle.std.proofs.lemmas.List.Sums.{sum_by-cons, sum_by_more}
use Rattle.hsr_load.specs.Sums.{AreSums, octets_before, octets_until}
use Rattle.hsr_load.specs.Windows.{octets_from, octets_in, octets_of}
use Rattle.hsr_load.specs.declared.transit.Transit.{Transit}

-- ---- the octets up to the index up to which a test passes are those of the copies that pass

abbrev chosen : (Transit → Bool) → Transit → ℕ
chosen p t = cond (p t) t.octets 0

sum_none : (p : Transit → Bool) (ts : List Transit) → ((k : ℕ) (d : Transit) → k < length ts → p (slice_index_or ts k d) ≡ false) → sum_by (chosen p) ts ≡ 0
sum_none p [] h = refl
sum_none p (t ∷ ts) h =
    let more = sum_by-cons (chosen p) t ts in
    let here : chosen p t ≡ 0 = ap (λ b. cond b t.octets 0) (h 0 t (omega arith)) in
    let rest = sum_none p ts (λ k d below. h (suc k) d (omega (arith, below))) in
    omega (arith, more, here, rest)

pub point_sum : (p : Transit → Bool) (ts : List Transit) (n : ℕ) → n ≤ length ts → IsPartitionPoint (λ t. p t ≡ true) (λ t. p t ≡ false) ts n →
    sum_by octets_of (take n ts) ≡ sum_by (chosen p) ts
point_sum p [] n short h = let e : n ≡ 0 = omega (arith, short) in ap (λ (m : ℕ). sum_by octets_of (take m [])) e
point_sum p (t ∷ ts) zero short h = sym (sum_none p (t ∷ ts) (λ k d below. h.1 k d (omega arith) below))
point_sum p (t ∷ ts) (suc n) short h =
    let rest = point_sum p ts n (omega (arith, short))
    ((λ k d low below. h.0 (suc k) d (omega (arith, low)) (omega (arith, below))), (λ k d low below. h.1 (suc k) d (omega (arith, low)) (omega (arith, below)))) in
    let here : chosen p t ≡ t.octets = ap (λ b. cond b t.octets 0) (h.0 0 t (omega arith) (omega arith)) in
    let left = sum_by-cons octets_of t (take n ts) in
    let right = sum_by-cons (chosen p) t ts in
    omega (arith, rest, here, left, right)

-- ---- what goes in a millisecond goes before its end, but not before its start

one : (start m octets : ℕ) → cond (nat_le start m && nat_lt (m - start) 1000) octets 0 + cond (nat_lt m start) octets 0 ≡ cond (nat_lt (m - start) 1000) octets 0
one start m octets = grind (arith, nat_tests)

pub parts : (start : ℕ) (ts : List Transit) → octets_from ts start + sum_by (octets_before start) ts ≡ sum_by (octets_until start) ts
parts start [] = refl
parts start (t ∷ ts) =
    let inside = sum_by-cons (octets_in start) t ts in
    let before = sum_by-cons (octets_before start) t ts in
    let until = sum_by-cons (octets_until start) t ts in
    let here = one start t.moment t.octets in
    let rest = parts start ts in
    omega (arith, inside, before, until, here, rest)

-- ---- sums

pub no_sums : (ts : List Transit) → AreSums ts 0 (0 ∷ [])
no_sums ts = record {
  many = refl;
  each = λ k low. let e : k ≡ 0 = omega (arith, low) in ap (λ (m : ℕ). slice_index (0 ∷ []) m) e ∙ sym (ap (λ (m : ℕ). sum_by octets_of (take m ts)) e);
}

pub sums_more : (ts : List Transit) (i : ℕ) (sums : List ℕ) (d : Transit) (sum : ℕ) → i < length ts → AreSums ts i sums →
    sum ≡ sum_by octets_of (take i ts) + (slice_index_or ts i d).octets → AreSums ts (i + 1) (sums ++ sum ∷ [])
sums_more ts i sums d sum below are is =
    let long = length_push sums sum in
    let many = are.many in
    record {
      many = omega (arith, long, many);
      each = λ k low.
          ⊎_elim
          (λ lower. get_or_append_left sums (sum ∷ []) 0 k (omega (arith, lower, many)) ∙ are.each k (omega (arith, lower)))
          (λ last.
          let e : i + 1 ≡ k = omega (arith, low, last) in
          get_or_push sums sum 0 k (omega (arith, many, e)) ∙ (is ∙ (sym (sum_by_more octets_of ts i d below) ∙ ap (λ (m : ℕ). sum_by octets_of (take m ts)) e)))
          (cases_lt k (i + 1));
    }
