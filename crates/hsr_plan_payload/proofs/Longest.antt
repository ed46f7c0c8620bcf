-- The longest that fits.
use Rattle.std.proofs.Common.{◌≡◌, ℕ, zero, suc, ◌-◌, ◌<◌, ◌≤◌, ◌∙◌, true, false, nat_le, length, List, refl, ap, sym, arith}
use Rattle.std.proofs.lemmas.Bool.Decides.{nat_tests}
use Rattle.hsr_plan_payload.specs.Payload.{longest}

pub fits : (make : ℕ → List ℕ) (size n : ℕ) → 0 < n → length (make n) ≤ size → longest make size n ≡ make n
fits make size zero h e = absurd (omega arith)
fits make size (suc n) h e = let t : nat_le (length (make (suc n))) size ≡ true = grind (arith, nat_tests) in rw t refl

pub longer : (make : ℕ → List ℕ) (size n : ℕ) → 0 < n → size < length (make n) → longest make size n ≡ longest make size (n - 1)
longer make size zero h e = absurd (omega arith)
longer make size (suc n) h e =
    let t : nat_le (length (make (suc n))) size ≡ false = grind (arith, nat_tests) in
    let m : suc n - 1 ≡ n = omega arith in
    rw t (ap (longest make size) (sym m))
