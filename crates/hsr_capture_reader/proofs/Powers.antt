-- Powers of ten.
use Rattle.std.proofs.Common.{◌≡◌, ℕ, ◌*◌, ◌/◌, ◌^◌, ◌<◌, ◌≤◌, arith, lit<}
use Rattle.std.proofs.Math.Nat.{pow-le-pow_right, one-le-pow, div-eq_of_lt}

pub ten_fits : (e : ℕ) → e ≤ 28 → 10 ^ e < 2 ^ 128
ten_fits e h = let p : 10 ^ e ≤ 10 ^ 28 = pow-le-pow_right (lit< tt) h in omega (arith, p)

pub ten_is_positive : (e : ℕ) → 0 < 10 ^ e
ten_is_positive e = omega (arith, one-le-pow e 10 (lit< tt))

-- a second has so many parts that all stamps are less than one nanosecond
pub too_fine : (ticks e : ℕ) → ticks < 2 ^ 64 → 28 < e → ticks * 10 ^ 9 / 10 ^ e ≡ 0
too_fine ticks e fits fine =
    let from : 29 ≤ e = omega arith in
    let p : 10 ^ 29 ≤ 10 ^ e = pow-le-pow_right (lit< tt) from in
    div-eq_of_lt (omega (arith, p))
