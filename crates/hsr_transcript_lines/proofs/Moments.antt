-- Moments are read as they are told.
use Rattle.std.proofs.Common.{◌≡◌, ℕ, ◌*◌, ◌/◌, ◌<◌, ◌^◌, nat_lt, Option, Some, None, Bool, true, false, cond, List, refl, ap, sym, ◌∙◌, arith, div-add-mod', div-le_self, mul-div_cancel, lt-ltb, lt_of_le_of_lt, zero-lt-suc}
use Rattle.std.specs.Fmt.{decimal}
use Rattle.hsr_text.specs.Moments.{IsMomentOf, moment_in, moment_of, whole_units}
use Rattle.hsr_text.specs.Words.{◌>>=◌, decimal_of}
use Rattle.hsr_text.specs.declared.time_unit.TimeUnit.{TimeUnit}
use Rattle.hsr_text.specs.declared.time_unit.TimeUnit.TheVariants.{Milliseconds, Microseconds}
use Rattle.hsr_transcript_lines.proofs.Again.{number_again}
use Rattle.hsr_transcript_lines.proofs.Exact.{number_exact}

-- ---- what is read is told so

product_is : (n at : ℕ) → moment_in Milliseconds n ≡ Some at → n * 1000 ≡ at
product_is n at e = go (nat_lt (n * 1000) (2 ^ 64)) e
  where
    go : (t : Bool) → cond t (Some (n * 1000)) None ≡ Some at → n * 1000 ≡ at
    go true e = cc
    go false e = absurd (cc)

told_read : (unit : TimeUnit) (n at : ℕ) → moment_in unit n ≡ Some at → whole_units unit at ≡ n
told_read Milliseconds n at e = ap (λ m. m / 1000) (sym (product_is n at e)) ∙ mul-div_cancel n (zero-lt-suc 999)
told_read Microseconds n at e = let same : n ≡ at = cc in sym same

-- a word that was read as a moment is how the unit tells it
pub moment_exact : (unit : TimeUnit) (w : List ℕ) (at : ℕ) → moment_of unit w ≡ Some at → decimal (whole_units unit at) ≡ w
moment_exact unit w at e = go (decimal_of w) refl e
  where
    go : (o : Option ℕ) → decimal_of w ≡ o → (o >>= moment_in unit) ≡ Some at → decimal (whole_units unit at) ≡ w
    go None h e = absurd (cc)
    go (Some n) h e = ap decimal (told_read unit n at e) ∙ number_exact w n h

whole_in : (unit : TimeUnit) (n at : ℕ) → moment_in unit n ≡ Some at → IsMomentOf unit at
whole_in Milliseconds n at e =
    let is = product_is n at e in
    let parts = div-add-mod' at 1000 in
    let told = told_read Milliseconds n at e in
    omega (arith, is, parts, told)
whole_in Microseconds n at e = tt

-- and the unit leaves nothing of it out
pub whole_read : (unit : TimeUnit) (w : List ℕ) (at : ℕ) → moment_of unit w ≡ Some at → IsMomentOf unit at
whole_read unit w at e = go (decimal_of w) e
  where
    go : (o : Option ℕ) → (o >>= moment_in unit) ≡ Some at → IsMomentOf unit at
    go None e = absurd (cc)
    go (Some n) e = whole_in unit n at e

-- ---- what is told is read again

told_again : (unit : TimeUnit) (at : ℕ) → at < 2 ^ 64 → IsMomentOf unit at → moment_in unit (whole_units unit at) ≡ Some at
told_again Milliseconds at fits whole =
    let parts = div-add-mod' at 1000 in
    let back : at / 1000 * 1000 ≡ at = omega (arith, parts, whole) in
    ap (λ n. cond (nat_lt n (2 ^ 64)) (Some n) None) back ∙ ap (λ t. cond t (Some at) None) (lt-ltb at (2 ^ 64) fits)
told_again Microseconds at fits whole = refl

pub told_fits : (unit : TimeUnit) (at : ℕ) → at < 2 ^ 64 → whole_units unit at < 2 ^ 64
told_fits Milliseconds at fits = lt_of_le_of_lt (div-le_self at 1000) fits
told_fits Microseconds at fits = fits

pub moment_again : (unit : TimeUnit) (at : ℕ) → at < 2 ^ 64 → IsMomentOf unit at → moment_of unit (decimal (whole_units unit at)) ≡ Some at
moment_again unit at fits whole =
    ap (λ o. o >>= moment_in unit) (number_again (whole_units unit at) (told_fits unit at fits)) ∙ told_again unit at fits whole
