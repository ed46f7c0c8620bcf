-- Ends that are tapped, by their numbers.
use Rattle.std.proofs.Common.{◌≡◌, ℕ, ◌<◌, ◌≤◌, ◌∙◌, ◌==◌, ◌||◌, Bool, true, false, List, [], ◌∷◌, length, get_or, ap, sym, refl, arith, ◌⊎◌, inl, inr, slice_get, unwrap_or}
use Rattle.std.proofs.lemmas.Bool.{cases_eq, eq-eqb, ne_eqb}
use Rattle.std.proofs.lemmas.List.{get_or-set_same, get_or-set_other}
use Rattle.std.proofs.lemmas.Option.{unwrap_or-slice_get}
use Rattle.std.specs.List.{slice_set}
use Rattle.hsr_tap_device.specs.Words.{end_number, is_same_end}
use Rattle.hsr_tap_device.specs.declared.device.End.{End}
use Rattle.hsr_tap_device.specs.declared.device.End.TheVariants as at

pub end_below : (e : End) → end_number e < 6
end_below at.A = omega arith
end_below at.B = omega arith
end_below at.C = omega arith
end_below at.D = omega arith
end_below at.I = omega arith
end_below at.Up = omega arith

abbrev pub none_of_six : List Bool
none_of_six = false ∷ false ∷ false ∷ false ∷ false ∷ false ∷ []

pub none_tapped : (xs : List Bool) (e : End) → xs ≡ none_of_six → unwrap_or (slice_get xs (end_number e)) false ≡ false
none_tapped xs at.A h = ap (λ ys. unwrap_or (slice_get ys 0) false) h
none_tapped xs at.B h = ap (λ ys. unwrap_or (slice_get ys 1) false) h
none_tapped xs at.C h = ap (λ ys. unwrap_or (slice_get ys 2) false) h
none_tapped xs at.D h = ap (λ ys. unwrap_or (slice_get ys 3) false) h
none_tapped xs at.I h = ap (λ ys. unwrap_or (slice_get ys 4) false) h
none_tapped xs at.Up h = ap (λ ys. unwrap_or (slice_get ys 5) false) h

or_here : (a b : Bool) → a ≡ true → true ≡ (a || b)
or_here false b h = absurd (cc)
or_here true b h = refl

or_there : (a b : Bool) → a ≡ false → b ≡ (a || b)
or_there true b h = absurd (cc)
or_there false b h = refl

pub with_end : (xs : List Bool) (end e : End) → length xs ≡ 6
    → unwrap_or (slice_get (slice_set xs (end_number end) true) (end_number e)) false ≡ (is_same_end e end || unwrap_or (slice_get xs (end_number e)) false)
with_end xs end e h =
    let below : end_number end < length xs = omega (arith, end_below end) in
    let left : Bool = unwrap_or (slice_get xs (end_number e)) false in
    unwrap_or-slice_get (slice_set xs (end_number end) true) (end_number e) false
    ∙ elim (cases_eq (end_number e) (end_number end)) as (λ _. get_or (slice_set xs (end_number end) true) (end_number e) false ≡ (is_same_end e end || left)) [
      | inl same ↦ (ap (λ i. get_or (slice_set xs (end_number end) true) i false) same ∙ get_or-set_same xs (end_number end) true false below
          ∙ or_here (is_same_end e end) left (eq-eqb (end_number e) (end_number end) same))
      | inr other ↦ (get_or-set_other xs (end_number end) (end_number e) true false other ∙ sym (unwrap_or-slice_get xs (end_number e) false)
          ∙ or_there (is_same_end e end) left (ne_eqb (end_number e) (end_number end) other))
    ]
