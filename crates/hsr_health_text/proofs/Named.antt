-- A name, or a dash where nothing of it can be shown.
use Rattle.std.proofs.Common.{◌≡◌, ℕ, ◌+◌, List, [], ◌∷◌, ◌++◌, length, sym, ap, ◌∙◌, arith, refl}
use Rattle.std.specs.Prelude.{codes}
use Rattle.std.proofs.lemmas.List.{append-nil, length-append}
use Rattle.hsr_health_text.specs.Words.{or_dash}

none_left : (old shown : List ℕ) → length (old ++ shown) ≡ length old → shown ≡ []
none_left old [] same = refl
none_left old (octet ∷ shown) same = absurd (omega (arith, same, length-append old (octet ∷ shown)))

pub unnamed : (old shown text : List ℕ) → text ≡ old ++ shown → length text ≡ length old → text ++ codes "-" ≡ old ++ or_dash shown
unnamed old shown text is same =
    let none : shown ≡ [] = none_left old shown (sym (ap length is) ∙ same) in
    ap (λ l. l ++ codes "-") (is ∙ ap (λ l. old ++ l) none ∙ append-nil old) ∙ sym (ap (λ l. old ++ or_dash l) none)

some_left : (old shown : List ℕ) → (length (old ++ shown) ≡ length old → ⊥) → old ++ shown ≡ old ++ or_dash shown
some_left old [] other = absurd (other (ap length (append-nil old)))
some_left old (octet ∷ shown) other = refl

pub named : (old shown text : List ℕ) → text ≡ old ++ shown → (length text ≡ length old → ⊥) → text ≡ old ++ or_dash shown
named old shown text is other = is ∙ some_left old shown (λ same. other (ap length is ∙ same))
