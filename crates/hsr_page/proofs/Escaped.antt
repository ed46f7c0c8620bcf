-- What is read of an escaped text.
use Rattle.std.proofs.Common.{◌≡◌, ℕ, ◌==◌, true, false, List, [], ◌∷◌, ◌++◌, inl, inr, refl, ap, ◌∙◌}
use Rattle.std.specs.Prelude.{codes}
use Rattle.std.proofs.lemmas.Bool.Decides.{eqb_tells}
use Rattle.hsr_page.specs.Spelling.{escaped, html_spelling, spelled}
use Rattle.hsr_page.specs.Reading.{is_harmless, read_html}

-- one of five references, or a character by itself
pub html_cases : (P : ℕ → List ℕ → Type 0) → P 38 (codes "&amp;") → P 60 (codes "&lt;") → P 62 (codes "&gt;") → P 34 (codes "&quot;") → P 39 (codes "&#39;")
    → ((c : ℕ) → (c == 38) ≡ false → (c == 60) ≡ false → (c == 62) ≡ false → (c == 34) ≡ false → (c == 39) ≡ false → P c (c ∷ []))
    → (c : ℕ) → P c (html_spelling c)
html_cases P amp lt gt quot apos plain c =
    elim (eqb_tells c 38) [
      | inl a ↦ rw a.1 amp
      | inr a ↦ rw a.0 (
          elim (eqb_tells c 60) [
            | inl b ↦ rw b.1 lt
            | inr b ↦ rw b.0 (
                elim (eqb_tells c 62) [
                  | inl d ↦ rw d.1 gt
                  | inr d ↦ rw d.0 (
                      elim (eqb_tells c 34) [
                        | inl e ↦ rw e.1 quot
                        | inr e ↦ rw e.0 (
                            elim (eqb_tells c 39) [ inl f ↦ rw f.1 apos | inr f ↦ rw f.0 (plain c a.0 b.0 d.0 e.0 f.0) ])
                      ])
                ])
          ])
    ]

one_read : (rest : List ℕ) (c : ℕ) → read_html (html_spelling c ++ rest) ≡ c ∷ read_html rest
one_read rest = html_cases (λ c spelled. read_html (spelled ++ rest) ≡ c ∷ read_html rest) refl refl refl refl refl (λ c a b d e f. rw a refl)

one_harmless : (rest : List ℕ) (c : ℕ) → is_harmless (html_spelling c ++ rest) ≡ is_harmless rest
one_harmless rest = html_cases (λ c spelled. is_harmless (spelled ++ rest) ≡ is_harmless rest) refl refl refl refl refl (λ c a b d e f. rw (a, b, d, e, f) refl)

pub escaped_read : (text : List ℕ) → read_html (escaped text) ≡ text
unfolding escaped spelled
escaped_read [] = refl
escaped_read (c ∷ cs) = one_read (escaped cs) c ∙ ap (λ t. c ∷ t) (escaped_read cs)

pub escaped_harmless : (text : List ℕ) → is_harmless (escaped text) ≡ true
unfolding escaped spelled
escaped_harmless [] = refl
escaped_harmless (c ∷ cs) = one_harmless (escaped cs) c ∙ escaped_harmless cs
