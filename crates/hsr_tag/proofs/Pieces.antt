-- Octets in two pieces are others exactly where the first begins these and the second is what is left.
use Rattle.std.proofs.Common.{◌≡◌, ◌≢◌, ◌++◌, ◌==◌, List, ℕ, Bool, ap, sym, ◌∙◌}
use Rattle.std.specs.Bool.{Decides}
use Rattle.std.specs.Cmp.Lexicographic.{pointwise}
use Rattle.std.proofs.lemmas.Bool.Decides.{Decides-eqb}
use Rattle.std.proofs.lemmas.List.{append_cancel_left}
use Rattle.std.proofs.lemmas.Slice.Eq.{slice_eq-Decides}

pub same-front : (self head rest octets left : List ℕ) (r : Bool) → head ++ rest ≡ self → octets ≡ head ++ left
    → r ≡ pointwise (λ a b. a == b) left rest → Decides r (self ≡ octets)
same-front self head rest octets left r whole front e =
    let same = slice_eq-Decides Decides-eqb left rest r e in (
      λ yes. sym whole ∙ ap (λ (x : List ℕ). head ++ x) (sym (same.0 yes)) ∙ sym front,
      λ is. same.1 (append_cancel_left head left rest (sym front ∙ sym is ∙ sym whole)),
    )

pub other-front : (self head rest octets : List ℕ) → head ++ rest ≡ self → ((left : List ℕ) → octets ≢ head ++ left) → self ≢ octets
other-front self head rest octets whole other is = other rest (sym is ∙ sym whole)
