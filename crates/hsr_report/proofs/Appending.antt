-- Two pieces of text, one put behind the other.
use Rattle.std.proofs.Common.{◌≡◌, ℕ, List, ◌++◌, Result, Ok, Err, OnOk, sym, ap, ◌∙◌, append_assoc}

-- each a name and a number
pub two_counts : {E : Type 0} (r : Result (Unit {0}) E) (old mid new name number other more : List ℕ) → mid ≡ old ++ (name ++ number) → OnOk r (new ≡ mid ++ (other ++ more)) →
    OnOk r (new ≡ old ++ (((name ++ number) ++ other) ++ more))
two_counts (Ok u) old mid new name number other more first second =
    second ∙ (ap (λ t. t ++ (other ++ more)) first ∙ (append_assoc old (name ++ number) (other ++ more) ∙ ap (λ t. old ++ t) (sym (append_assoc (name ++ number) other more))))
two_counts (Err e) old mid new name number other more first second = tt
