-- Texts that are put one behind the other.
use Rattle.std.proofs.Common.{◌≡◌, ℕ, List, ◌++◌, ap, ◌∙◌, append_assoc, OnOk, Result, Ok, Err}

pub behind : {A E : Type 0} (r : Result A E) (old middle new first second : List ℕ) → middle ≡ old ++ first → OnOk r (new ≡ middle ++ second) → OnOk r (new ≡ old ++ (first ++ second))
behind (Err e) old middle new first second before put = put
behind (Ok done) old middle new first second before put = put ∙ (ap (λ (s : List ℕ). s ++ second) before ∙ append_assoc old first second)
