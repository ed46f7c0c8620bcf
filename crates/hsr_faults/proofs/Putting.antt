-- Both channels of each link that is in a set of links.
use Rattle.std.proofs.Common.{◌≡◌, ℕ, ◌+◌, ◌<◌, ◌/◌, ◌==◌, Bool, true, false, if◌then◌else◌, List, refl, sym, ap, ◌∙◌, arith, eqb-true, ⊎_elim}
use Rattle.std.proofs.lemmas.Bool.{cases_lt, eqb-false}
use Rattle.hsr_bitset.specs.Numbers.{has}

pub put_next : (links old new : List ℕ) (link : ℕ) (is_in : Bool) → is_in ≡ has links link → ((n : ℕ) → has new n ≡ (if n / 2 == link then is_in else has old n)) →
    ((n : ℕ) → n / 2 < link → has old n ≡ has links (n / 2)) → (n : ℕ) → n / 2 < link + 1 → has new n ≡ has links (n / 2)
put_next links old new link is_in is put before n low = put n ∙ step (n / 2 == link) refl
  where
    step : (b : Bool) → (n / 2 == link) ≡ b → (if b then is_in else has old n) ≡ has links (n / 2)
    step true here = is ∙ ap (has links) (sym (eqb-true (n / 2) link here))
    step false other =
        before n
        (⊎_elim
        (λ less. less)
        (λ more. let same : n / 2 ≡ link = omega (arith, low, more) in absurd (eqb-false (n / 2) link other same))
        (cases_lt (n / 2) link))
