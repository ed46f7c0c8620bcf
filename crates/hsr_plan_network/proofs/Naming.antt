-- Names behind others.
use Rattle.std.proofs.Common.{◌≡◌, ℕ, ◌+◌, ◌<◌, ◌≤◌, ◌∙◌, length, get_or, drop, List, [], ◌∷◌, ap}
use Rattle.std.proofs.lemmas.List.{drop_more}
use Rattle.hsr_plan_network.specs.Names.{joined, met}

pub joined_step : (seen names : List (List ℕ)) (i : ℕ) (d : List ℕ) → i < length names
    → joined seen (drop i names) ≡ joined (joined seen (get_or names i d ∷ [])) (drop (i + 1) names)
joined_step seen names i d h = ap (joined seen) (drop_more names i d h)

pub met_step : (seen : List (List ℕ)) (rings : List (List (List ℕ))) (i : ℕ) (d : List (List ℕ)) → i < length rings
    → met seen (drop i rings) ≡ met (joined seen (get_or rings i d)) (drop (i + 1) rings)
met_step seen rings i d h = ap (met seen) (drop_more rings i d h)
