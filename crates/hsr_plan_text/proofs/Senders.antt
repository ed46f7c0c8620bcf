-- Items that are counted, and moments that rise.
use Rattle.std.proofs.Common.{◌≡◌, ℕ, ◌+◌, ◌<◌, ◌&&◌, suc, length, get_or, drop, List, [], ◌∷◌, Option, Some, refl, ap}
use Rattle.std.proofs.lemmas.List.{drop_more}
use Rattle.toml.specs.View.{items_view}
use Rattle.toml.specs.declared.value.Value.{Value}
use Rattle.hsr_plan_text.specs.Streams.{comes_after, how_many, rises}

-- an array has as many items as its values are
pub counted : (vs : List Value) → how_many (items_view vs) ≡ length vs
counted [] = refl
counted (v ∷ vs) = ap suc (counted vs)

pub rises_step : (last : Option ℕ) (xs : List ℕ) (i d : ℕ) → i < length xs
    → rises last (drop i xs) ≡ (comes_after last (get_or xs i d) && rises (Some (get_or xs i d)) (drop (i + 1) xs))
rises_step last xs i d h = ap (rises last) (drop_more xs i d h)
