-- What holds of some item of a list, seen in another way.
use Rattle.std.proofs.Common.{◌≡◌, ◌||◌, Bool, List, [], ◌∷◌, map, refl, ap}
use Rattle.std.specs.List.{list_any}

pub any_seen : {A B : Type 0} (p : B → Bool) (f : A → B) (xs : List A) → list_any (λ x. p (f x)) xs ≡ list_any p (map f xs)
any_seen p f [] = refl
any_seen p f (x ∷ xs) = ap (λ b. p (f x) || b) (any_seen p f xs)
