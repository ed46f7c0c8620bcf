-- Lists that grow.
use Rattle.std.proofs.Common.{◌≡◌, List, [], ◌∷◌, ◌++◌, Option, Some, None, ap, append-nil, append_assoc}
use Rattle.std.specs.List.{cons_option}

-- what may be put before others
pub append_option : {X : Type 0} (xs : List X) (o : Option X) (ys : List X) → (xs ++ cons_option o []) ++ ys ≡ xs ++ cons_option o ys
append_option xs None ys = ap (λ zs. zs ++ ys) (append-nil xs)
append_option xs (Some x) ys = append_assoc xs (x ∷ []) ys
