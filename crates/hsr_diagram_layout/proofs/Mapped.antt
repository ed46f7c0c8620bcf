-- A mapped front of a list, with one more.
use Rattle.std.proofs.Common.{◌≡◌, ℕ, ◌+◌, ◌<◌, List, [], ◌∷◌, ◌++◌, length, map, take, slice_index_or, ap, sym, ◌∙◌, append_assoc}
use Rattle.std.proofs.lemmas.List.{map-append, take_more}

pub mapped_more : {X Y : Type 0} (shape : X → Y) (xs : List X) (i : ℕ) (d : X) (start : List Y) → i < length xs →
    (start ++ map shape (take i xs)) ++ shape (slice_index_or xs i d) ∷ [] ≡ start ++ map shape (take (i + 1) xs)
mapped_more shape xs i d start below =
    append_assoc start (map shape (take i xs)) (shape (slice_index_or xs i d) ∷ [])
    ∙ ap (λ t. start ++ t) (sym (map-append shape (take i xs) (slice_index_or xs i d ∷ [])) ∙ sym (ap (map shape) (take_more xs i d below)))
