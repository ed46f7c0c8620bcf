-- Six cells are the list of what is read at their places.
use Rattle.std.proofs.Common.{◌≡◌, ℕ, List, [], ◌∷◌, length, slice_index, refl}
use Rattle.std.proofs.lemmas.Slice.Eq.{text_from_reads}

pub cells_of_6 : (xs : List ℕ) → length xs ≡ 6 → xs ≡ slice_index xs 0 ∷ slice_index xs 1 ∷ slice_index xs 2 ∷ slice_index xs 3 ∷ slice_index xs 4 ∷ slice_index xs 5 ∷ []
cells_of_6 xs h = text_from_reads xs (slice_index xs 0 ∷ slice_index xs 1 ∷ slice_index xs 2 ∷ slice_index xs 3 ∷ slice_index xs 4 ∷ slice_index xs 5 ∷ []) h (refl, (refl, (refl, (refl, (refl, (refl, tt))))))
