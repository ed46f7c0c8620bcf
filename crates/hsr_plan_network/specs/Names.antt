-- The names in the rings of a plan.
use Rattle.std.specs.Prelude.{ℕ, ◌+◌, ◌%◌, Bool, List, [], ◌∷◌, ◌++◌, length, slice_get, slice_index_or, position, unwrap_or, option_map, count_by, Option, if◌then◌else◌}
use Rattle.std.specs.List.{list_any}
use Rattle.std.specs.Str.{bytes_eq}

-- a name is among names
abbrev pub is_in : List ℕ → List (List ℕ) → Bool
is_in n ns = list_any (λ m. bytes_eq m n) ns

abbrev pub place : List (List ℕ) → List ℕ → Option ℕ
place ns n = position (λ m. bytes_eq m n) ns

-- the index of a name among names; 0 where it isn't there
abbrev pub number : List (List ℕ) → List ℕ → ℕ
number ns n = unwrap_or (place ns n) 0

-- in how many rings a name is
abbrev pub times_met : List (List (List ℕ)) → List ℕ → ℕ
times_met rings n = count_by (λ ring. is_in n ring) rings

abbrev pub ring_with : List (List (List ℕ)) → List ℕ → Option ℕ
ring_with rings n = position (λ ring. is_in n ring) rings

-- the number of the ring in which a name is met first
abbrev pub met_first : List (List (List ℕ)) → List ℕ → ℕ
met_first rings n = unwrap_or (ring_with rings n) 0

-- names behind others, without those that are there
abbrev pub joined : List (List ℕ) → List (List ℕ) → List (List ℕ)
joined seen [] = seen
joined seen (n ∷ ns) = joined (if is_in n seen then seen else seen ++ n ∷ []) ns

-- the names of rings behind others
abbrev pub met : List (List ℕ) → List (List (List ℕ)) → List (List ℕ)
met seen [] = seen
met seen (ring ∷ rings) = met (joined seen ring) rings
