-- Long texts, line by line.
--     wrapped   a text without the spaces at which its lines end
use Rattle.std.specs.Prelude.{ℕ, ◌==◌, ◌&&◌, nat_lt, if◌then◌else◌, List, [], ◌∷◌, ◌++◌, length}

-- what follows a line so far, which ends at the first space behind 96 letters
abbrev pub wrapped_from : List ℕ → List ℕ → List (List ℕ)
wrapped_from line [] = line ∷ []
wrapped_from line (octet ∷ octets) =
    if octet == 32 && nat_lt 95 (length line) then line ∷ wrapped_from [] octets else wrapped_from (line ++ octet ∷ []) octets

abbrev pub wrapped : List ℕ → List (List ℕ)
wrapped words = wrapped_from [] words
