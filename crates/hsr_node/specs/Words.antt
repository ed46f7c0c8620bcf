-- The words that texts have for the roles of places, and the letters of their ports.
use Rattle.std.specs.Prelude.{ℕ, ◌==◌, List, [], ◌∷◌, codes, Option, Some, None, position, slice_index_or}
use Rattle.std.specs.Str.{bytes_eq}
use Rattle.hsr_frame.specs.Cases.{first_of}
use Rattle.hsr_node.specs.declared.place.Place.{Place}
use Rattle.hsr_node.specs.declared.place.Place.TheVariants.{Danh, RedBox, QuadBox, Station}
use Rattle.hsr_node.specs.declared.role.Role.{Role}
use Rattle.hsr_node.specs.declared.role.Role.TheVariants as role

abbrev pub role_in : Place → Role
role_in (Danh mac mode) = role.Danh
role_in (RedBox mac mode) = role.RedBox
role_in QuadBox = role.QuadBox
role_in (Station macs) = role.Station

abbrev pub role_word : Role → List ℕ
role_word role.Danh = codes "danh"
role_word role.RedBox = codes "redbox"
role_word role.QuadBox = codes "quadbox"
role_word role.Station = codes "station"

-- the role of a word
abbrev pub role_of : List ℕ → Option Role
role_of w = first_of
    ((bytes_eq w (codes "danh"), Some role.Danh) ∷ (bytes_eq w (codes "redbox"), Some role.RedBox)
    ∷ (bytes_eq w (codes "quadbox"), Some role.QuadBox) ∷ (bytes_eq w (codes "station"), Some role.Station) ∷ [])
    None

-- the letters of a place's ports, in the order of their numbers
abbrev pub letters : Place → List ℕ
letters (Danh mac mode) = codes "AB"
letters (RedBox mac mode) = codes "ABI"
letters QuadBox = codes "ABCD"
letters (Station macs) = codes "P"

-- the letter of a port; one that isn't there has a question mark, which no text of a closed run holds
abbrev pub letter : Place → ℕ → ℕ
letter place port = slice_index_or (letters place) port 63

-- the number of the port that has the letter
abbrev pub port_of : Place → ℕ → Option ℕ
port_of place c = position (λ b. b == c) (letters place)
