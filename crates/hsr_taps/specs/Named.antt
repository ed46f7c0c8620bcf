-- Points: directions that belong together, by name.
use Rattle.std.specs.Prelude.{ℕ, ◌≡◌, ◌+◌, ◌==◌, Bool, true, false, if◌then◌else◌, List, [], ◌∷◌, ◌++◌, slice_get, Option, Some, None, unwrap_or}
use Rattle.std.specs.List.{list_any}
use Rattle.std.specs.Option.{option_and_then}
use Rattle.std.specs.Str.{bytes_eq}
use Rattle.hsr_capture_reader.specs.Fields.{InterfaceFields}
use Rattle.hsr_taps.specs.Asked.{ChoiceFields, PointFields}
use Rattle.hsr_taps.specs.Tallies.{is_at}

-- ---- the name of an interface's point

-- what stands behind the first of an octet
abbrev pub behind : ℕ → List ℕ → Option (List ℕ)
behind octet [] = None
behind octet (b ∷ text) = if b == octet then Some text else behind octet text

-- what stands in front of the last of an octet
abbrev pub before_last : ℕ → List ℕ → Option (List ℕ)
before_last octet [] = None
before_last octet (b ∷ text) = with_front b (before_last octet text) (b == octet)
  where
    with_front : ℕ → Option (List ℕ) → Bool → Option (List ℕ)
    with_front b (Some front) is_it = Some (b ∷ front)
    with_front b None true = Some []
    with_front b None false = None

-- "all"
abbrev pub all : List ℕ
all = 97 ∷ 108 ∷ 108 ∷ []

-- an interface X>NODE.PORT is a tap where NODE hears; all others are of one point
abbrev pub told_by : List ℕ → List ℕ
told_by name = unwrap_or (option_and_then (before_last 46) (behind 62 name)) all

-- the name of the last point that was asked for with the interface, or else another name
abbrev pub asked_for : ℕ → List ℕ → List PointFields → List ℕ
asked_for i name [] = name
asked_for i name (p ∷ points) = asked_for i (if list_any (λ j. j == i) p.interfaces then p.name else name) points

abbrev pub owner_of : ChoiceFields → ℕ → InterfaceFields → List ℕ
owner_of choice i interface = asked_for i (told_by interface.name) choice.points

-- ---- points

-- names, each once, in the order in which they come first
abbrev pub with_name : List (List ℕ) → List ℕ → List (List ℕ)
with_name names name = if list_any (λ other. bytes_eq other name) names then names else names ++ name ∷ []

abbrev pub with_owner : ChoiceFields → List Bool → List (List ℕ) → ℕ → InterfaceFields → List (List ℕ)
with_owner choice looked names i interface = if is_at looked i then with_name names (owner_of choice i interface) else names

-- the names of points, in the order of their first interfaces, behind names that came before; of interfaces from a number on
abbrev pub names_from : ChoiceFields → List Bool → List (List ℕ) → ℕ → List InterfaceFields → List (List ℕ)
names_from choice looked names i [] = names
names_from choice looked names i (interface ∷ rest) = names_from choice looked (with_owner choice looked names i interface) (i + 1) rest

-- the index of an interface's point; none where it isn't looked at
abbrev pub IsOwner : List (List ℕ) → List ℕ → Bool → Option ℕ → Type 0
IsOwner points name true None = ⊥
IsOwner points name true (Some k) = slice_get points k ≡ Some name
IsOwner points name false owner = owner ≡ None

abbrev pub AreOwners : ChoiceFields → List Bool → List InterfaceFields → List (List ℕ) → List (Option ℕ) → Type 0
AreOwners choice looked interfaces points owners = (i : ℕ) (interface : InterfaceFields) (owner : Option ℕ) → slice_get interfaces i ≡ Some interface → slice_get owners i ≡ Some owner
    → IsOwner points (owner_of choice i interface) (is_at looked i) owner
