-- The nodes that a world begins with.
use Rattle.std.specs.Prelude.{ℕ, ◌+◌, List, [], ◌∷◌}
use Rattle.hsr_node.specs.Kept.{Record}
use Rattle.hsr_node.specs.declared.place.Place.{Place}

-- nodes that did nothing, numbered from k on
abbrev pub new_records : ℕ → List Place → List Record
new_records k [] = []
new_records k (place ∷ places) = record { number = k; place = place; entries = [] } ∷ new_records (k + 1) places
