-- Octets, wherever they stand.
use Rattle.std.specs.Prelude.{ℕ, List}
use Rattle.std.specs.Arc.{arc_slice_items}
use Rattle.hsr_node.specs.declared.octets.Room.{Room}
use Rattle.hsr_node.specs.declared.octets.Room.TheVariants.{Own, Shared}

abbrev pub octets_in : Room → List ℕ
octets_in (Own bytes) = bytes.items
octets_in (Shared bytes) = arc_slice_items bytes
