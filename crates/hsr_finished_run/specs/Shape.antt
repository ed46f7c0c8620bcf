-- Records and rows that are a topology's.
--     IsShaped   they are
--     HasShape   and the duplicate tables have a size that is allowed
use Rattle.std.specs.Prelude.{ℕ, ◌<◌, ◌≡◌, Bool, true, List, length, map, slice_index_or, Vec}
use Rattle.std.specs.Global.{Global}
use Rattle.hsr_node.specs.Kept.{Record}
use Rattle.hsr_node.specs.declared.entry.Entry.{Entry}
use Rattle.hsr_node.specs.declared.event.Event.{Event}
use Rattle.hsr_node.specs.declared.event.Event.TheVariants.{Arrive}
use Rattle.hsr_link.specs.declared.row.Row.{Row}
use Rattle.hsr_duptable.specs.Table.{IsTableSize}
use Rattle.hsr_topology.specs.Links.{is_used}
use Rattle.hsr_topology.specs.Topology.{Topology}
use Rattle.hsr_topology.specs.declared.end.End.{End}

-- nothing comes to a node by a port without a link
abbrev pub is_linked : List (List End) → ℕ → Event → Bool
is_linked links node (Arrive port copy) = is_used links (record { node = node; port = port })
is_linked links node event = true

-- so are the first n entries of its record
abbrev pub AreLinked : List (List End) → ℕ → List Entry → ℕ → Type 0
AreLinked links node entries n = (i : ℕ) (d : Entry) → i < n → is_linked links node (slice_index_or entries i d).event ≡ true

-- the record has its index in the list as its number
abbrev pub NodeFits : List (List End) → ℕ → Record → Type 0
NodeFits links k r = (r.number ≡ k) × AreLinked links k r.entries (length r.entries)

abbrev pub NodesFit : List (List End) → List Record → ℕ → Type 0
NodesFit links kept n = (k : ℕ) (d : Record) → k < n → NodeFits links k (slice_index_or kept k d)

-- there is a record for each node, at its index, and a list of rows for each link, and nothing came by a port without one
pub record IsShaped (topology : Topology) (kept : List Record) (rows : List (Vec Row Global)) : Type 0 where
  pub places : map (λ (r : Record). r.place) kept ≡ topology.places
  pub of_links : length rows ≡ length topology.links
  pub fit : NodesFit topology.links kept (length kept)

-- the duplicate tables have 1 to 65535 entries each, and records and rows are the topology's
abbrev pub HasShape : ℕ → Topology → List Record → List (Vec Row Global) → Type 0
HasShape capacity topology kept rows = IsTableSize capacity × IsShaped topology kept rows
