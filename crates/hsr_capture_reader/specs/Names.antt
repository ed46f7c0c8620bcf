-- The names of interfaces, which are kept apart from the packets of a file.
use Rattle.std.specs.Prelude.{ℕ, List, [], ◌∷◌, take, drop}
use Rattle.hsr_capture_reader.specs.declared.names.Named.{Named}
use Rattle.hsr_capture_reader.specs.Fields.{InterfaceFields}

-- an interface with this name
abbrev pub interface_by : List ℕ → Named → InterfaceFields
interface_by name named = record { name = name; link = named.link; snap = named.snap; clock = named.clock; fcs = named.fcs }

-- interfaces, whose names stand one behind the other
abbrev pub interfaces_by : List ℕ → List Named → List InterfaceFields
interfaces_by names [] = []
interfaces_by names (named ∷ others) = interface_by (take named.len names) named ∷ interfaces_by (drop named.len names) others
