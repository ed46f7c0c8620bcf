-- Which egresses of a node on a ring want what came to a ring port: the cases of the table, tried downwards. `stations` tells
-- which addresses stand behind the node's interlink; a node that has no interlink has none.
use Rattle.std.specs.Prelude.{List, [], ◌∷◌, ◌++◌, ℕ, Bool, false, Option, Some, None, Result, Ok, Err}
use Rattle.hsr_frame.specs.Address.{is_group, is_same_address}
use Rattle.hsr_frame.specs.Cases.{first_of}
use Rattle.hsr_frame.specs.Egress.{Egress, up, a, b, c, beyond, exits_of, in_mode, is_supervision, nowhere, onward, to}
use Rattle.hsr_frame.specs.declared.egress.Exits.{Exits}
use Rattle.hsr_frame.specs.declared.egress.Wants.{Wants}
use Rattle.hsr_frame.specs.declared.fault.FrameFault.{FrameFault}
use Rattle.hsr_frame.specs.declared.node.Cause.TheVariants.{Returned, Untagged, Malformed}
use Rattle.hsr_frame.specs.declared.node.Mode.{Mode}
use Rattle.hsr_frame.specs.declared.node.RingPort.{RingPort}
use Rattle.hsr_tables.specs.Proxies.{Proxies, is_known}
use Rattle.hsr_tag.specs.Tag.{TaggedFields}
use Rattle.hsr_tag.specs.declared.seen.Seen.{Seen}
use Rattle.hsr_tag.specs.declared.seen.Seen.TheVariants.{Plain, Tagged}

-- which addresses stand behind an interlink
abbrev pub Stations : Type 0
Stations = List ℕ → Bool

-- the egress to the stations, where there is one
abbrev pub interlink_of : Option Stations → List Egress
interlink_of None = []
interlink_of (Some knows) = c ∷ []

abbrev pub is_behind : Option Stations → List ℕ → Bool
is_behind None mac = false
is_behind (Some knows) mac = knows mac

-- the stations that a table knows at a moment
abbrev pub stations_at : ℕ → Option Proxies → Option Stations
stations_at now None = None
stations_at now (Some table) = Some (is_known now table.heard)

-- the egresses of a node on a ring
abbrev pub ring_exits : Option Stations → Exits
ring_exits stations = exits_of (up ∷ a ∷ b ∷ interlink_of stations)

-- a tagged frame that came to ring port x, in mode H or U
abbrev pub wanted_tagged : List ℕ → Mode → Option Stations → RingPort → TaggedFields → Wants
wanted_tagged own mode stations x frame = first_of
    ((is_same_address frame.src own, nowhere Returned)
    ∷ (is_same_address frame.dst own, to (up ∷ onward mode x))
    ∷ (is_supervision frame.dst frame.kind, to (up ∷ beyond x ∷ []))
    ∷ (is_group frame.dst, to (up ∷ interlink_of stations ++ beyond x ∷ []))
    ∷ (is_behind stations frame.dst, to (interlink_of stations ++ onward mode x))
    ∷ [])
    (to (beyond x ∷ []))

-- what came to ring port x
abbrev pub wanted : List ℕ → Mode → Option Stations → RingPort → Result Seen FrameFault → Wants
wanted own mode stations x (Err fault) = nowhere (Malformed fault)
wanted own mode stations x (Ok (Plain frame)) = nowhere Untagged
wanted own mode stations x (Ok (Tagged frame)) = in_mode mode (wanted_tagged own mode stations x frame)
