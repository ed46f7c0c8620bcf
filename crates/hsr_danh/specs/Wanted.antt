-- Which egresses of a DANH want an arrival: it has no interlink.
use Rattle.std.specs.Prelude.{List, ℕ, None, Result}
use Rattle.hsr_frame.specs.declared.egress.Exits.{Exits}
use Rattle.hsr_frame.specs.declared.egress.Wants.{Wants}
use Rattle.hsr_frame.specs.declared.fault.FrameFault.{FrameFault}
use Rattle.hsr_frame.specs.declared.node.Mode.{Mode}
use Rattle.hsr_frame.specs.declared.node.RingPort.{RingPort}
use Rattle.hsr_tag.specs.Tag.{TaggedFields}
use Rattle.hsr_tag.specs.declared.seen.Seen.{Seen}
use Rattle.hsr_forwarding.specs.Wanted as of_ring

-- the egresses of a DANH
abbrev pub egresses : Exits
egresses = of_ring.ring_exits None

-- a tagged frame that came to ring port x, in mode H or U
abbrev pub wanted_tagged : List ℕ → Mode → RingPort → TaggedFields → Wants
wanted_tagged own mode x frame = of_ring.wanted_tagged own mode None x frame

-- what came to ring port x
abbrev pub wanted : List ℕ → Mode → RingPort → Result Seen FrameFault → Wants
wanted own mode x seen = of_ring.wanted own mode None x seen
