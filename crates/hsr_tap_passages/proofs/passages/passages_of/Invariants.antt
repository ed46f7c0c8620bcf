use Rattle.std.proofs.Common.{◌≡◌, [], drop}
use Rattle.hsr_tap_passages.specs.Shown.{passages_from}
use Rattle.hsr_tap_passages.proofs.passages.passages_of.Given as goal

-- what is left answers for all
abbrev pub invariant-loop-packet : goal.invariant-loop-packet
invariant-loop-packet l =
    passages_from l.times l.start l.end l.taps l.passages.items (drop l.packet-index l.packets) ≡ passages_from l.times l.start l.end l.taps [] l.packets
