use Rattle.std.proofs.Common.{◌≡◌, ◌++◌, drop}
use Rattle.hsr_timeline.specs.Fronts.{lists_of}
use Rattle.hsr_timeline.specs.Stamps.{at_spot}
use Rattle.hsr_diagram.specs.Sends.{sents, sents_from}
use Rattle.hsr_diagram.proofs.sending.sents.Given as goal

abbrev pub invariant-loop-i : goal.invariant-loop-i
invariant-loop-i l =
    l.list.items ++ sents_from (at_spot (lists_of l.stamps)) l.sends l.span l.i (drop l.i l.deliveries) ≡ sents (at_spot (lists_of l.stamps)) l.sends l.span l.deliveries
