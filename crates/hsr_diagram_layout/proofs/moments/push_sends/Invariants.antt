use Rattle.std.proofs.Common.{◌≡◌, ◌++◌, take}
use Rattle.std.specs.List.{flat_map}
use Rattle.hsr_diagram_layout.specs.Moments.{sent_moments}
use Rattle.hsr_diagram_layout.proofs.moments.push_sends.Given as goal

abbrev pub invariant-loop-sent : goal.invariant-loop-sent
invariant-loop-sent l = l.moments.items ≡ l.initial.moments.items ++ flat_map sent_moments (take l.sent-index l.sends)
