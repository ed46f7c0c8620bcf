use Rattle.std.proofs.Common.{◌≡◌}
use Rattle.hsr_stimuli.specs.Playing.{after_sends}
use Rattle.hsr_stimuli.proofs.playing.send_often.Given as goal

abbrev pub invariant-loop-sent : goal.invariant-loop-sent
invariant-loop-sent g l = l.node ≡ after_sends g.row.C l.initial.node l.sent
