use Rattle.std.specs.Prelude.{MatchOption}
use Rattle.hsr_audit.proofs.Losses.{IsOnlyLoss, NoLossBelow}
use Rattle.hsr_audit.proofs.round.loses_on_one.Given as goal

abbrev pub invariant-loop-l : goal.invariant-loop-l
invariant-loop-l g l = MatchOption l.lossy (NoLossBelow l.closed.run l.l) (λ only. IsOnlyLoss l.closed.run l.l only)
