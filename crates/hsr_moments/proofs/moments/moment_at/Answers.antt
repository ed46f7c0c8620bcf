use Rattle.std.proofs.Common.{◌∙◌, List, ℕ, ap}
use Rattle.hsr_moments.specs.Recorded.{moment_in}
use Rattle.hsr_moments.proofs.Timing.{moment_is}
use Rattle.hsr_moments.proofs.moments.moment_at.Goals as goal

pub returns : goal.returns
returns g c =
    c.moment_in.ensures ∙ (ap (λ (ms : List (List ℕ)). moment_in ms c.args.here) c.requires ∙ moment_is c.args.closed.now.run c.args.here)
