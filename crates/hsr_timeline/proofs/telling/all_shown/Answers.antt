use Rattle.std.proofs.Common.{sym, ◌∙◌}
use Rattle.hsr_timeline.specs.Fronts.{lists_of}
use Rattle.hsr_timeline.specs.Stamps.{at_spot}
use Rattle.hsr_timeline.proofs.Showing.{none_shown}
use Rattle.hsr_timeline.proofs.telling.all_shown.Goals as goal

pub returns-in_default-clause-circle : goal.returns-in_default-clause-circle
returns-in_default-clause-circle c = λ rows shown.
    none_shown (at_spot (lists_of c.args.stamps.now)) c.args.hops.now c.loop-i.i _ c.loop-i-test.true (sym c.shown_at.ensures ∙ c.in_default.is) rows shown
