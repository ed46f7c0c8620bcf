use Rattle.hsr_audit.proofs.Timing.{are_sends}
use Rattle.hsr_audit.proofs.moments.send_moments.Goals as goal

pub returns-clause-sends : goal.returns-clause-sends
returns-clause-sends g c =
    are_sends c.args.closed.now.run c.in_ok-sends.sends.items c.sort.new.moments.items c.in_ok-sends.ensures.sends c.sort.ensures.same c.sort.ensures.rise
