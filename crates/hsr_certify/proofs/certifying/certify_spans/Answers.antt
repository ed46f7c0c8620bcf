use Rattle.std.proofs.Common.{rules, sym, subst}
use Rattle.hsr_certify.specs.Tested.{Subject}
use Rattle.hsr_certify.specs.Verdict.{IsKept, subject_in}
use Rattle.hsr_certify.specs.Standing.{Rise}
use Rattle.hsr_certify.proofs.Sending.{are_sent_in}
use Rattle.hsr_certify.proofs.Standing.{rise}
use Rattle.hsr_certify.proofs.certifying.certify_spans.Goals as goal

pub check_sends-requires-clause-sent : goal.check_sends-requires-clause-sent
check_sends-requires-clause-sent c =
    let t : Subject = subject_in c.args.topology.now c.args.room c.args.table c.args.orders.now c.args.spans.now in
    let kept : IsKept t = search rules in
    are_sent_in t.net c.args.within t.orders t.spans c.requires.spans kept.welcome.accepted

pub check_kept-requires-clause-rise : goal.check_kept-requires-clause-rise
check_kept-requires-clause-rise c = subst Rise (sym c.requires.spans) (rise c.args.within 0 0 c.args.orders.now)

pub check_sends-requires-clause-rise : goal.check_sends-requires-clause-rise
check_sends-requires-clause-rise c = subst Rise (sym c.requires.spans) (rise c.args.within 0 0 c.args.orders.now)
