use Rattle.std.proofs.Common.{rules, ◌≡◌}
use Rattle.hsr_audit.specs.Certificate.{certified}
use Rattle.hsr_audit.specs.Round.{IsClear}
use Rattle.hsr_audit.proofs.Clearing.{certified_so}
use Rattle.hsr_audit.proofs.ring.certify.Goals as goal

pub returns-clause-certified : goal.returns-clause-certified
returns-clause-certified g c =
    let clear : IsClear c.args.closed.now.run c.in_ok-macs.macs.items = search rules in
    let listed : c.in_ok-sends.sends.items ≡ certified c.args.closed.now.run c.in_ok-macs.macs.items = search rules in
    (certified_so c.args.closed.now.run c.in_ok-macs.macs.items c.in_ok-sends.sends.items (c.clear_macs.ensures.finished.wired, c.clear_macs.ensures.finished.closed) c.exactly_once.ensures c.once_is_complete.ensures clear listed).0

pub returns-clause-complete : goal.returns-clause-complete
returns-clause-complete g c =
    let clear : IsClear c.args.closed.now.run c.in_ok-macs.macs.items = search rules in
    let listed : c.in_ok-sends.sends.items ≡ certified c.args.closed.now.run c.in_ok-macs.macs.items = search rules in
    (certified_so c.args.closed.now.run c.in_ok-macs.macs.items c.in_ok-sends.sends.items (c.clear_macs.ensures.finished.wired, c.clear_macs.ensures.finished.closed) c.exactly_once.ensures c.once_is_complete.ensures clear listed).1
