use Rattle.std.proofs.Common.{rules, ◌≡◌, None}
use Rattle.hsr_network_laws.specs.Network.{IsNetwork}
use Rattle.hsr_routes.specs.Networks.{AreGoingRound, HaveOwnAddresses}
use Rattle.hsr_certify.specs.Firsts.{first_step}
use Rattle.hsr_certify.specs.Tested.{Subject}
use Rattle.hsr_certify.specs.Tests.{is_accepted}
use Rattle.hsr_certify.specs.Verdict.{subject_in}
use Rattle.hsr_certify.proofs.certifying.check_welcome.Goals as goal

pub returns-in-None-clause-welcome : goal.returns-in-None-clause-welcome
returns-in-None-clause-welcome c =
    let t : Subject = subject_in c.args.topology.now c.args.room c.args.table c.args.orders.now c.args.spans.now in
    let round : AreGoingRound t.net = search rules in
    let own : HaveOwnAddresses t.net = search rules in
    let joined : AreGoingRound t.net → HaveOwnAddresses t.net → IsNetwork t.net = search rules in
    let accepted : first_step (is_accepted t.net t.orders t.spans) 0 t.orders ≡ None = search rules in
    record { begun = c.requires; round = round; own = own; network = joined round own; accepted = accepted }
