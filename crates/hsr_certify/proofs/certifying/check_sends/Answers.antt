use Rattle.std.proofs.Common.{rules, ◌≡◌, None, length}
use Rattle.hsr_plays.specs.Conditions.{is_covered_send}
use Rattle.hsr_certify.specs.Firsts.{first_send}
use Rattle.hsr_certify.specs.Served.{ServedBelow}
use Rattle.hsr_certify.specs.Tested.{Subject}
use Rattle.hsr_certify.specs.Tests.{has_room}
use Rattle.hsr_certify.specs.Verdict.{subject_in}
use Rattle.hsr_certify.proofs.Stages.{all_passed}
use Rattle.hsr_certify.proofs.certifying.check_sends.Goals as goal

pub returns-in-None-clause-passed : goal.returns-in-None-clause-passed
returns-in-None-clause-passed c =
    let t : Subject = subject_in c.args.topology.now c.args.room c.args.table c.args.orders.now c.args.spans.now in
    let covered : first_send (is_covered_send t.net) t.spans ≡ None = search rules in
    let room : first_send (has_room t.room t.spans) t.spans ≡ None = search rules in
    let served : ServedBelow t.net t.orders t.spans (length t.spans) = search rules in
    all_passed t c.requires.kept covered room served
