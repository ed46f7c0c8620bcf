use Rattle.std.proofs.Common.{rules, ◌≡◌, None}
use Rattle.hsr_certify.specs.Firsts.{first_send}
use Rattle.hsr_certify.specs.Tested.{Subject}
use Rattle.hsr_certify.specs.Tests.{first_back, is_brief, is_uncrowded, is_unwrapped}
use Rattle.hsr_certify.specs.Verdict.{subject_in}
use Rattle.hsr_certify.proofs.certifying.check_kept.Goals as goal

pub returns-in-None-clause-kept : goal.returns-in-None-clause-kept
returns-in-None-clause-kept c =
    let t : Subject = subject_in c.args.topology.now c.args.room c.args.table c.args.orders.now c.args.spans.now in
    let not_back : first_back 0 0 t.orders ≡ None = search rules in
    let brief : first_send (is_brief t.orders) t.spans ≡ None = search rules in
    let uncrowded : first_send (is_uncrowded t.capacity t.spans) t.spans ≡ None = search rules in
    let unwrapped : first_send (is_unwrapped t.net t.spans) t.spans ≡ None = search rules in
    record { welcome = c.requires.welcome; not_back = not_back; brief = brief; uncrowded = uncrowded; unwrapped = unwrapped }
