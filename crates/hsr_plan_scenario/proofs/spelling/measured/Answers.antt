use Rattle.std.specs.Prelude.{◌≡◌, length}
use Rattle.std.proofs.Common.{rules}
use Rattle.hsr_plan_scenario.proofs.Growing.{measured_all}
use Rattle.hsr_plan_scenario.proofs.spelling.measured.Goals as goal

pub returns : goal.returns
returns c =
    let long : c.len.result ≡ length c.in_ok-begun.field-0.items = search rules in
    measured_all c.args.outline.now c.args.meaning.now c.in_ok-begun.field-0.items _ _ _ _ _ c.in_ok-begun.ensures long
    c.saturating_add-front.ensures c.in_ok-steps.ensures c.saturating_add.ensures
