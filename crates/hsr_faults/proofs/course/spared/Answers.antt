use Rattle.std.proofs.Common.{rules, ◌≡◌, subst}
use Rattle.hsr_routes.specs.Routes.{bare}
use Rattle.hsr_faults.specs.Course.{AreLed}
use Rattle.hsr_faults.specs.declared.nodes.Nodes.{Nodes}
use Rattle.hsr_faults.proofs.course.spared.Goals as goal

pub returns-then-eq-clause-led : goal.returns-then-eq-clause-led
returns-then-eq-clause-led c =
    let same : c.led_to.result ≡ c.args.led = search rules in
    subst (λ (nodes : Nodes). AreLed (bare c.args.topology.now.places c.args.topology.now.links) c.args.frame.now c.with_link-more.result.words nodes.bits) same c.led_to.ensures
