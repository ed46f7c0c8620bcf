use Rattle.std.proofs.Common.{rules, ◌≡◌, ◌∙◌, length}
use Rattle.hsr_faults.specs.Sweep.{Swept}
use Rattle.hsr_routes.specs.Routes.{bare}
use Rattle.hsr_plan_outages.specs.Outages.{faults_for}
use Rattle.hsr_plan_outages.proofs.Telling.{told_all}
use Rattle.hsr_plan_outages.proofs.outages.put_outages.Goals as goal

pub returns : goal.returns
returns c =
    let net = bare c.args.topology.now.places c.args.topology.now.links in
    let swept : Swept = record { net = net; orders = c.args.orders.now; within = c.args.within } in
    let counted : c.len.result ≡ length c.as_slice.result.now = search rules in
    told_all c.args.nodes.now swept c.in_ok-sweep.sweep (faults_for c.args.at_once net) c.as_slice.result.now c.args.text.now.items c.put_lines.new.text.items c.put_last.new.text.items
    c.in_ok-cutting.cutting c.len.result c.in_ok-sweep.ensures (c.as_slice.ensures.value ∙ c.in_ok-faults.ensures) counted c.in_ok-cutting.ensures c.in_ok-put_last.ensures
