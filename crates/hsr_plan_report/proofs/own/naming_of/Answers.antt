use Rattle.std.proofs.Common.{◌∙◌, ap, map}
use Rattle.hsr_timeline.specs.Fronts.{lists_of}
use Rattle.hsr_plan_network.specs.Nodes.{Node}
use Rattle.hsr_plan_schedule.specs.Meaning.{Meaning}
use Rattle.hsr_plan_report.proofs.Called.{called_so}
use Rattle.hsr_plan_report.proofs.own.naming_of.Goals as goal

pub returns : goal.returns
returns c =
    let nodes = c.as_slice.ensures.value ∙ ap (λ (m : Meaning). m.nodes) c.meaning.view_is in
    called_so c.args.closed.now.run c.args.meaning.now _ _ c.in_ok-names.names c.in_ok-names.ensures
    (c.in_ok-nodes.ensures ∙ ap (map (λ (node : Node). node.name)) nodes)
    (ap (map (λ list. lists_of list.items)) c.as_slice-2.ensures.value ∙ c.in_ok-streams.ensures)
