use Rattle.std.proofs.Common.{◌∙◌, List, ap, length}
use Rattle.hsr_node.specs.declared.place.Place.{Place}
use Rattle.hsr_plan_report.specs.Outages.{missed_of}
use Rattle.hsr_plan_report.proofs.outages.push_row.Goals as goal

pub returns : goal.returns
returns c =
    let outage = c.in_ok-outage.outage in
    let row = c.in_ok-row.row in
    let missed = c.in_ok-row.ensures.missed ∙ ap (λ (places : List Place). missed_of (length places) outage.cuts.items) c.requires in
    (row, record { outage = outage; is = c.in_ok-outage.ensures; sends = c.in_ok-row.ensures.sends; missed = missed }, c.in_ok-push.ensures.items)
