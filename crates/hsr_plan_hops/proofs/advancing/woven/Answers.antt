use Rattle.std.proofs.Common.{◌∙◌, ap, lit<}
use Rattle.hsr_plan_schedule.specs.Meaning.{Meaning}
use Rattle.hsr_plan_hops.specs.Flights.{no_channels}
use Rattle.hsr_plan_hops.proofs.Begun.{begun_first}
use Rattle.hsr_plan_hops.proofs.advancing.woven.Goals as goal

pub does_all-requires : goal.does_all-requires
does_all-requires g c =
    let h1 = c.told.view_is in
    let h2 = c.as_slice.ensures.value in
    let h3 = c.in_ok-new.ensures ∙ ap no_channels (c.links.ensures.value ∙ ap (λ (m : Meaning). m.topology.links) h1) in
    let h4 = c.new-2.ensures.items in
    let h5 = c.in_ok-world_of.ensures in (
      lit< tt,
      record {
        begun = begun_first g.row.C c.args.transfer c.args.told.now c.as_slice.result.now c.in_ok-new.field-0 c.in_ok-world_of.field-0 c.new-2.result.items
            (h2 ∙ ap (λ (m : Meaning). m.orders) h1) h3 h5 h4;
        settled = tt;
      },
    )
