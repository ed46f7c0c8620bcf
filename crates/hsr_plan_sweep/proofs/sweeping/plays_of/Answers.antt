use Rattle.std.proofs.Common.{◌≡◌, ◌∙◌, ap, ap₂, ℕ, List}
use Rattle.hsr_topology.specs.declared.end.End.{End}
use Rattle.hsr_plan_network.specs.Nodes.{Node}
use Rattle.hsr_plan_schedule.specs.Meaning.{Meaning}
use Rattle.hsr_plan_sweep.specs.Refusals.{cases_in, ground}
use Rattle.hsr_plan_sweep.specs.Variants.{Ground, plan_in}
use Rattle.hsr_plan_sweep.proofs.Plays.{unplayed_there}
use Rattle.hsr_plan_sweep.proofs.sweeping.plays_of.Goals as goal

pub returns-clause-none : goal.returns-clause-none
returns-clause-none g c =
    let at = c.args.asked.at in
    let is = c.meaning.view_is in
    let nodes = c.as_slice.ensures.value ∙ ap (λ (m : Meaning). m.nodes) is in
    let links = c.links.ensures.value ∙ ap (λ (m : Meaning). m.topology.links) is in
    let among : List Node → List (List End) → Ground = λ ns ls. record { at = at; nodes = ns; links = ls } in
    unplayed_there c.play_all.result (plan_in c.args.asked.without_events c.args.text.now) (among c.as_slice.result.now c.links.result.now) (ground at c.args.meaning.now) c.as_slice-2.result.now
    (cases_in c.args.asked c.args.meaning.now) (ap₂ among nodes links) (c.as_slice-2.ensures.value ∙ (c.in-Ok.ensures ∙ ap (cases_in c.args.asked) is)) c.play_all.ensures.none
