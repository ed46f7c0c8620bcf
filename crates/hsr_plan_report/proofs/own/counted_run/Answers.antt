use Rattle.std.proofs.Common.{rules, ◌≡◌, ◌∙◌, ℕ, List, Option, ap, length, subst}
use Rattle.hsr_plan_network.specs.Nodes.{Node}
use Rattle.hsr_plan_text.specs.Plan.{Plan, Stream}
use Rattle.hsr_plan_text.specs.declared.plan.Event.{Event}
use Rattle.hsr_plan_schedule.specs.Meaning.{Meaning}
use Rattle.hsr_plan_sweep.specs.Audience.{Audience}
use Rattle.hsr_plan_sweep.specs.Runs.{audience}
use Rattle.hsr_plan_report.specs.Own.{streams_in}
use Rattle.hsr_plan_report.specs.StreamRows.{AreStreamRows}
use Rattle.hsr_plan_report.proofs.own.counted_run.Goals as goal

pub returns-clause-streams : goal.returns-clause-streams
returns-clause-streams c =
    let plan = c.args.plan.now in
    let m = c.args.meaning.now in
    let run = c.args.closed.now.run in
    let nodes = c.as_slice.ensures.value ∙ ap (λ (meant : Meaning). meant.nodes) c.meaning.view_is in
    let streams = c.as_slice-2.ensures.value ∙ ap (λ (p : Plan). p.streams) c.plan.view_is in
    let events = c.as_slice-3.ensures.value ∙ ap (λ (p : Plan). p.events) c.plan.view_is in
    let one : Audience = record { nodes = c.as_slice.result.now; streams = c.as_slice-2.result.now; events = c.as_slice-3.result.now } in
    let all : one ≡ audience plan m =
    ap (λ (ns : List Node). record { nodes = ns; streams = c.as_slice-2.result.now; events = c.as_slice-3.result.now }) nodes
    ∙ ap (λ (ss : List Stream). record { nodes = m.nodes; streams = ss; events = c.as_slice-3.result.now }) streams
    ∙ ap (λ (es : List Event). record { nodes = m.nodes; streams = plan.streams; events = es }) events
    in
    let by_send : c.as_slice-8.result.now ≡ streams_in m run = search rules in
    let P : Audience → Type 0 = λ a. AreStreamRows (record { audience = a; run = run; streams = c.as_slice-8.result.now }) (length plan.streams) c.in_ok-streams-2.streams.items in
    let Q : List (Option ℕ) → Type 0 = λ s. AreStreamRows (record { audience = audience plan m; run = run; streams = s }) (length plan.streams) c.in_ok-streams-2.streams.items in
    subst Q by_send (subst P all c.in_ok-streams-2.ensures)
