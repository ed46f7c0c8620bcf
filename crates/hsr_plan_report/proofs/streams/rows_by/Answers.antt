use Rattle.std.proofs.Common.{ap, length, subst}
use Rattle.hsr_plan_sweep.specs.Audience.{Audience}
use Rattle.hsr_plan_report.specs.StreamRows.{HaveNoted, Sends}
use Rattle.hsr_plan_report.proofs.Rows.{rows_noted}
use Rattle.hsr_plan_report.proofs.streams.rows_by.Goals as goal

pub returns : goal.returns
returns g c =
    let s : Sends = record { audience = c.args.sendings.audience.now; run = c.args.closed.now.run; streams = c.args.sendings.streams.now } in
    let all = c.in_ok-all.all in
    let rows = c.in_ok-rows.rows.items in
    let nodes = ap (λ (a : Audience). length a.nodes) c.audience.view_is in
    rows_noted s (length c.args.streams.now) all rows c.in_ok-all.ensures (subst (λ n. HaveNoted all n (length c.args.streams.now) rows) nodes c.in_ok-rows.ensures)
