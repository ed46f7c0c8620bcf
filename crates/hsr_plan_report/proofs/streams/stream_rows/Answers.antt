use Rattle.std.proofs.Common.{rules, ◌≡◌, length, subst}
use Rattle.hsr_plan_report.specs.StreamRows.{AreStreamRows, Sends}
use Rattle.hsr_plan_report.proofs.streams.stream_rows.Goals as goal

pub returns : goal.returns
returns g c =
    let s : Sends = record { audience = c.args.sendings.audience.now; run = c.args.closed.now.run; streams = c.args.sendings.streams.now } in
    let same : length c.as_slice-streams.result.now ≡ length c.args.plan.now.streams = search rules in
    subst (λ last. AreStreamRows s last c.in_ok-rows.rows.items) same c.in_ok-rows.ensures
