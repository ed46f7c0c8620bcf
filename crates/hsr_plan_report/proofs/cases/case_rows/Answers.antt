use Rattle.std.proofs.Common.{rules, ◌<◌, ℕ, length}
use Rattle.std.proofs.lemmas.List.{get_or_default}
use Rattle.hsr_plan_report.proofs.Listing.{cases_more}
use Rattle.hsr_plan_report.proofs.cases.case_rows.Goals as goal

pub loop-played-preserved : goal.loop-played-preserved
loop-played-preserved c =
    let n : ℕ = c.loop-played.played-index in
    let below : n < length c.args.plays.now = search rules in
    cases_more c.args.naming.now c.args.plays.now n _ c.loop-played.rows.items c.push_row.new.rows.items (λ d. get_or_default c.args.plays.now n d _ below) c.in_ok-push_row.ensures
    c.loop-played.invariant
