use Rattle.std.proofs.Common.{rules, ◌<◌, ℕ, length}
use Rattle.std.proofs.lemmas.List.{get_or_default}
use Rattle.hsr_plan_report.proofs.Listing.{outages_more}
use Rattle.hsr_plan_report.proofs.outages.rows_of.Goals as goal

pub loop-fault-preserved : goal.loop-fault-preserved
loop-fault-preserved c =
    let n : ℕ = c.loop-fault.fault-index in
    let below : n < length c.args.faults.now = search rules in
    outages_more c.args.sweep.now c.args.faults.now n _ c.loop-fault.rows.items c.push_row.new.rows.items (λ d. get_or_default c.args.faults.now n d _ below)
    c.in_ok-push_row.ensures c.loop-fault.invariant
