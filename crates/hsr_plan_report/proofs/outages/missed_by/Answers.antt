use Rattle.std.proofs.Common.{◌+◌, ◌-◌, ◌^◌, List, ap, arith, drop_of_length-le}
use Rattle.std.specs.Prelude.{min}
use Rattle.hsr_faults.specs.declared.outage.Cut.{Cut}
use Rattle.hsr_plan_report.specs.Outages.{sends_from}
use Rattle.hsr_plan_report.proofs.outages.missed_by.Goals as goal

pub returns : goal.returns
returns c =
    let cuts = c.args.cuts.now in
    let none = drop_of_length-le cuts c.loop-cut-test.false in
    let all = ap (λ (rest : List Cut). min (c.loop-cut.missed + sends_from c.args.node rest) (2 ^ 64 - 1)) none in
    let fits = c.loop-cut.invariant.fits in
    let sum = c.loop-cut.invariant.sum in
    omega (arith, fits, sum, all)
