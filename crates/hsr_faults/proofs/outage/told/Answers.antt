use Rattle.std.proofs.Common.{rules, ◌≤◌, length}
use Rattle.hsr_faults.proofs.Lining.{cuts_all}
use Rattle.hsr_faults.proofs.outage.told.Goals as goal

pub returns-clause-cuts : goal.returns-clause-cuts
returns-clause-cuts c =
    let most : length c.args.groups.now ≤ c.loop-j.j = search rules in
    cuts_all c.args.groups.now c.args.of.now c.args.counts.now c.args.missed.now c.loop-j.j c.all_cut.result c.loop-j.cuts.items c.requires most c.loop-j.invariant c.all_cut.ensures
