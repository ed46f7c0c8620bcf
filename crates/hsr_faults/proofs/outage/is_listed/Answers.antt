use Rattle.std.proofs.Common.{rules, ◌≤◌, arith, length}
use Rattle.hsr_faults.specs.CutOff.{IsListed}
use Rattle.hsr_faults.specs.declared.outage.Cut.{Cut}
use Rattle.hsr_faults.proofs.outage.is_listed.Goals as goal

pub returns : goal.returns
returns c =
    let most : length c.args.cuts.now ≤ c.loop-at.at = search rules in
    let none : Cut = record { sender = 0; nodes = record { bits = 0 }; sends = 0 } in (
      λ h. absurd cc,
      λ (l : IsListed c.args.cuts.now c.args.sender c.args.nodes.bits).
          let low = l.below in
          absurd (c.loop-at.invariant l.at none (omega (arith, low, most)) (l.sender none) (l.nodes none)),
    )
