use Rattle.std.proofs.Common.{rules, ◌≡◌, ◌+◌, ◌<◌, ℕ, Bool, cond, length}
use Rattle.std.proofs.lemmas.List.{get_or_default}
use Rattle.hsr_plan_outages.specs.Outages.{TellsLines}
use Rattle.hsr_plan_outages.proofs.Telling.{none_more, one_more, told_more}
use Rattle.hsr_plan_outages.proofs.outages.put_lines.Goals as goal
use Rattle.hsr_plan_outages.proofs.outages.put_lines.Goals.{then-branch, else-branch}

pub loop-fault-preserved : goal.loop-fault-preserved
loop-fault-preserved c =
    let n : ℕ = c.loop-fault.fault-index in
    let before : ℕ = c.loop-fault.cutting in
    let after : ℕ = c.if-branch.cutting in
    let cuts : Bool = c.in_ok-put_next.field-0 in
    let below : n < length c.args.faults.now = search rules in
    let go : after ≡ before + cond {A = ℕ} cuts 1 0 → TellsLines c.args.nodes.now c.args.sweep.now c.args.faults.now (n + 1) c.args.text.now.items c.put_next.new.text.items after =
    λ is. told_more c.args.nodes.now c.args.sweep.now c.args.faults.now n _ c.args.text.now.items c.loop-fault.text.items c.put_next.new.text.items before after cuts
    (λ d. get_or_default c.args.faults.now n d _ below) is c.in_ok-put_next.ensures c.loop-fault.invariant in
    elim c.if-branch.branch [
      | then-branch w ↦
          let l = w.cutting-is in
          let more : after ≡ before + 1 = cc in
          go (one_more before after cuts w.if-branch.true more)
      | else-branch w ↦
          let l = w.cutting-is in
          let same : after ≡ before = cc in
          go (none_more before after cuts w.if-branch.false same)
    ]
