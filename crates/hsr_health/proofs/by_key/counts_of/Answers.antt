use Rattle.std.proofs.Common.{[], arith, subst, sym, take}
use Rattle.std.proofs.lemmas.List.{length-take, take_all, take_more}
use Rattle.hsr_health.specs.ByKey.{AreCountsOf}
use Rattle.hsr_health.proofs.Keying.{most_so_far, none_yet}
use Rattle.hsr_health.proofs.by_key.counts_of.Goals as goal

pub loop-i-init : goal.loop-i-init
loop-i-init c = subst (AreCountsOf []) (sym c.new-counts.ensures.items) none_yet

pub loop-i-preserved : goal.loop-i-preserved
loop-i-preserved c =
    let sorted = c.args.sorted.now in
    let i = c.loop-i.i in
    subst (λ l. AreCountsOf l c.put_key.new.counts.items) (sym (take_more sorted i 0 (omega arith)))
    (c.in_ok-put_key.ensures (take i sorted) (omega (arith, length-take i sorted)) (most_so_far sorted i c.requires (omega arith)) c.loop-i.invariant)

pub returns : goal.returns
returns c = subst (λ l. AreCountsOf l c.loop-i.counts.items) (take_all c.loop-i.i c.args.sorted.now (omega arith)) c.loop-i.invariant
