use Rattle.std.proofs.Common.{◌∙◌, ap, arith, subst}
use Rattle.std.proofs.lemmas.List.{take_all}
use Rattle.hsr_heard.specs.declared.heard.Heard.{Heard}
use Rattle.hsr_health.specs.Whole.{AreMore, life_put, lives_of}
use Rattle.hsr_health.specs.declared.counts.Counts.{Counts}
use Rattle.hsr_health.proofs.Living.{lives_more}
use Rattle.hsr_health.proofs.devices.count_lives.Goals as goal

pub loop-i-preserved : goal.loop-i-preserved
loop-i-preserved c =
    let old = c.loop-i.counts.items in
    let own = c.index-heard-i.result in
    lives_more c.args.of_copy.now c.args.heard.now c.loop-i.i own c.args.counts.now.items old c.count_heard.new.counts.items (omega (arith, c.loop-i-test.true)) c.count_heard.ensures.long
    (c.count_heard.ensures.counts ∙ ap (λ (x : Heard). life_put c.args.of_copy.now x old) c.index-heard-i.is) c.loop-i.invariant

pub returns-clause-lives : goal.returns-clause-lives
returns-clause-lives c =
    subst (λ l. AreMore (λ (own : Counts). own.lives) (lives_of c.args.of_copy.now l) c.args.counts.now.items c.loop-i.counts.items) (take_all c.loop-i.i c.args.heard.now (omega (arith, c.loop-i-test.false))) c.loop-i.invariant.lives
