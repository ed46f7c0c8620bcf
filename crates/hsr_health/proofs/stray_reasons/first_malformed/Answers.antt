use Rattle.std.proofs.Common.{◌∙◌, arith, sym}
use Rattle.hsr_health.specs.Told.{is_malformed}
use Rattle.hsr_health.proofs.Finding.{find_here, find_none_more}
use Rattle.hsr_health.proofs.stray_reasons.first_malformed.Goals as goal

pub returns-then-is_malformed : goal.returns-then-is_malformed
returns-then-is_malformed c =
    sym (find_here is_malformed c.args.strays.now c.loop-stray.stray-index c.stray-item.result c.stray-item.result (omega arith) c.stray-item.is (sym c.is_malformed.ensures ∙ c.if-is_malformed.true) c.loop-stray.invariant)

pub loop-stray-preserved : goal.loop-stray-preserved
loop-stray-preserved c =
    find_none_more is_malformed c.args.strays.now c.loop-stray.stray-index c.stray-item.result c.stray-item.result (omega arith) c.stray-item.is (sym c.is_malformed.ensures ∙ c.if-is_malformed.false) c.loop-stray.invariant
