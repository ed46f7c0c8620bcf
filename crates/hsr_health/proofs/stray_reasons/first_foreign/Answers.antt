use Rattle.std.proofs.Common.{◌∙◌, arith, sym}
use Rattle.hsr_health.specs.Told.{is_foreign}
use Rattle.hsr_health.proofs.Finding.{find_here, find_none_more}
use Rattle.hsr_health.proofs.stray_reasons.first_foreign.Goals as goal

pub returns-then-is_foreign : goal.returns-then-is_foreign
returns-then-is_foreign c =
    sym (find_here is_foreign c.args.strays.now c.loop-stray.stray-index c.stray-item.result c.stray-item.result (omega arith) c.stray-item.is (sym c.is_foreign.ensures ∙ c.if-is_foreign.true) c.loop-stray.invariant)

pub loop-stray-preserved : goal.loop-stray-preserved
loop-stray-preserved c =
    find_none_more is_foreign c.args.strays.now c.loop-stray.stray-index c.stray-item.result c.stray-item.result (omega arith) c.stray-item.is (sym c.is_foreign.ensures ∙ c.if-is_foreign.false) c.loop-stray.invariant
