use Rattle.std.proofs.Common.{◌∙◌, arith, sym}
use Rattle.hsr_health.proofs.Addressing.{part_lower, part_upper}
use Rattle.hsr_health.proofs.sources.halved.Goals as goal

pub returns-then-is_less-clause-part : goal.returns-then-is_less-clause-part
returns-then-is_less-clause-part c = λ rise is.
    part_upper c.args.macs.now c.args.number _ c.args.part.low c.args.part.high rise (omega arith) (omega arith) (λ own here. sym (c.is_less.ensures own here) ∙ c.if-is_less.true) is

pub returns-else-is_less-clause-part : goal.returns-else-is_less-clause-part
returns-else-is_less-clause-part c = λ rise is.
    part_lower c.args.macs.now c.args.number _ c.args.part.low c.args.part.high rise (omega arith) (omega arith) (omega arith) (λ own here. sym (c.is_less.ensures own here) ∙ c.if-is_less.false) is
