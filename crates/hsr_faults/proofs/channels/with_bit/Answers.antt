use Rattle.std.proofs.Common.{ap, ◌∙◌, ◌==◌, sym, Bool}
use Rattle.std.specs.Prelude.{if◌then◌else◌}
use Rattle.hsr_bitset.specs.Numbers.{has_bit}
use Rattle.hsr_bitset.proofs.Bits.{bit_set, bit_cleared}
use Rattle.hsr_faults.proofs.channels.with_bit.Goals as goal

pub returns-then-is_in : goal.returns-then-is_in
returns-then-is_in c = λ i below.
    bit_set c.args.word c.args.bit i c.requires ∙ ap (λ (b : Bool). if i == c.args.bit then b else has_bit c.args.word i) (sym c.if-is_in.true)

pub returns-else-is_in : goal.returns-else-is_in
returns-else-is_in c = λ i below.
    bit_cleared c.args.word c.args.bit i c.requires below ∙ ap (λ (b : Bool). if i == c.args.bit then b else has_bit c.args.word i) (sym c.if-is_in.false)
