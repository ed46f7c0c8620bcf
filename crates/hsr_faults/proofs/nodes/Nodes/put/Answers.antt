use Rattle.std.proofs.Common.{ap, ◌∙◌, ◌==◌, sym, Bool, ℕ}
use Rattle.std.specs.Prelude.{if◌then◌else◌}
use Rattle.hsr_bitset.specs.Numbers.{has_bit}
use Rattle.hsr_bitset.proofs.Bits.{bit_set, bit_cleared}
use Rattle.hsr_faults.proofs.nodes.Nodes.put.Goals as goal
use Rattle.hsr_faults.proofs.nodes.Nodes.put.Goals.{then-is_in, else-is_in}

pub returns : goal.returns
returns c = λ k below.
    elim c.if-is_in.branch [
      | then-is_in w ↦ ap (λ (bits : ℕ). has_bit bits k) w.self-is ∙ (bit_set c.args.self.now.bits c.args.node k c.requires ∙ ap (λ (b : Bool). if k == c.args.node then b else has_bit c.args.self.now.bits k) (sym w.if-is_in.true))
      | else-is_in w ↦ ap (λ (bits : ℕ). has_bit bits k) w.self-is ∙ (bit_cleared c.args.self.now.bits c.args.node k c.requires below ∙ ap (λ (b : Bool). if k == c.args.node then b else has_bit c.args.self.now.bits k) (sym w.if-is_in.false))
    ]
