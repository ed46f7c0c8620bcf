use Rattle.std.proofs.Common.{ℕ, List, ◌∙◌, ap, arith, refl}
use Rattle.std.proofs.lemmas.Simd.{SwzOk-from_below, swz_l}
use Rattle.std.specs.Int.{w8}
use Rattle.hex.specs.Hex.{upper_digits}
use Rattle.hsr_digits.proofs.Lanes.{swizzled}
use Rattle.hsr_digits.proofs.blocks.digits_of.Goals as goal

pub swizzle : goal.swizzle
swizzle c =
    let long = c.fits-values.0 in
    SwzOk-from_below w8 16 1 16 0 c.args.values refl (omega (arith, long)) c.requires

pub returns : goal.returns
returns c =
    let long = c.fits-values.0 in
    ap (λ (l : List ℕ). swz_l w8 16 l 0 c.args.values) c.table.ensures ∙ swizzled upper_digits 0 c.args.values (omega (arith, long)) c.requires
