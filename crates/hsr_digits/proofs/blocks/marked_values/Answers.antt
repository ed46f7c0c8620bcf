use Rattle.std.proofs.Common.{refl, sym}
use Rattle.std.proofs.lemmas.Simd.{pick_l_whole}
use Rattle.hsr_digits.proofs.blocks.marked_values.Goals as goal

pub returns : goal.returns
returns c =
    let whole = sym (pick_l_whole 0 c.args.characters 16 c.fits-characters.0) in
    rw whole refl
