use Rattle.std.proofs.Common.{take}
use Rattle.std.proofs.lemmas.List.{length-take-le}
use Rattle.hsr_digits.proofs.Overlaps.{both_halves}
use Rattle.hsr_digits.proofs.blocks.write_block.Goals as goal

pub returns : goal.returns
returns c =
    both_halves (take 16 c.args.octets.now) c.args.digits.now c.halves_of_digits.result.0 c.halves_of_digits.result.1
    (length-take-le 16 c.args.octets.now c.requires.octets) c.requires.room c.halves_of_digits.ensures.front c.halves_of_digits.ensures.back
