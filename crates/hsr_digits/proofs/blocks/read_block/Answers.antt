use Rattle.std.proofs.Common.{ℕ, List, ◌≡◌, length, arith}
use Rattle.std.proofs.lemmas.Simd.{below_from_Fits, chunk-fits}
use Rattle.std.specs.Int.{w8}
use Rattle.hsr_digits.proofs.TwoDigits.{block_read, block_seen}
use Rattle.hsr_digits.proofs.blocks.read_block.Goals as goal

pub returns-clause-seen : goal.returns-clause-seen
returns-clause-seen c =
    let digits : List ℕ = c.args.digits.now in
    rw (c.marked_values-first.ensures, c.marked_values-second.ensures)
    (block_seen digits c.args.seen c.requires.digits c.fits-seen.0 (below_from_Fits w8 c.args.seen c.fits-seen.1)
    (below_from_Fits w8 _ (chunk-fits w8 0 16 digits c.type_inv.digits)) (below_from_Fits w8 _ (chunk-fits w8 16 16 digits c.type_inv.digits)))

pub returns-clause-read : goal.returns-clause-read
returns-clause-read c =
    let digits : List ℕ = c.args.digits.now in
    let long : length c.octets_of.result ≡ 16 = omega arith in
    block_read c.args.octets.now digits c.octets_of.result c.requires.room c.requires.digits long (λ i. (c.type_inv.digits i).fits)
    (rw (c.marked_values-first.ensures, c.marked_values-second.ensures) at c.octets_of.ensures)
