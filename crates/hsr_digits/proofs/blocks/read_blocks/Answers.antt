use Rattle.std.proofs.Common.{ℕ, List, ◌≡◌, ◌*◌, ◌+◌, ◌-◌, ◌∙◌, ◌&&◌, arith, drop, length, take}
use Rattle.std.proofs.lemmas.List.{take_rest}
use Rattle.std.specs.Char.{is_ascii_hexdigit}
use Rattle.std.specs.List.{list_all}
use Rattle.hsr_digits.specs.Values.{is_marked}
use Rattle.hsr_digits.proofs.Overlaps.{PairsRead, finished, mid_long, pairs_behind, seen_all, seen_more}
use Rattle.hsr_digits.proofs.blocks.read_blocks.Goals as goal
use borrow.Rule.Slice.PartMut.{put_mid}

pub loop-block-preserved : goal.loop-block-preserved
loop-block-preserved c =
    let digits : List ℕ = c.args.digits.now in
    let at : ℕ = 16 * c.loop-block.block in
    let next : ℕ = 16 * (c.loop-block.block + 1) in
    let seen : list_all is_marked c.read_block-seen.result ≡ (list_all is_marked c.loop-block.seen && list_all is_ascii_hexdigit (take 32 (drop (2 * at) digits)))
    = rw (take_rest digits (2 * at)) at c.read_block-seen.ensures.seen in
    let read : PairsRead (drop (2 * at) digits) c.read_block-seen.new.octets 16 = rw (take_rest digits (2 * at)) at c.read_block-seen.ensures.read in (
      seen_more digits _ _ at next (omega arith) seen c.loop-block.invariant.0,
      pairs_behind digits c.loop-block.octets c.read_block-seen.new.octets at at next (omega arith) (omega arith)
          (omega (arith, c.div_ceil-block-end.ensures)) c.loop-block.invariant.1 read,
    )

pub returns : goal.returns
returns c =
    let digits : List ℕ = c.args.digits.now in
    let last : ℕ = length c.args.octets.now - 16 in
    let whole : ℕ = 16 * c.loop-block.block in
    let octets : List ℕ = put_mid last (length c.loop-block.octets - last) c.loop-block.octets c.read_block-seen-2.new.octets in
    let seen : list_all is_marked c.read_block-seen-2.result ≡ (list_all is_marked c.loop-block.seen && list_all is_ascii_hexdigit (take 32 (drop (2 * last) digits)))
    = rw (take_rest digits (2 * last)) at c.read_block-seen-2.ensures.seen in
    let read : PairsRead (drop (2 * last) digits) c.read_block-seen-2.new.octets 16 = rw (take_rest digits (2 * last)) at c.read_block-seen-2.ensures.read in
    let kept : length octets ≡ length c.loop-block.octets = mid_long last c.loop-block.octets c.read_block-seen-2.new.octets (omega arith) (omega arith) in
    finished digits octets c.are_marked.result (omega (arith, kept))
    (c.are_marked.ensures ∙ seen_all digits _ _ last whole (omega (arith, c.div_ceil-block-end.ensures)) (omega arith) seen c.loop-block.invariant.0)
    (pairs_behind digits c.loop-block.octets c.read_block-seen-2.new.octets last whole (length octets)
    (omega (arith, c.div_ceil-block-end.ensures)) (omega (arith, kept)) (omega (arith, kept)) c.loop-block.invariant.1 read)
