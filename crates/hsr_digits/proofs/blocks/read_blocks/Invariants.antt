use Rattle.std.proofs.Common.{◌≡◌, ◌*◌, take}
use Rattle.std.specs.Char.{is_ascii_hexdigit}
use Rattle.std.specs.List.{list_all}
use Rattle.hsr_digits.specs.Values.{is_marked}
use Rattle.hsr_digits.proofs.Overlaps.{PairsRead}
use Rattle.hsr_digits.proofs.blocks.read_blocks.Given as goal

abbrev pub invariant-loop-block : goal.invariant-loop-block
invariant-loop-block l =
    (list_all is_marked l.seen ≡ list_all is_ascii_hexdigit (take (2 * (16 * l.block)) l.digits)) × PairsRead l.digits l.octets (16 * l.block)
