use Rattle.std.proofs.Common.{◌≡◌, ◌*◌, ◌++◌, drop, take}
use Rattle.hex.specs.Hex.{encode_upper}
use Rattle.hsr_digits.proofs.pairs.write_each.Given as goal

abbrev pub invariant-loop-i : goal.invariant-loop-i
invariant-loop-i l = take (2 * l.i) l.digits ++ encode_upper (drop l.i l.octets) ≡ encode_upper l.octets
