use Rattle.hsr_digits.proofs.HexDigits.{Reads}
use Rattle.hsr_digits.proofs.pairs.fill_octets.Given as goal

abbrev pub invariant-loop-i : goal.invariant-loop-i
invariant-loop-i l = Reads l.digits l.octets l.i
