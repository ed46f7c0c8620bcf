use Rattle.std.proofs.Common.{◌≡◌, ◌&&◌, drop}
use Rattle.std.specs.Char.{is_ascii_hexdigit}
use Rattle.std.specs.List.{list_all}
use Rattle.hsr_digits.proofs.pairs.each_is_digit.Given as goal

abbrev pub invariant-loop-digit : goal.invariant-loop-digit
invariant-loop-digit l = (l.all && list_all is_ascii_hexdigit (drop l.digit-index l.digits)) ≡ list_all is_ascii_hexdigit l.digits
