use Rattle.std.proofs.Common.{◌≡◌, ◌++◌, drop}
use Rattle.std.specs.Prelude.{encode_utf8_all}
use Rattle.hsr_page.specs.Numbers.{grouped_digits}
use Rattle.hsr_page.proofs.numbers.put_groups.Given as goal

abbrev pub invariant-loop-i : goal.invariant-loop-i
invariant-loop-i l = l.text.items ++ encode_utf8_all (grouped_digits (drop l.i l.digits)) ≡ l.initial.text.items ++ encode_utf8_all (grouped_digits l.digits)
