use Rattle.std.proofs.Common.{◌≡◌, ◌++◌}
use Rattle.std.specs.Prelude.{encode_utf8_all}
use Rattle.hsr_page.specs.Hidden.{seen}
use Rattle.hsr_page.specs.Spelling.{spelled}
use Rattle.hsr_page.proofs.spelling.put_seen.Given as goal

abbrev pub invariant-loop-c : goal.invariant-loop-c
invariant-loop-c l = l.text.items ≡ l.initial.text.items ++ encode_utf8_all (spelled l.syntax (seen l.yielded))
