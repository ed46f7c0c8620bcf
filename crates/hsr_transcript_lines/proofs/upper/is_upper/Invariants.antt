use Rattle.std.proofs.Common.{◌≡◌, ◌&&◌, drop}
use Rattle.hsr_transcript_lines.specs.Exact.{is_upper}
use Rattle.hsr_transcript_lines.proofs.upper.is_upper.Given as goal

abbrev pub invariant-loop-b : goal.invariant-loop-b
invariant-loop-b l = (l.all && is_upper (drop l.b-index l.word)) ≡ is_upper l.word
