use Rattle.std.proofs.Common.{◌≡◌, ◌*◌, take, true}
use Rattle.hsr_transcript_lines.specs.Exact.{is_upper}
use Rattle.hsr_transcript_lines.proofs.upper.are_blocks_upper.Given as goal

abbrev pub invariant-loop-block : goal.invariant-loop-block
invariant-loop-block l = is_upper (take (32 * l.block) l.word) ≡ true
