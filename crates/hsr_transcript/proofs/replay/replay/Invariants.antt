use Rattle.std.proofs.Common.{◌≡◌, drop}
use Rattle.hsr_transcript.specs.Replay.{front_of}
use Rattle.hsr_transcript.proofs.replay.replay.Given as goal

abbrev pub invariant-loop-i : goal.invariant-loop-i
invariant-loop-i g l = record {
  replayed : l.kept ≡ front_of l.node l.fn.place l.i l.initial.entries;
  left : drop l.i l.entries ≡ drop l.i l.initial.entries;
}
