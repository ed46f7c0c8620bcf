use Rattle.std.proofs.Common.{◌≡◌, take}
use Rattle.hsr_heard.specs.Subjects.{frames_in}
use Rattle.hsr_heard.proofs.abouts.frames_in.Given as goal

-- those so far
abbrev pub invariant-loop-one : goal.invariant-loop-one
invariant-loop-one l = l.frames.items ≡ frames_in (take l.one-index l.copies)
