use Rattle.std.proofs.Common.{◌≡◌, drop}
use Rattle.hsr_heard.specs.Subjects.{from_first}
use Rattle.hsr_heard.proofs.abouts.first_begun.Given as goal

-- none of those so far began a frame
abbrev pub invariant-loop-i : goal.invariant-loop-i
invariant-loop-i l = from_first (drop l.i l.copies) ≡ from_first l.copies
