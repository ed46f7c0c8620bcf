use Rattle.std.proofs.Common.{◌≡◌, take}
use Rattle.hsr_heard.specs.Subjects.{last_by}
use Rattle.hsr_heard.proofs.abouts.last_by.Given as goal

-- of those so far
abbrev pub invariant-loop-one : goal.invariant-loop-one
invariant-loop-one l = l.last ≡ last_by l.zero (take l.one-index l.copies)
