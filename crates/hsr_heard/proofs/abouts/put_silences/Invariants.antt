use Rattle.std.proofs.Common.{◌≡◌, ◌++◌, drop}
use Rattle.hsr_heard.specs.Subjects.{silences_from, silences_of}
use Rattle.hsr_heard.proofs.abouts.put_silences.Given as goal

-- those so far and those behind the last frame are all
abbrev pub invariant-loop-one : goal.invariant-loop-one
invariant-loop-one l = l.silences.items ++ silences_from l.mac l.end l.copy l.from (drop l.one-index l.frames) ≡ l.fn.silences.items ++ silences_of l.start l.end l.mac l.frames
