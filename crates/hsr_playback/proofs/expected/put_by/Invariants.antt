use Rattle.std.proofs.Common.{◌≡◌, ◌++◌, drop}
use Rattle.hsr_playback.specs.Letting.{copies_by}
use Rattle.hsr_playback.proofs.expected.put_by.Given as goal

-- what stands there and what is left are the answer
abbrev pub invariant-loop-end : goal.invariant-loop-end
invariant-loop-end l =
    l.expected.items ++ copies_by l.taps l.place l.source l.event l.outcome (drop l.end-index l.ends)
    ≡ l.fn.expected.items ++ copies_by l.taps l.place l.source l.event l.outcome l.ends
