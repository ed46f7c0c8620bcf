use Rattle.std.proofs.Common.{◌≡◌, [], ◌++◌, take, drop}
use Rattle.std.specs.Prelude.{reverse}
use Rattle.hsr_playback.specs.Own.{begins_from, none_begun}
use Rattle.hsr_playback.proofs.own.own_begins.Given as goal

-- what the passages so far begin, and what is left, are what all begin
abbrev pub invariant-loop-i : goal.invariant-loop-i
invariant-loop-i l =
    l.begins.items ++ begins_from l.own l.has_host l.within (reverse (take l.i l.passages)) l.table.items (drop l.i l.passages)
    ≡ begins_from l.own l.has_host l.within [] none_begun l.passages
