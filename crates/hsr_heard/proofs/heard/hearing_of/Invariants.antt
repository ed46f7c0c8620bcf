use Rattle.std.proofs.Common.{◌≡◌, ◌++◌, drop}
use Rattle.hsr_heard.specs.Hearing.{heard_at, those_from, those_of, unread_at}
use Rattle.hsr_heard.proofs.heard.hearing_of.Given as goal

-- those so far and those of the copies that are left are all
abbrev pub invariant-loop-i : goal.invariant-loop-i
invariant-loop-i l = record {
  heard : l.hearing.heard.items ++ those_from (heard_at l.ring) l.copies l.i (drop l.i l.copies) ≡ those_of (heard_at l.ring) l.copies;
  unread : l.hearing.unread.items ++ those_from unread_at l.copies l.i (drop l.i l.copies) ≡ those_of unread_at l.copies;
}
