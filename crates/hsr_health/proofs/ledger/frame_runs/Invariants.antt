use Rattle.std.proofs.Common.{◌≡◌, ◌≤◌, ◌++◌, length, drop}
use Rattle.hsr_heard.specs.Hearing.{those_from, those_of}
use Rattle.hsr_health.specs.Numbering.{numbered_at}
use Rattle.hsr_health.proofs.ledger.frame_runs.Given as goal

-- those so far are no more than the copies, and those of the copies that are left are the rest of all
abbrev pub invariant-loop-i : goal.invariant-loop-i
invariant-loop-i l = (length l.so_far ≤ l.i)
    × (l.so_far ++ those_from (numbered_at l.of_copy l.groups) l.copies l.i (drop l.i l.copies) ≡ those_of (numbered_at l.of_copy l.groups) l.copies)
