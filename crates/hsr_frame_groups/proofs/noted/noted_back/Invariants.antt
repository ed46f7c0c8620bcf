use Rattle.std.proofs.Common.{◌≡◌, ◌++◌, length}
use Rattle.std.specs.Prelude.{reverse}
use Rattle.hsr_frame_groups.proofs.noted.noted_back.Given as goal

-- those that are left stand in front of those that were noted
abbrev pub invariant-loop-caught : goal.invariant-loop-caught
invariant-loop-caught l = l.left.items ++ reverse l.noted.items ≡ l.fn.copies.items

abbrev pub decreases-loop-caught : goal.decreases-loop-caught
decreases-loop-caught l = length l.left.items
