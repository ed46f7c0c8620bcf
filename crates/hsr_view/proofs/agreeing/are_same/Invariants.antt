use Rattle.std.proofs.Common.{◌≡◌, ◌++◌, take}
use Rattle.hsr_view.proofs.agreeing.are_same.Given as goal

abbrev pub invariant-loop-planned : goal.invariant-loop-planned
invariant-loop-planned l = take l.planned-index l.a ++ l.left ≡ l.b
