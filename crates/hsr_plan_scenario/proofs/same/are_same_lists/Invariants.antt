use Rattle.std.proofs.Common.{◌≡◌, ◌↔◌, length, map}
use Rattle.hsr_plan_scenario.proofs.same.are_same_lists.Given as goal

abbrev pub invariant-loop-name : goal.invariant-loop-name
invariant-loop-name l =
    (map (λ name. name.items) l.left ≡ map (λ name. name.items) l.others) ↔ (map (λ name. name.items) l.a ≡ map (λ name. name.items) l.b)

abbrev pub decreases-loop-name : goal.decreases-loop-name
decreases-loop-name l = length l.left
