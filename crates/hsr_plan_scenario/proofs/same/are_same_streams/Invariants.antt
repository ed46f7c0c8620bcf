use Rattle.std.proofs.Common.{◌≡◌, ◌↔◌, length, map}
use Rattle.hsr_plan_scenario.proofs.same.are_same_streams.Given as goal

abbrev pub invariant-loop-list : goal.invariant-loop-list
invariant-loop-list l =
    (map (λ list. map (λ name. name.items) list.items) l.left ≡ map (λ list. map (λ name. name.items) list.items) l.others) ↔ (map (λ list. map (λ name. name.items) list.items) l.a ≡ map (λ list. map (λ name. name.items) list.items) l.b)

abbrev pub decreases-loop-list : goal.decreases-loop-list
decreases-loop-list l = length l.left
