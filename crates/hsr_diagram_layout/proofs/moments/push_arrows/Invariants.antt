use Rattle.std.proofs.Common.{◌≡◌, ◌++◌, take}
use Rattle.std.specs.List.{flat_map}
use Rattle.hsr_diagram_layout.specs.Moments.{arrow_moments}
use Rattle.hsr_diagram_layout.proofs.moments.push_arrows.Given as goal

abbrev pub invariant-loop-arrow : goal.invariant-loop-arrow
invariant-loop-arrow l = l.moments.items ≡ l.initial.moments.items ++ flat_map arrow_moments (take l.arrow-index l.arrows)
