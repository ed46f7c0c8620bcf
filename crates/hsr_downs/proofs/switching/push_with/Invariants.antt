use Rattle.std.proofs.Common.{◌≡◌, ◌++◌, length}
use Rattle.hsr_downs.specs.Switches.{switches_with}
use Rattle.hsr_downs.proofs.switching.push_with.Given as goal

abbrev pub invariant-loop-end : goal.invariant-loop-end
invariant-loop-end l =
    l.list.items ++ switches_with l.links l.before l.after l.change l.rest
    ≡ l.initial.list.items ++ switches_with l.links l.before l.after l.change l.ends

abbrev pub decreases-loop-end : goal.decreases-loop-end
decreases-loop-end l = length l.rest
