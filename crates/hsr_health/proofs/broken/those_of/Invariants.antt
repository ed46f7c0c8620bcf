use Rattle.std.proofs.Common.{◌≡◌, ℕ, Bool, List, take}
use Rattle.std.specs.Prelude.{filter}
use Rattle.hsr_health.specs.Broken.{AreTested}
use Rattle.hsr_health.proofs.broken.those_of.Given as goal

-- those so far
abbrev pub invariant-loop-k : goal.invariant-loop-k
invariant-loop-k l = (test : List ℕ → Bool) → AreTested l.macs l.marks test → l.those.items ≡ filter test (take l.k l.macs)
