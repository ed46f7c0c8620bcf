use Rattle.std.proofs.Common.{◌≡◌, take, false}
use Rattle.std.specs.List.{list_any}
use Rattle.std.specs.Str.{bytes_eq}
use Rattle.hsr_taps.proofs.points.index_of.Given as goal

-- none so far has the name
abbrev pub invariant-loop-k : goal.invariant-loop-k
invariant-loop-k l = list_any (λ other. bytes_eq other l.name) (take l.k l.points) ≡ false
