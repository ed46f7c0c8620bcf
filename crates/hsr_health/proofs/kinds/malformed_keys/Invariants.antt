use Rattle.std.proofs.Common.{◌≡◌, take}
use Rattle.std.specs.Prelude.{filter_map}
use Rattle.hsr_health.specs.Kinds.{malformed_of}
use Rattle.hsr_health.proofs.kinds.malformed_keys.Given as goal

-- those of the packets so far
abbrev pub invariant-loop-stray : goal.invariant-loop-stray
invariant-loop-stray l = l.keys.items ≡ filter_map malformed_of (take l.stray-index l.strays)
