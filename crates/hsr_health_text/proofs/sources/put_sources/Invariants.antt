use Rattle.std.proofs.Common.{◌≡◌, ◌++◌}
use Rattle.std.specs.List.{flat_map, range_with_len}
use Rattle.hsr_health_text.specs.Sources.{source_at}
use Rattle.hsr_health_text.proofs.sources.put_sources.Given as goal

abbrev pub invariant-loop-i : goal.invariant-loop-i
invariant-loop-i l = l.text.items ≡ l.initial.text.items ++ flat_map (source_at l.health) (range_with_len 0 l.i)
