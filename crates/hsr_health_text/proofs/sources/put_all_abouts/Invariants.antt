use Rattle.std.proofs.Common.{◌≡◌, ◌++◌, take}
use Rattle.std.specs.List.{flat_map}
use Rattle.hsr_health_text.specs.Sources.{node_line}
use Rattle.hsr_health_text.proofs.sources.put_all_abouts.Given as goal

abbrev pub invariant-loop-about : goal.invariant-loop-about
invariant-loop-about l = l.text.items ≡ l.initial.text.items ++ flat_map (node_line l.start l.end) (take l.about-index l.abouts)
