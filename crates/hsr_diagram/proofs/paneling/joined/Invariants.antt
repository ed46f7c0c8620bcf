use Rattle.std.proofs.Common.{length}
use Rattle.std.specs.List.{AllByRecursion}
use Rattle.hsr_diagram.specs.Free.{AreLeft}
use Rattle.hsr_diagram.specs.Panels.{IsPanel}
use Rattle.hsr_diagram.proofs.paneling.joined.Given as goal

abbrev pub invariant-loop : goal.invariant-loop
invariant-loop l = AllByRecursion (IsPanel l.topology.links) l.panels.items × AreLeft (length l.topology.links) l.panels.items l.free.items
