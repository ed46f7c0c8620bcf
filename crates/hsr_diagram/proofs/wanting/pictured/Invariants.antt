use Rattle.std.proofs.Common.{◌≡◌, ◌++◌, drop, filter}
use Rattle.hsr_diagram.specs.Wanted.{is_pictured}
use Rattle.hsr_diagram.proofs.wanting.pictured.Given as goal

abbrev pub invariant-loop-i : goal.invariant-loop-i
invariant-loop-i g l = l.list.items ++ filter (is_pictured l.closed.run l.sends l.span) (drop l.i l.rows) ≡ filter (is_pictured l.closed.run l.sends l.span) l.rows
