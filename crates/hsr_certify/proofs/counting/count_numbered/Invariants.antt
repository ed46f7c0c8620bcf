use Rattle.std.proofs.Common.{◌≡◌, ◌≤◌, ◌+◌, count_by, drop}
use Rattle.hsr_plays.specs.Conditions.{is_numbered_by_then}
use Rattle.hsr_routes.specs.Routes.{bare}
use Rattle.hsr_certify.proofs.counting.count_numbered.Given as goal

abbrev pub invariant-loop-other : goal.invariant-loop-other
invariant-loop-other l = (l.count + count_by (is_numbered_by_then (bare l.topology.places l.topology.links) l.span) (drop l.other-index l.spans) ≡ count_by (is_numbered_by_then (bare l.topology.places l.topology.links) l.span) l.spans) × (l.count ≤ l.other-index)
