use Rattle.std.proofs.Common.{◌≡◌, drop}
use Rattle.hsr_certify.specs.Firsts.{first_send}
use Rattle.hsr_plays.specs.Conditions.{is_covered_send}
use Rattle.hsr_routes.specs.Routes.{bare}
use Rattle.hsr_certify.proofs.covering.first_uncovered.Given as goal

abbrev pub invariant-loop-i : goal.invariant-loop-i
invariant-loop-i l = first_send (is_covered_send (bare l.topology.places l.topology.links)) (drop l.i l.spans) ≡ first_send (is_covered_send (bare l.topology.places l.topology.links)) l.spans
