use Rattle.std.proofs.Common.{◌≡◌, ◌<◌, ℕ, count_by, drop, slice_index, take}
use Rattle.hsr_routes.specs.Routes.{bare}
use Rattle.hsr_certify.specs.Firsts.{first_send}
use Rattle.hsr_certify.proofs.Standing.{is_numbered_by}
use Rattle.hsr_certify.specs.Tests.{is_unwrapped}
use Rattle.hsr_certify.proofs.counting.first_wrapped.Given as goal

abbrev pub invariant-loop-i : goal.invariant-loop-i
invariant-loop-i l =
    (first_send (is_unwrapped (bare l.topology.places l.topology.links) l.spans) (drop l.i l.spans) ≡ first_send (is_unwrapped (bare l.topology.places l.topology.links) l.spans) l.spans)
    × ((c : ℕ) → c < 64 → slice_index l.counts c ≡ count_by (is_numbered_by (bare l.topology.places l.topology.links) c) (take l.i l.spans))
