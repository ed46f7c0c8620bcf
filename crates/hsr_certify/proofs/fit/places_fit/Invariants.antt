use Rattle.std.specs.Prelude.{ℕ, ◌<◌, slice_index_or}
use Rattle.hsr_node.specs.declared.place.Place.{Place}
use Rattle.hsr_world_laws.specs.Fit.{FitsPlace}
use Rattle.hsr_certify.proofs.fit.places_fit.Given as goal

-- those that were seen
abbrev pub invariant-loop-place : goal.invariant-loop-place
invariant-loop-place l = (k : ℕ) (d : Place) → k < l.place-index → FitsPlace (slice_index_or l.places k d)
