use Rattle.std.proofs.Common.{◌≡◌, ℕ, ◌<◌, Some, false, map, take}
use Rattle.std.specs.Prelude.{slice_get}
use Rattle.hsr_health.specs.Told.{is_greater}
use Rattle.hsr_health.specs.Whole.{greatest}
use Rattle.hsr_sightings.specs.declared.late.Crowd.{Crowd}
use Rattle.hsr_health.proofs.measured.greatest_crowd.Given as goal

-- the greatest so far
abbrev pub invariant-loop-crowd : goal.invariant-loop-crowd
invariant-loop-crowd l = record {
  frames : l.most.frames ≡ greatest (map (λ (crowd : Crowd). crowd.frames) (take l.crowd-index l.crowds));
  there : 0 < l.most.frames → (k : ℕ) × (slice_get l.crowds k ≡ Some l.most);
  most : (k : ℕ) (crowd : Crowd) → k < l.crowd-index → slice_get l.crowds k ≡ Some crowd → is_greater crowd l.most ≡ false;
}
