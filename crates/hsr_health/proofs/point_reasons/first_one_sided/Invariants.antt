use Rattle.std.proofs.Common.{◌≡◌, ℕ, ◌<◌, ◌&&◌, false, Some}
use Rattle.std.specs.Prelude.{slice_get}
use Rattle.hsr_frame.specs.Address.{is_group}
use Rattle.hsr_frame_groups.specs.Frames.{CaughtFields}
use Rattle.hsr_sightings.specs.Ring.{point_of}
use Rattle.hsr_taps.specs.Tallies.{is_at}
use Rattle.hsr_health.proofs.point_reasons.first_one_sided.Given as goal

-- none so far is such
abbrev pub invariant-loop-i : goal.invariant-loop-i
invariant-loop-i l = (k : ℕ) (c : CaughtFields) → k < l.i → slice_get l.copies k ≡ Some c → (is_at l.flags (point_of l.ring c) && is_group c.copy.dst) ≡ false
