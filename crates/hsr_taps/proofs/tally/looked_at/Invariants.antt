use Rattle.std.proofs.Common.{◌≡◌, ℕ, ◌<◌, length}
use Rattle.std.specs.Prelude.{option_map, slice_get}
use Rattle.hsr_taps.specs.Tallies.{is_looked_at}
use Rattle.hsr_taps.proofs.tally.looked_at.Given as goal

-- of each interface so far it is known
abbrev pub invariant-loop-i : goal.invariant-loop-i
invariant-loop-i l = record {
  long : length l.looked_at.items ≡ l.i;
  each : (k : ℕ) → k < l.i → slice_get l.looked_at.items k ≡ option_map (is_looked_at l.choice k) (slice_get l.interfaces k);
}
