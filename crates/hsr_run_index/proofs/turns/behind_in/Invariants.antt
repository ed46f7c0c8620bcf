use Rattle.std.proofs.Common.{ℕ}
use Rattle.hsr_run_index.specs.Turns.{AreBehindIn, IsBehind, place_at}
use Rattle.hsr_run_index.proofs.turns.behind_in.Given as goal

abbrev pub invariant-loop-place : goal.invariant-loop-place
invariant-loop-place l = record {
  behind : AreBehindIn l.entries l.behind.items l.place;
  latest : (w : ℕ) → IsBehind w l.entries l.place (place_at l.latest w);
}
