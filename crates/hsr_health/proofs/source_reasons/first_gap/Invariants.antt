use Rattle.std.proofs.Common.{◌≡◌, ℕ, ◌<◌, length, false, Some}
use Rattle.std.specs.Prelude.{slice_get}
use Rattle.hsr_health.specs.Told.{is_before}
use Rattle.hsr_number_runs.specs.declared.gaps.Gap.{Gap}
use Rattle.hsr_health.proofs.source_reasons.first_gap.Given as goal

-- none so far was told before it
abbrev pub invariant-loop-k : goal.invariant-loop-k
invariant-loop-k l = record {
  within : l.first < length l.gaps;
  least : (j : ℕ) (gap first : Gap) → j < l.k → slice_get l.gaps j ≡ Some gap → slice_get l.gaps l.first ≡ Some first → is_before gap first ≡ false;
}
