use Rattle.std.proofs.Common.{◌≡◌, ◌↔◌, drop, length}
use Rattle.hsr_finished_run.specs.Passes.{IsToldBy}
use Rattle.hsr_finished_run.specs.Told.{IsRest}
use Rattle.hsr_finished_run.proofs.told.is_told.Given as goal

-- what is left answers for all
abbrev pub invariant-loop-i : goal.invariant-loop-i
invariant-loop-i g l = record {
  long : length l.next.items ≡ length l.fn.kept;
  left : IsRest l.fn.kept l.next.items (drop l.i l.plan) ↔ IsToldBy l.fn.kept l.plan;
}
