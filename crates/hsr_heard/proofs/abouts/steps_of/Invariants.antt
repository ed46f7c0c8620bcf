use Rattle.std.proofs.Common.{◌≡◌, ◌-◌, ◌≤◌, ◌++◌, drop}
use Rattle.std.specs.Prelude.{slice_get}
use Rattle.hsr_heard.specs.Finding.{moment_of}
use Rattle.hsr_heard.specs.Subjects.{steps_from, steps_of}
use Rattle.hsr_heard.proofs.abouts.steps_of.Given as goal

-- those so far and those that are left are all
abbrev pub invariant-loop-k : goal.invariant-loop-k
invariant-loop-k l = record {
  one : 1 ≤ l.k;
  all : l.steps.items ++ steps_from (moment_of (slice_get l.frames (l.k - 1))) (drop l.k l.frames) ≡ steps_of l.frames;
}
