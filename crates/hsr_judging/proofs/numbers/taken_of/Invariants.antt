use Rattle.std.proofs.Common.{◌≡◌, ℕ, ◌<◌, length, drop}
use Rattle.hsr_playback.specs.Playing.{taken_at}
use Rattle.hsr_judging.specs.Matching.{views}
use Rattle.hsr_judging.specs.Numbers.{first_of, taken_by}
use Rattle.hsr_judging.proofs.numbers.taken_of.Given as goal

-- what was taken so far, and the first of what is left, are what is taken of all
abbrev pub invariant-loop-k : goal.invariant-loop-k
invariant-loop-k l = record {
  long : length l.taken.items ≡ l.passages;
  each : (cause : ℕ) → cause < l.passages
      → first_of (taken_at l.taken.items cause) (taken_by cause l.expected (views (drop l.k l.observed)) (drop l.k l.gots))
      ≡ taken_by cause l.expected (views l.observed) l.gots;
}
