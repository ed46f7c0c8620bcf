use Rattle.std.proofs.Common.{◌≡◌, ℕ, ◌<◌, ◌≤◌, false}
use Rattle.hsr_toml.specs.Position.{is_whole}
use Rattle.hsr_toml.proofs.header.whole_word.Given as goal

abbrev pub invariant-loop-at : goal.invariant-loop-at
invariant-loop-at l = (k : ℕ) → l.fn.from ≤ k → k < l.at → is_whole l.text l.word k ≡ false
