use Rattle.std.proofs.Common.{◌≡◌, ℕ, ◌<◌, ◌≤◌, Some}
use Rattle.std.specs.Prelude.{slice_get}
use Rattle.hsr_frame.specs.Address.{IsAddress}
use Rattle.hsr_heard.specs.Finding.{key_of}
use Rattle.hsr_heard.specs.declared.heard.Heard.{Heard}
use Rattle.hsr_heard.proofs.abouts.end_of_run.Given as goal

-- those so far are about the same address
abbrev pub invariant-loop-k : goal.invariant-loop-k
invariant-loop-k l = record {
  more : l.from < l.k;
  same : (k : ℕ) (one : Heard) → l.from ≤ k → k < l.k → slice_get l.copies k ≡ Some one → (key_of one ≡ l.own) × IsAddress one.said.about;
}
