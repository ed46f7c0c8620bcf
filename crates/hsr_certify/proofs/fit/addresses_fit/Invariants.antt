use Rattle.std.specs.Prelude.{ℕ, List, ◌<◌, ◌≡◌, length, slice_index_or}
use Rattle.hsr_certify.proofs.fit.addresses_fit.Given as goal

-- those that were seen
abbrev pub invariant-loop-mac : goal.invariant-loop-mac
invariant-loop-mac l = (k : ℕ) (d : List ℕ) → k < l.mac-index → length (slice_index_or l.macs k d) ≡ 6
