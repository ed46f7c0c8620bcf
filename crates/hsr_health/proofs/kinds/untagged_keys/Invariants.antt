use Rattle.std.proofs.Common.{◌≡◌, ℕ, ◌<◌, Some, take}
use Rattle.std.specs.Prelude.{filter_map, slice_get}
use Rattle.hsr_health.specs.Kinds.{IsSmall, untagged_of}
use Rattle.hsr_taps.specs.declared.tapping.Stray.{Stray}
use Rattle.hsr_health.proofs.kinds.untagged_keys.Given as goal

-- those of the packets so far, and their types are small
abbrev pub invariant-loop-stray : goal.invariant-loop-stray
invariant-loop-stray l = record {
  keys : l.keys.items ≡ filter_map untagged_of (take l.stray-index l.strays);
  small : (k : ℕ) → k < l.stray-index → (stray : Stray) → slice_get l.strays k ≡ Some stray → IsSmall stray.what;
}
