use Rattle.std.proofs.Common.{◌≡◌, ◌||◌, drop}
use Rattle.std.specs.List.{list_any}
use Rattle.hsr_tap_device.specs.declared.device.End.{End}
use Rattle.hsr_playback.specs.Letting.{has_in, has_out}
use Rattle.hsr_tap_passages.specs.Interfaces.{shows_in, shows_out}
use Rattle.hsr_tap_passages.proofs.interfaces.taps_of.Given as goal

-- ends that were shown so far, and those that are left to be shown
abbrev pub invariant-loop-k : goal.invariant-loop-k
invariant-loop-k l = record {
  ins : (end : End) → (has_in l.taps end || list_any (shows_in end) (drop l.k l.interfaces)) ≡ list_any (shows_in end) l.interfaces;
  outs : (end : End) → (has_out l.taps end || list_any (shows_out end) (drop l.k l.interfaces)) ≡ list_any (shows_out end) l.interfaces;
}
