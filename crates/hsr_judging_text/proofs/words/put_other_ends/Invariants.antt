use Rattle.std.proofs.Common.{◌≡◌, ◌++◌, take}
use Rattle.std.specs.List.{flat_map}
use Rattle.hsr_tap_device.specs.Words.{end_word}
use Rattle.hsr_judging_text.specs.Words.{behind}
use Rattle.hsr_judging_text.proofs.words.put_other_ends.Given as goal

abbrev pub invariant-loop-end : goal.invariant-loop-end
invariant-loop-end l = l.text.items ≡ l.initial.text.items ++ flat_map (behind end_word) (take l.end-index l.ends)
