use Rattle.std.proofs.Common.{◌≡◌, ◌++◌, take}
use Rattle.std.specs.List.{flat_map}
use Rattle.hsr_judging_text.specs.Words.{behind, ignoring_word}
use Rattle.hsr_judging_text.proofs.words.put_others.Given as goal

abbrev pub invariant-loop-ignoring : goal.invariant-loop-ignoring
invariant-loop-ignoring l = l.text.items ≡ l.initial.text.items ++ flat_map (behind ignoring_word) (take l.ignoring-index l.those)
