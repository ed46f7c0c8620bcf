use Rattle.std.proofs.Common.{◌≡◌, ◌++◌, take}
use Rattle.std.specs.List.{flat_map}
use Rattle.hsr_judging_text.specs.Words.{behind, field_word}
use Rattle.hsr_judging_text.proofs.kinds.put_other_fields.Given as goal

abbrev pub invariant-loop-difference : goal.invariant-loop-difference
invariant-loop-difference l = l.kind.items ≡ l.initial.kind.items ++ flat_map (behind field_word) (take l.difference-index l.fields)
