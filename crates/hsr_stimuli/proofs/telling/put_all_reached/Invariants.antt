use Rattle.std.proofs.Common.{◌≡◌, ◌++◌, take}
use Rattle.std.specs.List.{flat_map}
use Rattle.hsr_stimuli.specs.Telling.{reached_text}
use Rattle.hsr_stimuli.proofs.telling.put_all_reached.Given as goal

abbrev pub invariant-loop-cause : goal.invariant-loop-cause
invariant-loop-cause l = l.text.items ≡ l.initial.text.items ++ flat_map (reached_text l.list) (take l.cause-index l.causes)
