use Rattle.std.proofs.Common.{◌≡◌, ◌++◌, take}
use Rattle.std.specs.List.{flat_map}
use Rattle.hsr_diagram_text.specs.Told.{next_loss}
use Rattle.hsr_diagram_text.proofs.told.put_next_losses.Given as goal

abbrev pub invariant-loop-loss : goal.invariant-loop-loss
invariant-loop-loss l = l.text.items ≡ l.initial.text.items ++ flat_map next_loss (take l.loss-index l.losses)
