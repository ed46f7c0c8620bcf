use Rattle.std.proofs.Common.{◌≡◌, ◌++◌, take}
use Rattle.std.specs.List.{flat_map}
use Rattle.hsr_report.specs.DeliveryLines.{behind, loss_text}
use Rattle.hsr_report.proofs.delivery_lines.put_other_losses.Given as goal

abbrev pub invariant-loop-loss : goal.invariant-loop-loss
invariant-loop-loss l = l.text.items ≡ l.initial.text.items ++ flat_map (behind loss_text) (take l.loss-index l.losses)
