use Rattle.std.proofs.Common.{◌≡◌, ◌++◌, codes, take}
use Rattle.std.specs.List.{flat_map}
use Rattle.hsr_report.specs.DeliveryLines.{loss_text}
use Rattle.hsr_run_tables.proofs.cells.put_next_losses.Given as goal

abbrev pub invariant-loop-loss : goal.invariant-loop-loss
invariant-loop-loss l = l.text.items ≡ l.initial.text.items ++ flat_map (λ loss. codes " " ++ loss_text loss) (take l.loss-index l.losses)
