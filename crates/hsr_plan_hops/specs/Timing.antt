-- When the copies of a finished run were judged.
use Rattle.std.specs.Prelude.{Bool}
use Rattle.hsr_run_laws.specs.Run.{Run}
use Rattle.hsr_plan_text.specs.declared.plan.Transfer.{Transfer}
use Rattle.hsr_plan_text.specs.declared.plan.Transfer.TheVariants as transfer
use Rattle.hsr_plan_hops.specs.Hops.{are_by_hops}
use Rattle.hsr_plan_hops.specs.Wires.{are_by_wires}

-- each copy that wasn't lost was judged when it had to be
abbrev pub are_in_time : Transfer → Run → Bool
are_in_time (transfer.Hop us) run = are_by_hops us run
are_in_time (transfer.Wire wire) run = are_by_wires wire run
