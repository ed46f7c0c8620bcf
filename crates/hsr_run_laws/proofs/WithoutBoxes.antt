-- Where there is no RedBox nothing that comes is numbered; and what follows for a ring within budget.
use Rattle.std.proofs.Common.{◌≡◌, ℕ, ◌<◌, false, length, ap, arith}
use Rattle.hsr_danh.specs.Wanted as of_danh
use Rattle.hsr_quadbox.specs.Wanted as of_quadbox
use Rattle.hsr_node.specs.Record.{Owner}
use Rattle.hsr_run_laws.specs.Budget.{OnceInBudget}
use Rattle.hsr_run_laws.specs.Premises.{BoxlessNumbersFirst, is_redbox}
use Rattle.hsr_run_laws.specs.Run.{owner_of, past_of, place_of}
use Rattle.hsr_run_laws.proofs.InBudget.{budget_keeps}
use Rattle.hsr_run_laws.proofs.Once.{exactly_once}
use Rattle.hsr_run_laws.proofs.Records.{legal_each}
use Rattle.hsr_run_laws.proofs.Ring.{owner_is, places}
use Rattle.hsr_run_laws.proofs.Tells.{budget_tells}
use Rattle.hsr_run_laws.proofs.Unnumbered.{record_numbers_none}

pub boxless : BoxlessNumbersFirst
boxless run closed none k below = record_numbers_none run (owner_of run k) (past_of run k) (none k below) (legal_each run.capacity (owner_of run k) (past_of run k) (closed.legal k below))

pub once_in_budget : OnceInBudget
once_in_budget run macs closed ring one budget =
    exactly_once run macs closed ring one (budget_keeps run closed (boxless run closed no_box) budget) (budget_tells run macs closed ring budget)
  where
    no_box : (k : ℕ) → k < length run.places → is_redbox (place_of run k) ≡ false
    no_box k below =
        let inside : k < length macs = omega (arith, places run macs closed ring) in
        ap (λ (o : Owner). is_redbox o.place) (owner_is run macs closed ring k inside)
