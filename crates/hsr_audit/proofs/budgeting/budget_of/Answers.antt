use Rattle.std.proofs.Common.{rules, ◌≤◌, length}
use Rattle.hsr_run_laws.specs.Run.{Run}
use Rattle.hsr_audit.specs.Budgeted.{AreInTime}
use Rattle.hsr_table_demand.specs.Windows.{IsFirstOver, IsMostBelow}
use Rattle.hsr_audit.proofs.Spending.{first_crowded, held_is, most_is}
use Rattle.hsr_audit.proofs.budgeting.budget_of.Goals as goal

pub returns-in-Ok-most_crowded-clause-held : goal.returns-in-Ok-most_crowded-clause-held
returns-in-Ok-most_crowded-clause-held g c =
    let run : Run = c.args.closed.now.run in
    let ms = c.in-Ok.sends.items in
    let most = c.in-Ok-most_crowded.most in
    let timed : AreInTime run = search rules in
    let windows : IsMostBelow ms (length ms) most = search rules in
    let room : most ≤ run.capacity = search rules in
    held_is run ms c.in-Ok.ensures.sends most timed windows room

pub returns-in-Ok-most_crowded-clause-most : goal.returns-in-Ok-most_crowded-clause-most
returns-in-Ok-most_crowded-clause-most g c =
    let ms = c.in-Ok.sends.items in
    let windows : IsMostBelow ms (length ms) c.in-Ok-most_crowded.most = search rules in
    most_is c.args.closed.now.run ms c.in-Ok.ensures.sends c.in-Ok-most_crowded.most windows

pub returns-clause-first : goal.returns-clause-first
returns-clause-first g c =
    let run : Run = c.args.closed.now.run in
    let ms = c.in-Ok.sends.items in
    let timed : AreInTime run = search rules in
    let crowd : IsFirstOver run.capacity ms c.in-Err.moment = search rules in
    first_crowded run ms c.in-Ok.ensures.sends c.in-Err.moment timed crowd
