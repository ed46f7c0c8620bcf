use Rattle.std.proofs.Common.{rules, length}
use Rattle.hsr_table_demand.specs.Windows.{IsMostBelow}
use Rattle.hsr_audit.proofs.Spending.{most_is}
use Rattle.hsr_audit.proofs.budgeting.most_sends.Goals as goal

pub returns : goal.returns
returns g c =
    let ms = c.in_ok-sends.sends.items in
    let windows : IsMostBelow ms (length ms) c.most_of.result = search rules in
    most_is c.args.closed.now.run ms c.in_ok-sends.ensures.sends c.most_of.result windows
