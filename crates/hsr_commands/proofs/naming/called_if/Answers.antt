use Rattle.std.proofs.Common.{inr, refl, rules}
use Rattle.hsr_commands.proofs.naming.called_if.Goals as goal

pub returns-then-not-has_sends-clause-err : goal.returns-then-not-has_sends-clause-err
returns-then-not-has_sends-clause-err g c = inr (search rules, search rules, refl)
