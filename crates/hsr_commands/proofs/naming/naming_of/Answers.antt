use Rattle.hsr_commands.proofs.Said.{naming_called}
use Rattle.hsr_commands.proofs.naming.naming_of.Goals as goal

pub returns-in-Ok-Some-clause-ok : goal.returns-in-Ok-Some-clause-ok
returns-in-Ok-Some-clause-ok g c =
    naming_called _ _ c.in-Ok-Some.field-0 c.in-Ok-Some.names _ _ c.if-not-names.false c.in-Ok-Some.field-0-is c.in-Ok-Some.ensures.ok c.called.ensures.ok
