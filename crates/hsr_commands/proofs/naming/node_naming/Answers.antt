use Rattle.std.proofs.Common.{refl}
use Rattle.hsr_commands.proofs.Said.{nodes_named}
use Rattle.hsr_commands.proofs.naming.node_naming.Goals as goal

pub returns-in-Ok-Some-clause-ok : goal.returns-in-Ok-Some-clause-ok
returns-in-Ok-Some-clause-ok c =
    nodes_named _ _ c.in-Ok-Some.field-0 c.in-Ok-Some.names _ c.if-not-names.false c.in-Ok-Some.field-0-is c.in-Ok-Some.ensures.ok refl
