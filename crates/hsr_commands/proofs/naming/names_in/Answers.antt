use Rattle.std.proofs.Common.{◌∙◌, None, Some, refl, subst, sym}
use Rattle.hsr_commands.specs.Naming.{IsReadAs, Named}
use Rattle.hsr_commands.proofs.Said.{names_of_text, no_names}
use Rattle.hsr_commands.proofs.naming.names_in.Goals as goal

pub returns-in_default-clause-ok : goal.returns-in_default-clause-ok
returns-in_default-clause-ok c =
    let P : Named → Type 0 = λ named. IsReadAs named None in
    subst P (sym (no_names c.args.octets.now c.in_default.ensures.cases.0)) tt

pub returns-in-Ok-read_names-clause-ok : goal.returns-in-Ok-read_names-clause-ok
returns-in-Ok-read_names-clause-ok c =
    let P : Named → Type 0 = λ named. IsReadAs named (Some c.in-Ok-read_names.names) in
    subst P (sym (names_of_text c.args.octets.now c.in-Ok.text.now c.in-Ok.ensures.cases.0 c.in-Ok.ensures.cases.1 ∙ c.in-Ok-read_names.ensures)) refl
