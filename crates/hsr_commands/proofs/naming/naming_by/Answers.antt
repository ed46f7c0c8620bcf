use Rattle.std.proofs.Common.{◌∙◌, List, Option, ap, subst, sym, ℕ}
use Rattle.std.specs.Borrow.{Bor}
use Rattle.hsr_given.specs.Unnamed.{unread}
use Rattle.hsr_scenario.specs.Names.{names_meant}
use Rattle.hsr_commands.specs.Naming.{HasOther, IsInstead, Named}
use Rattle.hsr_commands.specs.Shown.{text_if}
use Rattle.hsr_commands.proofs.Said.{told_fault}
use Rattle.hsr_commands.proofs.naming.naming_by.Goals as goal

pub returns-in_default-what : goal.returns-in_default-what
returns-in_default-what g c =
    let P : Option (Bor (List ℕ)) → Type 0 = λ given. HasOther (text_if given) c.args.closed.now.run c.unread.result in
    let Q : Named → Type 0 = λ named. IsInstead c.in-Some.text.now c.args.closed.now.run named c.unread.result in
    let said = told_fault c.in-Err.fault c.in-Err.fault.what (names_meant c.in-Some.text.now) c.in_default-what.not-NoMemory c.in-Err.ensures in
    record { ok = tt; err = subst P (sym c.in-Some.is) (subst Q (sym said) (c.unread.ensures ∙ ap unread c.as_bytes.ensures.value)) }
