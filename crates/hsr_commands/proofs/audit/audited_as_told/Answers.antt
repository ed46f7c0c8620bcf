use Rattle.std.proofs.Common.{◌∙◌, ap}
use Rattle.hsr_head.specs.Told.{told_size}
use Rattle.hsr_commands.proofs.Telling.{audited_head, unread_head}
use Rattle.hsr_commands.proofs.audit.audited_as_told.Goals as goal

pub returns-clause-ok : goal.returns-clause-ok
returns-clause-ok g c =
    audited_head c.args.audit (g.R.Read.remaining c.args.reader.now) (g.R.Read.remaining c.read_head.new.reader) c.in-Ok.head.items c.as_slice-text.result.now c.told_size.result
    c.in-Ok.ensures c.as_slice-text.ensures.value (c.told_size.ensures ∙ ap told_size c.front.ensures) c.audited_behind.result c.audited_behind.ensures.ok

pub returns-clause-err : goal.returns-clause-err
returns-clause-err g c =
    unread_head c.args.audit (g.R.Read.remaining c.args.reader.now) (g.R.Read.remaining c.read_head.new.reader) c.in-Ok.head.items c.as_slice-text.result.now c.told_size.result
    c.in-Ok.ensures c.as_slice-text.ensures.value (c.told_size.ensures ∙ ap told_size c.front.ensures) c.audited_behind.result c.audited_behind.ensures.err
