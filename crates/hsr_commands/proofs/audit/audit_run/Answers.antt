use Rattle.hsr_commands.proofs.Telling.{audited_known, unread_known}
use Rattle.hsr_commands.proofs.audit.audit_run.Goals as goal

pub returns-in-Ok : goal.returns-in-Ok
returns-in-Ok g c = audited_known c.args.choice c.args.audit (g.R.Read.remaining c.args.reader.now) _ _ c.in-Ok.shown c.deliver.result c.in-Ok.ensures.ok c.deliver.ensures

pub returns-in-Err : goal.returns-in-Err
returns-in-Err g c = unread_known c.args.choice c.args.audit (g.R.Read.remaining c.args.reader.now) _ _ c.in-Err.fault c.in-Err.ensures.err
