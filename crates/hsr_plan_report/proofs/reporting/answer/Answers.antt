use Rattle.hsr_plan_report.proofs.Whole.{given_if_hidden}
use Rattle.hsr_plan_report.proofs.reporting.answer.Goals as goal

pub returns-in-Ok : goal.returns-in-Ok
returns-in-Ok g c =
    given_if_hidden c.args.octets.now c.args.asked c.args.is_shown (g.W.Write.contents c.args.writer.now) (g.W.Write.contents c.give.new.writer)
    (g.E.Write.contents c.args.errors.now) (g.E.Write.contents c.told_in.new.errors) c.in-Ok.told.text.items c.in-Ok.told.ending c.give.result c.in-Ok.ensures.told
    c.told_in.ensures.hidden c.give.ensures
