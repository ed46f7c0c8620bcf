use Rattle.std.proofs.Common.{◌∙◌, arith, sym}
use Rattle.hsr_judging.proofs.Latest.{looked_all, looked_found, looked_next, looked_old}
use Rattle.hsr_judging.proofs.reason.reason_of.Goals as goal

pub returns-in-Old : goal.returns-in-Old
returns-in-Old c =
    sym (looked_old c.args.passages.now c.args.early c.args.copy.now c.args.answers.now c.loop-j.j _ (omega arith) c.in-Old.ensures)
    ∙ c.loop-j.invariant

pub returns-in-Found : goal.returns-in-Found
returns-in-Found c =
    sym (looked_found c.args.passages.now c.args.early c.args.copy.now c.args.answers.now c.loop-j.j _ c.in-Found.reason (omega arith)
    c.in-Found.ensures) ∙ c.loop-j.invariant

pub loop-j-preserved : goal.loop-j-preserved
loop-j-preserved c =
    sym (looked_next c.args.passages.now c.args.early c.args.copy.now c.args.answers.now c.loop-j.j _ (omega arith) c.in-Next.ensures)
    ∙ c.loop-j.invariant

pub returns : goal.returns
returns c = sym (looked_all c.args.passages.now c.args.early c.args.copy.now c.args.answers.now c.loop-j.j (omega arith)) ∙ c.loop-j.invariant
