use Rattle.std.proofs.lemmas.Result.{IfErr-weaker, IfOk-weaker, err_from_is_err_and}
use Rattle.hsr_tap.proofs.Judged.{judged_of_whole, undescribed, unjudged_of_whole}
use Rattle.hsr_tap.proofs.judging.judged_from.Goals as goal

pub returns-in_err-device-clause-unjudged : goal.returns-in_err-device-clause-unjudged
returns-in_err-device-clause-unjudged g c =
    let exit = err_from_is_err_and c.from_residual.result c.from_residual.ensures.1 in
    rw (exit.1, exit.2) (undescribed c.args.document.now c.args.fcs (g.R.Read.remaining c.args.reader.now) _ c.in_err-device.ensures.fault)

pub returns-clause-judged : goal.returns-clause-judged
returns-clause-judged g c =
    let text = g.R.Read.remaining c.args.reader.now in
    let read = c.in_ok-octets.octets.items in
    let whole = c.in_ok-octets.ensures.whole in
    IfOk-weaker c.judged.result _ _ (λ report judged. judged_of_whole _ c.args.showing c.args.fcs text read report.text.items report.is_well whole judged) c.judged.ensures.judged

pub returns-clause-unjudged : goal.returns-clause-unjudged
returns-clause-unjudged g c =
    let text = g.R.Read.remaining c.args.reader.now in
    let read = c.in_ok-octets.octets.items in
    let whole = c.in_ok-octets.ensures.whole in
    IfErr-weaker c.judged.result _ _ (λ fault unjudged. unjudged_of_whole _ c.args.fcs text read fault whole unjudged) c.judged.ensures.unjudged
