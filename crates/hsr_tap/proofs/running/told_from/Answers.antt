use Rattle.std.proofs.Common.{Ok}
use Rattle.std.proofs.lemmas.Result.{IfErr-weaker, IfOk-weaker}
use Rattle.hsr_tap.proofs.Whole.{told_of_whole, untold_of_whole}
use Rattle.hsr_tap.proofs.running.told_from.Goals as goal

pub returns-clause-told : goal.returns-clause-told
returns-clause-told g c =
    let text = g.R.Read.remaining c.args.reader.now in
    let read = c.in_ok-octets.octets.items in
    let whole = c.in_ok-octets.ensures.whole in
    IfOk-weaker c.told.result _ _ (λ lines told. told_of_whole _ c.args.fcs text read (Ok lines) whole told) c.told.ensures.told

pub returns-clause-untold : goal.returns-clause-untold
returns-clause-untold g c =
    let text = g.R.Read.remaining c.args.reader.now in
    let read = c.in_ok-octets.octets.items in
    let whole = c.in_ok-octets.ensures.whole in
    IfErr-weaker c.told.result _ _ (λ fault untold. untold_of_whole _ c.args.fcs text read fault whole untold) c.told.ensures.untold
