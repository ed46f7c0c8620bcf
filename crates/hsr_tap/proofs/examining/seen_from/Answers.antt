use Rattle.std.proofs.lemmas.Result.{IfErr-weaker, IfOk-weaker}
use Rattle.hsr_tap.proofs.Examined.{seen_of_whole, unseen_of_whole}
use Rattle.hsr_tap.proofs.examining.seen_from.Goals as goal

pub returns-clause-seen : goal.returns-clause-seen
returns-clause-seen g c =
    let text = g.R.Read.remaining c.args.reader.now in
    let read = c.in_ok-octets.octets.items in
    let whole = c.in_ok-octets.ensures.whole in
    IfOk-weaker c.seen_of.result _ _ (λ seen is. seen_of_whole c.args.looking.now c.args.expected.now text read seen whole is) c.seen_of.ensures.seen

pub returns-clause-unseen : goal.returns-clause-unseen
returns-clause-unseen g c =
    let text = g.R.Read.remaining c.args.reader.now in
    let read = c.in_ok-octets.octets.items in
    let whole = c.in_ok-octets.ensures.whole in
    IfErr-weaker c.seen_of.result _ _ (λ fault unseen. unseen_of_whole c.args.looking.now text read fault whole unseen) c.seen_of.ensures.unseen
