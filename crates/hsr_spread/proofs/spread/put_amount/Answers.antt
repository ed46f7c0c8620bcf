use Rattle.std.proofs.Common.{arith}
use Rattle.std.proofs.lemmas.List.{length-map}
use Rattle.hsr_spread.specs.Spreads.{items_of, lists_of}
use Rattle.hsr_spread.proofs.Spreading.{amount_left, amount_put}
use Rattle.hsr_spread.proofs.spread.put_amount.Goals as goal

pub returns-in_ok-push_amount-clause-amounts : goal.returns-in_ok-push_amount-clause-amounts
returns-in_ok-push_amount-clause-amounts c = λ told are.
    let old = c.args.amounts.now.items in
    amount_put told c.args.one (lists_of old) _ (omega (arith, length-map old items_of, c.args.amounts.now.ok.0, c.len.ensures, c.if-one-len.true)) c.in_ok-push_amount.ensures.amounts are

pub returns-else-one-len-clause-amounts : goal.returns-else-one-len-clause-amounts
returns-else-one-len-clause-amounts c = λ told are.
    let old = c.args.amounts.now.items in
    amount_left told c.args.one (lists_of old) (omega (arith, length-map old items_of, c.args.amounts.now.ok.0, c.len.ensures, c.if-one-len.false)) are
