use Rattle.std.proofs.Common.{◌+◌, ◌∙◌, ap, arith, length}
use Rattle.std.proofs.lemmas.List.{length_push}
use Rattle.hsr_spread.proofs.Spreading.{spread_at, spreads_more}
use Rattle.hsr_spread.proofs.spread.Amounts.spreads.Goals as goal

pub loop-k-preserved : goal.loop-k-preserved
loop-k-preserved c =
    let amounts = c.args.self.now.lists.items in
    let k = c.loop-k.k in
    record {
      long = ap length c.in_ok-push.ensures.items ∙ length_push c.loop-k.spreads.items _ ∙ ap (λ n. n + 1) c.loop-k.invariant.long;
      spreads = λ told are. spreads_more told c.loop-k.spreads.items _ k _ c.loop-k.invariant.long c.in_ok-push.ensures.items
          (spread_at told amounts k c.index.result.now c.as_slice.result.now _ (omega (arith, c.args.self.now.lists.ok.0, c.len-k-end.ensures, c.loop-k-test.true)) c.as_slice.ensures.value c.index.ensures are c.in_ok-spread_of.ensures) (c.loop-k.invariant.spreads told are);
    }
