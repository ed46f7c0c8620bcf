use Rattle.std.proofs.Common.{◌+◌, ◌∙◌, None, ap, arith, length}
use Rattle.std.proofs.lemmas.List.{length_push}
use Rattle.hsr_judging.proofs.Turning.{turn_alone, turn_done, turn_gots}
use Rattle.hsr_judging.proofs.matching.take_turn.Goals as goal

pub loop-k-preserved : goal.loop-k-preserved
loop-k-preserved c =
    let es = c.args.expected.now in
    let alone = c.loop-k.alone.items in
    let after = c.got_by-got.new.alone.items in
    let gots = c.args.gots.now in
    let seen = c.args.observed.now in
    let k = c.loop-k.k in
    record {
      gots = turn_gots c.args.turn es alone after gots seen k None c.index-observed-k.result c.got_by-got.result c.loop-k.next.items _ _ (omega arith) (omega arith)
          c.index-observed-k.is c.got_by-got.ensures c.in_ok-push.ensures.items c.loop-k.invariant.gots;
      alone = turn_alone c.args.turn es alone after gots seen k None c.index-observed-k.result c.got_by-got.result _ (omega arith) (omega arith)
          c.index-observed-k.is c.got_by-got.ensures c.loop-k.invariant.alone;
      long = ap length c.in_ok-push.ensures.items ∙ length_push c.loop-k.next.items c.got_by-got.result ∙ ap (λ n. n + 1) c.loop-k.invariant.long;
      from = omega (arith, c.first_open-from.ensures.value);
    }

pub returns-clause-value : goal.returns-clause-value
returns-clause-value c =
    turn_done c.args.turn c.args.expected.now c.loop-k.alone.items c.args.gots.now c.args.observed.now c.loop-k.k c.loop-k.next.items _ (omega arith)
    c.loop-k.invariant.gots c.loop-k.invariant.alone
