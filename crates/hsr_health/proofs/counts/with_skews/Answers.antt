use Rattle.std.proofs.Common.{◌+◌, ◌∙◌, ap, arith, length}
use Rattle.std.proofs.lemmas.List.{length_push}
use Rattle.std.proofs.lemmas.Option.{slice_get-get_or}
use Rattle.hsr_health.proofs.Composing.{skewed_more}
use Rattle.hsr_health.proofs.counts.with_skews.Goals as goal

pub loop-k-preserved : goal.loop-k-preserved
loop-k-preserved c =
    let counts = c.args.counts.now in
    let skews = c.args.skews.now in
    let k = c.loop-k.k in
    record {
      long = ap length c.in_ok-push.ensures.items ∙ length_push c.loop-k.all.items _ ∙ ap (λ n. n + 1) c.loop-k.invariant.long;
      all = skewed_more counts skews c.loop-k.all.items _ k _ _ _ c.loop-k.invariant.long c.in_ok-push.ensures.items (slice_get-get_or counts k _ (omega arith)) (slice_get-get_or skews k _ (omega (arith, c.requires))) c.with_skew.ensures
          c.loop-k.invariant.all;
    }
