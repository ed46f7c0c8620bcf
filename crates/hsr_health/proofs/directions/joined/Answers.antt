use Rattle.std.proofs.Common.{◌+◌, ◌∙◌, ap, arith, length}
use Rattle.std.proofs.lemmas.List.{length_push}
use Rattle.std.proofs.lemmas.Option.{slice_get-get_or}
use Rattle.hsr_health.proofs.Directing.{joined_more}
use Rattle.hsr_health.proofs.directions.joined.Goals as goal

pub loop-d-preserved : goal.loop-d-preserved
loop-d-preserved c =
    let all = c.args.all.now in
    let d = c.loop-d.d in
    record {
      long = ap length c.in_ok-push.ensures.items ∙ length_push c.loop-d.new.items _ ∙ ap (λ n. n + 1) c.loop-d.invariant.long;
      all = joined_more c.args.ring.now c.args.way_0.now c.args.way_1.now c.args.most.now all c.loop-d.new.items _ d _ _ _ c.loop-d.invariant.long c.in_ok-push.ensures.items (slice_get-get_or all d _ (omega arith)) c.beside_at-beside.ensures
          c.with_beside.ensures c.loop-d.invariant.all;
    }
