use Rattle.std.proofs.Common.{◌+◌, ◌∙◌, ap, arith, false, length, refl}
use Rattle.std.proofs.lemmas.List.{length_push}
use Rattle.std.proofs.lemmas.Option.{slice_get-get_or, slice_get_read}
use Rattle.hsr_health.proofs.Pointing.{points_more}
use Rattle.hsr_health.proofs.directions.points_told.Goals as goal

pub loop-k-preserved : goal.loop-k-preserved
loop-k-preserved c =
    let all = c.args.sightings.now in
    let begun = c.in_ok-begun.begun.items in
    let both = c.args.both.now in
    let needed = c.args.needed.now in
    let k = c.loop-k.k in
    record {
      long = ap length c.in_ok-push.ensures.items ∙ length_push c.loop-k.points.items _ ∙ ap (λ n. n + 1) c.loop-k.invariant.long;
      points = λ ring copies numbers are sees needs.
          points_more all begun both needed c.loop-k.points.items _ k _ _ _ _ c.in_ok-begun.ensures.begun c.loop-k.invariant.long (slice_get_read begun (length begun) k c.index.result.now refl (omega (arith, c.in_ok-begun.ensures.long)) c.index.ensures)
          (slice_get-get_or both k false (omega arith)) (slice_get-get_or needed k 0 (omega (arith, c.requires))) refl c.in_ok-push.ensures.items ring copies numbers are sees needs (c.loop-k.invariant.points ring copies numbers are sees needs);
    }
