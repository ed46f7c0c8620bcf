use Rattle.std.proofs.Common.{◌∙◌, ap, arith, refl, subst}
use Rattle.std.proofs.lemmas.List.{take_all}
use Rattle.std.proofs.lemmas.Option.{slice_get_read}
use Rattle.hsr_health.specs.Counted.{AreBesides, beside_with, changed}
use Rattle.hsr_health.proofs.Directing.{besides_more}
use Rattle.hsr_health.proofs.directions.besides_of.Goals as goal

pub loop-i-preserved : goal.loop-i-preserved
loop-i-preserved c =
    let all = c.args.sightings.now in
    let i = c.loop-i.i in
    record {
      long = c.put_beside.ensures.long ∙ c.loop-i.invariant.long;
      all = besides_more c.args.ring.now c.args.copies.now c.args.way _ all i _ c.loop-i.all.items _ _ _ (slice_get_read all _ i c.index-sightings-i.result refl (omega arith) c.index-sightings-i.is) (omega arith) c.other_way-other.ensures c.is_judged-had.ensures
          c.came_by-came_too.ensures (c.put_beside.ensures.all ∙ ap (λ n. changed (beside_with c.is_judged-had.result c.came_by-came_too.result) n c.loop-i.all.items) c.point.ensures) c.loop-i.invariant.all;
    }

pub returns-clause-all : goal.returns-clause-all
returns-clause-all c =
    subst (λ l. AreBesides c.args.ring.now c.args.copies.now c.args.way l c.loop-i.all.items) (take_all c.loop-i.i c.args.sightings.now (omega arith)) c.loop-i.invariant.all
