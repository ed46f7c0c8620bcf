use Rattle.std.proofs.Common.{◌∙◌, ap, arith, refl, subst}
use Rattle.std.proofs.lemmas.List.{take_all}
use Rattle.std.proofs.lemmas.Option.{slice_get_read}
use Rattle.hsr_health.specs.Counted.{AreBegun, changed, one_more}
use Rattle.hsr_health.proofs.Pointing.{begun_step}
use Rattle.hsr_health.proofs.directions.begun_of.Goals as goal

pub loop-i-preserved : goal.loop-i-preserved
loop-i-preserved c =
    let all = c.args.sightings.now in
    let i = c.loop-i.i in
    record {
      long = c.count_point.ensures.long ∙ c.loop-i.invariant.long;
      begun = begun_step all i _ c.loop-i.begun.items _ (slice_get_read all _ i c.index-sightings-i.result refl (omega arith) c.index-sightings-i.is) (omega arith)
          (c.count_point.ensures.begun ∙ ap (λ n. changed one_more n c.loop-i.begun.items) c.point.ensures) c.loop-i.invariant.begun;
    }

pub returns-clause-begun : goal.returns-clause-begun
returns-clause-begun c = subst (λ l. AreBegun l c.loop-i.begun.items) (take_all c.loop-i.i c.args.sightings.now (omega arith)) c.loop-i.invariant.begun
