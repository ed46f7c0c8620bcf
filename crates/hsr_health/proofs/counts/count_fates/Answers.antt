use Rattle.std.proofs.Common.{◌∙◌, arith, refl, subst}
use Rattle.std.proofs.lemmas.List.{take_all}
use Rattle.std.proofs.lemmas.Option.{slice_get_read}
use Rattle.hsr_health.specs.Counted.{AreFated}
use Rattle.hsr_health.proofs.Fating.{fates_step, no_fates_yet}
use Rattle.hsr_health.proofs.counts.count_fates.Goals as goal

pub loop-i-init : goal.loop-i-init
loop-i-init c = record { long = refl; counts = λ macs numbers sources are none. no_fates_yet c.args.ring.now c.args.copies.now macs c.args.counts.now.items none }

pub loop-i-preserved : goal.loop-i-preserved
loop-i-preserved c =
    let i = c.loop-i.i in
    let all = c.args.sightings.now in
    record {
      long = c.count_sighting.ensures.long ∙ c.loop-i.invariant.long;
      counts = λ macs numbers sources are none.
          fates_step c.args.ring.now c.args.copies.now macs c.args.of_copy.now numbers c.args.counts.now.items c.loop-i.counts.items _ all i _ (slice_get_read all _ i c.index-sightings-i.result refl (omega arith) c.index-sightings-i.is) (omega arith) sources are
          c.count_sighting.ensures.counts (c.loop-i.invariant.counts macs numbers sources are none);
    }

pub returns-clause-counts : goal.returns-clause-counts
returns-clause-counts c = λ macs numbers sources are none.
    subst (λ l. AreFated c.args.ring.now c.args.copies.now macs c.args.counts.now.items l c.loop-i.counts.items) (take_all c.loop-i.i c.args.sightings.now (omega arith))
    (c.loop-i.invariant.counts macs numbers sources are none)
