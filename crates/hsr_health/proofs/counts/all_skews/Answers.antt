use Rattle.std.proofs.Common.{◌++◌, ◌∙◌, ap, arith, refl, subst, take}
use Rattle.std.specs.Prelude.{filter_map, option_to_list}
use Rattle.hsr_health.specs.Counted.{told_by}
use Rattle.hsr_spread.specs.Spreads.{AreTold}
use Rattle.hsr_health.proofs.Sorting.{found_more}
use Rattle.hsr_health.proofs.counts.all_skews.Goals as goal

pub loop-seen-preserved : goal.loop-seen-preserved
loop-seen-preserved c =
    let told = filter_map (told_by c.args.of_copy.now) (take c.loop-seen.seen-index c.args.sightings.now) in
    record {
      many = c.put_told.ensures.many ∙ c.loop-seen.invariant.many;
      told = subst (λ l. AreTold l c.put_told.new.all)
          (found_more (told_by c.args.of_copy.now) c.args.sightings.now c.loop-seen.seen-index c.seen-item.result told _ (omega arith) refl
          (ap (λ o. told ++ option_to_list o) (c.told_of.ensures ∙ ap (told_by c.args.of_copy.now) c.seen-item.is)))
          (c.in_ok-put_told.ensures.told told c.loop-seen.invariant.told);
    }
