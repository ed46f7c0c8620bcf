use Rattle.std.specs.Prelude.{filter_map}
use Rattle.hsr_health.specs.Counted.{told_by}
use Rattle.hsr_health.proofs.counts.skews_of.Goals as goal

pub returns-clause-spreads : goal.returns-clause-spreads
returns-clause-spreads c = c.in_ok-spreads.ensures.spreads (filter_map (told_by c.args.of_copy.now) c.args.sightings.now) c.in_ok-all.ensures.told
