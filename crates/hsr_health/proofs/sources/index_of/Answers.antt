use Rattle.std.proofs.Common.{subst}
use Rattle.hsr_health.specs.Sources.{IsPlace}
use Rattle.hsr_health.proofs.Addressing.{found_if, none_if}
use Rattle.hsr_health.proofs.sources.index_of.Goals as goal

pub returns-clause-found : goal.returns-clause-found
returns-clause-found c = found_if c.args.macs.now c.place_of-place.result c.args.mac c.index_if.result c.index_if.ensures

pub returns-clause-none : goal.returns-clause-none
returns-clause-none c =
    none_if c.args.macs.now c.place_of-place.result c.args.mac c.index_if.result c.index_if.ensures
    (λ rise. subst (λ n. IsPlace c.args.macs.now n c.place_of-place.result) c.number_of.ensures.number (c.place_of-place.ensures.place rise))
