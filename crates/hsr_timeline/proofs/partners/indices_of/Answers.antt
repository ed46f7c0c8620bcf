use Rattle.std.proofs.Common.{◌∙◌, ap}
use Rattle.hsr_timeline.specs.IndexedCopies.{items_if}
use Rattle.hsr_timeline.proofs.Placing.{found}
use Rattle.hsr_timeline.proofs.partners.indices_of.Goals as goal

pub returns-in-Some : goal.returns-in-Some
returns-in-Some c =
    c.as_slice.ensures.value ∙ ap items_if (c.in-Some.ensures.value ∙ found c.args.kept.now c.args.copy.now c.key_of.result c.key_of.ensures.send c.key_of.ensures.octets)

pub returns-in-None : goal.returns-in-None
returns-in-None c = ap items_if (c.in-None.ensures.value ∙ found c.args.kept.now c.args.copy.now c.key_of.result c.key_of.ensures.send c.key_of.ensures.octets)
