use Rattle.std.proofs.Common.{◌∙◌, ap}
use Rattle.hsr_health.specs.Loads.{capped}
use Rattle.hsr_health.proofs.Loading.{same_load}
use Rattle.hsr_health.proofs.load.load_of.Goals as goal

pub returns : goal.returns
returns c = λ few.
    same_load _ _ _ _ _ _ (c.capped.ensures ∙ ap capped (c.sum_of.ensures few)) (c.capped-2.ensures ∙ ap capped (c.peak_of.ensures few)) (c.capped-3.ensures ∙ ap capped (c.peak_of-2.ensures few))
