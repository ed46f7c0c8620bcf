use Rattle.std.proofs.Common.{◌∙◌, ◌∷◌, ◌++◌, [], List, None, ap}
use Rattle.std.specs.Prelude.{Option}
use Rattle.std.proofs.lemmas.List.{replicate_more}
use Rattle.hsr_judging.specs.declared.matching.Got.{Got}
use Rattle.hsr_judging.proofs.matching.none_matched.Goals as goal

pub loop-i-preserved : goal.loop-i-preserved
loop-i-preserved c =
    c.in_ok-push.ensures.items ∙ (ap (λ (gots : List (Option Got)). gots ++ None ∷ []) c.loop-i.invariant ∙ replicate_more c.loop-i.i None)
