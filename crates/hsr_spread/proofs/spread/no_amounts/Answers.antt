use Rattle.std.proofs.Common.{◌++◌, ◌∷◌, [], ◌∙◌, ap, replicate}
use Rattle.std.proofs.lemmas.List.{map-append, replicate-append-replicate}
use Rattle.hsr_spread.specs.Spreads.{items_of, lists_of}
use Rattle.hsr_spread.proofs.spread.no_amounts.Goals as goal

pub loop-k-preserved : goal.loop-k-preserved
loop-k-preserved c =
    ap lists_of c.in_ok-push.ensures.items ∙ map-append items_of c.loop-k.amounts.items (c.new.result ∷ []) ∙ ap (λ l. l ++ c.new.result.items ∷ []) c.loop-k.invariant
    ∙ ap (λ x. replicate c.loop-k._k [] ++ x ∷ []) c.new.ensures.items ∙ replicate-append-replicate c.loop-k._k 1 []
