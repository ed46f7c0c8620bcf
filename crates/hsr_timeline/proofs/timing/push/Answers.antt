use Rattle.std.proofs.Common.{◌++◌, ◌∷◌, [], ◌∙◌, ap, sym, set}
use Rattle.std.proofs.lemmas.List.{get_or-map, map-set}
use Rattle.hsr_timeline.specs.Fronts.{items_of, lists_of}
use Rattle.hsr_timeline.proofs.timing.push.Goals as goal

pub returns : goal.returns
returns c =
    map-set items_of c.args.stamps.now.items c.args.node c.push.new.self
    ∙ ap (λ row. set (lists_of c.args.stamps.now.items) c.args.node row)
    (c.in_ok-push.ensures.items
    ∙ ap (λ row. row ++ c.args.stamp ∷ []) (ap items_of c.index_mut.ensures.value ∙ sym (get_or-map items_of c.args.stamps.now.items c.args.node c.index_mut.result.now [] c.requires)))
