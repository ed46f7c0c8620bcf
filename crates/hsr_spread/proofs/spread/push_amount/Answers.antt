use Rattle.std.proofs.Common.{◌++◌, ◌∷◌, [], ◌∙◌, ap, sym, set}
use Rattle.std.proofs.lemmas.List.{get_or-map, map-set}
use Rattle.hsr_spread.specs.Spreads.{items_of, lists_of}
use Rattle.hsr_spread.proofs.spread.push_amount.Goals as goal

pub returns-clause-amounts : goal.returns-clause-amounts
returns-clause-amounts c =
    map-set items_of c.args.amounts.now.items c.args.one.of c.push.new.self
    ∙ ap (λ row. set (lists_of c.args.amounts.now.items) c.args.one.of row)
    (c.in_ok-push.ensures.items
    ∙ ap (λ row. row ++ c.args.one.amount ∷ []) (ap items_of c.index_mut.ensures.value ∙ sym (get_or-map items_of c.args.amounts.now.items c.args.one.of c.index_mut.result.now [] c.requires)))
