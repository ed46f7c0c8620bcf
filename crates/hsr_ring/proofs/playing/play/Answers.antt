use Rattle.std.proofs.Common.{◌+◌, ◌∷◌, List, ap, drop, sym, ◌∙◌}
use Rattle.std.proofs.lemmas.List.{drop_more}
use Rattle.hsr_scenario.specs.declared.steps.Order.{Order}
use Rattle.hsr_ring.proofs.Orders.{play_halts, play_turn}
use Rattle.hsr_ring.proofs.playing.play.Goals as goal

pub loop-place-preserved : goal.loop-place-preserved
loop-place-preserved g c =
    let more : List Order = drop (c.loop-place.place + 1) c.args.orders.now in
    let next = drop_more c.args.orders.now c.loop-place.place c.index-orders-place.result c.loop-place-test.true ∙ ap (λ (s : Order). s ∷ more) (sym c.index-orders-place.is) in
    play_turn g.row.C c.loop-place.place c.index-orders-place.result (drop c.loop-place.place c.args.orders.now) more c.args.orders.now c.loop-place.world c.obey.new.world c.args.world.now
    next c.in-Ok.ensures.ok c.loop-place.invariant

pub returns-in-Err-clause-err : goal.returns-in-Err-clause-err
returns-in-Err-clause-err g c =
    let more : List Order = drop (c.loop-place.place + 1) c.args.orders.now in
    let next = drop_more c.args.orders.now c.loop-place.place c.index-orders-place.result c.loop-place-test.true ∙ ap (λ (s : Order). s ∷ more) (sym c.index-orders-place.is) in
    play_halts g.row.C c.loop-place.place c.index-orders-place.result (drop c.loop-place.place c.args.orders.now) more c.args.orders.now c.loop-place.world c.obey.new.world c.args.world.now c.in-Err.fault
    next c.in-Err.ensures.err c.loop-place.invariant
