use Rattle.std.proofs.Common.{◌+◌, ◌∷◌, List, ap, drop, sym, ◌∙◌}
use Rattle.std.proofs.lemmas.List.{drop_more}
use Rattle.hsr_world_steps.specs.declared.step.Step.{Step}
use Rattle.hsr_ring.proofs.Stopped.{run_stops, run_turn}
use Rattle.hsr_ring.proofs.world.World.run.Goals as goal

pub loop-place-preserved : goal.loop-place-preserved
loop-place-preserved g c =
    let more : List Step = drop (c.loop-place.place + 1) c.args.steps.now in
    let next = drop_more c.args.steps.now c.loop-place.place c.index-steps-place.result c.loop-place-test.true ∙ ap (λ (s : Step). s ∷ more) (sym c.index-steps-place.is) in
    run_turn g.row.C c.loop-place.place c.index-steps-place.result (drop c.loop-place.place c.args.steps.now) more c.args.steps.now c.loop-place.self c.step.new.self c.args.self.now
    next c.in-Ok.ensures.ok c.loop-place.invariant

pub returns-in-Err-clause-err : goal.returns-in-Err-clause-err
returns-in-Err-clause-err g c =
    let more : List Step = drop (c.loop-place.place + 1) c.args.steps.now in
    let next = drop_more c.args.steps.now c.loop-place.place c.index-steps-place.result c.loop-place-test.true ∙ ap (λ (s : Step). s ∷ more) (sym c.index-steps-place.is) in
    run_stops g.row.C c.loop-place.place c.index-steps-place.result (drop c.loop-place.place c.args.steps.now) more c.args.steps.now c.loop-place.self c.step.new.self c.args.self.now c.in-Err.fault
    next c.in-Err.ensures.err.0 c.in-Err.ensures.err.1 c.loop-place.invariant
