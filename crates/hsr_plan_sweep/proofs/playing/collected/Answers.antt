use Rattle.std.proofs.Common.{◌≡◌, ◌∙◌}
use Rattle.rayon.proofs.ListFacts.{IfOk-then}
use Rattle.rayon.proofs.ToStd.{slice-AllZip}
use Rattle.hsr_plan_sweep.specs.Variants.{plan_in}
use Rattle.hsr_plan_sweep.specs.Refusals.{TellsCase}
use Rattle.hsr_plan_sweep.proofs.Plays.{all_told}
use Rattle.hsr_plan_sweep.proofs.playing.collected.Goals as goal

pub returns : goal.returns
returns g c =
    let said = plan_in c.args.swept.now.without_events c.args.swept.now.text in
    let ground = c.args.swept.now.ground in
    IfOk-then c.collect.result _ _ c.collect.ensures (λ v h.
    let chain = rw (c.map.ensures.base, c.map.ensures.f, c.with_min_len.ensures.base) at h.1 in
    all_told said ground c.args.cases.now h.0 v (slice-AllZip chain.0 c.args.cases.now (chain.1 ∙ c.par_iter.ensures) (TellsCase said ground) h.0 chain.2) h.2)
