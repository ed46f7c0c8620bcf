use Rattle.std.proofs.Common.{◌≡◌, ℕ, ◌<◌, List, length, get_or, true, refl, subst}
use Rattle.std.specs.Prelude.{MatchOption}
use Rattle.hsr_finished_run.specs.Reached.{IsFirstLost}
use Rattle.hsr_finished_run.specs.declared.reached.Reached.{Reached}
use Rattle.hsr_finished_run.proofs.Idle.{which_wrong}
use Rattle.hsr_finished_run.proofs.workers.first_wrong.Goals as goal

pub returns : goal.returns
returns g c =
    let found = c.first_lost.result in
    let Lost : List Reached → Type 0 = λ rs. MatchOption found ((w : ℕ) (d : Reached) → w < length rs → (get_or rs w d).is_right ≡ true) (λ w. IsFirstLost rs w) in
    which_wrong c.args.kept.now c.args.passes.now c.args.plan.now c.most_worker.result c.in_ok-reached.reached.items found (c.if-not-is_plan.ensures.0 refl) c.most_worker.ensures
    c.in_ok-reached.ensures (subst Lost c.as_slice.ensures.value c.first_lost.ensures)
