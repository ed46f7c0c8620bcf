-- No step of a play is refused.
use Rattle.std.proofs.Common.{◌≡◌, ℕ, ◌∷◌, ◌++◌, List, length, Option, Some, sym, ap, ◌∙◌, subst}
use Rattle.std.specs.Prelude.{slice_get}
use Rattle.hsr_frame.specs.declared.node.About.TheVariants.{Proxied}
use Rattle.hsr_scenario.specs.declared.steps.Order.{Order}
use Rattle.hsr_scenario.specs.declared.steps.Order.TheVariants as order
use Rattle.hsr_world_laws.specs.World.{World}
use Rattle.hsr_world_steps.specs.declared.step.Step.{Step}
use Rattle.hsr_world_steps.specs.declared.step.Step.TheVariants.{Supervise}
use Rattle.hsr_plays.specs.Plays.{IsPlayed}
use Rattle.hsr_play_laws.specs.Accepted.{AcceptsEach}
use Rattle.hsr_play_laws.proofs.Accepting.{step_so}
use Rattle.hsr_play_laws.proofs.Down.{next_is}
use Rattle.hsr_play_laws.proofs.FewSteps.{steps_few}
use Rattle.hsr_play_laws.proofs.HeardNow.{heard_now}
use Rattle.hsr_play_laws.proofs.Told.{tells_all}
use Rattle.hsr_play_laws.proofs.Worlds.{links_are, places_are}

pub accepts_each : AcceptsEach
accepts_each s done later step n w few setup clear played =
    let told = tells_all s done (order.Step step ∷ later) n w setup clear played in
    let listed : slice_get s.orders (length done) ≡ Some (order.Step step) = ap (λ (orders : List Order). slice_get orders (length done)) played.whole ∙ next_is done later (order.Step step) in
    step_so s (length done) w step (clear.fine (length done) (order.Step step) listed) (clear.accepted (length done) (order.Step step) listed) (places_are s w told.own) (links_are s w told.own)
    (λ k. steps_few s setup clear (length done) n w told k)
    (λ node station mac mode is box known.
    heard_now s done later n node station w few setup clear (subst (λ (q : Step). IsPlayed s done (order.Step q ∷ later) n w) is played) mac mode box known)
