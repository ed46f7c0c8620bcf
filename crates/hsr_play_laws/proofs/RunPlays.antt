-- What `run` does of a scenario is a play.
use Rattle.std.proofs.Common.{◌≡◌, ℕ, ◌+◌, List, [], ◌∷◌, map, Option, None, Ok, refl, sym, ap, ◌∙◌, subst, zero, suc, append-nil}
use Rattle.hsr_node.specs.declared.place.Place.{Place}
use Rattle.hsr_ring.specs.Playing as ring
use Rattle.hsr_scenario.specs.declared.steps.Order.{Order}
use Rattle.hsr_scenario.specs.declared.steps.Order.TheVariants as order
use Rattle.hsr_topology.specs.Wired.{IsWired}
use Rattle.hsr_topology.specs.declared.end.End.{End}
use Rattle.hsr_world_laws.specs.World.{Drains, World, or_same, tried}
use Rattle.hsr_world_laws.proofs.Wires.{first_wires, step_keeps, wire, wire_of}
use Rattle.hsr_world_steps.specs.declared.step.Step.{Step}
use Rattle.hsr_plays.specs.Plays.{IsTimely, Moves, Plays}
use Rattle.hsr_plays.specs.Setup.{first_world}
use Rattle.hsr_play_laws.specs.Running.{RunIsPlay}
use Rattle.hsr_play_laws.proofs.Drained.{drained_quiet, next_moves}
use Rattle.hsr_play_laws.proofs.Lanes.{AreWired}

module _ (capacity : ℕ) (places : List Place) (links : List (List End)) (wired : IsWired places links) where
  -- ---- nodes and links stay

  wired_after : (w after : World) (step : Step) → AreWired places links w → tried capacity w step ≡ Ok after → AreWired places links after
  wired_after w after step are done =
      let kept = step_keeps capacity w step in
      let same = ap (or_same w) done in
      record {
        stands = ap (λ (v : World). v.places) (sym same) ∙ (kept.places ∙ are.stands);
        joins = subst (λ (v : World). map wire v.spans ≡ map wire_of links) same (kept.wires ∙ are.joins);
      }

  drains_wired : (n : ℕ) (w after : World) → AreWired places links w → Drains capacity n w after → AreWired places links after
  drains_wired zero w after are same = subst (AreWired places links) same are
  drains_wired (suc n) w after are (step, between, next, done, rest) = drains_wired n between after (wired_after w between step are done) rest

  -- ---- a drain moves copies

  drains_move : (n : ℕ) (w after : World) → Drains capacity n w after → Moves capacity n w after
  drains_move zero w after same = same
  drains_move (suc n) w after (step, between, next, done, rest) = (step, between, next_moves w step next, done, drains_move n between after rest)

  -- ---- all orders

  plays_so : (within : Option ℕ) → within ≡ None → (orders : List Order) (w after : World) → AreWired places links w → ring.Plays capacity orders w after → (n : ℕ) × Plays capacity within orders n w after
  plays_so within none [] w after are same = (0, same)
  plays_so within none (order.Step step ∷ orders) w after are (between, done, rest) =
      let more = plays_so within none orders between after (wired_after w between step are done) rest in
      (0 + more.0, (0, more.0, refl, (w, between, refl, (done, subst (λ (o : Option ℕ). IsTimely o between) (sym none) tt), more.1)))
  plays_so within none (order.Drain ∷ orders) w after are (between, (m, few, drained, drains), rest) =
      let still = drains_wired m w between are drains in
      let more = plays_so within none orders between after still rest in
      (m + more.0, (m, more.0, refl, (between, between, drains_move m w between drains, (drained_quiet places links between wired still drained, refl), more.1)))

pub run_is_play : RunIsPlay
run_is_play s w setup none plays =
    let first : AreWired s.places s.links (first_world s) = record { stands = refl; joins = first_wires s.room s.links } in
    let all = plays_so s.capacity s.places s.links setup.wired s.within none s.orders (first_world s) w first plays in
    (all.0, record { whole = sym (append-nil s.orders); plays = all.1 })
