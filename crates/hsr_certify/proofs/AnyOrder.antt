-- What is certified holds in any order.
use Rattle.std.proofs.Common.{ℕ, ◌<◌, ◌^◌, List, [], ◌∷◌, length}
use Rattle.std.specs.List.{All}
use Rattle.hsr_duptable.specs.Table.{IsTableSize}
use Rattle.hsr_topology.specs.Wired.{IsWired}
use Rattle.hsr_scenario.specs.declared.steps.Order.{Order}
use Rattle.hsr_scenario.specs.declared.steps.Order.TheVariants as order
use Rattle.hsr_world_laws.specs.Fit.{FitsPlace}
use Rattle.hsr_world_laws.specs.World.{World}
use Rattle.hsr_plays.specs.Law.{EndsCertain, GoesOn, LostDown, MovesAreFew, NeverOverruns, NeverTwice}
use Rattle.hsr_plays.specs.Plays.{IsPlayed}
use Rattle.hsr_plays.specs.Setup.{FitsOrder, IsSetup, Setup}
use Rattle.hsr_play_laws.specs.Accepted.{AcceptsEach, HaveFewAddresses}
use Rattle.hsr_certify.specs.AnyOrder.{AcceptsNext, HoldsInAnyOrder, RunCertifies}
use Rattle.hsr_certify.specs.Doubts.{IsPremised}

pub record AreLaws : Type 0 where
  pub accepts : AcceptsEach
  pub once : NeverTwice
  pub overruns : NeverOverruns
  pub loses : LostDown
  pub few : MovesAreFew
  pub goes_on : GoesOn
  pub ends : EndsCertain
  pub run : RunCertifies

accepts_next : AcceptsEach → (s : Setup) → HaveFewAddresses s → IsSetup s → IsPremised s → (done later : List Order) (n : ℕ) (w : World) → IsPlayed s done later n w → AcceptsNext s later w
accepts_next law s few setup p done [] n w played = tt
accepts_next law s few setup p done (order.Drain ∷ later) n w played = tt
accepts_next law s few setup p done (order.Step step ∷ later) n w played = law s done later step n w few setup p.clear played

pub in_any_order : AreLaws → (s : Setup) → HaveFewAddresses s → IsSetup s → IsPremised s → HoldsInAnyOrder s
in_any_order laws s few setup p = record {
  always = λ done later n w played. record {
    accepts = accepts_next laws.accepts s few setup p done later n w played;
    once = laws.once s done later n w setup p.clear played;
    overruns = laws.overruns s done later n w setup p.clear played;
    loses = laws.loses s done later n w setup p.clear played;
    few = laws.few s done later n w setup p.clear played;
    goes_on = laws.goes_on s done later n w setup p.clear played;
  };
  ends = λ n w played. laws.ends s n w setup p.clear played;
  run = λ none w plays. laws.run s w setup p none plays;
}

-- all that a setup is, told by its types, where its table has a size that is allowed and its steps are few
pub is_setup : (s : Setup) → IsWired s.places s.links → All FitsPlace s.places → All FitsOrder s.orders → IsTableSize s.capacity → length s.orders < 2 ^ 32 → IsSetup s
is_setup s wired places orders table few = record { wired = wired; table = table; fit_places = places; fit_orders = orders; few = few }
