-- What a verdict is about, and what is tested on the way to it.
use Rattle.std.specs.Prelude.{ℕ, ◌≡◌, true, List, length, Option, None}
use Rattle.std.specs.List.{list_any}
use Rattle.hsr_topology.specs.Topology.{Topology}
use Rattle.hsr_network_laws.specs.Network.{IsNetwork}
use Rattle.hsr_routes.specs.Networks.{AreGoingRound, HaveOwnAddresses}
use Rattle.hsr_scenario.specs.declared.steps.Order.{Order}
use Rattle.hsr_plays.specs.Law.{is_send}
use Rattle.hsr_plays.specs.Setup.{Setup}
use Rattle.hsr_plays.specs.declared.span.SendSpan.{SendSpan}
use Rattle.hsr_routes.specs.Routes.{bare}
use Rattle.hsr_certify.specs.Firsts.{first_send, first_step}
use Rattle.hsr_certify.specs.Tested.{Subject}
use Rattle.hsr_certify.specs.Tests.{first_back, is_accepted, is_brief, is_coarse, is_ended, is_uncrowded, is_unwrapped}

-- what is tested of these
abbrev pub subject_in : Topology → ℕ → ℕ → List Order → List SendSpan → Subject
subject_in topology room capacity orders spans =
    record { net = bare topology.places topology.links; room = room; capacity = capacity; orders = orders; spans = spans }

abbrev pub setup_of : Topology → ℕ → ℕ → List Order → Option ℕ → Setup
setup_of topology room capacity orders within =
    record { places = topology.places; links = topology.links; room = room; capacity = capacity; orders = orders; within = within }

-- ---- what is tested before, and what then

-- a step asks for a send, none moves a copy, and each span ends
pub record IsBegun (t : Subject) : Type 0 where
  pub sends : list_any is_send t.orders ≡ true
  pub fine : first_step is_coarse 0 t.orders ≡ None
  pub ended : first_send (is_ended (length t.orders)) t.spans ≡ None

-- nodes and links are a network, and no play refuses a step
pub record IsWelcome (t : Subject) : Type 0 where
  pub begun : IsBegun t
  pub round : AreGoingRound t.net
  pub own : HaveOwnAddresses t.net
  pub network : IsNetwork t.net
  pub accepted : first_step (is_accepted t.net t.orders t.spans) 0 t.orders ≡ None

-- the clock and tables are as they should
pub record IsKept (t : Subject) : Type 0 where
  pub welcome : IsWelcome t
  pub not_back : first_back 0 0 t.orders ≡ None
  pub brief : first_send (is_brief t.orders) t.spans ≡ None
  pub uncrowded : first_send (is_uncrowded t.capacity t.spans) t.spans ≡ None
  pub unwrapped : first_send (is_unwrapped t.net t.spans) t.spans ≡ None
