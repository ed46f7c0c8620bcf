-- What a fault leaves of the conditions under which a setup is certified in any order.
--     stays        a step that a fault leaves
--     with_fault   a setup with a fault from the start
--     IsLeft       all its conditions but two: that no step is refused, and that no send is cut off
--     Leaves       of a setup that is clear these hold with each fault
--     ServesOn     routes lead each send to each node that it is due at and that is on
--     Sweeps       and so they do with a fault that cuts no send off
use Rattle.std.specs.Prelude.{ℕ, ◌<◌, ◌≡◌, not, Bool, true, false, List, ◌++◌, length, filter, map, slice_get, Some}
use Rattle.std.specs.List.{range_with_len}
use Rattle.hsr_topology.specs.declared.end.End.{End}
use Rattle.hsr_network_laws.specs.Network.{IsNetwork}
use Rattle.hsr_scenario.specs.declared.steps.Order.{Order}
use Rattle.hsr_scenario.specs.declared.steps.Order.TheVariants as order
use Rattle.hsr_world_steps.specs.declared.step.Step.TheVariants.{Cut, Mend, Send, Supervise}
use Rattle.hsr_plays.specs.Conditions.{HasRoom, IsAccepted, IsBrief, IsClear, IsCovered, IsEnded, IsFine, IsNotBack, IsUncrowded, IsUnwrapped, LeadsDue, OfSends, OfSteps}
use Rattle.hsr_plays.specs.Setup.{IsSetup, Setup, net_of}
use Rattle.hsr_plays.specs.Spans.{spans}
use Rattle.hsr_plays.specs.declared.span.SendSpan.{SendSpan}
use Rattle.hsr_faults.specs.CutOff.{IsOutage}
use Rattle.hsr_faults.specs.Fault.{is_link_off, is_node_off}
use Rattle.hsr_faults.specs.declared.fault.Fault.{Fault}
use Rattle.hsr_faults.specs.declared.outage.Outage.{Outage}

-- no send of a node that is off, and no mend of a link that is off
abbrev pub stays : List (List End) → Fault → Order → Bool
stays links fault (order.Step (Send node from dst vlan ethertype payload)) = not (is_node_off fault node)
stays links fault (order.Step (Supervise node about)) = not (is_node_off fault node)
stays links fault (order.Step (Mend link)) = not (is_link_off links fault link)
stays links fault _ = true

abbrev pub cut_step : ℕ → Order
cut_step link = order.Step (Cut link)

-- the links that are off are cut first
abbrev pub with_fault : Setup → Fault → Setup
with_fault s fault = record s {
  orders = map cut_step (filter (is_link_off s.links fault) (range_with_len 0 (length s.links))) ++ filter (stays s.links fault) s.orders;
}

pub record IsLeft (s : Setup) : Type 0 where
  pub fine : OfSteps IsFine s
  pub ended : OfSends IsEnded s
  pub network : IsNetwork (net_of s)
  pub not_back : OfSteps IsNotBack s
  pub brief : OfSends IsBrief s
  pub uncrowded : OfSends IsUncrowded s
  pub unwrapped : OfSends IsUnwrapped s
  pub covered : OfSends IsCovered s
  pub room : OfSends HasRoom s

abbrev pub Leaves : Type 0
Leaves = (s : Setup) (fault : Fault) → IsClear s → IsLeft (with_fault s fault)

-- ---- where no send is cut off

abbrev pub ServesOn : Setup → Fault → Type 0
ServesOn s fault = (i : ℕ) (span : SendSpan) → slice_get (spans s) i ≡ Some span → (k : ℕ) → k < length s.places → is_node_off fault k ≡ false → LeadsDue s span k

abbrev pub IsOfLinks : Fault → Type 0
IsOfLinks fault = (k : ℕ) → is_node_off fault k ≡ false

-- A node that is off is due what it can't get, so with one the setup isn't clear. With links off alone it is, if no step is refused: so all that holds of each
-- play of a setup that is certified holds of each play with the fault.
pub record IsSweptBy (s : Setup) (fault : Fault) : Type 0 where
  pub rest : IsLeft (with_fault s fault)
  pub serves : ServesOn (with_fault s fault) fault
  pub clear : IsOfLinks fault → OfSteps IsAccepted (with_fault s fault) → IsClear (with_fault s fault)

abbrev pub Sweeps : Type 0
Sweeps = (s : Setup) (fault : Fault) (outage : Outage) → IsSetup s → IsClear s → IsOutage (net_of s) s.orders (spans s) fault outage → outage.sends ≡ 0 → IsSweptBy s fault
