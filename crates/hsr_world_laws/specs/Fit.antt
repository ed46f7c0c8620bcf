-- What the types of the code tell of steps and of nodes: an address has six octets, and a VLAN tag and a type have 16 bits.
use Rattle.std.specs.Prelude.{ℕ, ◌<◌, ◌^◌, ◌≡◌, List, length, Option, IfSome}
use Rattle.std.specs.List.{All}
use Rattle.hsr_node.specs.declared.event.Event.{Event}
use Rattle.hsr_node.specs.declared.event.Event.TheVariants as event
use Rattle.hsr_node.specs.declared.place.Place.{Place}
use Rattle.hsr_node.specs.declared.place.Place.TheVariants.{Danh, RedBox, QuadBox, Station}
use Rattle.hsr_world_steps.specs.declared.step.Step.{Step}
use Rattle.hsr_world_steps.specs.declared.step.Step.TheVariants as step

-- what a send asks for
pub record IsFit (dst : List ℕ) (vlan : Option ℕ) (ethertype : ℕ) : Type 0 where
  pub address : length dst ≡ 6
  pub tag : IfSome vlan (λ control. control < 2 ^ 16)
  pub type : ethertype < 2 ^ 16

abbrev pub FitsStep : Step → Type 0
FitsStep (step.Send node from dst vlan ethertype payload) = IsFit dst vlan ethertype
FitsStep _ = Unit {0}

abbrev pub FitsEvent : Event → Type 0
FitsEvent (event.Send from dst vlan ethertype payload) = IsFit dst vlan ethertype
FitsEvent _ = Unit {0}

abbrev pub FitsPlace : Place → Type 0
FitsPlace (Danh mac mode) = length mac ≡ 6
FitsPlace (RedBox mac mode) = length mac ≡ 6
FitsPlace QuadBox = Unit {0}
FitsPlace (Station macs) = All (λ mac. length mac ≡ 6) macs.items
