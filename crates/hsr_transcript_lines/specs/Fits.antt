-- What the types of the code tell of nodes, entries and rows: an address has six octets, numbers have 8, 16 or 64 bits, and an
-- outcome tells of four ports.
--     IsPlaceFit, IsEntryFit, IsCarriedFit, IsRowFit   of one node, one entry, one copy, one row
use Rattle.std.specs.Prelude.{ℕ, ◌<◌, ◌≤◌, ◌^◌, ◌≡◌, List, length, Option, IfSome}
use Rattle.std.specs.List.{AllByRecursion}
use Rattle.hex.specs.Hex.{IsBytes}
use Rattle.hsr_frame.specs.Address.{IsAddress}
use Rattle.hsr_frame.specs.declared.node.About.{About}
use Rattle.hsr_frame.specs.declared.node.About.TheVariants.{Own, Proxied}
use Rattle.hsr_node.specs.declared.entry.Entry.{Entry}
use Rattle.hsr_node.specs.declared.event.Carried.{Carried}
use Rattle.hsr_node.specs.declared.event.Event.{Event}
use Rattle.hsr_node.specs.declared.event.Event.TheVariants.{Send, Supervise, Arrive, Age}
use Rattle.hsr_node.specs.declared.event.Outcome.{Outcome}
use Rattle.hsr_node.specs.declared.event.Outcome.TheVariants.{Sent, Life, Judged, Aged}
use Rattle.hsr_node.specs.declared.event.Probe.{Probe}
use Rattle.hsr_node.specs.declared.place.Place.{Place}
use Rattle.hsr_node.specs.declared.place.Place.TheVariants.{Danh, RedBox, QuadBox, Station}
use Rattle.hsr_link.specs.declared.row.Row.{Row}

-- ---- nodes

abbrev pub IsPlaceFit : Place → Type 0
IsPlaceFit (Danh mac mode) = IsAddress mac
IsPlaceFit (RedBox mac mode) = IsAddress mac
IsPlaceFit QuadBox = Unit {0}
IsPlaceFit (Station macs) = AllByRecursion IsAddress macs.items × (length macs.items ≤ 16)

-- ---- copies

abbrev pub IsProbeFit : Probe → Type 0
IsProbeFit probe = (probe.node < 2 ^ 64) × (probe.place < 2 ^ 64)

pub record IsCarriedFit (carried : Carried) : Type 0 where
  pub probe : IfSome carried.probe IsProbeFit
  pub octets : IsBytes carried.octets

-- ---- entries

pub record IsSendFit (from : ℕ) (dst : List ℕ) (vlan : Option ℕ) (ethertype : ℕ) (payload : List ℕ) : Type 0 where
  pub source : from < 256
  pub address : IsAddress dst
  pub tag : IfSome vlan (λ control. control < 2 ^ 16)
  pub type : ethertype < 2 ^ 16
  pub octets : IsBytes payload

abbrev pub IsAboutFit : About → Type 0
IsAboutFit Own = Unit {0}
IsAboutFit (Proxied mac) = IsAddress mac

abbrev pub IsEventFit : Event → Type 0
IsEventFit (Send from dst vlan ethertype payload) = IsSendFit from dst vlan ethertype payload
IsEventFit (Supervise about) = IsAboutFit about
IsEventFit (Arrive port carried) = IsCarriedFit carried
IsEventFit Age = Unit {0}

abbrev pub IsNumberFit : Option ℕ → Type 0
IsNumberFit seq = IfSome seq (λ n. n < 2 ^ 16)

abbrev pub IsOutcomeFit : Outcome → Type 0
IsOutcomeFit (Sent seq ports) = IsNumberFit seq × (length ports ≡ 4)
IsOutcomeFit (Life seq life ports) = (seq < 2 ^ 16) × (life < 2 ^ 16) × (length ports ≡ 4)
IsOutcomeFit (Judged up ports seq cause) = IsNumberFit seq × (length ports ≡ 4)
IsOutcomeFit Aged = Unit {0}

pub record IsEntryFit (x : Entry) : Type 0 where
  pub worker : x.worker < 2 ^ 16
  pub at : x.at < 2 ^ 64
  pub event : IsEventFit x.event
  pub outcome : IsOutcomeFit x.outcome

-- ---- rows

abbrev pub IsRowFit : Row → Type 0
IsRowFit row = IsCarriedFit row.carried
