-- What is left to do in a world: the numbers of the ports that hold a copy, of those that have one to put, and of the directions in
-- which one waits.
use Rattle.std.specs.Prelude.{ℕ, ◌/◌, ◌%◌, ◌==◌, nat_lt, ◌≡◌, ◌<◌, ◌≤◌, Bool, true, false, if◌then◌else◌, List, length, Option, Some, None, option_map}
use Rattle.hsr_topology.specs.Links.{is_same_end}
use Rattle.hsr_topology.specs.declared.end.End.{End}
use Rattle.hsr_link.specs.declared.row.Dir.{Dir}
use Rattle.hsr_node.specs.declared.place.Place.{Place}
use Rattle.hsr_duptable.specs.Table.{IsTableSize}
use Rattle.hsr_world_laws.specs.Spans.{Span, Spot, lane_of}
use Rattle.hsr_world_laws.specs.Reached.{IsReached}
use Rattle.hsr_world_laws.specs.World.{World, span_in}
use Rattle.hsr_bitset.specs.Numbers.{IsLowest, has}
use Rattle.hsr_world_links.specs.Views.{spot_view}
use Rattle.hsr_world_links.specs.Ports.{dir_at, end_at, is_held, is_ready, is_waiting, AreTold, port_in, port_of}
use Rattle.hsr_world_links.specs.Touching.{AreTouching}
use Rattle.hsr_ring.specs.declared.pending.Move.{Move}
use Rattle.hsr_ring.specs.declared.pending.Move.TheVariants as move
use Rattle.hsr_ring.specs.declared.pending.Pending.{Pending}
use Rattle.hsr_world_links.specs.declared.port.Port.{Port}
use Rattle.hsr_world_steps.specs.declared.step.Step.{Step}
use Rattle.hsr_world_steps.specs.declared.step.Step.TheVariants.{Send, Supervise, Age, Put, Take, Judge, Cut, Inject}

-- a set has exactly the numbers below 512 that pass a test
abbrev pub Has : List ℕ → (ℕ → Bool) → Type 0
Has numbers test = (k : ℕ) → k < 512 → has numbers k ≡ test k

-- all ports that have a copy to put send somewhere, and of the eight numbers of a node only the first four may
pub record AreOfSenders (ports : List Port) (waiting : List ℕ) : Type 0 where
  pub senders : (k : ℕ) → k < 512 → (port_in ports k).out ≡ None → has waiting k ≡ false
  pub few : (k : ℕ) → 4 ≤ k % 8 → (port_in ports k).out ≡ None

-- the sets are those of these ports and spans
pub record ArePending (ports : List Port) (spans : List Span) (pending : Pending) : Type 0 where
  pub held : Has pending.held (is_held ports spans)
  pub waiting : Has pending.waiting (is_waiting ports spans)
  pub ready : Has pending.ready (is_ready spans)

-- a set after a look at some numbers
abbrev pub looked : (ℕ → Bool) → (ℕ → Bool) → List ℕ → ℕ → Bool
looked touched test old k = if touched k then test k else has old k

-- ---- what a step may change

-- the step that a move is
abbrev pub step_of : Move → Step
step_of (move.Judge end) = Judge end.node end.port
step_of (move.Put end) = Put end.node end.port
step_of (move.Take l dir) = Take l dir

-- the end at which a direction of a link is received
abbrev pub received_at : List Span → ℕ → Dir → Option End
received_at spans l dir = if nat_lt l (length spans) then Some (lane_of dir (span_in spans l)).to else None

-- the end at which a copy may come into a hand or leave it
abbrev pub hand_of : List Span → Step → Option End
hand_of spans (Take l dir) = received_at spans l dir
hand_of spans (Judge n port) = Some (record { node = n; port = port })
hand_of spans _ = None

-- the node whose outboxes may get a copy
abbrev pub node_of : Step → Option ℕ
node_of (Send n from dst vlan ethertype payload) = Some n
node_of (Supervise n about) = Some n
node_of (Age n) = Some n
node_of (Judge n port) = Some n
node_of _ = None

-- the end whose outbox may lose one
abbrev pub box_of : Step → Option End
box_of (Put n port) = Some (record { node = n; port = port })
box_of _ = None

-- the link on which a copy may begin to wait or cease to
abbrev pub link_at : Option Spot → Option ℕ
link_at None = None
link_at (Some spot) = Some spot.link

abbrev pub link_of : List Port → Step → Option ℕ
link_of ports (Put n port) = link_at (option_map spot_view (port_of ports (record { node = n; port = port })).out)
link_of ports (Take l dir) = Some l
link_of ports (Cut l) = Some l
link_of ports (Inject l dir octets) = Some l
link_of ports _ = None

abbrev pub is_at : Option End → ℕ → Bool
is_at None k = false
is_at (Some end) k = is_same_end (end_at k) end

abbrev pub is_by : Option ℕ → ℕ → Bool
is_by None i = false
is_by (Some j) i = i == j

abbrev pub touches_hand : List Span → Step → ℕ → Bool
touches_hand spans step k = is_at (hand_of spans step) k

abbrev pub touches_box : Step → ℕ → Bool
touches_box step k = if is_by (node_of step) (k / 8) then true else is_at (box_of step) k

abbrev pub touches_link : List Port → Step → ℕ → Bool
touches_link ports step k = is_by (link_of ports step) (k / 2)

-- the sets after a look at what a step may have changed
pub record AreLooked (ports : List Port) (spans : List Span) (step : Step) (old new : Pending) : Type 0 where
  pub held : Has new.held (looked (touches_hand spans step) (is_held ports spans) old.held)
  pub waiting : Has new.waiting (looked (touches_box step) (is_waiting ports spans) old.waiting)
  pub ready : Has new.ready (looked (touches_link ports step) (is_ready spans) old.ready)

-- ---- the next step

abbrev pub judge_at : ℕ → Step
judge_at k = Judge (end_at k).node (end_at k).port

abbrev pub put_at : ℕ → Step
put_at k = Put (end_at k).node (end_at k).port

abbrev pub take_at : ℕ → Step
take_at k = Take (k / 2) (dir_at k)

-- the lowest number of the first set that has one
abbrev pub IsTake : Pending → Option Step → Type 0
IsTake pending step = (ready : Option ℕ) × IsLowest 512 pending.ready ready × (step ≡ option_map take_at ready)

abbrev pub IsPutOr : Pending → Option ℕ → Option Step → Type 0
IsPutOr pending (Some k) step = step ≡ Some (put_at k)
IsPutOr pending None step = IsTake pending step

abbrev pub IsPut : Pending → Option Step → Type 0
IsPut pending step = (waiting : Option ℕ) × IsLowest 512 pending.waiting waiting × IsPutOr pending waiting step

abbrev pub IsJudgeOr : Pending → Option ℕ → Option Step → Type 0
IsJudgeOr pending (Some k) step = step ≡ Some (judge_at k)
IsJudgeOr pending None step = IsPut pending step

pub record IsNext (pending : Pending) (step : Option Step) : Type 0 where
  pub held : Option ℕ
  pub lowest : IsLowest 512 pending.held held
  pub is : IsJudgeOr pending held step

-- a world that was reached, with tables of a size that is allowed, its ports and what is left to do
pub record IsKept (capacity : ℕ) (places : List Place) (links : List (List End)) (ports : List Port) (touching : List (List ℕ)) (left : Pending) (w : World) : Type 0 where
  pub tables : IsTableSize capacity
  pub reached : IsReached capacity places links w
  pub few : length w.spans ≤ 128
  pub told : AreTold w.places w.spans ports
  pub touched : AreTouching w.places w.spans touching
  pub pending : ArePending ports w.spans left
