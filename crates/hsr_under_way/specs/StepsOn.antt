-- What a step makes of the copies that are under way, of records, losses and cuts. Whoever reasons about plays uses this, and doesn't look into
-- a step.
--     is_under_way   a copy of a send is under way
--     is_lost_on     a copy of it was lost on a link
--     moves_in       how many copies were put, taken and judged so far
--     IsStepOn       what a step does to all that
--     StepsOn        each step that is done does so
use Rattle.std.specs.Prelude.{ℕ, suc, ◌+◌, ◌<◌, ◌≡◌, ◌==◌, ◌⊎◌, ◌&&◌, not, Bool, true, false, if◌then◌else◌, List, [], ◌∷◌, ◌++◌, length, count_by, sum_by, is_some, Option, Some, None, Ok}
use Rattle.std.specs.List.{list_any}
use Rattle.hsr_node.specs.declared.entry.Entry.{Entry}
use Rattle.hsr_node.specs.declared.event.Carried.{Carried}
use Rattle.hsr_node.specs.declared.event.Event.{Event}
use Rattle.hsr_node.specs.declared.event.Event.TheVariants as event
use Rattle.hsr_node.specs.declared.event.Probe.{Probe}
use Rattle.hsr_link.specs.Rows.{is_lost, is_taken, waits}
use Rattle.hsr_link.specs.declared.row.Dir.{Dir}
use Rattle.hsr_link.specs.declared.row.Row.{Row}
use Rattle.hsr_topology.specs.Workers.{port_worker}
use Rattle.hsr_topology.specs.declared.end.End.{End}
use Rattle.hsr_run_laws.specs.Once.{is_copy}
use Rattle.hsr_finished_run.specs.declared.planned.Planned.{Planned}
use Rattle.hsr_scenario.specs.declared.steps.Order.TheVariants as order
use Rattle.hsr_world_laws.specs.Law.{IsSound}
use Rattle.hsr_world_laws.specs.Origin.{is_injected}
use Rattle.hsr_world_laws.specs.Spans.{Lane, Span, Spot, held_in, lane_of, lanes_of, spot_from}
use Rattle.hsr_world_laws.specs.World.{World, record_at, span_at, tried}
use Rattle.hsr_world_steps.specs.declared.step.Step.{Step}
use Rattle.hsr_world_steps.specs.declared.step.Step.TheVariants.{Clock, Send, Supervise, Age, Put, Take, Judge, Cut, Mend, Inject}
use Rattle.hsr_plays.specs.Law.{is_overrun, is_planned_for}
use Rattle.hsr_plays.specs.Plays.{under_way}
use Rattle.hsr_plays.specs.Setup.{is_move}
use Rattle.hsr_plays.specs.Spans.{cut_after, moment_after}

-- ---- of one send

abbrev pub is_under_way : Probe → World → Bool
is_under_way send w = list_any (is_copy send) (under_way w)

abbrev pub is_lost_on : Probe → ℕ → World → Bool
is_lost_on send l w = list_any (λ row. is_copy send row.carried && is_lost row.fate) (span_at w l).link.rows

-- a copy was lost there by a full queue
abbrev pub has_overrun : ℕ → World → Bool
has_overrun l w = list_any (λ row. is_overrun row.fate) (span_at w l).link.rows

-- a step is this send
abbrev pub IsSentBy : World → Step → Probe → Type 0
IsSentBy w (Send n from dst vlan ethertype payload) send = send ≡ record { node = n; place = length (record_at w n) }
IsSentBy w (Supervise n about) send = send ≡ record { node = n; place = length (record_at w n) }
IsSentBy w step send = ⊥

-- ---- of records

-- what a step brings to a node: what it asks for, by the main worker; or the copy that the port held
abbrev pub IsEventOf : World → Step → ℕ → Entry → Type 0
IsEventOf w (Send n from dst vlan ethertype payload) k x = (k ≡ n) × ((x.worker ≡ 0) × (x.event ≡ event.Send from dst vlan ethertype payload))
IsEventOf w (Supervise n about) k x = (k ≡ n) × ((x.worker ≡ 0) × (x.event ≡ event.Supervise about))
IsEventOf w (Age n) k x = (k ≡ n) × ((x.worker ≡ 0) × (x.event ≡ event.Age))
IsEventOf w (Judge n port) k x =
    (k ≡ n) × ((x.worker ≡ port_worker (record { node = n; port = port }))
    × ((copy : Carried) × (x.event ≡ event.Arrive port copy) × (held_in (record { node = n; port = port }) (lanes_of w.spans) ≡ Some copy)))
IsEventOf w step k x = ⊥

-- a record has one entry more, at the moment of the world
pub record HasEntered (w : World) (step : Step) (after : World) (k : ℕ) : Type 0 where
  pub entry : Entry
  pub is : record_at after k ≡ entry ∷ record_at w k
  pub at : entry.at ≡ w.moment
  pub by : IsEventOf w step k entry

-- ---- of links

-- the step puts a copy where as many wait in that direction as there is room
pub record Overruns (w : World) (step : Step) (l : ℕ) : Type 0 where
  pub node : ℕ
  pub port : ℕ
  pub put : step ≡ Put node port
  pub dir : Dir
  pub copy : Carried
  pub box : List Carried
  pub first : (lane_of dir (span_at w l)).outbox ≡ copy ∷ box
  pub spot : spot_from (record { node = node; port = port }) 0 w.spans ≡ Some (record { link = l; dir = dir })
  pub full : count_by (waits dir) (span_at w l).link.rows ≡ (span_at w l).link.capacity

-- ---- how many moves

abbrev pub rows_moved : Span → ℕ
rows_moved span = length span.link.rows + count_by (λ row. is_taken row.fate) span.link.rows

abbrev pub is_arrival : Event → Bool
is_arrival (event.Arrive port copy) = true
is_arrival _ = false

abbrev pub judged_in : List Entry → ℕ
judged_in h = count_by (λ (x : Entry). is_arrival x.event) h

abbrev pub moves_in : World → ℕ
moves_in w = sum_by rows_moved w.spans + sum_by judged_in w.records

-- how many copies a port holds, and how many were taken on a link
abbrev pub hand_count : Lane → ℕ
hand_count lane = if is_some lane.hand then 1 else 0

abbrev pub hands_of : Span → ℕ
hands_of span = hand_count span.forth + hand_count span.back

abbrev pub taken_of : Span → ℕ
taken_of span = count_by (λ row. is_taken row.fate) span.link.rows

-- what was taken was judged, or is held
abbrev pub IsBalanced : World → Type 0
IsBalanced w = sum_by judged_in w.records + sum_by hands_of w.spans ≡ sum_by taken_of w.spans

-- ---- a step

pub record IsStepOn (w : World) (step : Step) (after : World) : Type 0 where
  -- a send of which a copy is under way had one under way, or is the step
  pub kept : (send : Probe) → is_under_way send after ≡ true → (is_under_way send w ≡ true) ⊎ IsSentBy w step send
  pub records : (k : ℕ) → (record_at after k ≡ record_at w k) ⊎ HasEntered w step after k
  -- a node that is asked for something has the entry
  pub asked : (k : ℕ) → is_planned_for k (order.Step step) ≡ true → HasEntered w step after k
  -- a link on which a copy was lost by a full queue was such a link, or is overrun by the step
  pub overrun : (l : ℕ) → has_overrun l after ≡ true → (has_overrun l w ≡ true) ⊎ Overruns w step l
  -- a send of which a copy was lost on a link had one lost there; or had one under way, and the link is cut now, or is overrun by the step
  pub lost : (l : ℕ) (send : Probe) → is_lost_on send l after ≡ true →
      (is_lost_on send l w ≡ true) ⊎ ((is_under_way send w ≡ true) × (((span_at after l).link.is_cut ≡ true) ⊎ Overruns w step l))
  pub cut : (l : ℕ) → l < length w.spans → (span_at after l).link.is_cut ≡ cut_after l (span_at w l).link.is_cut (order.Step step)
  pub moment : after.moment ≡ moment_after w.moment (order.Step step)
  -- in each direction of a link as many may wait as before
  pub room : (l : ℕ) → (span_at after l).link.capacity ≡ (span_at w l).link.capacity
  pub own : is_injected after.spans ≡ is_injected w.spans
  pub balanced : IsBalanced w → IsBalanced after
  pub moves : moves_in after ≡ moves_in w + (if is_move step then 1 else 0)

-- of steps that inject nothing
abbrev pub is_injecting : Step → Bool
is_injecting (Inject link dir octets) = true
is_injecting _ = false

abbrev pub StepsOn : Type 0
StepsOn = (capacity : ℕ) (w after : World) (step : Step) → IsSound capacity w → is_injecting step ≡ false → tried capacity w step ≡ Ok after → IsStepOn w step after
