-- What holds of each play of a setup that is clear, whatever the order in which its copies move.
--     NeverRefused     no step is refused
--     NeverTwice       no direction of a link carries a send twice
--     NeverOverruns    no copy is lost by a full queue
--     LostDown         what was lost of a send was lost on a link that is down in its span
--     EndsCertain      at its end it is a closed run that the law of networks holds of, in which each send came to each node that it was due at
--     MovesAreFew      a play comes to an end
--     GoesOn           and never gets stuck
use Rattle.std.specs.Prelude.{ℕ, ◌*◌, ◌+◌, ◌-◌, ◌<◌, ◌≤◌, ◌≡◌, ◌==◌, ◌⊎◌, Bool, true, false, List, [], ◌∷◌, length, count_by, drop, take, slice_get, Option, Some, Ok}
use Rattle.std.specs.List.{list_any}
use Rattle.hsr_node.specs.declared.entry.Entry.{Entry}
use Rattle.hsr_node.specs.declared.event.Probe.{Probe}
use Rattle.hsr_node.specs.declared.sending.Sending.{Sending}
use Rattle.hsr_link.specs.Rows.{is_lost, put_copies}
use Rattle.hsr_link.specs.declared.row.Dir.{Dir}
use Rattle.hsr_link.specs.declared.row.Fate.{Fate}
use Rattle.hsr_link.specs.declared.row.Fate.TheVariants.{LostOverrun}
use Rattle.hsr_link.specs.declared.row.Row.{Row}
use Rattle.hsr_run_laws.specs.Budget.{is_sending}
use Rattle.hsr_run_laws.specs.Closed.{IsClosed, IsSend}
use Rattle.hsr_run_laws.specs.Once.{delivers, is_copy}
use Rattle.hsr_run_laws.specs.Premises.{NothingForgotten, NothingMistaken, NumberedFirst}
use Rattle.hsr_run_laws.specs.Run.{Run, record_of, rows_of}
use Rattle.hsr_network_laws.specs.Channels.{IsReached}
use Rattle.hsr_network_laws.specs.Delivered.{AllCovered, IsOnceInNetwork}
use Rattle.hsr_network_laws.specs.Late.{NothingLate}
use Rattle.hsr_network_laws.specs.Network.{IsNetwork}
use Rattle.hsr_deliveries.specs.Delivered.{is_due}
use Rattle.hsr_scenario.specs.declared.steps.Order.{Order}
use Rattle.hsr_scenario.specs.declared.steps.Order.TheVariants as order
use Rattle.hsr_world_laws.specs.Closing.{IsQuiet, run_of}
use Rattle.hsr_world_laws.specs.Origin.{is_injected}
use Rattle.hsr_world_laws.specs.World.{World, record_at, tried}
use Rattle.hsr_world_steps.specs.declared.step.Step.{Step}
use Rattle.hsr_world_steps.specs.declared.step.Step.TheVariants.{Send, Supervise, Age}
use Rattle.hsr_plays.specs.Conditions.{IsClear}
use Rattle.hsr_plays.specs.Plays.{IsPlayed}
use Rattle.hsr_plays.specs.Setup.{IsSetup, Setup, is_move}
use Rattle.hsr_plays.specs.declared.span.SendSpan.{SendSpan}
use Rattle.hsr_plays.specs.Spans.{is_down, spans}

-- ---- a world of a play, as a run that need not be closed

abbrev pub run_in : Setup → World → Run
run_in s w = run_of s.capacity s.links w

-- ---- the step that a send is

-- what the main worker brings about at a node
abbrev pub is_planned_for : ℕ → Order → Bool
is_planned_for k (order.Step (Send node from dst vlan ethertype payload)) = node == k
is_planned_for k (order.Step (Supervise node about)) = node == k
is_planned_for k (order.Step (Age node)) = node == k
is_planned_for k _ = false

abbrev pub is_main : Entry → Bool
is_main x = x.worker == 0

-- of the entries of a record, the newest first, those below a place that the main worker brought about
abbrev pub mains_below : ℕ → List Entry → ℕ
mains_below place h = count_by is_main (drop (length h - place) h)

-- The span of a send: as many steps of its node stand before the step as the main worker brought about entries before its entry.
pub record IsSpanOf (s : Setup) (w : World) (send : Probe) (span : SendSpan) : Type 0 where
  pub at : ℕ
  pub listed : slice_get (spans s) at ≡ Some span
  pub node : send.node ≡ span.asked.node
  pub step : mains_below send.place (record_at w send.node) ≡ count_by (is_planned_for send.node) (take span.index s.orders)

-- ---- at each moment of a play

-- the step that comes next is accepted
abbrev pub NeverRefused : Type 0
NeverRefused = (s : Setup) (done later : List Order) (step : Step) (n : ℕ) (w : World) → IsSetup s → IsClear s → IsPlayed s done (order.Step step ∷ later) n w →
    (after : World) × (tried s.capacity w step ≡ Ok after)

abbrev pub NeverTwice : Type 0
NeverTwice = (s : Setup) (done later : List Order) (n : ℕ) (w : World) → IsSetup s → IsClear s → IsPlayed s done later n w →
    (l : ℕ) (dir : Dir) (send : Probe) → l < length s.links → count_by (is_copy send) (put_copies dir (rows_of (run_in s w) l)) ≤ 1

abbrev pub is_overrun : Fate → Bool
is_overrun LostOverrun = true
is_overrun _ = false

abbrev pub NeverOverruns : Type 0
NeverOverruns = (s : Setup) (done later : List Order) (n : ℕ) (w : World) → IsSetup s → IsClear s → IsPlayed s done later n w →
    (l : ℕ) → l < length s.links → list_any (λ row. is_overrun row.fate) (rows_of (run_in s w) l) ≡ false

-- a copy of a send that was lost on a link was lost while that was down
abbrev pub LostDown : Type 0
LostDown = (s : Setup) (done later : List Order) (n : ℕ) (w : World) → IsSetup s → IsClear s → IsPlayed s done later n w →
    (l i : ℕ) (row : Row) (send : Probe) → l < length s.links → slice_get (rows_of (run_in s w) l) i ≡ Some row → is_lost row.fate ≡ true → row.carried.probe ≡ Some send →
    (span : SendSpan) × IsSpanOf s w send span × (is_down s.orders span l ≡ true)

-- ---- at its end

abbrev pub DueAreReached : Run → Type 0
DueAreReached run = (send : Probe) (sending : Sending) (k : ℕ) → IsSend run send sending → k < length run.places →
    is_due run send.node sending.frame.dst sending.frame.kind k ≡ true → IsReached run send sending.frame k

abbrev pub DueTookOnce : Run → Type 0
DueTookOnce run = (send : Probe) (sending : Sending) (k : ℕ) → IsSend run send sending → k < length run.places →
    is_due run send.node sending.frame.dst sending.frame.kind k ≡ true → count_by (delivers send) (record_of run k) ≡ 1

-- Nothing is under way, and the run is closed: a network, with nothing forgotten, mistaken or numbered late; each send is covered, reaches each node
-- that it is due at, and each of these took it up once; and nothing else went up anywhere.
pub record IsCertain (s : Setup) (w : World) : Type 0 where
  pub quiet : IsQuiet w
  pub own : is_injected w.spans ≡ false
  pub closed : IsClosed (run_in s w)
  pub network : IsNetwork (run_in s w)
  pub first : NumberedFirst (run_in s w)
  pub late : NothingLate (run_in s w)
  pub forgotten : NothingForgotten (run_in s w)
  pub mistaken : NothingMistaken (run_in s w)
  pub covered : AllCovered (run_in s w)
  pub reached : DueAreReached (run_in s w)
  pub took : DueTookOnce (run_in s w)
  pub once : IsOnceInNetwork (run_in s w)

abbrev pub EndsCertain : Type 0
EndsCertain = (s : Setup) (n : ℕ) (w : World) → IsSetup s → IsClear s → IsPlayed s s.orders [] n w → IsCertain s w

-- ---- it comes to an end

-- a send or a supervision
abbrev pub is_send : Order → Bool
is_send (order.Step (Send node from dst vlan ethertype payload)) = true
is_send (order.Step (Supervise node about)) = true
is_send _ = false

-- each send is put, taken and judged once at most on each of two directions of each link
abbrev pub MovesAreFew : Type 0
MovesAreFew = (s : Setup) (done later : List Order) (n : ℕ) (w : World) → IsSetup s → IsClear s → IsPlayed s done later n w →
    n ≤ 6 * length s.links * count_by is_send done

-- where something is under way some move is done
abbrev pub GoesOn : Type 0
GoesOn = (s : Setup) (done later : List Order) (n : ℕ) (w : World) → IsSetup s → IsClear s → IsPlayed s done later n w →
    IsQuiet w ⊎ ((move : Step) × (after : World) × (is_move move ≡ true) × (tried s.capacity w move ≡ Ok after))
