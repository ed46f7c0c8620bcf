-- The invariant of a play.
--     IsOpenSend   a send is that of a step, and is open at a time
--     Timed        the entries of a record, each with its time
--     IsTold       what holds at each moment of a play of a setup that is clear
--     TellsAll     it does
use Rattle.std.specs.Prelude.{ℕ, ◌+◌, ◌<◌, ◌≤◌, ◌≡◌, ◌==◌, Bool, true, false, if◌then◌else◌, List, [], ◌∷◌, length, take, count_by, Option, Some, None}
use Rattle.std.specs.List.{AllByRecursion}
use Rattle.hsr_frame.specs.Address.{supervision_address}
use Rattle.hsr_frame.specs.Layout.{ethertype_supervision}
use Rattle.hsr_node.specs.declared.entry.Entry.{Entry}
use Rattle.hsr_node.specs.declared.event.Carried.{Carried}
use Rattle.hsr_node.specs.declared.event.Event.{Event}
use Rattle.hsr_node.specs.declared.event.Event.TheVariants.{Send, Supervise, Arrive, Age}
use Rattle.hsr_node.specs.declared.event.Probe.{Probe}
use Rattle.hsr_run_laws.specs.Premises.{NothingForgotten}
use Rattle.hsr_scenario.specs.declared.steps.Order.{Order}
use Rattle.hsr_world_laws.specs.Closing.{IsOwn}
use Rattle.hsr_world_laws.specs.World.{World, record_at, span_at}
use Rattle.hsr_plays.specs.Conditions.{IsClear}
use Rattle.hsr_plays.specs.Law.{IsSpanOf, is_main, is_planned_for, run_in}
use Rattle.hsr_plays.specs.Plays.{IsPlayed, sent_moment, under_way}
use Rattle.hsr_plays.specs.Setup.{IsSetup, Setup}
use Rattle.hsr_plays.specs.Spans.{is_cut_at, is_down, is_open_at, moment_at}
use Rattle.hsr_plays.specs.declared.span.Asked.{Asked}
use Rattle.hsr_plays.specs.declared.span.SendSpan.{SendSpan}
use Rattle.hsr_under_way.specs.StepsOn.{IsBalanced, has_overrun, is_lost_on, moves_in}

-- ---- sends that are open

-- the main worker brought about the entry at a place
abbrev pub is_main_at : ℕ → List Entry → Bool
is_main_at n [] = false
is_main_at n (x ∷ past) = if n == length past then is_main x else is_main_at n past

-- a send has its entry, was given at the moment of its span, and is open at a time
pub record IsOpenSend (s : Setup) (w : World) (send : Probe) (time : ℕ) : Type 0 where
  pub span : SendSpan
  pub is : IsSpanOf s w send span
  pub main : is_main_at send.place (record_at w send.node) ≡ true
  pub given : sent_moment w send ≡ span.moment
  pub open_then : is_open_at time span ≡ true

abbrev pub IsOpenCopy : Setup → World → ℕ → Carried → Type 0
IsOpenCopy s w time copy = (send : Probe) → copy.probe ≡ Some send → IsOpenSend s w send time

-- ---- records

-- what an event asks a node to send
abbrev pub event_asks : ℕ → Event → Option Asked
event_asks k (Send from dst vlan ethertype payload) = Some (record { node = k; from = from; dst = dst; kind = ethertype })
event_asks k (Supervise about) = Some (record { node = k; from = 0; dst = supervision_address; kind = ethertype_supervision })
event_asks k _ = None

-- the send of a step, at the time behind the step, is what was asked for
abbrev pub IsSentAt : Setup → World → ℕ → Probe → Option Asked → Type 0
IsSentAt s w time send asks = (o : IsOpenSend s w send time) × (time ≡ o.span.index + 1) × (asks ≡ Some o.span.asked)

-- An arrival comes while its send is open; a send is that of the step which is done just before its time.
abbrev pub IsAt : Setup → World → ℕ → ℕ → Event → List Entry → Type 0
IsAt s w k time (Arrive port copy) past = IsOpenCopy s w time copy
IsAt s w k time Age past = Unit {0}
IsAt s w k time event past = IsSentAt s w time (record { node = k; place = length past }) (event_asks k event)

-- Each entry has a time, no later than those of entries above it, and the moment that was given with it is the world's then.
abbrev pub Timed : Setup → World → ℕ → ℕ → List Entry → Type 0
Timed s w k last [] = Unit {0}
Timed s w k last (x ∷ past) = (time : ℕ) × (time ≤ last) × (x.at ≡ moment_at s.orders time) × IsAt s w k time x.event past × Timed s w k time past

-- ---- a moment of a play

-- so many steps are done, and so many moves
pub record IsTold (s : Setup) (time n : ℕ) (w : World) : Type 0 where
  pub own : IsOwn s.capacity s.places s.links w
  pub moment : w.moment ≡ moment_at s.orders time
  pub cut : (l : ℕ) → l < length s.links → (span_at w l).link.is_cut ≡ is_cut_at s.orders time l
  pub room : (l : ℕ) → l < length s.links → (span_at w l).link.capacity ≡ s.room
  -- the main worker brought about what the steps ask of a node
  pub mains : (k : ℕ) → count_by is_main (record_at w k) ≡ count_by (is_planned_for k) (take time s.orders)
  pub fresh : AllByRecursion (IsOpenCopy s w time) (under_way w)
  pub timed : (k : ℕ) → Timed s w k time (record_at w k)
  pub lost : (l : ℕ) (send : Probe) → l < length s.links → is_lost_on send l w ≡ true → (span : SendSpan) × IsSpanOf s w send span × (is_down s.orders span l ≡ true)
      × (is_main_at send.place (record_at w send.node) ≡ true)
  pub overrun : (l : ℕ) → l < length s.links → has_overrun l w ≡ false
  pub balanced : IsBalanced w
  pub moves : n ≡ moves_in w

abbrev pub TellsAll : Type 0
TellsAll = (s : Setup) (done later : List Order) (n : ℕ) (w : World) → IsSetup s → IsClear s → IsPlayed s done later n w → IsTold s (length done) n w

-- so nothing is forgotten so far
abbrev pub RemembersNow : Type 0
RemembersNow = (s : Setup) (time n : ℕ) (w : World) → IsSetup s → IsClear s → IsTold s time n w → NothingForgotten (run_in s w)
