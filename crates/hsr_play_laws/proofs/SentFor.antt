-- A span whose step is done has its entry: the one that the main worker brought about by that step.
use Rattle.std.proofs.Common.{◌≡◌, ℕ, ◌+◌, ◌<◌, ◌≤◌, ◌==◌, Bool, true, false, if◌then◌else◌, List, [], ◌∷◌, ◌++◌, length, take, count_by, Option, Some, None, refl, sym, ap, ◌∙◌, subst, arith, eq-eqb}
use Rattle.std.specs.Prelude.{slice_get}
use Rattle.std.specs.Option.{option_and_then}
use Rattle.std.proofs.lemmas.Bool.{cond-true}
use Rattle.std.proofs.lemmas.List.{length-append}
use Rattle.hsr_frame.specs.Address.{supervision_address}
use Rattle.hsr_frame.specs.Layout.{ethertype_supervision}
use Rattle.hsr_node.specs.Record.{Each}
use Rattle.hsr_node.specs.declared.entry.Entry.{Entry}
use Rattle.hsr_node.specs.declared.event.Event.{Event}
use Rattle.hsr_node.specs.declared.event.Event.TheVariants as event
use Rattle.hsr_node.specs.declared.event.Probe.{Probe}
use Rattle.hsr_scenario.specs.declared.steps.Order.{Order}
use Rattle.hsr_scenario.specs.declared.steps.Order.TheVariants as order
use Rattle.hsr_world_laws.specs.World.{World, record_at}
use Rattle.hsr_world_steps.specs.declared.step.Step.TheVariants.{Clock, Send, Supervise, Age, Put, Take, Judge, Cut, Mend, Inject}
use Rattle.hsr_plays.specs.Law.{IsSpanOf, is_main, is_planned_for, mains_below}
use Rattle.hsr_plays.specs.Setup.{Setup, asked_by}
use Rattle.hsr_plays.specs.Spans.{spans}
use Rattle.hsr_plays.specs.declared.span.Asked.{Asked}
use Rattle.hsr_plays.specs.declared.span.SendSpan.{SendSpan}
use Rattle.hsr_plays.proofs.Asking.{asked_at}
use Rattle.hsr_play_laws.specs.Told.{Timed, event_asks}
use Rattle.hsr_play_laws.proofs.Brought.{IsBrought, asked_counted, asked_events, asks_at, asks_of, entry_asked, main_events, mains_counted}
use Rattle.hsr_play_laws.proofs.Mains.{mains_all, mains_stay}

-- ---- what stands below an entry of a record

pub each_under : (P : Entry → List Entry → Type 0) (newer h : List Entry) → Each P (newer ++ h) → Each P h
each_under P [] h all = all
each_under P (x ∷ newer) h all = each_under P newer h all.1

pub timed_under : (s : Setup) (w : World) (k last : ℕ) (newer h : List Entry) → Timed s w k last (newer ++ h) → (time : ℕ) × (time ≤ last) × Timed s w k time h
timed_under s w k last [] h timed = (last, omega arith, timed)
timed_under s w k last (x ∷ newer) h (time, low, at, is, timed) =
    let rest = timed_under s w k time newer h timed in
    let below = rest.1 in
    (rest.0, omega (arith, low, below), rest.2)

pub longer : (newer : List Entry) (x : Entry) (past : List Entry) → length past < length (newer ++ (x ∷ past))
longer newer x past = let sum = length-append newer (x ∷ past) in omega (arith, sum)

mains_under : (newer : List Entry) (x : Entry) (past : List Entry) → mains_below (length past) (newer ++ (x ∷ past)) ≡ count_by is_main past
mains_under [] x past = mains_stay (length past) x past (omega arith) ∙ mains_all past
mains_under (y ∷ newer) x past =
    let low = longer newer x past in
    mains_stay (length past) y (newer ++ (x ∷ past)) (omega (arith, low)) ∙ mains_under newer x past

-- ---- what the step of a span brings to its node

record IsBringing (o : Order) (asked : Asked) : Type 0 where
  event : Event
  brings : asks_of asked.node o ≡ Some event
  asks : event_asks asked.node event ≡ Some asked

bringing : (o : Order) (asked : Asked) → asked_by o ≡ Some asked → IsBringing o asked
bringing order.Drain asked is = absurd cc
bringing (order.Step (Clock at)) asked is = absurd cc
bringing (order.Step (Send node from dst vlan ethertype payload)) asked is =
    let made : Asked = record { node = node; from = from; dst = dst; kind = ethertype } in
    let same : made ≡ asked = let e : Some made ≡ Some asked = is in cc in
    record {
      event = event.Send from dst vlan ethertype payload;
      brings = cond-true (node == asked.node) (Some (event.Send from dst vlan ethertype payload)) None (eq-eqb node asked.node (ap (λ (a : Asked). a.node) same));
      asks = ap (λ (a : Asked). event_asks a.node (event.Send from dst vlan ethertype payload)) (sym same) ∙ is;
    }
bringing (order.Step (Supervise node about)) asked is =
    let made : Asked = record { node = node; from = 0; dst = supervision_address; kind = ethertype_supervision } in
    let same : made ≡ asked = let e : Some made ≡ Some asked = is in cc in
    record {
      event = event.Supervise about;
      brings = cond-true (node == asked.node) (Some (event.Supervise about)) None (eq-eqb node asked.node (ap (λ (a : Asked). a.node) same));
      asks = ap (λ (a : Asked). event_asks a.node (event.Supervise about)) (sym same) ∙ is;
    }
bringing (order.Step (Age node)) asked is = absurd cc
bringing (order.Step (Put node port)) asked is = absurd cc
bringing (order.Step (Take link dir)) asked is = absurd cc
bringing (order.Step (Judge node port)) asked is = absurd cc
bringing (order.Step (Cut link)) asked is = absurd cc
bringing (order.Step (Mend link)) asked is = absurd cc
bringing (order.Step (Inject link dir octets)) asked is = absurd cc

-- ---- its entry

-- as many entries of the main worker are below it as steps before it ask the node for something
steps_below : (k : ℕ) (orders : List Order) (i : ℕ) (h newer past : List Entry) (x : Entry) → h ≡ newer ++ (x ∷ past) → main_events past ≡ asked_events k orders i → mains_below (length past) h ≡ count_by (is_planned_for k) (take i orders)
steps_below k orders i h newer past x is rest =
    let whole : mains_below (length past) h ≡ mains_below (length past) (newer ++ (x ∷ past)) = ap (mains_below (length past)) is in
    let mains = mains_under newer x past in
    let events = mains_counted past in
    let same : length (main_events past) ≡ length (asked_events k orders i) = ap length rest in
    let asked = asked_counted k orders i in
    omega (arith, whole, mains, events, same, asked)

pub record IsSentFor (s : Setup) (w : World) (span : SendSpan) : Type 0 where
  pub entry : Entry
  pub past : List Entry
  pub newer : List Entry
  pub is : record_at w span.asked.node ≡ newer ++ (entry ∷ past)
  pub main : is_main entry ≡ true
  pub asks : event_asks span.asked.node entry.event ≡ Some span.asked
  pub is_span : IsSpanOf s w (record { node = span.asked.node; place = length past }) span

pub sent_for : (s : Setup) (time : ℕ) (w : World) → IsBrought s time w → (at : ℕ) (span : SendSpan) → slice_get (spans s) at ≡ Some span → span.index < time → IsSentFor s w span
sent_for s time w b at span listed before =
    let p = asked_at s.within 0 0 s.orders at span listed in
    let index = p.index_is in
    let at_index : span.index ≡ p.at = omega (arith, index) in
    let o = bringing p.order span.asked p.asked in
    let asks : asks_at span.asked.node s.orders span.index ≡ Some o.event =
    ap (asks_at span.asked.node s.orders) at_index ∙ (ap (option_and_then (asks_of span.asked.node)) p.listed ∙ o.brings) in
    let e = entry_asked span.asked.node s.orders span.index time o.event (record_at w span.asked.node) (b.events span.asked.node) before asks in
    record {
      entry = e.entry;
      past = e.past;
      newer = e.newer;
      is = e.is;
      main = e.main;
      asks = ap (event_asks span.asked.node) e.event ∙ o.asks;
      is_span = record {
        at = at;
        listed = listed;
        node = refl;
        step = steps_below span.asked.node s.orders span.index (record_at w span.asked.node) e.newer e.past e.entry e.is e.rest;
      };
    }
