-- At a step that has a RedBox speak for an address at its interlink, the RedBox knows the address: what its Station sent from there came to it
-- in the span of that send, and since then less than 60 seconds have passed.
use Rattle.std.proofs.Common.{◌≡◌, ◌⊎◌, ℕ, ◌+◌, ◌<◌, ◌≤◌, ◌==◌, ◌&&◌, max, Bool, true, false, if◌then◌else◌, List, [], ◌∷◌, ◌++◌, length, Option, Some, None, Ok, refl, sym, ap, ◌∙◌, subst, arith, ⊎_elim, zero, suc, eqb-true}
use Rattle.std.specs.Prelude.{slice_get, slice_index_or}
use Rattle.std.specs.List.{AllByRecursion, cons_option, list_any}
use Rattle.std.proofs.lemmas.Bool.{cases_Bool, cases_lt, false≢true, or_cases, or_left, or_right}
use Rattle.hsr_frame.specs.Address.{is_group}
use Rattle.hsr_frame.specs.Grammar.{Fields}
use Rattle.hsr_frame.specs.declared.node.About.TheVariants.{Proxied}
use Rattle.hsr_frame.specs.declared.node.Mode.{Mode}
use Rattle.hsr_tag.specs.declared.seen.Seen.TheVariants.{Plain}
use Rattle.hsr_link.specs.Rows.{is_lost}
use Rattle.hsr_link.specs.declared.row.Dir.{Dir}
use Rattle.hsr_link.specs.declared.row.Dir.TheVariants.{Forth, Back}
use Rattle.hsr_link.specs.declared.row.Row.{Row}
use Rattle.hsr_node.specs.Copies.{address_at, plain_in}
use Rattle.hsr_node.specs.Flow.{arrivals, copy_at, passes, send_at}
use Rattle.hsr_node.specs.Record.{Each, knows, now}
use Rattle.hsr_node.specs.declared.entry.Entry.{Entry}
use Rattle.hsr_node.specs.declared.event.Carried.{Carried}
use Rattle.hsr_node.specs.declared.event.Event.{Event}
use Rattle.hsr_node.specs.declared.event.Event.TheVariants.{Send, Supervise, Arrive, Age}
use Rattle.hsr_node.specs.declared.event.Probe.{Probe}
use Rattle.hsr_node.specs.declared.place.Place.{Place}
use Rattle.hsr_node.specs.declared.place.Place.TheVariants.{Danh, RedBox, QuadBox, Station}
use Rattle.hsr_node.specs.declared.sending.Sending.{Sending}
use Rattle.hsr_topology.specs.declared.end.End.{End}
use Rattle.hsr_run_laws.specs.Closed.{IsOfSend}
use Rattle.hsr_run_laws.specs.Once.{is_copy}
use Rattle.hsr_run_laws.specs.Run.{owner_in, past_of, place_of}
use Rattle.hsr_run_laws.proofs.Lists.{all_weaker}
use Rattle.hsr_run_laws.proofs.Records.{OfArrival, all_at_place}
use Rattle.hsr_run_laws.proofs.Same.{address_same, probe_is}
use Rattle.hsr_run_laws.proofs.Views.{came}
use Rattle.hsr_network_laws.specs.Network.{Channel, HasAddress, is_edge, is_edge_of, is_station, is_station_of, start_of, stop_of}
use Rattle.hsr_network_laws.proofs.Sides.{one_port}
use Rattle.hsr_scenario.specs.declared.steps.Order.{Order}
use Rattle.hsr_scenario.specs.declared.steps.Order.TheVariants as order
use Rattle.hsr_world_laws.specs.Spans.{lane_of}
use Rattle.hsr_world_laws.specs.World.{World, record_at, span_at}
use Rattle.hsr_world_steps.specs.declared.step.Step.TheVariants as step
use Rattle.hsr_plays.specs.Conditions.{IsClear, IsHeard}
use Rattle.hsr_plays.specs.Law.{IsSpanOf, run_in}
use Rattle.hsr_plays.specs.Setup.{Setup, net_of}
use Rattle.hsr_plays.specs.Spans.{ends_span, is_down, is_open_at, moment_at}
use Rattle.hsr_plays.specs.declared.span.SendSpan.{SendSpan}
use Rattle.hsr_plays.proofs.Asking.{asked_at}
use Rattle.hsr_plays.proofs.Open.{open_from, open_parts, still_open}
use Rattle.hsr_under_way.specs.StepsOn.{is_lost_on, is_under_way}
use Rattle.hsr_play_laws.specs.Accepted.{HasFewAddresses, HaveFewAddresses, HeardNow}
use Rattle.hsr_play_laws.specs.Told.{IsAt, IsOpenCopy, IsOpenSend, IsTold, Timed}
use Rattle.hsr_play_laws.proofs.Brought.{IsBrought, brought}
use Rattle.hsr_play_laws.proofs.Crossed.{all_crossed, crossed, joined, none_there}
use Rattle.hsr_play_laws.proofs.Down.{next_is}
use Rattle.hsr_play_laws.proofs.Heard.{IsFromAny, is_of_any, known_lately}
use Rattle.hsr_play_laws.proofs.OneSpan.{one_span}
use Rattle.hsr_play_laws.proofs.SentFor.{IsSentFor, each_under, sent_for}
use Rattle.hsr_play_laws.proofs.StationOut.{HasLeft, IsPlainFrom, passes_plain, station_left}
use Rattle.hsr_play_laws.proofs.Stays.{open_now}
use Rattle.hsr_play_laws.proofs.Told.{tells_all}
use Rattle.hsr_play_laws.proofs.Worlds.{answers, of_sends, past_is, places_are}

-- ---- Stations

abbrev addresses_of : Place → List (List ℕ)
addresses_of (Danh mac mode) = []
addresses_of (RedBox mac mode) = []
addresses_of QuadBox = []
addresses_of (Station macs) = macs.items

few_of : (place : Place) → HasFewAddresses place → length (addresses_of place) ≤ 64
few_of (Danh mac mode) few = omega arith
few_of (RedBox mac mode) few = omega arith
few_of QuadBox few = omega arith
few_of (Station macs) few = omega (arith, few)

has_address : (place : Place) (from : ℕ) (mac : List ℕ) → is_station place ≡ true → address_at place from ≡ Some mac → HasAddress place mac
has_address (Danh own mode) from mac station is = absurd (false≢true station)
has_address (RedBox own mode) from mac station is = absurd (false≢true station)
has_address QuadBox from mac station is = absurd (false≢true station)
has_address (Station macs) from mac station is = (from, is)

among : (macs : List (List ℕ)) (i : ℕ) (mac : List ℕ) → slice_get macs i ≡ Some mac → is_of_any macs mac ≡ true
among [] i mac got = absurd cc
among (x ∷ xs) zero mac got = let same : x ≡ mac = let e : Some x ≡ Some mac = got in cc in or_left _ (is_of_any xs mac) (address_same mac x (sym same))
among (x ∷ xs) (suc i) mac got = or_right _ (is_of_any xs mac) (among xs i mac got)

from_any : (place : Place) → is_station place ≡ true → (copy : Carried) → IsPlainFrom place copy → IsFromAny (addresses_of place) copy
from_any (Danh mac mode) station copy p = absurd (false≢true station)
from_any (RedBox mac mode) station copy p = absurd (false≢true station)
from_any QuadBox station copy p = absurd (false≢true station)
from_any (Station macs) station copy p = λ f plain.
    let both : Ok (Plain p.frame) ≡ Ok (Plain f) = sym p.plain ∙ plain in
    let same : p.frame ≡ f = cc in
    subst (λ (g : Fields). is_of_any macs.items g.src ≡ true) same (among macs.items p.source.0 p.frame.src p.source.1)

-- a RedBox has no address of a Station
box_apart : (place : Place) (mac : List ℕ) (mode : Mode) → place ≡ RedBox mac mode → is_station place ≡ true → ⊥
box_apart place mac mode is station = false≢true (sym (ap is_station is) ∙ station)

-- ---- the arrival

pub record IsArrival (p : Carried → Bool) (P : Carried → Type 0) (h : List Entry) : Type 0 where
  entry : Entry
  past : List Entry
  newer : List Entry
  copy : Carried
  is : h ≡ newer ++ (entry ∷ past)
  event : entry.event ≡ Arrive 2 copy
  mine : p copy ≡ true
  all : P copy

arrival : (p : Carried → Bool) (P : Carried → Type 0) (h : List Entry) → AllByRecursion P (arrivals 2 h) → list_any p (arrivals 2 h) ≡ true → IsArrival p P h
arrival p P [] all some = absurd (false≢true some)
arrival p P (x ∷ past) all some = by_event x.event refl all some (arrival p P past)
  where
    under : IsArrival p P past → IsArrival p P (x ∷ past)
    under a = record { entry = a.entry; past = a.past; newer = x ∷ a.newer; copy = a.copy; is = ap (λ (ys : List Entry). x ∷ ys) a.is; event = a.event; mine = a.mine; all = a.all }

    by_port : (b : Bool) (port : ℕ) (copy : Carried) → (b ≡ true → port ≡ 2) → x.event ≡ Arrive port copy → AllByRecursion P (cons_option (if b then Some copy else None) (arrivals 2 past)) →
        list_any p (cons_option (if b then Some copy else None) (arrivals 2 past)) ≡ true → (AllByRecursion P (arrivals 2 past) → list_any p (arrivals 2 past) ≡ true → IsArrival p P past) → IsArrival p P (x ∷ past)
    by_port false port copy two is all some rest = under (rest all some)
    by_port true port copy two is all some rest =
        ⊎_elim
        (λ here. record { entry = x; past = past; newer = []; copy = copy; is = refl; event = is ∙ ap (λ (n : ℕ). Arrive n copy) (two refl); mine = here; all = all.0 })
        (λ later. under (rest all.1 later))
        (or_cases (p copy) (list_any p (arrivals 2 past)) some)

    by_event : (event : Event) → x.event ≡ event → AllByRecursion P (cons_option (copy_at 2 event) (arrivals 2 past)) → list_any p (cons_option (copy_at 2 event) (arrivals 2 past)) ≡ true →
        (AllByRecursion P (arrivals 2 past) → list_any p (arrivals 2 past) ≡ true → IsArrival p P past) → IsArrival p P (x ∷ past)
    by_event (Send from dst vlan kind payload) is all some rest = under (rest all some)
    by_event (Supervise about) is all some rest = under (rest all some)
    by_event Age is all some rest = under (rest all some)
    by_event (Arrive port copy) is all some rest = by_port (port == 2) port copy (eqb-true port 2) is all some rest

-- ---- in a world of a play

module _ (s : Setup) (clear : IsClear s) (time n : ℕ) (w : World) (told : IsTold s time n w) (b : IsBrought s time w) (few : HaveFewAddresses s) (node : ℕ) (station : List ℕ) (mac : List ℕ) (mode : Mode)
    (box : place_of (net_of s) node ≡ RedBox mac mode) (h : IsHeard s time node station) (over : h.span.end < time) where
  abbrev sender : ℕ
  sender = h.span.asked.node

  abbrev place : Place
  place = slice_index_or w.places h.span.asked.node QuadBox

  before : h.span.index < time
  before = let p = asked_at s.within 0 0 s.orders h.at h.span h.listed in let above = p.above in omega (arith, above, over)

  sent : IsSentFor s w h.span
  sent = sent_for s time w b h.at h.span h.listed before

  abbrev send : Probe
  send = record { node = h.span.asked.node; place = length sent.past }

  mine : (span : SendSpan) → IsSpanOf s w (record { node = h.span.asked.node; place = length sent.past }) span → span ≡ h.span
  mine span is = one_span s w (record { node = h.span.asked.node; place = length sent.past }) span h.span is sent.is_span

  -- ---- where it went

  gone : is_under_way (record { node = h.span.asked.node; place = length sent.past }) w ≡ true → ⊥
  gone under =
      let o = open_now s w time told.fresh (record { node = h.span.asked.node; place = length sent.past }) under in
      let same : o.span.end ≡ h.span.end = ap (λ (x : SendSpan). x.end) (mine o.span o.is) in
      let p = open_parts time o.span o.open_then in
      omega (arith, p, same, over)

  kept : is_lost_on (record { node = h.span.asked.node; place = length sent.past }) h.channel.link w ≡ false
  kept =
      ⊎_elim
      (λ lost.
      let l = told.lost h.channel.link (record { node = h.span.asked.node; place = length sent.past }) h.below lost in
      let down : is_down s.orders h.span h.channel.link ≡ true = subst (λ (x : SendSpan). is_down s.orders x h.channel.link ≡ true) (mine l.0 l.1) l.2 in
      absurd (false≢true (sym h.up ∙ down)))
      (λ free. free)
      (cases_Bool (is_lost_on (record { node = h.span.asked.node; place = length sent.past }) h.channel.link w))

  place_same : (k : ℕ) → slice_index_or s.places k QuadBox ≡ slice_index_or w.places k QuadBox
  place_same k = ap (λ (ps : List Place). slice_index_or ps k QuadBox) (sym (places_are s w told.own))

  -- the interlink faces a Station
  facing : is_station_of (net_of s) (start_of (net_of s) h.channel) ≡ true
  facing = by_dir h.channel.dir edge no_station
    where
      edge : is_edge_of (net_of s) (stop_of (net_of s) h.channel) ≡ true
      edge = subst (λ (e : End). is_edge_of (net_of s) e ≡ true) (sym h.comes) (ap (λ (p : Place). is_edge p 2) box)

      no_station : is_station_of (net_of s) (stop_of (net_of s) h.channel) ≡ false
      no_station = subst (λ (e : End). is_station_of (net_of s) e ≡ false) (sym h.comes) (ap is_station box)

      by_dir : (dir : Dir) → is_edge_of (net_of s) (stop_of (net_of s) (record { link = h.channel.link; dir = dir })) ≡ true → is_station_of (net_of s) (stop_of (net_of s) (record { link = h.channel.link; dir = dir })) ≡ false →
          is_station_of (net_of s) (start_of (net_of s) (record { link = h.channel.link; dir = dir })) ≡ true
      by_dir Forth edge other = clear.network.faces (record { link = h.channel.link; dir = Back }) h.below edge other
      by_dir Back edge other = clear.network.faces (record { link = h.channel.link; dir = Forth }) h.below edge other

  sends : is_station place ≡ true
  sends = sym (ap is_station (place_same h.span.asked.node)) ∙ subst (λ k. is_station (place_of (net_of s) k) ≡ true) h.sender facing

  begins : start_of (net_of s) h.channel ≡ record { node = h.span.asked.node; port = 0 }
  begins = at (start_of (net_of s) h.channel) h.sender (one_port (place_of (net_of s) (start_of (net_of s) h.channel).node) (start_of (net_of s) h.channel).port facing (clear.network.ends h.channel h.below).port)
    where
      at : (end : End) → end.node ≡ h.span.asked.node → end.port ≡ 0 → end ≡ record { node = h.span.asked.node; port = 0 }
      at end n p = λ i. record { node = n i; port = p i }

  from : (lane_of h.channel.dir (span_at w h.channel.link)).from ≡ record { node = h.span.asked.node; port = 0 }
  from = (joined s time n w told h.channel.link h.channel.dir h.below).0 ∙ begins

  to : (lane_of h.channel.dir (span_at w h.channel.link)).to ≡ record { node = node; port = 2 }
  to = (joined s time n w told h.channel.link h.channel.dir h.below).1 ∙ h.comes

  below : h.span.asked.node < length s.places
  below = subst (λ k. k < length s.places) h.sender (clear.network.ends h.channel h.below).node

  address : address_at place h.span.asked.from ≡ Some station
  address = sym (ap (λ (p : Place). address_at p h.span.asked.from) (place_same h.span.asked.node)) ∙ h.address

  owns : HasAddress (place_of (net_of s) h.span.asked.node) station
  owns = subst (λ (p : Place). HasAddress p station) (sym (place_same h.span.asked.node)) (has_address place h.span.asked.from station sends address)

  left : HasLeft h.span.asked.node place (record_at w h.span.asked.node) sent.past station
  left =
      station_left s.capacity h.span.asked.node place (record_at w h.span.asked.node) sent.newer sent.past sent.entry h.span.asked station sends (answers s w told.own h.span.asked.node) sent.is sent.asks address
      (clear.network.single h.span.asked.node station below owns)

  came_there : list_any (is_copy (record { node = h.span.asked.node; place = length sent.past })) (arrivals 2 (record_at w node)) ≡ true
  came_there =
      let p = is_copy (record { node = h.span.asked.node; place = length sent.past }) in
      subst (λ (e : End). list_any p (arrivals e.port (record_at w e.node)) ≡ true) to
      (crossed s time n w told h.channel.link h.channel.dir h.below p (none_there s time n w told h.channel.link h.channel.dir h.below (record { node = h.span.asked.node; place = length sent.past }) gone) kept
      (subst (λ (e : End). list_any p (passes (owner_in w.places e.node) e.port (record_at w e.node)) ≡ true) (sym from) left.left))

  all_plain : AllByRecursion (IsPlainFrom place) (arrivals 2 (record_at w node))
  all_plain =
      subst (λ (e : End). AllByRecursion (IsPlainFrom place) (arrivals e.port (record_at w e.node))) to
      (all_crossed s time n w told h.channel.link h.channel.dir h.below (IsPlainFrom place)
      (subst (λ (e : End). AllByRecursion (IsPlainFrom place) (passes (owner_in w.places e.node) e.port (record_at w e.node))) (sym from)
      (passes_plain s.capacity h.span.asked.node place sends (record_at w h.span.asked.node) (λ m sending is. told.own.frames (record { node = h.span.asked.node; place = m }) sending is) (record_at w h.span.asked.node)
      (answers s w told.own h.span.asked.node) (all_at_place place (record_at w h.span.asked.node)))))

  come : IsArrival (is_copy (record { node = h.span.asked.node; place = length sent.past })) (IsPlainFrom place) (record_at w node)
  come = arrival (is_copy (record { node = h.span.asked.node; place = length sent.past })) (IsPlainFrom place) (record_at w node) all_plain came_there

  named : come.copy.probe ≡ Some (record { node = h.span.asked.node; place = length sent.past })
  named = probe_is (record { node = h.span.asked.node; place = length sent.past }) come.copy.probe come.mine

  -- ---- from where

  source : come.all.frame.src ≡ station
  source = ap (λ (f : Fields). f.src) frame ∙ (ap (λ (x : Sending). x.frame.src) one ∙ left.source)
    where
      of_arrival : OfArrival (IsOfSend (run_in s w)) come.entry.event
      of_arrival = (each_under (λ x past. OfArrival (IsOfSend (run_in s w)) x.event) come.newer (come.entry ∷ come.past) (subst (Each (λ x past. OfArrival (IsOfSend (run_in s w)) x.event)) come.is (of_sends s w told.own node))).0

      o : IsOfSend (run_in s w) come.copy
      o = subst (OfArrival (IsOfSend (run_in s w))) come.event of_arrival

      same : o.send ≡ record { node = h.span.asked.node; place = length sent.past }
      same = let both : Some o.send ≡ Some (let p : Probe = record { node = h.span.asked.node; place = length sent.past } in p) = sym o.named ∙ named in cc

      there : send_at place (length sent.past) (record_at w h.span.asked.node) ≡ Some o.sending
      there =
          ap (send_at place (length sent.past)) (sym (past_is s.capacity s.links w h.span.asked.node))
          ∙ subst (λ (p : Probe). send_at (place_of (run_in s w) p.node) p.place (past_of (run_in s w) p.node) ≡ Some o.sending) same o.is_send.1

      one : o.sending ≡ left.sending
      one = let both : Some o.sending ≡ Some left.sending = sym there ∙ left.sent in cc

      frame : come.all.frame ≡ o.sending.frame
      frame = let both : Some come.all.frame ≡ Some o.sending.frame = sym (ap plain_in come.all.plain) ∙ o.frame in cc

  apart : come.all.frame.src ≡ mac → ⊥
  apart same =
      let mine_too : HasAddress (place_of (net_of s) node) station = subst (λ (p : Place). HasAddress p station) (sym box) (sym source ∙ same) in
      let one = clear.network.differ node h.span.asked.node station inside below mine_too owns in
      box_apart (place_of (net_of s) node) mac mode box (subst (λ k. is_station (place_of (net_of s) k) ≡ true) (sym one) (ap is_station (place_same h.span.asked.node) ∙ sends))
    where
      inside : node < length s.places
      inside = subst (λ (e : End). e.node < length s.places) h.comes (stops h.channel.dir)
        where
          stops : (dir : Dir) → (stop_of (net_of s) (record { link = h.channel.link; dir = dir })).node < length s.places
          stops Forth = (clear.network.ends (record { link = h.channel.link; dir = Back }) h.below).node
          stops Back = (clear.network.ends (record { link = h.channel.link; dir = Forth }) h.below).node

  -- ---- when

  -- the entries above it are less than so much later
  record IsNear (newer past : List Entry) (y : Entry) (last : ℕ) : Type 0 where
    at : ℕ
    low : at ≤ last
    behind : h.span.index < at
    within : at ≤ h.span.end
    given : y.at ≡ moment_at s.orders at
    near : now (newer ++ (y ∷ past)) < now (y ∷ past) + 60000000

  near_all : (newer past : List Entry) (y : Entry) (last : ℕ) → last ≤ time → y.event ≡ Arrive 2 come.copy → Timed s w node last (newer ++ (y ∷ past)) → IsNear newer past y last
  near_all [] past y last low arrives (at, under, given, is, rest) =
      let there : IsOpenCopy s w at come.copy = subst (λ ev. IsAt s w node at ev past) arrives is in
      let o = there (record { node = h.span.asked.node; place = length sent.past }) named in
      let open_then : is_open_at at h.span ≡ true = subst (λ (x : SendSpan). is_open_at at x ≡ true) (mine o.span o.is) o.open_then in
      let p = open_parts at h.span open_then in
      record { at = at; low = under; behind = p.0; within = p.1; given = given; near = omega arith }
  near_all (x ∷ newer) past y last low arrives (at, under, given, is, rest) =
      let r = near_all newer past y at (omega (arith, under, low)) arrives rest in
      let rises = h.lately r.at at r.behind r.within r.low (omega (arith, under, low)) in
      let rest_low = r.low in
      let rest_given = r.given in
      let rest_near = r.near in
      record { at = r.at; low = omega (arith, rest_low, under); behind = r.behind; within = r.within; given = r.given; near = omega (arith, given, rises, rest_given, rest_near) }

  near_now : max (now (record_at w node)) w.moment < now (come.entry ∷ come.past) + 60000000
  near_now =
      let r = near_all come.newer come.past come.entry time (omega arith) come.event (subst (Timed s w node time) come.is (told.timed node)) in
      let low = r.low in
      let given = r.given in
      let near = r.near in
      let rises = h.lately r.at time r.behind r.within r.low (omega arith) in
      let moment = told.moment in
      let whole : now (record_at w node) ≡ now (come.newer ++ (come.entry ∷ come.past)) = ap now come.is in
      omega (arith, given, near, rises, moment, whole)

  pub known_there : knows (RedBox mac mode) (record_at w node) (max (now (record_at w node)) w.moment) Age station ≡ true
  known_there =
      subst (λ m. knows (RedBox mac mode) (record_at w node) (max (now (record_at w node)) w.moment) Age m ≡ true) source
      (known_lately (addresses_of place) mac mode (record_at w node) come.newer come.past come.entry come.copy come.all.frame (max (now (record_at w node)) w.moment)
      (few_of place (subst HasFewAddresses (place_same h.span.asked.node) (few h.span.asked.node QuadBox below)))
      (all_weaker (IsPlainFrom place) (IsFromAny (addresses_of place)) (arrivals 2 (record_at w node)) (λ copy p. from_any place sends copy p) all_plain)
      come.is come.event come.all.plain apart near_now)

pub heard_now : HeardNow
heard_now s done later n node station w few setup clear played mac mode box h =
    let said : Order = order.Step (step.Supervise node (Proxied station)) in
    let told = tells_all s done (said ∷ later) n w setup clear played in
    let b = brought s done (said ∷ later) n w setup clear played in
    let listed : slice_get s.orders (length done) ≡ Some (order.Step (step.Supervise node (Proxied station))) =
    ap (λ (orders : List Order). slice_get orders (length done)) played.whole ∙ next_is done later (order.Step (step.Supervise node (Proxied station))) in
    let p = asked_at s.within 0 0 s.orders h.at h.span h.listed in
    let above = p.above in
    let ended = h.ended in
    -- the step ends no span
    ⊎_elim
    (λ over. known_there s clear (length done) n w told b few node station mac mode box h over)
    (λ still.
    let o = open_from (length done) h.span (omega (arith, above, still)) still in
    let next = open_parts (length done + 1) h.span (still_open s.within s.orders h.at h.span h.listed (length done) (order.Step (step.Supervise node (Proxied station))) listed refl o) in
    absurd (omega (arith, next, ended)))
    (cases_lt h.span.end (length done))
