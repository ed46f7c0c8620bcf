-- What a play comes to at its end.
use Rattle.std.proofs.Common.{◌≡◌, ◌⊎◌, ℕ, ◌<◌, ◌==◌, ◌&&◌, ◌||◌, not, Bool, true, false, if◌then◌else◌, List, [], ◌∷◌, ◌++◌, length, map, reverse, Option, Some, None, refl, sym, ap, ◌∙◌, subst, arith, ⊎_elim}
use Rattle.std.specs.Prelude.{slice_index_or}
use Rattle.std.specs.List.{list_any}
use Rattle.std.proofs.lemmas.Bool.{and_from, and_parts, cases_Bool, false_from_ne_true, false≢true, or_left, or_right}
use Rattle.hsr_frame.specs.Address.{is_among, is_group, is_same_address}
use Rattle.hsr_frame.specs.Egress.{is_supervision}
use Rattle.hsr_frame.specs.Grammar.{Fields}
use Rattle.hsr_link.specs.Rows.{goes, is_lost}
use Rattle.hsr_link.specs.declared.row.Dir.{Dir}
use Rattle.hsr_link.specs.declared.row.Row.{Row}
use Rattle.hsr_node.specs.Flow.{send_at}
use Rattle.hsr_node.specs.declared.entry.Entry.{Entry}
use Rattle.hsr_node.specs.declared.event.Probe.{Probe}
use Rattle.hsr_node.specs.declared.place.Place.{Place}
use Rattle.hsr_node.specs.declared.place.Place.TheVariants.{Danh, RedBox, QuadBox, Station}
use Rattle.hsr_node.specs.declared.sending.Sending.{Sending}
use Rattle.hsr_topology.specs.declared.end.End.{End}
use Rattle.hsr_run_laws.specs.Closed.{IsClosed, IsSend}
use Rattle.hsr_run_laws.specs.Once.{is_copy}
use Rattle.hsr_run_laws.specs.Run.{Run, place_of, rows_of}
use Rattle.hsr_run_laws.proofs.Lists.{any_so}
use Rattle.hsr_network_laws.specs.Channels.{Carries, ComesOver, IsFirstChannel, IsNextChannel, IsReached, is_loss, keeps_own, lets_out, passes_on}
use Rattle.hsr_network_laws.specs.Channels as network
use Rattle.hsr_network_laws.specs.Delivered.{AllCovered, is_covered, is_meant}
use Rattle.hsr_network_laws.specs.Network.{Channel, IsNetwork, is_station_with, start_of, stop_of}
use Rattle.hsr_network_laws.proofs.Delivered.{once_in_network}
use Rattle.hsr_network_laws.proofs.Late.{late_decides}
use Rattle.hsr_number_laws.proofs.Counted.{counted_tells}
use Rattle.hsr_deliveries.specs.Delivered.{is_due, is_for}
use Rattle.hsr_routes.specs.Routes.{IsFree, LeadsOver, bare, heading, sender_at}
use Rattle.hsr_routes.specs.Routes as routes
use Rattle.hsr_world_laws.specs.Spans.{Span}
use Rattle.hsr_world_laws.specs.World.{World, record_at, span_at}
use Rattle.hsr_world_laws.proofs.Closed.{always_closes, always_numbered_first}
use Rattle.hsr_plays.specs.Conditions.{IsClear, is_avoided, is_covered_send}
use Rattle.hsr_plays.specs.Law.{DueAreReached, DueTookOnce, EndsCertain, IsCertain, IsSpanOf, run_in}
use Rattle.hsr_plays.specs.Setup.{IsSetup, Setup, net_of}
use Rattle.hsr_plays.specs.Spans.{is_down}
use Rattle.hsr_plays.specs.declared.span.SendSpan.{SendSpan}
use Rattle.hsr_under_way.specs.StepsOn.{is_lost_on}
use Rattle.hsr_play_laws.specs.Ending.{EndsByNumbers, EndsWell, IsEnding}
use Rattle.hsr_play_laws.specs.Told.{IsTold}
use Rattle.hsr_play_laws.proofs.AskedFor.{IsAsked, asked_at_place}
use Rattle.hsr_play_laws.proofs.Numbered.{few_numbers}
use Rattle.hsr_play_laws.proofs.OneSpan.{one_span}
use Rattle.hsr_play_laws.proofs.Worlds.{past_is, places_are}
use Rattle.hsr_play_laws.proofs.Remembers.{remembers_now}
use Rattle.hsr_play_laws.proofs.Silent.{ends_quiet}
use Rattle.hsr_play_laws.proofs.Told.{rows_are, tells_all}

-- ---- nodes and links are those of the setup

net_with : (capacity : ℕ) (places : List Place) (links : List (List End)) (records : List (List Entry)) (rows : List (List Row)) → IsNetwork (bare places links) →
    IsNetwork (record { capacity = capacity; places = places; links = links; records = records; rows = rows })
net_with capacity places links records rows net = record {
  modes = net.modes;
  single = net.single;
  differ = net.differ;
  ends = λ channel below. let p = net.ends channel below in record { node = p.node; port = p.port };
  sides = net.sides;
  faces = net.faces;
  apart = net.apart;
}

-- ---- what a frame is to a node goes by its destination and type

lets_same : (frame other : Fields) → frame.dst ≡ other.dst → frame.kind ≡ other.kind → (place : Place) (port : ℕ) → lets_out frame place port ≡ lets_out other place port
lets_same frame other dst kind (Danh mac mode) port = refl
lets_same frame other dst kind (RedBox mac mode) port =
    ap (λ d. not (port == 2) || (is_group d && not (is_supervision d frame.kind))) dst
    ∙ ap (λ k. not (port == 2) || (is_group other.dst && not (is_supervision other.dst k))) kind
lets_same frame other dst kind QuadBox port = refl
lets_same frame other dst kind (Station macs) port = refl

passes_same : (sender : ℕ) (frame other : Fields) → frame.dst ≡ other.dst → (k : ℕ) (place : Place) (port : ℕ) → passes_on sender frame k place port ≡ passes_on sender other k place port
passes_same sender frame other dst k (Danh mac mode) port = ap (λ d. not (k == sender) && not (keeps_own mode && is_same_address mac d)) dst
passes_same sender frame other dst k (RedBox mac mode) port = ap (λ d. not (k == sender) && not ((keeps_own mode || port == 2) && is_same_address mac d)) dst
passes_same sender frame other dst k QuadBox port = refl
passes_same sender frame other dst k (Station macs) port = refl

-- what is due is meant
due_meant : (sender : ℕ) (frame : Fields) (k : ℕ) (place : Place) → (not (k == sender) && is_for place frame.dst frame.kind) ≡ true → is_meant sender frame k place ≡ true
due_meant sender frame k place due = by_place place (and_parts (not (k == sender)) (is_for place frame.dst frame.kind) due)
  where
    by_place : (place : Place) → (not (k == sender) ≡ true) × (is_for place frame.dst frame.kind ≡ true) → is_meant sender frame k place ≡ true
    by_place (Danh mac mode) (other, for) = by_group (is_group frame.dst) for
      where
        by_group : (g : Bool) → (if g then true else is_same_address mac frame.dst) ≡ true → (if g then not (k == sender) else is_same_address mac frame.dst) ≡ true
        by_group true for = other
        by_group false for = for
    by_place (RedBox mac mode) (other, for) = and_from (not (k == sender)) (is_group frame.dst || is_same_address mac frame.dst) other (by_group (is_group frame.dst) for)
      where
        by_group : (g : Bool) → (if g then true else is_same_address mac frame.dst) ≡ true → (g || is_same_address mac frame.dst) ≡ true
        by_group true for = refl
        by_group false for = for
    by_place QuadBox (other, for) = absurd (by_group (is_group frame.dst) for)
      where
        by_group : (g : Bool) → (if g then false else false) ≡ true → ⊥
        by_group true for = false≢true for
        by_group false for = false≢true for
    by_place (Station macs) (other, for) = and_from (not (k == sender)) (is_group frame.dst || is_among macs.items frame.dst) other (by_group (is_group frame.dst) for)
      where
        by_group : (g : Bool) → (if g then not (is_supervision frame.dst frame.kind) else is_among macs.items frame.dst) ≡ true → (g || is_among macs.items frame.dst) ≡ true
        by_group true for = refl
        by_group false for = for

-- ---- at the end

module _ (s : Setup) (clear : IsClear s) (time n : ℕ) (w : World) (told : IsTold s time n w) where
  place_same : (k : ℕ) → place_of (run_in s w) k ≡ place_of (net_of s) k
  place_same k = ap (λ (ps : List Place). slice_index_or ps k QuadBox) (places_are s w told.own)

  network_now : IsNetwork (run_in s w)
  network_now =
      subst (λ (ps : List Place). IsNetwork (record { capacity = s.capacity; places = ps; links = s.links; records = map reverse w.records; rows = map (λ (span : Span). span.link.rows) w.spans }))
      (sym (places_are s w told.own)) (net_with s.capacity s.places s.links _ _ clear.network)

  pub asked_now : (send : Probe) (sending : Sending) → IsSend (run_in s w) send sending → IsAsked s w send sending.frame time
  asked_now send sending is =
      asked_at_place s w send.node send.place time (place_of (run_in s w) send.node) sending (record_at w send.node) (told.timed send.node)
      (subst (λ (h : List Entry). send_at (place_of (run_in s w) send.node) send.place h ≡ Some sending) (past_is s.capacity s.links w send.node) is.1)

  covered_now : AllCovered (run_in s w)
  covered_now send sending is =
      let a = asked_now send sending is in
      let of_it = a.is.is in
      let span = a.is.span in
      let c = and_parts (is_covered s.places (heading span.asked.dst span.asked.kind)) _ (clear.covered of_it.at span of_it.listed) in
      ap (λ (ps : List Place). is_covered ps sending.frame) (places_are s w told.own)
      ∙ (ap (λ d. is_group d || not (list_any (is_station_with d) s.places)) a.fits.0 ∙ c.0)

  -- a channel that isn't down carries the send
  module _ (send : Probe) (frame : Fields) (span : SendSpan) (is_span : IsSpanOf s w send span) (dst : frame.dst ≡ span.asked.dst) (kind : frame.kind ≡ span.asked.kind) where
    loss_row : (dir : Dir) (rows : List Row) → list_any (is_loss send dir) rows ≡ true → list_any (λ row. is_copy send row.carried && is_lost row.fate) rows ≡ true
    loss_row dir rows h = any_so (is_loss send dir) (λ row. is_copy send row.carried && is_lost row.fate) rows (λ row is. by_test (goes dir row) (is_copy send row.carried) (is_lost row.fate) is) h
      where
        by_test : (a b c : Bool) → (a && b && c) ≡ true → (b && c) ≡ true
        by_test true b c h = h
        by_test false b c h = absurd (false≢true h)

    carried : (channel : Channel) → IsFree (net_of s) (is_avoided s span) channel → Carries (run_in s w) send channel
    carried channel free = record {
      below = free.below;
      kept = false_from_ne_true (list_any (is_loss send channel.dir) (rows_of (run_in s w) channel.link)) (λ lossy.
          let there : is_lost_on send channel.link w ≡ true = loss_row channel.dir (span_at w channel.link).link.rows (ap (list_any (is_loss send channel.dir)) (sym (rows_are s w channel.link)) ∙ lossy) in
          let o = told.lost channel.link send free.below there in
          let same = one_span s w send o.0 span o.1 is_span in
          false≢true (sym free.free ∙ (ap (λ x. is_down s.orders x channel.link) (sym same) ∙ o.2)));
    }

    first_so : (channel : Channel) → IsFirstChannel (net_of s) (sender_at span.asked.node) (heading span.asked.dst span.asked.kind) channel → IsFirstChannel (run_in s w) send frame channel
    first_so channel first = record {
      node = first.node ∙ sym is_span.node;
      out = ap (λ (p : Place). lets_out frame p (start_of (run_in s w) channel).port) (place_same (start_of (run_in s w) channel).node)
          ∙ (lets_same frame (heading span.asked.dst span.asked.kind) dst kind (place_of (net_of s) (start_of (net_of s) channel).node) (start_of (net_of s) channel).port ∙ first.out);
    }

    next_so : (channel next : Channel) → IsNextChannel (net_of s) (sender_at span.asked.node) (heading span.asked.dst span.asked.kind) channel next → IsNextChannel (run_in s w) send frame channel next
    next_so channel next goes_on = record {
      node = goes_on.node;
      port = goes_on.port;
      passes = ap (λ (p : Place). passes_on send.node frame (stop_of (run_in s w) channel).node p (stop_of (run_in s w) channel).port)
          (place_same (stop_of (run_in s w) channel).node)
          ∙ (passes_same send.node frame (heading span.asked.dst span.asked.kind) dst (stop_of (net_of s) channel).node (place_of (net_of s) (stop_of (net_of s) channel).node) (stop_of (net_of s) channel).port
          ∙ (ap (λ k. passes_on k (heading span.asked.dst span.asked.kind) (stop_of (net_of s) channel).node (place_of (net_of s) (stop_of (net_of s) channel).node)
          (stop_of (net_of s) channel).port) is_span.node ∙ goes_on.passes));
      out = ap (λ (p : Place). lets_out frame p (start_of (run_in s w) next).port) (place_same (start_of (run_in s w) next).node)
          ∙ (lets_same frame (heading span.asked.dst span.asked.kind) dst kind (place_of (net_of s) (start_of (net_of s) next).node) (start_of (net_of s) next).port ∙ goes_on.out);
      away = λ e. goes_on.away (e ∙ is_span.node);
    }

    comes : (channel : Channel) → LeadsOver (net_of s) (sender_at span.asked.node) (heading span.asked.dst span.asked.kind) (is_avoided s span) channel → ComesOver (run_in s w) send frame channel
    comes channel (routes.sent channel' free first) = network.sent channel' (carried channel' free) (first_so channel' first)
    comes channel (routes.on before next leads free goes_on) = network.on before next (comes before leads) (carried next free) (next_so before next goes_on)

  reached_now : DueAreReached (run_in s w)
  reached_now send sending k is below due =
      let a = asked_now send sending is in
      let of_it = a.is.is in
      let span = a.is.span in
      let frame = sending.frame in
      let as_many : length w.places ≡ length s.places = ap length (places_are s w told.own) in
      let due_there : is_due (net_of s) span.asked.node span.asked.dst span.asked.kind k ≡ true =
      ap (λ (p : Place). not (k == span.asked.node) && is_for p span.asked.dst span.asked.kind) (sym (place_same k))
      ∙ (ap (λ j. not (k == j) && is_for (place_of (run_in s w) k) span.asked.dst span.asked.kind) (sym of_it.node)
      ∙ (ap (λ d. not (k == send.node) && is_for (place_of (run_in s w) k) d span.asked.kind) (sym a.fits.0)
      ∙ (ap (λ e. not (k == send.node) && is_for (place_of (run_in s w) k) sending.frame.dst e) (sym a.fits.1) ∙ due))) in
      let led = clear.served of_it.at span of_it.listed k (omega (arith, below, as_many)) due_there in
      record { channel = led.channel; comes = comes send sending.frame span of_it a.fits.0 a.fits.1 led.channel led.leads; here = led.here }

pub ends_so : (s : Setup) → IsSetup s → IsClear s → (n : ℕ) (w : World) → IsTold s (length s.orders) n w → IsEnding s w
ends_so s setup clear n w told =
    let quiet = ends_quiet s clear n w told in
    let closed = always_closes s.capacity s.places s.links w setup.table told.own quiet in
    let first = always_numbered_first s.capacity s.places s.links w told.own in
    let net = network_now s clear (length s.orders) n w told in
    record {
      quiet = quiet;
      own = told.own.own;
      closed = closed;
      network = net;
      first = first;
      late = (late_decides (run_in s w) closed net).late first;
      forgotten = remembers_now s (length s.orders) n w setup clear told;
      covered = covered_now s clear (length s.orders) n w told;
      reached = reached_now s clear (length s.orders) n w told;
    }

pub ends_well : EndsWell
ends_well s n w setup clear played = ends_so s setup clear n w (tells_all s s.orders [] n w setup clear played)

pub ends_by_numbers : EndsByNumbers
ends_by_numbers s n w setup clear played few =
    let e = ends_well s n w setup clear played in
    let mistaken = counted_tells (run_in s w) e.closed e.network e.first few in
    let once = once_in_network (run_in s w) e.closed e.network e.first e.forgotten mistaken in
    record {
      quiet = e.quiet;
      own = e.own;
      closed = e.closed;
      network = e.network;
      first = e.first;
      late = e.late;
      forgotten = e.forgotten;
      mistaken = mistaken;
      covered = e.covered;
      reached = e.reached;
      took = λ send sending k is below due. once.once send sending k is (e.covered send sending is) below (due_meant send.node sending.frame k (place_of (run_in s w) k) due) (e.reached send sending k is below due);
      once = once;
    }

pub ends_certain : EndsCertain
ends_certain s n w setup clear played =
    let e = ends_well s n w setup clear played in
    ends_by_numbers s n w setup clear played (few_numbers s clear (length s.orders) n w (tells_all s s.orders [] n w setup clear played) e.closed e.network)
