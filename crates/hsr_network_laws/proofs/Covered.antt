-- No node knows the destination of a covered frame on its interlink: what is known there are addresses of Stations.
use Rattle.std.proofs.Common.{◌≡◌, ℕ, ◌<◌, Bool, true, false, not, List, [], ◌∷◌, length, Some, sym, ap, ◌∙◌, subst, arith, ⊎_elim, zero, suc}
use Rattle.std.specs.Prelude.{slice_index_or}
use Rattle.std.specs.List.{list_any}
use Rattle.std.proofs.lemmas.Bool.{false≢true, not-true, or_cases, or_parts}
use Rattle.hsr_frame.specs.Address.{is_group}
use Rattle.hsr_frame.specs.Grammar.{Fields}
use Rattle.hsr_node.specs.Copies.{plain_in}
use Rattle.hsr_node.specs.Record.{Each}
use Rattle.hsr_node.specs.declared.event.Event.{Event}
use Rattle.hsr_node.specs.declared.event.Event.TheVariants.{Send, Supervise, Arrive, Age}
use Rattle.hsr_node.specs.declared.event.Probe.{Probe}
use Rattle.hsr_node.specs.declared.place.Place.{Place}
use Rattle.hsr_node.specs.declared.place.Place.TheVariants.{Danh, RedBox, QuadBox, Station}
use Rattle.hsr_run_laws.specs.Closed.{IsClosed}
use Rattle.hsr_run_laws.specs.Run.{Run, owner_of, past_of, place_of}
use Rattle.hsr_topology.specs.declared.end.End.{End}
use Rattle.hsr_run_laws.proofs.Arrived.{MayKnow}
use Rattle.hsr_run_laws.proofs.Records.{IsSource, each_so}
use Rattle.hsr_run_laws.proofs.Wanted.{source_of}
use Rattle.hsr_network_laws.specs.Delivered.{is_covered}
use Rattle.hsr_network_laws.specs.Network.{HasAddress, IsNetwork, is_station, is_station_with, Channel, start_of, stop_of}
use Rattle.hsr_network_laws.proofs.Hops.{FromEdge, each_from_edge}
use Rattle.hsr_network_laws.proofs.Unknown.{OfSource, Unknown, UnknownBefore, each_unknown, each_unknown_before}
use Rattle.hsr_network_laws.proofs.Unwanted.{at_among}

pub has_source : (place : Place) (address : List ℕ) → IsSource place address → HasAddress place address
has_source (Danh mac mode) address h = h
has_source (RedBox mac mode) address h = h
has_source QuadBox address h = h
has_source (Station macs) address h = h

none_at : {X : Type 0} (p : X → Bool) (xs : List X) (d : X) (i : ℕ) → list_any p xs ≡ false → i < length xs → p (slice_index_or xs i d) ≡ false
none_at p [] d i none below = absurd (omega arith)
none_at p (x ∷ xs) d zero none below = (or_parts (p x) (list_any p xs) none).0
none_at p (x ∷ xs) d (suc i) none below = none_at p xs d i (or_parts (p x) (list_any p xs) none).1 (omega arith)

station_has : (place : Place) (address : List ℕ) → is_station place ≡ true → HasAddress place address → is_station_with address place ≡ true
station_has (Danh mac mode) address station has = absurd (false≢true station)
station_has (RedBox mac mode) address station has = absurd (false≢true station)
station_has QuadBox address station has = absurd (false≢true station)
station_has (Station macs) address station has = at_among macs.items address has.0 has.1

module _ (run : Run) (closed : IsClosed run) (net : IsNetwork run) where
  -- a Station has the address, and a channel leads from it to a node
  pub record IsHeardAt (k : ℕ) (address : List ℕ) : Type 0 where
    pub channel : Channel
    pub below : channel.link < length run.links
    pub here : (stop_of run channel).node ≡ k
    pub station : is_station (place_of run (start_of run channel).node) ≡ true
    pub has : HasAddress (place_of run (start_of run channel).node) address

  -- so it is with the source of what comes plain to an interlink
  sources : (k : ℕ) → k < length run.places → Each (λ x past. OfSource (IsHeardAt k) (place_of run k) x.event) (past_of run k)
  sources k below = each_so (λ x past. FromEdge run closed net k x.event) (λ x past. OfSource (IsHeardAt k) (place_of run k) x.event) (past_of run k) (λ x past from. by_event x.event from) (each_from_edge run closed net k below)
    where
      by_event : (event : Event) → FromEdge run closed net k event → OfSource (IsHeardAt k) (place_of run k) event
      by_event (Send from dst vlan ethertype payload) from_edge = tt
      by_event (Supervise about) from_edge = tt
      by_event Age from_edge = tt
      by_event (Arrive port copy) from_edge = λ edge no_station f plain.
          let by = from_edge edge no_station in
          let o = by.of_send in
          let both : Some by.from.0 ≡ Some o.send = sym by.from.1 ∙ o.named in
          let same : by.from.0 ≡ o.send = cc in
          let node : o.send.node ≡ (start_of run by.channel).node = ap (λ (p : Probe). p.node) (sym same) ∙ by.from.2 in
          let frame : Some f ≡ Some o.sending.frame = sym (ap plain_in plain) ∙ o.frame in
          let equal : f ≡ o.sending.frame = cc in
          let source = source_of (place_of run o.send.node) o.send.place (past_of run o.send.node) o.sending o.is_send.1 in
          let has = has_source (place_of run o.send.node) f.src (subst (λ (g : Fields). IsSource (place_of run o.send.node) g.src) (sym equal) source) in
          let H : ℕ → Type 0 = λ j. HasAddress (place_of run j) f.src in
          record { channel = by.channel; below = by.below; here = ap (λ (end : End). end.node) by.stops; station = by.station; has = subst H node has }

  -- what no Station has to which a channel leads from there isn't known
  pub unknown_at : (send : Probe) (dst : List ℕ) (k : ℕ) → k < length run.places → (IsHeardAt k dst → ⊥) → Each (MayKnow (owner_of run k) send (Unknown dst)) (past_of run k)
  unknown_at send dst k below never = each_unknown (IsHeardAt k) (owner_of run k) send dst never (past_of run k) (sources k below)

  pub unknown_before_at : (dst : List ℕ) (k : ℕ) → k < length run.places → (IsHeardAt k dst → ⊥) → Each (UnknownBefore (owner_of run k) dst) (past_of run k)
  unknown_before_at dst k below never = each_unknown_before (IsHeardAt k) (owner_of run k) dst never (past_of run k) (sources k below)

  pub no_station_has : (frame : Fields) → is_covered run.places frame ≡ true → (j : ℕ) → j < length run.places → is_station (place_of run j) ≡ true → HasAddress (place_of run j) frame.dst → ⊥
  no_station_has frame covered j below station has =
      ⊎_elim
      (λ group. false≢true (sym (net.single j frame.dst below has) ∙ group))
      (λ other. false≢true (sym (none_at (is_station_with frame.dst) run.places QuadBox j (not-true (list_any (is_station_with frame.dst) run.places) other) below) ∙ station_has (place_of run j) frame.dst station has))
      (or_cases (is_group frame.dst) (not (list_any (is_station_with frame.dst) run.places)) covered)

  none_of : (frame : Fields) → is_covered run.places frame ≡ true → (k : ℕ) → IsHeardAt k frame.dst → ⊥
  none_of frame covered k h = no_station_has frame covered (start_of run h.channel).node (net.ends h.channel h.below).node h.station h.has

  pub all_unknown : (frame : Fields) → is_covered run.places frame ≡ true → (send : Probe) (k : ℕ) → k < length run.places → Each (MayKnow (owner_of run k) send (Unknown frame.dst)) (past_of run k)
  all_unknown frame covered send k below = unknown_at send frame.dst k below (none_of frame covered k)

  pub all_unknown_before : (frame : Fields) → is_covered run.places frame ≡ true → (k : ℕ) → k < length run.places → Each (UnknownBefore (owner_of run k) frame.dst) (past_of run k)
  all_unknown_before frame covered k below = unknown_before_at frame.dst k below (none_of frame covered k)
