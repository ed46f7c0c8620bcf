-- The audit of a network certifies what `run` plays of a setup that is certified.
use Rattle.std.proofs.Common.{◌≡◌, ℕ, ◌<◌, ◌==◌, ◌&&◌, ◌||◌, not, Bool, true, false, if◌then◌else◌, List, [], ◌∷◌, length, sym, ap, ◌∙◌, arith, zero, suc}
use Rattle.std.specs.Prelude.{slice_index_or}
use Rattle.std.specs.List.{list_any}
use Rattle.std.proofs.lemmas.Bool.{and_parts, false≢true, not-true, or_left, or_right}
use Rattle.hsr_frame.specs.Address.{is_among, is_group}
use Rattle.hsr_frame.specs.Egress.{is_supervision}
use Rattle.hsr_frame.specs.Grammar.{Fields}
use Rattle.hsr_node.specs.declared.place.Place.{Place}
use Rattle.hsr_node.specs.declared.place.Place.TheVariants.{Danh, RedBox, QuadBox, Station}
use Rattle.hsr_deliveries.specs.Delivered.{is_for}
use Rattle.hsr_network_laws.specs.Delivered.{is_covered}
use Rattle.hsr_network_laws.specs.Lives.{is_joined_with_station}
use Rattle.hsr_network_laws.specs.Network.{is_station, is_station_with, stop_of}
use Rattle.hsr_audit.specs.Coming.{is_to_station}
use Rattle.hsr_audit.specs.Doubts.{IsNetworkPremised}
use Rattle.hsr_audit.specs.Sends.{AreKnown, ArePromised, AreServed}
use Rattle.hsr_world_laws.specs.World.{World}
use Rattle.hsr_plays.specs.Law.{IsCertain, run_in}
use Rattle.hsr_plays.specs.Plays.{IsPlayed}
use Rattle.hsr_plays.specs.Setup.{IsSetup, Setup}
use Rattle.hsr_routes.specs.Routes.{heading}
use Rattle.hsr_play_laws.specs.Told.{IsTold}
use Rattle.hsr_play_laws.proofs.Ending.{asked_now, ends_certain}
use Rattle.hsr_play_laws.proofs.RunPlays.{run_is_play}
use Rattle.hsr_play_laws.proofs.Told.{tells_all}
use Rattle.hsr_play_laws.proofs.Worlds.{places_are}
use Rattle.hsr_certify.specs.AnyOrder.{RunCertifies}
use Rattle.hsr_certify.specs.Doubts.{IsPremised}
use Rattle.hsr_certify.proofs.HasSent.{has_send}

-- ---- Stations

station_below : (places : List Place) (k : ℕ) → is_station (slice_index_or places k QuadBox) ≡ true → k < length places
station_below [] k is = absurd (false≢true is)
station_below (p ∷ places) zero is = omega arith
station_below (p ∷ places) (suc k) is = let low = station_below places k is in omega (arith, low)

any_at : (p : Place → Bool) (places : List Place) (k : ℕ) → k < length places → p (slice_index_or places k QuadBox) ≡ true → list_any p places ≡ true
any_at p [] k low is = absurd (omega (arith, low))
any_at p (x ∷ places) zero low is = or_left (p x) (list_any p places) is
any_at p (x ∷ places) (suc k) low is = or_right (p x) (list_any p places) (any_at p places k (omega (arith, low)) is)

-- a single frame that is for a Station is to its address
has_it : (place : Place) (dst : List ℕ) (kind : ℕ) → is_station place ≡ true → is_group dst ≡ false → is_for place dst kind ≡ true → is_station_with dst place ≡ true
has_it (Danh mac mode) dst kind station single for_it = absurd (false≢true station)
has_it (RedBox mac mode) dst kind station single for_it = absurd (false≢true station)
has_it QuadBox dst kind station single for_it = absurd (false≢true station)
has_it (Station macs) dst kind station single for_it = sym (ap (λ b. if b then not (is_supervision dst kind) else is_among macs.items dst) single) ∙ for_it

-- what is covered is due at no Station by its address
uncovered : (places : List Place) (frame : Fields) (sender k : ℕ) → is_covered places frame ≡ true → is_to_station frame (slice_index_or places k QuadBox) ≡ true →
    (not (k == sender) && is_for (slice_index_or places k QuadBox) frame.dst frame.kind) ≡ true → ⊥
uncovered places frame sender k covered to due =
    let both = and_parts (not (is_group frame.dst)) (is_station (slice_index_or places k QuadBox)) to in
    let single = not-true (is_group frame.dst) both.0 in
    let parts = and_parts (not (k == sender)) (is_for (slice_index_or places k QuadBox) frame.dst frame.kind) due in
    let has = has_it (slice_index_or places k QuadBox) frame.dst frame.kind both.1 single parts.1 in
    let any = any_at (is_station_with frame.dst) places k (station_below places k both.1) has in
    by_tests (is_group frame.dst) (list_any (is_station_with frame.dst) places) single any covered
  where
    by_tests : (group some : Bool) → group ≡ false → some ≡ true → (group || not some) ≡ true → ⊥
    by_tests true some single any c = false≢true (sym single)
    by_tests false true single any c = false≢true c
    by_tests false false single any c = false≢true any

-- ---- a play

module _ (s : Setup) (setup : IsSetup s) (p : IsPremised s) (n : ℕ) (w : World) (played : IsPlayed s s.orders [] n w) where
  told : IsTold s (length s.orders) n w
  told = tells_all s s.orders [] n w setup p.clear played

  certain : IsCertain s w
  certain = ends_certain s n w setup p.clear played

  served : AreServed (run_in s w)
  served send sending is k below due = record {
    ring = λ other. certain.reached send sending k is below due;
    below = λ station. absurd (uncovered w.places sending.frame send.node k (certain.covered send sending is) station due);
  }

  known : AreKnown (run_in s w)
  known send sending is k box = absurd (uncovered w.places sending.frame send.node (stop_of (run_in s w) box.channel).node (certain.covered send sending is) box.station box.due)

  promised : ArePromised (run_in s w)
  promised send sending is =
      let a = asked_now s p.clear (length s.orders) n w told send sending is in
      let of_it = a.is.is in
      let span = a.is.span in
      let frame = sending.frame in
      let c =
      and_parts (is_covered s.places (heading span.asked.dst span.asked.kind)) (not (is_supervision span.asked.dst span.asked.kind && is_joined_with_station s.places s.links span.asked.node))
      (p.clear.covered of_it.at span of_it.listed) in
      ap (λ (ps : List Place). not (is_supervision frame.dst frame.kind && is_joined_with_station ps s.links send.node)) (places_are s w told.own)
      ∙ (ap (λ d. not (is_supervision d frame.kind && is_joined_with_station s.places s.links send.node)) a.fits.0
      ∙ (ap (λ t. not (is_supervision span.asked.dst t && is_joined_with_station s.places s.links send.node)) a.fits.1
      ∙ (ap (λ k. not (is_supervision span.asked.dst span.asked.kind && is_joined_with_station s.places s.links k)) of_it.node ∙ c.1)))

  pub is_premised : IsNetworkPremised (run_in s w)
  is_premised = record {
    sound = record { sends = has_send s setup p.clear n w played p.sends; network = certain.network; forgotten = certain.forgotten; mistaken = certain.mistaken; in_time = certain.late };
    served = served;
    known = known;
    covered = promised;
  }

pub run_certifies : RunCertifies
run_certifies s w setup p none plays =
    let play = run_is_play s w setup none plays in
    is_premised s setup p play.0 w play.1
