-- The whole, of what its parts tell.
use Rattle.std.proofs.Common.{◌≡◌, ℕ, zero, suc, ◌<◌, Bool, true, false, cond, List, [], ◌∷◌, length, refl, sym, ap, subst, ◌∙◌, arith, Option, Some, None, Ok, Err, Result}
use Rattle.std.specs.Prelude.{nat_lt, slice_get, slice_index}
use Rattle.std.specs.List.{cons_option}
use Rattle.std.proofs.lemmas.List.Sorted.{length_permutation}
use Rattle.hsr_capture_reader.specs.Capture.{CaptureFields}
use Rattle.hsr_capture_reader.specs.Fields.{PacketFields}
use Rattle.hsr_capture_reader.specs.declared.fields.Losses.{Losses}
use Rattle.hsr_frame_copies.specs.Contents.{CopyFields, copy_of}
use Rattle.hsr_frame_copies.specs.declared.contents.NoCopy.{NoCopy}
use Rattle.hsr_frame_groups.specs.Frames.{CaughtFields}
use Rattle.hsr_sightings.specs.Ring.{Ring}
use Rattle.hsr_taps.specs.Asked.{ChoiceFields}
use Rattle.hsr_taps.specs.Came.{stray_by, stray_in, strays_in, taps_at, way_by}
use Rattle.hsr_taps.specs.Tallies.{is_at}
use Rattle.hsr_taps.specs.declared.direction.Taps.{Taps}
use Rattle.hsr_taps.specs.declared.tapping.Stray.{Stray}
use Rattle.hsr_taps.proofs.Coming.{few_looked}
use Rattle.hsr_health.specs.Kinds.{HaveInterfaces}
use Rattle.hsr_health.specs.Whole.{AreCaught, AreFindings, AreReasons, IsBounded, IsTraffic, ring_in}
use Rattle.hsr_health.specs.declared.findings.Findings.{Findings}
use Rattle.hsr_health.specs.declared.traffic.Traffic.{Traffic}
use Rattle.hsr_health.specs.declared.reason.Reason.{Reason}

pub reasons_same : (ring : Ring) (taps : List Taps) (copies copies' : List CaughtFields) (many : ℕ) (findings : Findings) (losses losses' : List Losses) (asked asked' : List Bool) (absent absent' : List (List ℕ))
    (strays strays' : List Stray) (table : ℕ) (reasons : List Reason) → copies ≡ copies' → losses ≡ losses' → asked ≡ asked' → absent ≡ absent' → strays ≡ strays'
    → AreReasons ring taps copies many findings losses asked absent strays table reasons → AreReasons ring taps copies' many findings losses' asked' absent' strays' table reasons
reasons_same ring taps copies copies' many findings losses losses' asked asked' absent absent' strays strays' table reasons c l a b s are =
    subst (λ x. AreReasons ring taps copies' many findings losses' asked' absent' x table reasons) s
    (subst (λ x. AreReasons ring taps copies' many findings losses' asked' x strays table reasons) b
    (subst (λ x. AreReasons ring taps copies' many findings losses' x absent strays table reasons) a
    (subst (λ x. AreReasons ring taps copies' many findings x asked absent strays table reasons) l
    (subst (λ x. AreReasons ring taps x many findings losses asked absent strays table reasons) c are))))

-- ---- copies

point_below : (points : List ℕ) → ((direction point : ℕ) → slice_get points direction ≡ Some point → point < 64) → (direction : ℕ) → slice_index points direction < 64
point_below [] below direction = omega arith
point_below (p ∷ points) below zero = below 0 p refl
point_below (p ∷ points) below (suc direction) = point_below points (λ d q at_d. below (suc d) q at_d) direction

way_small : (lane_a lane_b : ℕ) → way_by lane_a lane_b < 2
way_small lane_a lane_b = by_case (nat_lt lane_a lane_b)
  where
    by_case : (b : Bool) → cond b 1 0 < 2
    by_case true = omega arith
    by_case false = omega arith

way_below : (ways : List ℕ) → ((direction way : ℕ) → slice_get ways direction ≡ Some way → way < 2) → (direction : ℕ) → slice_index ways direction < 2
way_below [] below direction = omega arith
way_below (w ∷ ways) below zero = below 0 w refl
way_below (w ∷ ways) below (suc direction) = way_below ways (λ d v at_d. below (suc d) v at_d) direction

pub caught_of : (choice : ChoiceFields) (capture : CaptureFields) (traffic : Traffic) (copies : List CaughtFields) (is_whole : Bool) → IsBounded capture → IsTraffic choice capture traffic copies
    → AreCaught (ring_in traffic is_whole) copies
caught_of choice capture traffic copies is_whole bounds is = record {
  time = is.tapped.time;
  few = let same = length_permutation _ _ is.in_time.same in omega (arith, is.tapped.few, same, bounds.packets);
  numbers = is.tapped.numbers;
  directions = is.tapped.directions;
  places = point_below traffic.tapped.point_of.items is.tapped.places;
  ways = way_below traffic.tapped.way_of.items (λ direction way at_d. subst (λ n. n < 2) (sym (is.tapped.way_of direction way at_d)) (way_small _ _));
}

-- ---- packets that are no copies

looked_below : (looked : List Bool) (i : ℕ) → is_at looked i ≡ true → i < length looked
looked_below [] i is = absurd cc
looked_below (b ∷ looked) zero is = omega arith
looked_below (b ∷ looked) (suc i) is = let rest = looked_below looked i is in omega (arith, rest)

stray_kind : (p : PacketFields) (r : Result CopyFields NoCopy) (s : Stray) → stray_by p r ≡ Some s → s.interface ≡ p.interface
stray_kind p (Ok copy) s is = absurd cc
stray_kind p (Err what) s is = cc

stray_of : (looked : List Bool) (taps : List Taps) (p : PacketFields) (s : Stray) → stray_in p (taps_at looked taps p) ≡ Some s → s.interface < length looked
stray_of looked taps p s is = by_looked (is_at looked p.interface) refl
  where
    by_taps : (o : Option Taps) → is_at looked p.interface ≡ true → stray_in p o ≡ Some s → s.interface < length looked
    by_taps None at none = absurd cc
    by_taps (Some t) at some = let same = stray_kind p (copy_of p) s some in let below = looked_below looked p.interface at in omega (arith, same, below)

    by_looked : (b : Bool) → is_at looked p.interface ≡ b → s.interface < length looked
    by_looked true at = by_taps (taps_at looked taps p) at is
    by_looked false at =
        let none : stray_in p (taps_at looked taps p) ≡ None = ap (λ b. stray_in p (cond b (slice_get taps p.interface) None)) at in
        let never : ◌≡◌ {A = Option Stray} None (Some s) = sym none ∙ is in
        absurd cc

strays_below : (looked : List Bool) (taps : List Taps) (packets : List PacketFields) (i : ℕ) (s : Stray) → slice_get (strays_in looked taps packets) i ≡ Some s → s.interface < length looked
strays_below looked taps [] i s here = absurd cc
strays_below looked taps (p ∷ packets) i s here = by_first looked taps p (stray_in p (taps_at looked taps p)) refl (strays_in looked taps packets) (λ k x at_k. strays_below looked taps packets k x at_k) i s here
  where
    by_first : (looked : List Bool) (taps : List Taps) (p : PacketFields) (o : Option Stray) → stray_in p (taps_at looked taps p) ≡ o → (rest : List Stray)
        → ((k : ℕ) (x : Stray) → slice_get rest k ≡ Some x → x.interface < length looked) → (i : ℕ) (s : Stray) → slice_get (cons_option o rest) i ≡ Some s → s.interface < length looked
    by_first looked taps p None none rest others i s here = others i s here
    by_first looked taps p (Some x) some rest others zero s here = let own = stray_of looked taps p x some in let same : x ≡ s = cc in omega (arith, own, ap (λ (y : Stray). y.interface) same)
    by_first looked taps p (Some x) some rest others (suc i) s here = others i s here

pub interfaces_of : (choice : ChoiceFields) (capture : CaptureFields) (traffic : Traffic) (copies : List CaughtFields) → IsBounded capture → IsTraffic choice capture traffic copies
    → HaveInterfaces traffic.tapped.strays.items
interfaces_of choice capture traffic copies bounds is i s here =
    let below = strays_below is.looked traffic.tapped.taps.items is.packets i s (ap (λ l. slice_get l i) (sym is.tapped.strays) ∙ here) in
    let few = few_looked choice capture.interfaces is.looked is.tapped.looks in
    omega (arith, below, few, bounds.interfaces)

pub ring_is : (traffic : Traffic) (is_whole : Bool) (points ways : List ℕ) → points ≡ traffic.tapped.point_of.items → ways ≡ traffic.tapped.way_of.items
    → ◌≡◌ {A = Ring} (record { start = traffic.outline.start; end = traffic.outline.end; is_whole = is_whole; points = points; ways = ways }) (ring_in traffic is_whole)
ring_is traffic is_whole points ways p w =
    ap (λ (x : List ℕ). record { start = traffic.outline.start; end = traffic.outline.end; is_whole = is_whole; points = x; ways = ways }) p
    ∙ ap (λ (x : List ℕ). record { start = traffic.outline.start; end = traffic.outline.end; is_whole = is_whole; points = traffic.tapped.point_of.items; ways = x }) w

pub findings_same : (ring ring' : Ring) (copies copies' : List CaughtFields) (taps taps' : List Taps) (many many' : ℕ) (findings : Findings) → ring ≡ ring' → copies ≡ copies' → taps ≡ taps' → many ≡ many'
    → AreFindings ring copies taps many findings → AreFindings ring' copies' taps' many' findings
findings_same ring ring' copies copies' taps taps' many many' findings r c t m are =
    subst (λ x. AreFindings ring' copies' taps' x findings) m
    (subst (λ x. AreFindings ring' copies' x many findings) t (subst (λ x. AreFindings ring' x taps many findings) c (subst (λ x. AreFindings x copies taps many findings) r are)))
