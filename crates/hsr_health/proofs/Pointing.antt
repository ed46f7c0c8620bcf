-- What is told of each point.
use Rattle.std.proofs.Common.{◌≡◌, ℕ, ◌+◌, ◌<◌, ◌^◌, Bool, true, false, cond, List, [], ◌∷◌, ◌++◌, get_or, length, map, take, ◌⊎◌, inl, inr, sym, ap, subst, ◌∙◌, arith, Some}
use Rattle.std.specs.Prelude.{nat_eq, count_by, slice_get}
use Rattle.std.specs.List.{range_with_len}
use Rattle.std.proofs.lemmas.Bool.{eq-eqb, ne_eqb}
use Rattle.std.proofs.lemmas.List.FromFn.{get_or-map-range_with_len}
use Rattle.std.proofs.lemmas.Option.{get_or_from_slice_get, slice_get_within}
use Rattle.hsr_frame_groups.specs.Frames.{CaughtFields}
use Rattle.hsr_sightings.specs.Read.{AreNeeded, AreSightings}
use Rattle.hsr_sightings.specs.Ring.{Ring}
use Rattle.hsr_sightings.specs.Sightings.{sees_both_ways}
use Rattle.hsr_sightings.specs.Fields.{Sighting}
use Rattle.hsr_health.specs.Counted.{AreBegun, AreOfPoints, OfPoint, changed, one_more}
use Rattle.hsr_health.specs.declared.directions.PointNumbers.{PointNumbers}
use Rattle.hsr_health.proofs.Fating.{count_push, count_short, one_step}
use Rattle.hsr_health.proofs.Sighted.{count_all}
use Rattle.hsr_health.proofs.Sourcing.{changed_at}
use Rattle.hsr_sightings.proofs.Gathering.{slice_get_push}

pub begun_step : (all : List Sighting) (i : ℕ) (s : Sighting) (old new : List ℕ) → slice_get all i ≡ Some s → i < 2 ^ 63 → new ≡ changed one_more s.point old → AreBegun (take i all) old → AreBegun (take (i + 1) all) new
begun_step all i s old new here few is are point n at_point = by_place (changed_at one_more old s.point point n (ap (λ l. slice_get l point) (sym is) ∙ at_point))
  where
    grown : count_by (λ (x : Sighting). nat_eq x.point point) (take (i + 1) all) ≡ count_by (λ (x : Sighting). nat_eq x.point point) (take i all) + cond (nat_eq s.point point) 1 0
    grown = count_push (λ (x : Sighting). nat_eq x.point point) all i s here

    by_place : ((point ≡ s.point) × ((x : ℕ) × (slice_get old point ≡ Some x) × (n ≡ one_more x))) ⊎ ((s.point ≡ point → ⊥) × (slice_get old point ≡ Some n))
        → n ≡ count_by (λ (x : Sighting). nat_eq x.point point) (take (i + 1) all)
    by_place (inl own) =
        own.1.2 ∙ one_step own.1.0 (count_by (λ (x : Sighting). nat_eq x.point point) (take i all)) i true (are point own.1.0 own.1.1) (count_short (λ (x : Sighting). nat_eq x.point point) all i) few
        ∙ ap (λ b. count_by (λ (x : Sighting). nat_eq x.point point) (take i all) + cond b 1 0) (sym (eq-eqb s.point point (sym own.0))) ∙ sym grown
    by_place (inr other) =
        are point n other.1 ∙ (let none : nat_eq s.point point ≡ false = ne_eqb s.point point other.0 in sym (grown ∙ ap (λ b. count_by (λ (x : Sighting). nat_eq x.point point) (take i all) + cond b 1 0) none ∙ omega arith))

-- whether a point sees both ways, as it was read
sees_at : (ring : Ring) (copies : List CaughtFields) (both : List Bool) (point : ℕ) (b : Bool) → both ≡ map (sees_both_ways ring copies) (range_with_len 0 (length both)) → slice_get both point ≡ Some b
    → b ≡ sees_both_ways ring copies point
sees_at ring copies both point b is here =
    let inside = slice_get_within both point b here in
    let same : 0 + point ≡ point = omega arith in
    sym (get_or_from_slice_get both point b false here) ∙ ap (λ l. get_or l point false) is
    ∙ get_or-map-range_with_len (sees_both_ways ring copies) 0 (length both) point point false inside same

pub points_more : (all : List Sighting) (begun : List ℕ) (both : List Bool) (needed : List ℕ) (points new : List PointNumbers) (k n m : ℕ) (b : Bool) (own : PointNumbers) → AreBegun all begun → length points ≡ k
    → slice_get begun k ≡ Some n → slice_get both k ≡ Some b → slice_get needed k ≡ Some m → own ≡ record { frames = n; both_ways = b; needed = m } → new ≡ points ++ own ∷ []
    → (ring : Ring) (copies : List CaughtFields) (numbers : List ℕ) → AreSightings ring copies all numbers → both ≡ map (sees_both_ways ring copies) (range_with_len 0 (length both)) → AreNeeded ring copies needed
    → AreOfPoints ring copies points → AreOfPoints ring copies new
points_more all begun both needed points new k n m b own begun_are long begun_k both_k needed_k own_is is ring copies numbers are sees needs told point x at_point =
    by_place (slice_get_push points own x point (ap (λ l. slice_get l point) (sym is) ∙ at_point))
  where
    its : OfPoint ring copies k (record { frames = n; both_ways = b; needed = m })
    its = record {
      frames = begun_are k n begun_k ∙ count_all ring copies all numbers (λ s. nat_eq s.point k) (λ t. nat_eq t.point k) are (λ s t is. ap (λ q. nat_eq q k) is.point);
      both_ways = sees_at ring copies both k b sees both_k;
      needed = needs k m needed_k;
    }

    by_place : (slice_get points point ≡ Some x) ⊎ ((point ≡ length points) × (x ≡ own)) → OfPoint ring copies point x
    by_place (inl old) = told point x old
    by_place (inr here) = subst (OfPoint ring copies point) (sym (here.1 ∙ own_is)) (subst (λ q. OfPoint ring copies q (record { frames = n; both_ways = b; needed = m })) (sym (here.0 ∙ long)) its)
