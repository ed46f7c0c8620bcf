-- Points that saw group frames on one way alone, and group frames that came one way alone.
use Rattle.std.proofs.Common.{◌≡◌, ℕ, zero, suc, ◌<◌, ◌&&◌, ◌||◌, not, Bool, true, false, cond, List, [], ◌∷◌, get_or, length, map, reverse, refl, sym, ap, subst, ◌∙◌, arith, Option, Some, None}
use Rattle.std.specs.List.{list_any, range_with_len}
use Rattle.std.specs.Prelude.{count_by, find, is_some, option_map, slice_get}
use Rattle.std.proofs.lemmas.Bool.{eqb-true}
use Rattle.std.proofs.lemmas.List.FromFn.{get_or-map-range_with_len, length-map-range_with_len}
use Rattle.std.proofs.lemmas.Option.{same_Some, slice_get-get_or, slice_get_within}
use Rattle.hsr_frame.specs.Address.{is_group}
use Rattle.hsr_frame_groups.specs.Frames.{CaughtFields}
use Rattle.hsr_sightings.specs.Read.{AreSightings}
use Rattle.hsr_sightings.specs.Ring.{Ring, is_at, point_of}
use Rattle.hsr_sightings.specs.Seen.{came_both, fate_of, is_edge, way_of_seen}
use Rattle.hsr_sightings.specs.Sightings.{Sighting as Seen, came_both_ways, is_first_at_edge, is_more, is_once, is_to_group, sees_both_ways, sightings}
use Rattle.hsr_sightings.specs.declared.sighting.Fate.{Fate}
use Rattle.hsr_sightings.specs.declared.sighting.Fate.TheVariants as the_fate
use Rattle.hsr_sightings.specs.Fields.{Sighting}
use Rattle.hsr_taps.specs.Tallies.{is_at as is_in}
use Rattle.hsr_health.specs.Counted.{is_fate}
use Rattle.hsr_health.specs.Told.{IsFirstAt, IsFirstFlag, IsOfFrames, IsOfPoints, IsToldAt, IsToldWith, first_frame, is_at_one_sided, is_kept_one_way, is_one_sided, is_one_way_among, kept_one_way_by, one_sided_among, saw_group, spot_if, spot_of}
use Rattle.hsr_health.specs.declared.reason.Reason.{Reason}
use Rattle.hsr_health.specs.declared.reason.Spot.{Spot}
use Rattle.hsr_health.specs.What.{alone_what, kept_alone_what, way_what}
use Rattle.hsr_health.specs.declared.reason.What.{What}
use Rattle.hsr_health.specs.declared.reason.What.TheVariants as the_what
use Rattle.hsr_health.specs.declared.reason.Word.{Word}
use Rattle.hsr_health.specs.declared.reason.Word.TheVariants as the_word
use Rattle.hsr_health.proofs.Finding.{count_map, flag_counts, in_range, less_than, no_flag_counts}
use Rattle.hsr_health.proofs.Sighted.{AreSeenAs, IsSeenAs, all_seen, came_same, count_all, edge_same, is_first}

-- a reason that is told, by its count and its place
told_at : (word : Word) (count n : ℕ) (spot : Spot) (at : Option Spot) (what : What) (told : Option What) (reason : Option Reason) → count ≡ n → 0 < n → Some spot ≡ at → Some what ≡ told
    → IsToldWith word count (Some spot) what reason → IsToldAt word n at told reason
told_at word count n spot at what told None is some place tells with_it = absurd with_it
told_at word count n spot at what told (Some r) is some place tells with_it = (with_it.0, with_it.1 ∙ is, some, with_it.2 ∙ place, ap Some with_it.3 ∙ tells)

exists_at : {X : Type 0} (xs : List X) (k : ℕ) → k < length xs → (x : X) × (slice_get xs k ≡ Some x)
exists_at [] k below = absurd (omega (arith, below))
exists_at (x ∷ xs) zero below = (x, refl)
exists_at (x ∷ xs) (suc k) below = exists_at xs k (omega (arith, below))

-- ---- points

abbrev pub IsFirstSided : Ring → List CaughtFields → List Bool → Option ℕ → Type 0
IsFirstSided ring copies flags first = IsFirstAt (λ (c : CaughtFields). is_in flags (point_of ring c) && is_group c.copy.dst) copies first

any_cons : {X : Type 0} (p : X → Bool) (x : X) (xs : List X) (b : Bool) → p x ≡ b → (list_any p xs ≡ true → (k : ℕ) × (y : X) × (slice_get xs k ≡ Some y) × (p y ≡ true)) → list_any p (x ∷ xs) ≡ true
    → (k : ℕ) × (y : X) × (slice_get (x ∷ xs) k ≡ Some y) × (p y ≡ true)
any_cons p x xs true own rest is = (0, x, refl, own)
any_cons p x xs false own rest is = let found = rest (sym (ap (λ b. b || list_any p xs) own) ∙ is) in (suc found.0, found.1, found.2, found.3)

any_at : {X : Type 0} (p : X → Bool) (xs : List X) → list_any p xs ≡ true → (k : ℕ) × (x : X) × (slice_get xs k ≡ Some x) × (p x ≡ true)
any_at p [] is = absurd cc
any_at p (x ∷ xs) is = any_cons p x xs (p x) refl (λ rest. any_at p xs rest) is

left_of : (a b : Bool) → (a && b) ≡ true → a ≡ true
left_of true b is = refl
left_of false b is = absurd cc

right_of : (a b : Bool) → (a && b) ≡ true → b ≡ true
right_of true b is = is
right_of false b is = absurd cc

-- none of the flags is set where no copy is at such a point
pub none_sided : (ring : Ring) (copies : List CaughtFields) (many : ℕ) (flags : List Bool) → flags ≡ map (is_one_sided ring copies) (range_with_len 0 many) → IsFirstSided ring copies flags None
    → one_sided_among ring copies many ≡ 0
none_sided ring copies many flags are none =
    sym (count_map (is_one_sided ring copies) (range_with_len 0 many)) ∙ ap (count_by (λ b. b)) (sym are) ∙ no_flag_counts flags (λ k b at_k. unset k b at_k)
  where
    unset : (k : ℕ) (b : Bool) → slice_get flags k ≡ Some b → b ≡ false
    unset k false at_k = refl
    unset k true at_k =
        let below = slice_get_within flags k true at_k in
        let long = ap length are ∙ length-map-range_with_len (is_one_sided ring copies) 0 many in
        let inside : k < many = omega (arith, below, long) in
        let own : is_one_sided ring copies k ≡ true
        = sym (get_or-map-range_with_len (is_one_sided ring copies) 0 many k k false inside (omega arith))
        ∙ sym (ap (λ l. get_or l k false) are) ∙ same_Some _ _ (sym (slice_get-get_or flags k false below) ∙ at_k) in
        let seen = any_at (λ (c : CaughtFields). is_at ring k c && is_group c.copy.dst) copies (left_of (saw_group ring copies k) (not (sees_both_ways ring copies k)) own) in
        let place : point_of ring seen.1 ≡ k = eqb-true (point_of ring seen.1) k (left_of (is_at ring k seen.1) (is_group seen.1.copy.dst) seen.3) in
        let group = right_of (is_at ring k seen.1) (is_group seen.1.copy.dst) seen.3 in
        let flag : is_in flags (point_of ring seen.1) ≡ true = ap (is_in flags) place ∙ ap (λ l. is_in l k) are ∙ in_range (is_one_sided ring copies) many k ∙ ap (λ b. b && is_one_sided ring copies k) (less_than k many inside) ∙ own in
        let both : (is_in flags (point_of ring seen.1) && is_group seen.1.copy.dst) ≡ true = ap (λ b. b && is_group seen.1.copy.dst) flag ∙ group in
        let never = none seen.0 seen.1 seen.2 in
        absurd cc

first_such_is : (p q : CaughtFields → Bool) → ((c : CaughtFields) → p c ≡ q c) → (copies : List CaughtFields) (i : ℕ) (c : CaughtFields) → slice_get copies i ≡ Some c → p c ≡ true
    → ((k : ℕ) (x : CaughtFields) → k < i → slice_get copies k ≡ Some x → p x ≡ false) → find q copies ≡ Some c
first_such_is p q same [] i c here holds before = absurd cc
first_such_is p q same (x ∷ copies) zero c here holds before =
    let own : x ≡ c = same_Some x c here in
    ap (λ b. cond b (Some x) (find q copies)) (sym (same x) ∙ ap p own ∙ holds) ∙ ap Some own
first_such_is p q same (x ∷ copies) (suc i) c here holds before =
    ap (λ b. cond b (Some x) (find q copies)) (sym (same x) ∙ before 0 x (omega arith) refl)
    ∙ first_such_is p q same copies i c here holds (λ k y below at_k. before (suc k) y (omega (arith, below)) at_k)

flagged : (l : List Bool) (k : ℕ) → is_in l k ≡ true → slice_get l k ≡ Some true
flagged [] k on = absurd cc
flagged (b ∷ l) zero on = ap Some on
flagged (b ∷ l) (suc k) on = flagged l k on

pub some_sided : (ring : Ring) (copies : List CaughtFields) (many : ℕ) (flags : List Bool) (first count : ℕ) (reason : Option Reason) → flags ≡ map (is_one_sided ring copies) (range_with_len 0 many)
    → IsFirstSided ring copies flags (Some first) → count ≡ count_by (λ b. b) flags
    → ((c : CaughtFields) → slice_get copies first ≡ Some c → IsToldWith the_word.OneSided count (Some (spot_of c)) (way_what ring c) reason) → IsOfPoints ring copies many reason
some_sided ring copies many flags first count reason are is count_is told =
    told_at the_word.OneSided count (one_sided_among ring copies many) (spot_of own.0) (spot_if (find (is_at_one_sided ring copies many) copies)) (way_what ring own.0)
    (option_map (way_what ring) (find (is_at_one_sided ring copies many) copies)) reason (count_is ∙ all) (omega (arith, some, all)) (ap spot_if (sym found)) (ap (option_map (way_what ring)) (sym found)) (told own.0 own.1)
  where
    own : (c : CaughtFields) × (slice_get copies first ≡ Some c)
    own = exists_at copies first is.0

    all : count_by (λ b. b) flags ≡ one_sided_among ring copies many
    all = ap (count_by (λ b. b)) are ∙ count_map (is_one_sided ring copies) (range_with_len 0 many)

    set : is_in flags (point_of ring own.0) ≡ true
    set = left_of (is_in flags (point_of ring own.0)) (is_group own.0.copy.dst) (is.1 own.0 own.1)

    some : 0 < count_by (λ b. b) flags
    some = flag_counts flags (point_of ring own.0) (flagged flags (point_of ring own.0) set)

    same : (c : CaughtFields) → (is_in flags (point_of ring c) && is_group c.copy.dst) ≡ is_at_one_sided ring copies many c
    same c = ap (λ l. is_in l (point_of ring c) && is_group c.copy.dst) are ∙ ap (λ b. b && is_group c.copy.dst) (in_range (is_one_sided ring copies) many (point_of ring c))

    found : find (is_at_one_sided ring copies many) copies ≡ Some own.0
    found = first_such_is (λ (c : CaughtFields). is_in flags (point_of ring c) && is_group c.copy.dst) (is_at_one_sided ring copies many) same copies first own.0 own.1 (is.1 own.0 own.1) is.2

-- ---- frames

abbrev by_parts : (m b e : Bool) → Fate
by_parts m b e = cond m the_fate.More (cond b the_fate.Twice (cond e the_fate.Open the_fate.Once))

once_by : (m b e : Bool) → is_fate 1 (by_parts m b e) ≡ ((not b && not m) && not e)
once_by true true e = refl
once_by true false e = refl
once_by false true e = refl
once_by false false true = refl
once_by false false false = refl

once_same : (ring : Ring) (copies : List CaughtFields) (s : Sighting) (t : Seen) → IsSeenAs ring copies s t → is_fate 1 (fate_of ring s) ≡ is_once ring t.copies
once_same ring copies s t is =
    ap (is_fate 1)
    (ap (λ m. by_parts m (came_both s) (is_edge ring s.at)) is.more ∙ ap (λ b. by_parts (is_more t.copies) b (is_edge ring s.at)) (came_same ring copies s t is)
    ∙ ap (by_parts (is_more t.copies) (came_both_ways ring t.copies)) (edge_same ring copies s t is))
    ∙ once_by (is_more t.copies) (came_both_ways ring t.copies) (is_first_at_edge ring t.copies)

kept_same : (ring : Ring) (copies : List CaughtFields) (both : List Bool) (many : ℕ) → both ≡ map (sees_both_ways ring copies) (range_with_len 0 many) → (s : Sighting) (t : Seen) → IsSeenAs ring copies s t
    → is_kept_one_way ring copies both s ≡ is_one_way_among ring copies many t
kept_same ring copies both many are s t is =
    ap (kept_one_way_by ring both s) is.first
    ∙ ap (λ b. (is_group t.first.copy.dst && b) && is_in both s.point) (once_same ring copies s t is)
    ∙ ap (λ n. (is_to_group t && is_once ring t.copies) && is_in both n) is.point
    ∙ ap (λ l. (is_to_group t && is_once ring t.copies) && is_in l t.point) are
    ∙ ap (λ b. (is_to_group t && is_once ring t.copies) && b) (in_range (sees_both_ways ring copies) many t.point)

pub none_one_way : (ring : Ring) (copies : List CaughtFields) (both : List Bool) (many : ℕ) (all : List Sighting) (numbers : List ℕ) (flags : List Bool)
    → both ≡ map (sees_both_ways ring copies) (range_with_len 0 many) → AreSightings ring copies all numbers → flags ≡ map (is_kept_one_way ring copies both) all → IsFirstFlag flags None
    → count_by (is_one_way_among ring copies many) (sightings ring (reverse copies)) ≡ 0
none_one_way ring copies both many all numbers flags both_are are flags_are none =
    sym (count_all ring copies all numbers (is_kept_one_way ring copies both) (is_one_way_among ring copies many) are (kept_same ring copies both many both_are))
    ∙ sym (count_map (is_kept_one_way ring copies both) all) ∙ ap (count_by (λ b. b)) (sym flags_are) ∙ no_flag_counts flags none

-- the first that is set, and the first that is such
record IsFound (ring : Ring) (copies : List CaughtFields) (def : Seen → Bool) (all : List Sighting) (seen : List Seen) (i : ℕ) : Type 0 where
  own : Sighting
  here : slice_get all i ≡ Some own
  such : Seen
  found : find def seen ≡ Some such
  same : IsSeenAs ring copies own such

found_first : (ring : Ring) (copies : List CaughtFields) (test : Sighting → Bool) (def : Seen → Bool) → ((s : Sighting) (t : Seen) → IsSeenAs ring copies s t → test s ≡ def t) → (all : List Sighting) (seen : List Seen)
    → AreSeenAs ring copies all seen → (i : ℕ) → IsFirstFlag (map test all) (Some i) → IsFound ring copies def all seen i
found_first ring copies test def same [] seen are i is = absurd cc
found_first ring copies test def same (s ∷ all) [] are i is = absurd are
found_first ring copies test def same (s ∷ all) (t ∷ seen) are zero is = record {
  own = s;
  here = refl;
  such = t;
  found = ap (λ b. cond b (Some t) (find def seen)) (sym (same s t are.0) ∙ same_Some _ _ is.0);
  same = are.0;
}
found_first ring copies test def same (s ∷ all) (t ∷ seen) are (suc i) is =
    let rest = found_first ring copies test def same all seen are.1 i (is.0, λ k b below at_k. is.1 (suc k) b (omega (arith, below)) at_k) in
    record {
      own = rest.own;
      here = rest.here;
      such = rest.such;
      found = ap (λ b. cond b (Some t) (find def seen)) (sym (same s t are.0) ∙ is.1 0 (test s) (omega arith) refl) ∙ rest.found;
      same = rest.same;
    }

-- the same is told of it
alone_same : (ring : Ring) (copies : List CaughtFields) (s : Sighting) (t : Seen) → IsSeenAs ring copies s t → kept_alone_what s t.first ≡ alone_what ring t
alone_same ring copies s t is =
    ap (λ n. the_what.Alone n t.first.copy.src t.first.copy.seq (way_of_seen s)) is.point
    ∙ ap (λ (b : Bool). the_what.Alone t.point t.first.copy.src t.first.copy.seq (cond b 0 1)) (ap is_some is.by_0 ∙ is_first ring 0 t.copies)

pub some_one_way : (ring : Ring) (copies : List CaughtFields) (both : List Bool) (many : ℕ) (all : List Sighting) (numbers : List ℕ) (flags : List Bool) (first count : ℕ) (reason : Option Reason)
    → both ≡ map (sees_both_ways ring copies) (range_with_len 0 many) → AreSightings ring copies all numbers → flags ≡ map (is_kept_one_way ring copies both) all → IsFirstFlag flags (Some first)
    → count ≡ count_by (λ b. b) flags
    → ((seen : Sighting) (c : CaughtFields) → slice_get all first ≡ Some seen → slice_get copies seen.first ≡ Some c → IsToldWith the_word.OneWay count (Some (spot_of c)) (kept_alone_what seen c) reason)
    → IsOfFrames the_word.OneWay (is_one_way_among ring copies many) (alone_what ring) (sightings ring (reverse copies)) reason
some_one_way ring copies both many all numbers flags first count reason both_are are flags_are is count_is told =
    told_at the_word.OneWay count (count_by (is_one_way_among ring copies many) (sightings ring (reverse copies))) (spot_of found.such.first)
    (spot_if (first_frame (is_one_way_among ring copies many) (sightings ring (reverse copies)))) (kept_alone_what found.own found.such.first)
    (option_map (alone_what ring) (find (is_one_way_among ring copies many) (reverse (sightings ring (reverse copies))))) reason (count_is ∙ every) (omega (arith, some, every)) (ap spot_if (sym place))
    (ap Some (alone_same ring copies found.own found.such found.same) ∙ ap (option_map (alone_what ring)) (sym found.found))
    (told found.own found.such.first found.here found.same.first)
  where
    found : IsFound ring copies (is_one_way_among ring copies many) all (reverse (sightings ring (reverse copies))) first
    found =
        found_first ring copies (is_kept_one_way ring copies both) (is_one_way_among ring copies many) (kept_same ring copies both many both_are) all (reverse (sightings ring (reverse copies)))
        (all_seen ring copies all numbers are) first (subst (λ l. IsFirstFlag l (Some first)) flags_are is)

    every : count_by (λ b. b) flags ≡ count_by (is_one_way_among ring copies many) (sightings ring (reverse copies))
    every =
        ap (count_by (λ b. b)) flags_are ∙ count_map (is_kept_one_way ring copies both) all
        ∙ count_all ring copies all numbers (is_kept_one_way ring copies both) (is_one_way_among ring copies many) are (kept_same ring copies both many both_are)

    some : 0 < count_by (λ b. b) flags
    some = flag_counts flags first is.0

    place : first_frame (is_one_way_among ring copies many) (sightings ring (reverse copies)) ≡ Some found.such.first
    place = ap (option_map (λ (t : Seen). t.first)) found.found
