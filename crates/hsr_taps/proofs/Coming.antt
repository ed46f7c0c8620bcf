-- The copies and the strays among packets, and what is told of each direction.
use Rattle.std.proofs.Common.{◌≡◌, ℕ, zero, suc, ◌+◌, ◌-◌, ◌*◌, ◌<◌, ◌≤◌, ◌^◌, ◌%◌, ◌&&◌, min, IsSome, Bool, true, false, cond, List, [], ◌∷◌, ◌++◌, length, map, set, get_or, ◌⊎◌, inl, inr, refl, sym, ap, subst, ◌∙◌, arith, Option, Some, None}
use Rattle.std.specs.List.{cons_option}
use Rattle.std.specs.Prelude.{nat_eq, filter_map, option_map, option_to_list, reverse, slice_get, slice_index, Result, Ok, Err}
use Rattle.std.proofs.lemmas.Bool.{cases_lt, and_from, and_left, and_right, eq-eqb, ne_eqb}
use Rattle.std.proofs.lemmas.List.{append_assoc, reverse-append}
use Rattle.std.proofs.lemmas.List.Elements.{filter_map-append}
use Rattle.std.proofs.lemmas.List.Sums.{count_by-le-length, length-filter, sum_by_push}
use Rattle.std.proofs.lemmas.Option.{get_or_from_slice_get, same_Some, slice_get-get_or, slice_get-map, slice_get_past, slice_get_within, unwrap_or-slice_get}
use Rattle.hsr_capture_reader.specs.Fields.{InterfaceFields, PacketFields}
use Rattle.hsr_frame_copies.specs.Contents.{CopyFields, copy_of}
use Rattle.hsr_frame_copies.specs.declared.contents.NoCopy.{NoCopy}
use Rattle.hsr_frame_groups.specs.Frames.{AreInTime, CaughtFields}
use Rattle.hsr_taps.specs.Asked.{ChoiceFields}
use Rattle.hsr_taps.specs.Came.{AreInOrder, AreLaneCounts, ArePackets, ArePointsOf, AreSums, AreSumsBy, AreTalliesBy, AreTalliesIf, AreTaps, AreWays, AreWaysBy, HaveOwnNumbers, caught_by, caught_in, copies_in, lane_count, owner_by, taps_at, tally_if, way_by}
use Rattle.hsr_taps.specs.Directions.{interface_of, number_of, part_by}
use Rattle.hsr_taps.specs.Named.{AreOwners, IsOwner, owner_of}
use Rattle.hsr_taps.specs.Tallies.{AreLookedAt, AreTallies, HaveRoom, came_at, has_lane, is_at, is_looked_at, tagged, tally_at, tally_of, taps_by}
use Rattle.hsr_taps.specs.declared.choice.TapsAsked.{TapsAsked}
use Rattle.hsr_taps.specs.declared.direction.Part.{Part}
use Rattle.hsr_taps.specs.declared.direction.Part.TheVariants as the_part
use Rattle.hsr_taps.specs.declared.direction.Taps.{Taps}
use Rattle.hsr_taps.specs.declared.tally.Tally.{Tally}
use Rattle.hsr_taps.proofs.Tallying.{slice_get_set}

-- ---- one packet more

missing : {X : Type 0} (xs : List X) (i : ℕ) → i < length xs → slice_get xs i ≡ None → ⊥
missing [] i below none = omega (arith, below)
missing (x ∷ xs) zero below none = absurd cc
missing (x ∷ xs) (suc i) below none = missing xs i (omega (arith, below)) none

one_found : {X Y : Type 0} (f : X → Option Y) (x : X) → filter_map f (x ∷ []) ≡ option_to_list (f x)
one_found {X} {Y} f x = by_case (f x)
  where
    by_case : (o : Option Y) → cons_option o [] ≡ option_to_list o
    by_case None = refl
    by_case (Some y) = refl

alone_reversed : {X : Type 0} (o : Option X) → reverse (option_to_list o) ≡ option_to_list o
alone_reversed None = refl
alone_reversed (Some x) = refl

-- what is found in the last one goes over to those that were found
pub found_last : {X Y : Type 0} (f : X → Option Y) (before left : List X) (x : X) (old new all : List Y) → before ≡ left ++ x ∷ []
    → filter_map f before ++ reverse old ≡ all → new ≡ old ++ option_to_list (f x) → filter_map f left ++ reverse new ≡ all
found_last f before left x old new all is old_is new_is =
    ap (λ l. filter_map f left ++ l) (ap reverse new_is ∙ reverse-append old (option_to_list (f x)) ∙ ap (λ l. l ++ reverse old) (alone_reversed (f x)))
    ∙ sym (append_assoc (filter_map f left) (option_to_list (f x)) (reverse old))
    ∙ ap (λ l. l ++ reverse old) (sym (ap (filter_map f) is ∙ filter_map-append f left (x ∷ []) ∙ ap (λ l. filter_map f left ++ l) (one_found f x)))
    ∙ old_is

-- ---- where a copy comes from

abbrev pub ComesFrom : {X Y : Type 0} → (X → Option Y) → List X → Y → Type 0
ComesFrom {X} f xs y = (k : ℕ) × (x : X) × (slice_get xs k ≡ Some x) × (f x ≡ Some y)

pub comes_from : {X Y : Type 0} (f : X → Option Y) (xs : List X) (i : ℕ) (y : Y) → slice_get (filter_map f xs) i ≡ Some y → ComesFrom f xs y
comes_from f [] i y here = absurd cc
comes_from {X} {Y} f (x ∷ xs) i y here = by_case (λ j there. comes_from f xs j y there) (f x) refl i here
  where
    later : ComesFrom f xs y → ComesFrom f (x ∷ xs) y
    later from = (suc from.0, from.1, from.2, from.3)

    by_case : ((j : ℕ) → slice_get (filter_map f xs) j ≡ Some y → ComesFrom f xs y) → (o : Option Y) → f x ≡ o → (k : ℕ) → slice_get (cons_option o (filter_map f xs)) k ≡ Some y → ComesFrom f (x ∷ xs) y
    by_case rest None is k there = later (rest k there)
    by_case rest (Some z) is zero there = (0, x, refl, is ∙ there)
    by_case rest (Some z) is (suc k) there = later (rest k there)

-- no more are found than there are
pub few_found : {X Y : Type 0} (f : X → Option Y) (xs : List X) → length (filter_map f xs) ≤ length xs
few_found f [] = omega arith
few_found {X} {Y} f (x ∷ xs) = by_case (few_found f xs) (f x)
  where
    by_case : length (filter_map f xs) ≤ length xs → (o : Option Y) → length (cons_option o (filter_map f xs)) ≤ suc (length xs)
    by_case rest None = omega (arith, rest)
    by_case rest (Some y) = omega (arith, rest)

-- ---- what a copy has of its packet

pub caught_of : (taps : Option Taps) (p : PacketFields) (c : CaughtFields) → caught_in p taps ≡ Some c → (c.at ≡ p.moment) × (c.packet ≡ p.number)
caught_of None p c is = absurd cc
caught_of (Some taps) p c is = by_kind (copy_of p) is
  where
    by_kind : (kind : Result CopyFields NoCopy) → caught_by taps p kind ≡ Some c → (c.at ≡ p.moment) × (c.packet ≡ p.number)
    by_kind (Ok copy) same = let it = sym (same_Some _ _ same) in (ap (λ (x : CaughtFields). x.at) it, ap (λ (x : CaughtFields). x.packet) it)
    by_kind (Err what) same = absurd cc

few_parts : (part : Part) → number_of part < 5
few_parts the_part.Whole = omega arith
few_parts the_part.LaneA = omega arith
few_parts the_part.LaneB = omega arith
few_parts the_part.In = omega arith
few_parts the_part.Out = omega arith

direction_below : (taps : Option Taps) (p : PacketFields) (c : CaughtFields) → (IsSome taps → p.interface < 64) → caught_in p taps ≡ Some c → c.direction < 320
direction_below None p c inside is = absurd cc
direction_below (Some taps) p c inside is = by_kind (copy_of p) is
  where
    by_kind : (kind : Result CopyFields NoCopy) → caught_by taps p kind ≡ Some c → c.direction < 320
    by_kind (Ok copy) same =
        let it : c.direction ≡ p.interface * 5 + number_of (part_by taps p.way copy.path) = ap (λ (x : CaughtFields). x.direction) (sym (same_Some _ _ same)) in
        let few = few_parts (part_by taps p.way copy.path) in
        let below = inside refl in
        omega (arith, it, few, below)
    by_kind (Err what) same = absurd cc

pub tapped_inside : (looked : List Bool) (taps : List Taps) (p : PacketFields) → length taps ≤ 64 → IsSome (taps_at looked taps p) → p.interface < 64
tapped_inside looked taps p few is = by_looked (is_at looked p.interface) is
  where
    by_taps : (o : Option Taps) → slice_get taps p.interface ≡ o → IsSome o → p.interface < 64
    by_taps None there some = absurd cc
    by_taps (Some own) there some = let below = slice_get_within taps p.interface own there in omega (arith, below, few)

    by_looked : (b : Bool) → IsSome (cond b (slice_get taps p.interface) None) → p.interface < 64
    by_looked true some = by_taps (slice_get taps p.interface) refl some
    by_looked false some = absurd cc

pub directions_below : (looked : List Bool) (taps : List Taps) (packets : List PacketFields) → length taps ≤ 64 → (i : ℕ) (c : CaughtFields) → slice_get (copies_in looked taps packets) i ≡ Some c
    → c.direction < 320
directions_below looked taps packets few i c here =
    let from = comes_from (λ p. caught_in p (taps_at looked taps p)) packets i c here in
    direction_below (taps_at looked taps from.1) from.1 c (tapped_inside looked taps from.1 few) from.3

-- ---- the order of time

in_order_rest : (p : PacketFields) (packets : List PacketFields) → AreInOrder (p ∷ packets) → AreInOrder packets
in_order_rest p packets order i a b here next =
    let more : suc i + 1 ≡ suc (i + 1) = omega arith in
    order (suc i) a b here (subst (λ k. slice_get (p ∷ packets) k ≡ Some b) (sym more) next)

none_earlier : (p : PacketFields) (packets : List PacketFields) → AreInOrder (p ∷ packets) → (i : ℕ) (q : PacketFields) → slice_get packets i ≡ Some q → p.moment ≤ q.moment
none_earlier p [] order i q here = absurd cc
none_earlier p (first ∷ packets) order zero q here = order 0 p q refl here
none_earlier p (first ∷ packets) order (suc i) q here =
    let next : p.moment ≤ first.moment = order 0 p first refl refl in
    let rest : first.moment ≤ q.moment = none_earlier first packets (in_order_rest p (first ∷ packets) order) i q here in
    omega (arith, next, rest)

pub copies_in_time : (looked : List Bool) (taps : List Taps) (packets : List PacketFields) → AreInOrder packets → AreInTime (copies_in looked taps packets)
copies_in_time looked taps [] order i b c here next = absurd cc
copies_in_time looked taps (p ∷ packets) order i b c here next = by_case (copies_in_time looked taps packets (in_order_rest p packets order)) (caught_in p (taps_at looked taps p)) refl i here next
  where
    by_case : AreInTime (copies_in looked taps packets) → (o : Option CaughtFields) → caught_in p (taps_at looked taps p) ≡ o → (k : ℕ)
        → slice_get (cons_option o (copies_in looked taps packets)) k ≡ Some b → slice_get (cons_option o (copies_in looked taps packets)) (k + 1) ≡ Some c → b.at ≤ c.at
    by_case rest None is k at_k after = rest k b c at_k after
    by_case rest (Some own) is zero at_k after =
        let first = caught_of (taps_at looked taps p) p b (is ∙ at_k) in
        let from = comes_from (λ q. caught_in q (taps_at looked taps q)) packets 0 c after in
        let second = caught_of (taps_at looked taps from.1) from.1 c from.3 in
        let le : p.moment ≤ from.1.moment = none_earlier p packets order from.0 from.1 from.2 in
        omega (arith, first.0, second.0, le)
    by_case rest (Some own) is (suc k) at_k after =
        let more : suc k + 1 ≡ suc (k + 1) = omega arith in
        rest k b c at_k (subst (λ n. slice_get (own ∷ copies_in looked taps packets) n ≡ Some c) more after)

-- ---- numbers

numbers_rest : (p : PacketFields) (packets : List PacketFields) → ArePackets (p ∷ packets) → ArePackets packets
numbers_rest p packets own i j a b here there same = let suc_same : suc i ≡ suc j = own (suc i) (suc j) a b here there same in omega (arith, suc_same)

pub own_numbers : (looked : List Bool) (taps : List Taps) (packets : List PacketFields) → ArePackets packets → HaveOwnNumbers (copies_in looked taps packets)
own_numbers looked taps [] own i j b c here there same = absurd cc
own_numbers looked taps (p ∷ packets) own i j b c here there same = by_case (own_numbers looked taps packets (numbers_rest p packets own)) (caught_in p (taps_at looked taps p)) refl i j here there
  where
    other : (k : ℕ) (a d : CaughtFields) → caught_in p (taps_at looked taps p) ≡ Some a → slice_get (copies_in looked taps packets) k ≡ Some d → a.packet ≡ d.packet → ⊥
    other k a d is at_k alike =
        let first = caught_of (taps_at looked taps p) p a is in
        let from = comes_from (λ q. caught_in q (taps_at looked taps q)) packets k d at_k in
        let second = caught_of (taps_at looked taps from.1) from.1 d from.3 in
        let place : 0 ≡ suc from.0 = own 0 (suc from.0) p from.1 refl from.2 (sym first.1 ∙ alike ∙ second.1) in
        omega (arith, place)

    by_case : HaveOwnNumbers (copies_in looked taps packets) → (o : Option CaughtFields) → caught_in p (taps_at looked taps p) ≡ o → (k n : ℕ)
        → slice_get (cons_option o (copies_in looked taps packets)) k ≡ Some b → slice_get (cons_option o (copies_in looked taps packets)) n ≡ Some c → k ≡ n
    by_case rest None is k n at_k at_n = rest k n b c at_k at_n same
    by_case rest (Some d) is zero zero at_k at_n = refl
    by_case rest (Some d) is zero (suc n) at_k at_n = absurd (other n b c (is ∙ at_k) at_n same)
    by_case rest (Some d) is (suc k) zero at_k at_n = absurd (other k c b (is ∙ at_n) at_k (sym same))
    by_case rest (Some d) is (suc k) (suc n) at_k at_n = ap suc (rest k n b c at_k at_n same)

-- ---- lanes

lane_push : (lane direction : ℕ) (copies : List CaughtFields) (c : CaughtFields)
    → lane_count lane (copies ++ c ∷ []) direction ≡ lane_count lane copies direction + cond (nat_eq c.direction direction && nat_eq (c.copy.path % 2) lane) 1 0
lane_push lane direction copies c = sum_by_push (λ x. cond (nat_eq x.direction direction && nat_eq (x.copy.path % 2) lane) 1 0) copies c

same_lane : (lane direction : ℕ) (copies : List CaughtFields) (c : CaughtFields) → (nat_eq c.direction direction && nat_eq (c.copy.path % 2) lane) ≡ false
    → lane_count lane copies direction ≡ lane_count lane (copies ++ c ∷ []) direction
same_lane lane direction copies c other =
    let more = lane_push lane direction copies c ∙ ap (λ b. lane_count lane copies direction + cond b 1 0) other in omega (arith, more)

pub put_lane : (lane : ℕ) (copies : List CaughtFields) (c : CaughtFields) (old : List ℕ) (d new : ℕ) → c.direction < length old → c.copy.path % 2 ≡ lane → length copies < 2 ^ 63
    → (get_or old c.direction d + 1 < 2 ^ 64 → new ≡ get_or old c.direction d + 1) → AreLaneCounts lane copies old → AreLaneCounts lane (copies ++ c ∷ []) (set old c.direction new)
put_lane lane copies c old d new below is few step all direction n h = by_case (slice_get_set old c.direction direction new n h)
  where
    before : get_or old c.direction d ≡ lane_count lane copies c.direction
    before = all c.direction (get_or old c.direction d) (slice_get-get_or old c.direction d below)

    own : new ≡ lane_count lane (copies ++ c ∷ []) c.direction
    own =
        let most = count_by-le-length (λ (x : CaughtFields). nat_eq x.direction c.direction && nat_eq (x.copy.path % 2) lane) copies in
        let room : get_or old c.direction d + 1 < 2 ^ 64 = omega (arith, before, most, few) in
        step room ∙ ap (λ k. k + 1) before
        ∙ sym (lane_push lane c.direction copies c ∙ ap (λ b. lane_count lane copies c.direction + cond b 1 0) (and_from _ _ (eq-eqb c.direction c.direction refl) (eq-eqb (c.copy.path % 2) lane is)))

    by_case : ((direction ≡ c.direction) × (n ≡ new)) ⊎ ((c.direction ≡ direction → ⊥) × (slice_get old direction ≡ Some n)) → n ≡ lane_count lane (copies ++ c ∷ []) direction
    by_case (inl same) = same.1 ∙ own ∙ ap (lane_count lane (copies ++ c ∷ [])) (sym same.0)
    by_case (inr other) = all direction n other.1 ∙ same_lane lane direction copies c (and_left (nat_eq c.direction direction) (nat_eq (c.copy.path % 2) lane) (ne_eqb c.direction direction other.0))

pub still_lanes : (lane : ℕ) (copies : List CaughtFields) (c : CaughtFields) (counts : List ℕ) → (length counts ≤ c.direction) ⊎ (c.copy.path % 2 ≡ lane → ⊥)
    → AreLaneCounts lane copies counts → AreLaneCounts lane (copies ++ c ∷ []) counts
still_lanes lane copies c counts (inl past) all direction n h =
    let below = slice_get_within counts direction n h in
    all direction n h
    ∙ same_lane lane direction copies c (and_left (nat_eq c.direction direction) (nat_eq (c.copy.path % 2) lane) (ne_eqb c.direction direction (λ e. omega (arith, e, below, past))))
still_lanes lane copies c counts (inr other) all direction n h =
    all direction n h ∙ same_lane lane direction copies c (and_right (nat_eq c.direction direction) (nat_eq (c.copy.path % 2) lane) (ne_eqb (c.copy.path % 2) lane other))

-- ---- the whole

few_tagged : (packets : List PacketFields) (i : ℕ) (looked : Bool) → length packets < 2 ^ 32 → tagged (tally_at packets i looked) < 2 ^ 60
few_tagged packets i true few =
    let a = count_by-le-length (λ p. has_lane 0 (copy_of p)) (came_at i packets) in
    let b = count_by-le-length (λ p. has_lane 1 (copy_of p)) (came_at i packets) in
    let came : length (came_at i packets) ≤ length packets
    = subst (λ n. n ≤ length packets) (sym (length-filter (λ p. nat_eq p.interface i) packets)) (count_by-le-length (λ p. nat_eq p.interface i) packets) in
    omega (arith, a, b, came, few)
few_tagged packets i false few = omega arith

pub have_room : (looked : List Bool) (packets : List PacketFields) (tallies : List Tally) → length packets < 2 ^ 32 → AreTallies looked packets tallies → HaveRoom tallies
have_room looked packets tallies few all i own here = subst (λ t. tagged t < 2 ^ 60) (sym (all i own here)) (few_tagged packets i (is_at looked i) few)

pub tallies_are : (looked : List Bool) (packets : List PacketFields) (tallies : List Tally) (all : List (Option Tally)) → length all ≡ length tallies → AreTallies looked packets tallies
    → AreTalliesBy looked tallies all → AreTalliesIf looked packets all
tallies_are looked packets tallies all long are by i own here =
    let below = slice_get_within all i own here in
    let there = slice_get-get_or tallies i (tally_of []) (omega (arith, below, long)) in
    by i own _ here there ∙ ap (tally_if (is_at looked i)) (are i _ there)

pub taps_are : (asked : TapsAsked) (looked : List Bool) (packets : List PacketFields) (tallies : List Tally) (taps : List Taps) → taps ≡ map (taps_by asked) tallies
    → AreTallies looked packets tallies → AreTaps asked looked packets taps
taps_are asked looked packets tallies taps is are i own here = by_tally (slice_get tallies i) refl (sym (slice_get-map (taps_by asked) tallies i) ∙ ap (λ l. slice_get l i) (sym is) ∙ here)
  where
    by_tally : (o : Option Tally) → slice_get tallies i ≡ o → option_map (taps_by asked) (slice_get tallies i) ≡ Some own → own ≡ taps_by asked (tally_at packets i (is_at looked i))
    by_tally None none same = let other : None ≡ Some own = sym (ap (option_map (taps_by asked)) none) ∙ same in absurd cc
    by_tally (Some tally) there same =
        let it : taps_by asked tally ≡ own = same_Some _ _ (sym (ap (option_map (taps_by asked)) there) ∙ same) in
        sym it ∙ ap (taps_by asked) (are i tally there)

counted : (lane : ℕ) (copies : List CaughtFields) (counts : List ℕ) (direction : ℕ) → AreLaneCounts lane copies counts → direction < length counts → slice_index counts direction ≡ lane_count lane copies direction
counted lane copies counts direction are below = are direction (slice_index counts direction) (slice_get-get_or counts direction 0 below)

pub ways_are : (copies : List CaughtFields) (lane_a lane_b ways : List ℕ) → length ways ≡ length lane_a → length lane_a ≡ length lane_b → AreLaneCounts 0 copies lane_a → AreLaneCounts 1 copies lane_b
    → AreWaysBy lane_a lane_b ways → AreWays copies ways
ways_are copies lane_a lane_b ways long alike a b by direction way here =
    let below = slice_get_within ways direction way here in
    by direction way here ∙ ap (λ n. way_by n (slice_index lane_b direction)) (counted 0 copies lane_a direction a (omega (arith, below, long)))
    ∙ ap (way_by (lane_count 0 copies direction)) (counted 1 copies lane_b direction b (omega (arith, below, long, alike)))

small_sum : (m n : ℕ) → m < 2 ^ 32 → n < 2 ^ 32 → min (m + n) (2 ^ 64 - 1) ≡ m + n
small_sum m n small few = omega (arith, small, few)

pub sums_are : (copies : List CaughtFields) (lane_a lane_b sums : List ℕ) → length sums ≡ length lane_a → length lane_a ≡ length lane_b → length copies < 2 ^ 32 → AreLaneCounts 0 copies lane_a
    → AreLaneCounts 1 copies lane_b → AreSumsBy lane_a lane_b sums → AreSums copies sums
sums_are copies lane_a lane_b sums long alike few a b by direction n here =
    let below = slice_get_within sums direction n here in
    let of_a = counted 0 copies lane_a direction a (omega (arith, below, long)) in
    let of_b = counted 1 copies lane_b direction b (omega (arith, below, long, alike)) in
    let most_a = count_by-le-length (λ (x : CaughtFields). nat_eq x.direction direction && nat_eq (x.copy.path % 2) 0) copies in
    let most_b = count_by-le-length (λ (x : CaughtFields). nat_eq x.direction direction && nat_eq (x.copy.path % 2) 1) copies in
    by direction n here ∙ ap (λ k. min (k + slice_index lane_b direction) (2 ^ 64 - 1)) of_a ∙ ap (λ k. min (lane_count 0 copies direction + k) (2 ^ 64 - 1)) of_b
    ∙ small_sum (lane_count 0 copies direction) (lane_count 1 copies direction) (omega (arith, most_a, few)) (omega (arith, most_b, few))

owner_below : (points : List (List ℕ)) (name : List ℕ) (looked : Bool) (owner : Option ℕ) → length points ≤ 64 → IsOwner points name looked owner → owner_by (Some owner) < 64
owner_below points name true None few is = absurd is
owner_below points name true (Some k) few is = let below = slice_get_within points k name is in omega (arith, below, few)
owner_below points name false None few is = omega arith
owner_below points name false (Some k) few is = absurd cc

pub places_below : (choice : ChoiceFields) (looked : List Bool) (interfaces : List InterfaceFields) (points : List (List ℕ)) (owners : List (Option ℕ)) (places : List ℕ) → length points ≤ 64
    → length owners ≡ length interfaces → AreOwners choice looked interfaces points owners → ArePointsOf owners places → (direction point : ℕ) → slice_get places direction ≡ Some point → point < 64
places_below choice looked interfaces points owners places few long are of direction point here =
    subst (λ n. n < 64) (sym (of direction point here)) (by_owner (slice_get owners (interface_of direction)) refl)
  where
    by_interface : (owner : Option ℕ) → slice_get owners (interface_of direction) ≡ Some owner → (o : Option InterfaceFields) → slice_get interfaces (interface_of direction) ≡ o → owner_by (Some owner) < 64
    by_interface owner there None none =
        let below = slice_get_within owners (interface_of direction) owner there in
        absurd (missing interfaces (interface_of direction) (omega (arith, below, long)) none)
    by_interface owner there (Some interface) own =
        owner_below points (owner_of choice (interface_of direction) interface) (is_at looked (interface_of direction)) owner few (are (interface_of direction) interface owner own there)

    by_owner : (o : Option (Option ℕ)) → slice_get owners (interface_of direction) ≡ o → owner_by o < 64
    by_owner None none = omega arith
    by_owner (Some owner) there = by_interface owner there (slice_get interfaces (interface_of direction)) refl

pub tally_put : (looked : List Bool) (tallies : List Tally) (i : ℕ) (own : Option Tally) (is_looked : Bool) (tally t : Tally) → slice_get tallies i ≡ Some t → is_looked ≡ get_or looked i false
    → tally ≡ get_or tallies i tally → own ≡ tally_if is_looked tally → own ≡ tally_if (is_at looked i) t
tally_put looked tallies i own is_looked tally t there looked_is tally_is is =
    is ∙ ap (λ b. tally_if b tally) (looked_is ∙ sym (unwrap_or-slice_get looked i false)) ∙ ap (tally_if (is_at looked i)) (tally_is ∙ get_or_from_slice_get tallies i t tally there)

-- there are no more of which it is known whether they are looked at than interfaces
pub few_looked : (choice : ChoiceFields) (interfaces : List InterfaceFields) (looked : List Bool) → AreLookedAt choice interfaces looked → length looked ≤ length interfaces
few_looked choice interfaces looked looks = by_case (cases_lt (length interfaces) (length looked))
  where
    by_case : (length interfaces < length looked) ⊎ (length looked ≤ length interfaces) → length looked ≤ length interfaces
    by_case (inl past) =
        let none : slice_get interfaces (length interfaces) ≡ None = slice_get_past interfaces (length interfaces) (omega arith) in
        let here : slice_get looked (length interfaces) ≡ None = looks.each (length interfaces) ∙ ap (option_map (is_looked_at choice (length interfaces))) none in
        absurd (missing looked (length interfaces) past here)
    by_case (inr le) = le

pub few_copies : (looked : List Bool) (taps : List Taps) (packets : List PacketFields) (copies read : List CaughtFields) → length packets < 2 ^ 32 → read ≡ copies → copies ≡ copies_in looked taps packets
    → length read < 2 ^ 63
few_copies looked taps packets copies read few same is =
    let found = few_found (λ q. caught_in q (taps_at looked taps q)) packets in
    let long : length read ≡ length (copies_in looked taps packets) = ap length (same ∙ is) in
    omega (arith, found, long, few)
