-- What is told of each direction, one copy, one copy that was overtaken and one sighting after the other.
use Rattle.std.proofs.Common.{◌≡◌, ℕ, zero, suc, ◌+◌, ◌<◌, ◌≤◌, ◌^◌, ◌&&◌, not, Bool, true, false, cond, List, [], ◌∷◌, ◌++◌, get_or, length, reverse, take, ◌⊎◌, inl, inr, refl, sym, ap, subst, ◌∙◌, arith, Option, Some, None}
use Rattle.std.specs.Prelude.{nat_eq, count_by, is_some, option_map, option_to_list, slice_get, slice_index, unwrap_or}
use Rattle.std.proofs.lemmas.Bool.{eq-eqb, ne_eqb}
use Rattle.std.proofs.lemmas.List.{length-reverse, take_all}
use Rattle.std.proofs.lemmas.List.Sums.{sum_by-append, sum_by-cons}
use Rattle.std.proofs.lemmas.Option.{same_Some, slice_get-get_or, slice_get_within}
use Rattle.hsr_frame_groups.specs.Frames.{CaughtFields, past_of}
use Rattle.hsr_sightings.specs.Copies.{carried_before, count_copies, is_again, is_late, is_overtaken, is_passed, times_before, top_before}
use Rattle.hsr_sightings.specs.Again.{AreMost}
use Rattle.hsr_sightings.specs.Read.{AreOvertaken, AreSightings, overtaken_at, overtaken_from}
use Rattle.hsr_sightings.specs.Ring.{Ring, is_in}
use Rattle.hsr_sightings.specs.Seen.{fate_of}
use Rattle.hsr_sightings.specs.Sightings.{Sighting as Seen, came_by, is_open, is_to_group}
use Rattle.hsr_sightings.specs.declared.overtaken.Overtaken.{Overtaken}
use Rattle.hsr_sightings.specs.Fields.{Sighting}
use Rattle.hsr_health.specs.Counted.{AreBesides, AreDirected, AreDirections, AreJoined, ArePassed, HaveNoOvertaken, IsBeside, IsJoined, beside_at, beside_with, changed, directed, direction_with, goes_to_group, is_fate, is_judged, is_judged_at, is_kept_at, is_there_in, kept_by, mark_of, more_if, no_beside, no_direction, one_more, other_way, overtaken_in, overtaken_more, overtaken_put, with_beside}
use Rattle.hsr_health.specs.Marks.{Marked}
use Rattle.hsr_health.specs.declared.directions.Beside.{Beside}
use Rattle.hsr_health.specs.declared.directions.DirectionNumbers.{DirectionNumbers}
use Rattle.hsr_health.proofs.Fating.{count_push, count_short, one_step, open_same}
use Rattle.hsr_health.proofs.Pasts.{past_more}
use Rattle.hsr_health.proofs.Sighted.{IsSeenAs, count_all, is_first}
use Rattle.hsr_health.proofs.Sourcing.{changed_at, count_small}
use Rattle.hsr_sightings.proofs.Gathering.{slice_get_push}
use Rattle.hsr_sightings.proofs.Times.{at_least_same}

-- ---- copies

pub directed_step : (is_by_lane : ℕ → Bool) (ring : Ring) (copies : List CaughtFields) (i carried : ℕ) (marks : Marked) (c : CaughtFields) (old new : List DirectionNumbers) → slice_get copies i ≡ Some c
    → carried ≡ times_before (past_of copies i) c → marks ≡ mark_of is_by_lane ring (past_of copies i) c → new ≡ changed (direction_with carried marks.is_late) c.direction old
    → AreDirected ring copies i old → AreDirected ring copies (i + 1) new
directed_step is_by_lane ring copies i carried marks c old new here carried_is marks_are is are d own own_d =
    by_place (changed_at (direction_with carried marks.is_late) old c.direction d own (ap (λ l. slice_get l d) (sym is) ∙ own_d)) ∙ ap (directed ring d) (sym (past_more copies i c here))
  where
    past : List CaughtFields
    past = past_of copies i

    with_one : DirectionNumbers
    with_one = direction_with (times_before past c) (is_late ring past c) (directed ring d past)

    by_place : ((d ≡ c.direction) × ((x : DirectionNumbers) × (slice_get old d ≡ Some x) × (own ≡ direction_with carried marks.is_late x))) ⊎ ((c.direction ≡ d → ⊥) × (slice_get old d ≡ Some own))
        → own ≡ cond (is_in d c) with_one (directed ring d past)
    by_place (inl mine) =
        mine.1.2 ∙ ap (direction_with carried marks.is_late) (are d mine.1.0 mine.1.1) ∙ ap (λ n. direction_with n marks.is_late (directed ring d past)) carried_is
        ∙ ap (λ (m : Marked). direction_with (times_before past c) m.is_late (directed ring d past)) marks_are ∙ sym (ap (λ b. cond b with_one (directed ring d past)) (eq-eqb c.direction d (sym mine.0)))
    by_place (inr other) = are d own other.1 ∙ sym (ap (λ b. cond b with_one (directed ring d past)) (ne_eqb c.direction d other.0))

pub none_directed : (ring : Ring) (copies : List CaughtFields) (all : List DirectionNumbers) → ((d : ℕ) (own : DirectionNumbers) → slice_get all d ≡ Some own → own ≡ no_direction) → AreDirected ring copies 0 all
none_directed ring copies all none d own own_d = none d own own_d

directed_count : (ring : Ring) (d : ℕ) (field : DirectionNumbers → ℕ) (is_such : List CaughtFields → CaughtFields → Bool)
    → ((n : DirectionNumbers) (past : List CaughtFields) (c : CaughtFields) → field (direction_with (times_before past c) (is_late ring past c) n) ≡ more_if (field n) (is_such past c))
    → field no_direction ≡ 0 → (past : List CaughtFields) → length past < 2 ^ 63 → field (directed ring d past) ≡ count_copies (λ p x. is_in d x && is_such p x) past
directed_count ring d field is_such with_is none [] few = none
directed_count ring d field is_such with_is none (c ∷ past) few = by_in (is_in d c) (directed_count ring d field is_such with_is none past (omega (arith, few)))
  where
    before : DirectionNumbers
    before = directed ring d past

    count : ℕ
    count = count_copies (λ p x. is_in d x && is_such p x) past

    small : count ≤ length past
    small = count_small (λ p x. is_in d x && is_such p x) past

    by_such : (b : Bool) → field before ≡ count → more_if (field before) b ≡ cond b (count + 1) count
    by_such true rest = omega (arith, rest, small, few)
    by_such false rest = rest

    by_in : (b : Bool) → field before ≡ count → field (cond b (direction_with (times_before past c) (is_late ring past c) before) before) ≡ cond (b && is_such past c) (count + 1) count
    by_in true rest = with_is before past c ∙ by_such (is_such past c) rest
    by_in false rest = rest

directed_none : (ring : Ring) (d : ℕ) (past : List CaughtFields) → (directed ring d past).overtaken ≡ 0
directed_none ring d [] = refl
directed_none ring d (c ∷ past) = by_in (is_in d c) (directed_none ring d past)
  where
    by_in : (b : Bool) → (directed ring d past).overtaken ≡ 0 → (cond b (direction_with (times_before past c) (is_late ring past c) (directed ring d past)) (directed ring d past)).overtaken ≡ 0
    by_in true rest = rest
    by_in false rest = rest

pub no_overtaken : (ring : Ring) (copies : List CaughtFields) (i : ℕ) (all : List DirectionNumbers) → AreDirected ring copies i all → HaveNoOvertaken all
no_overtaken ring copies i all are d own own_d = ap (λ (x : DirectionNumbers). x.overtaken) (are d own own_d) ∙ directed_none ring d (past_of copies i)

-- ---- copies that were overtaken

pub none_passed : (copies : List CaughtFields) (all : List DirectionNumbers) → HaveNoOvertaken all → ArePassed copies [] all all
none_passed copies all none d before own before_d own_d =
    subst (λ (x : DirectionNumbers). own ≡ record x { overtaken = 0 }) (same_Some own before (sym own_d ∙ before_d)) (ap (λ n. record own { overtaken = n }) (none d own own_d))

pub passed_step : (copies : List CaughtFields) (overtaken : List Overtaken) (i : ℕ) (o : Overtaken) (base old new : List DirectionNumbers) → slice_get overtaken i ≡ Some o → i < 2 ^ 63
    → new ≡ overtaken_put (slice_get copies o.copy) old → ArePassed copies (take i overtaken) base old → ArePassed copies (take (i + 1) overtaken) base new
passed_step copies overtaken i o base old new here few is are d before own before_d own_d = by_copy (slice_get copies o.copy) refl
  where
    test : Overtaken → Bool
    test x = is_there_in d (slice_get copies x.copy)

    many : ℕ
    many = overtaken_in copies d (take i overtaken)

    grown : overtaken_in copies d (take (i + 1) overtaken) ≡ many + cond (test o) 1 0
    grown = count_push test overtaken i o here

    kept : (n : ℕ) → many ≡ n → record before { overtaken = many } ≡ record before { overtaken = n }
    kept n same = ap (λ m. record before { overtaken = m }) same

    still : test o ≡ false → slice_get old d ≡ Some own → own ≡ record before { overtaken = overtaken_in copies d (take (i + 1) overtaken) }
    still none old_d =
        let same : many ≡ overtaken_in copies d (take (i + 1) overtaken) = sym (grown ∙ ap (λ b. many + cond b 1 0) none ∙ omega arith) in
        are d before own before_d old_d ∙ kept (overtaken_in copies d (take (i + 1) overtaken)) same

    by_place : (c : CaughtFields) → slice_get copies o.copy ≡ Some c
        → ((d ≡ c.direction) × ((x : DirectionNumbers) × (slice_get old d ≡ Some x) × (own ≡ overtaken_more x))) ⊎ ((c.direction ≡ d → ⊥) × (slice_get old d ≡ Some own))
        → own ≡ record before { overtaken = overtaken_in copies d (take (i + 1) overtaken) }
    by_place c there (inl mine) =
        let own_test : test o ≡ true = ap (is_there_in d) there ∙ eq-eqb c.direction d (sym mine.0) in
        let more : one_more many ≡ many + cond true 1 0 = one_step many many i true refl (count_short test overtaken i) few in
        mine.1.2 ∙ ap overtaken_more (are d before mine.1.0 before_d mine.1.1)
        ∙ ap (λ m. record before { overtaken = m }) (more ∙ ap (λ b. many + cond b 1 0) (sym own_test) ∙ sym grown)
    by_place c there (inr other) = still (ap (is_there_in d) there ∙ ne_eqb c.direction d other.0) other.1

    by_copy : (found : Option CaughtFields) → slice_get copies o.copy ≡ found → own ≡ record before { overtaken = overtaken_in copies d (take (i + 1) overtaken) }
    by_copy None none = still (ap (is_there_in d) none) (ap (λ l. slice_get l d) (sym (is ∙ ap (λ f. overtaken_put f old) none)) ∙ own_d)
    by_copy (Some c) there =
        by_place c there (changed_at overtaken_more old c.direction d own (ap (λ l. slice_get l d) (sym (is ∙ ap (λ f. overtaken_put f old) there)) ∙ own_d))

-- one copy is counted where it was overtaken
one_counted : (copies : List CaughtFields) (d i : ℕ) (past : List CaughtFields) (c : CaughtFields) → slice_get copies i ≡ Some c
    → overtaken_in copies d (option_to_list (overtaken_at i past c)) ≡ cond (is_in d c && is_overtaken past c) 1 0
one_counted copies d i past c here = by_again (is_again past c) (top_before past c)
  where
    at_copy : is_there_in d (slice_get copies i) ≡ is_in d c
    at_copy = ap (is_there_in d) here

    of_one : Overtaken → ℕ
    of_one o = cond (is_there_in d (slice_get copies o.copy)) 1 0

    none : (b : Bool) → ◌≡◌ {A = ℕ} 0 (cond (b && false) 1 0)
    none true = refl
    none false = refl

    one : (b : Bool) → is_there_in d (slice_get copies i) ≡ b → (top : CaughtFields) → overtaken_in copies d ((record { copy = i; behind = top.copy.seq }) ∷ []) ≡ cond (b && true) 1 0
    one true same top = sum_by-cons of_one (record { copy = i; behind = top.copy.seq }) [] ∙ ap (λ b. cond b 1 0 + 0) same
    one false same top = sum_by-cons of_one (record { copy = i; behind = top.copy.seq }) [] ∙ ap (λ b. cond b 1 0 + 0) same

    by_passed : (top : CaughtFields) (passed : Bool) → overtaken_in copies d (option_to_list (cond passed (Some (record { copy = i; behind = top.copy.seq })) None)) ≡ cond (is_in d c && passed) 1 0
    by_passed top true = one (is_in d c) at_copy top
    by_passed top false = none (is_in d c)

    by_again : (again : Bool) (top : Option CaughtFields)
        → overtaken_in copies d (option_to_list (cond (not again && is_passed top c) (option_map (λ (t : CaughtFields). record { copy = i; behind = t.copy.seq }) top) None))
        ≡ cond (is_in d c && (not again && is_passed top c)) 1 0
    by_again true top = none (is_in d c)
    by_again false None = none (is_in d c)
    by_again false (Some top) = by_passed top (is_passed (Some top) c)

overtaken_count : (copies : List CaughtFields) (d i : ℕ) (rest : List CaughtFields) → ((k : ℕ) (c : CaughtFields) → slice_get rest k ≡ Some c → slice_get copies (i + k) ≡ Some c)
    → i + length rest ≡ length copies
    → overtaken_in copies d (overtaken_from copies i rest) + count_copies (λ past c. is_in d c && is_overtaken past c) (past_of copies i) ≡ count_copies (λ past c. is_in d c && is_overtaken past c) (reverse copies)
overtaken_count copies d i [] there long =
    let same : count_copies (λ past c. is_in d c && is_overtaken past c) (past_of copies i) ≡ count_copies (λ past c. is_in d c && is_overtaken past c) (reverse copies)
    = ap (count_copies (λ past c. is_in d c && is_overtaken past c)) (ap reverse (take_all i copies (omega (arith, long)))) in
    omega (arith, same)
overtaken_count copies d i (c ∷ rest) there long =
    omega (arith, parts, own, grown, overtaken_count copies d (i + 1) rest later (omega (arith, long)))
  where
    such : List CaughtFields → CaughtFields → Bool
    such past x = is_in d x && is_overtaken past x

    first : i + 0 ≡ i
    first = omega arith

    here : slice_get copies i ≡ Some c
    here = ap (slice_get copies) (sym first) ∙ there 0 c refl

    later : (k : ℕ) (x : CaughtFields) → slice_get rest k ≡ Some x → slice_get copies (i + 1 + k) ≡ Some x
    later k x at_k = let same : i + 1 + k ≡ i + suc k = omega arith in ap (slice_get copies) same ∙ there (suc k) x at_k

    parts : overtaken_in copies d (overtaken_from copies i (c ∷ rest))
        ≡ overtaken_in copies d (option_to_list (overtaken_at i (past_of copies i) c)) + overtaken_in copies d (overtaken_from copies (i + 1) rest)
    parts = sum_by-append (λ (o : Overtaken). cond (is_there_in d (slice_get copies o.copy)) 1 0) (option_to_list (overtaken_at i (past_of copies i) c)) (overtaken_from copies (i + 1) rest)

    own : overtaken_in copies d (option_to_list (overtaken_at i (past_of copies i) c)) ≡ cond (such (past_of copies i) c) 1 0
    own = one_counted copies d i (past_of copies i) c here

    by_such : (b : Bool) (n : ℕ) → cond b (n + 1) n ≡ cond b 1 0 + n
    by_such true n = omega arith
    by_such false n = omega arith

    grown : count_copies such (past_of copies (i + 1)) ≡ cond (such (past_of copies i) c) 1 0 + count_copies such (past_of copies i)
    grown = ap (count_copies such) (past_more copies i c here) ∙ by_such (such (past_of copies i) c) (count_copies such (past_of copies i))

all_overtaken : (copies : List CaughtFields) (overtaken : List Overtaken) (d : ℕ) → AreOvertaken copies overtaken
    → overtaken_in copies d overtaken ≡ count_copies (λ past c. is_in d c && is_overtaken past c) (reverse copies)
all_overtaken copies overtaken d are =
    ap (overtaken_in copies d) are
    ∙ (let whole = overtaken_count copies d 0 copies (λ k c here. let same : 0 + k ≡ k = omega arith in ap (slice_get copies) same ∙ here) (omega arith) in
    let none : count_copies (λ past c. is_in d c && is_overtaken past c) (past_of copies 0) ≡ 0 = refl in
    omega (arith, whole, none))

-- ---- what the other way had

counted_step : (test : Sighting → Bool) (all : List Sighting) (i : ℕ) (s : Sighting) (old : ℕ) (b : Bool) → slice_get all i ≡ Some s → i < 2 ^ 63 → test s ≡ b → old ≡ count_by test (take i all)
    → more_if old b ≡ count_by test (take (i + 1) all)
counted_step test all i s old b here few test_is is =
    one_step old (count_by test (take i all)) i b is (count_short test all i) few ∙ ap (λ x. count_by test (take i all) + cond x 1 0) (sym test_is) ∙ sym (count_push test all i s here)

besides_step : (ring : Ring) (copies : List CaughtFields) (way : ℕ) (all : List Sighting) (i : ℕ) (s : Sighting) (old new : List Beside) → slice_get all i ≡ Some s → i < 2 ^ 63
    → new ≡ changed (beside_with (is_judged ring copies (other_way way) s) (kept_by way s)) s.point old → AreBesides ring copies way (take i all) old → AreBesides ring copies way (take (i + 1) all) new
besides_step ring copies way all i s old new here few is are point own own_at =
    by_place (changed_at (beside_with had came_too) old s.point point own (ap (λ l. slice_get l point) (sym is) ∙ own_at))
  where
    had : Bool
    had = is_judged ring copies (other_way way) s

    came_too : Bool
    came_too = kept_by way s

    judged : Sighting → Bool
    judged = is_kept_at ring copies point (other_way way)

    alone : Sighting → Bool
    alone x = is_kept_at ring copies point (other_way way) x && not (kept_by way x)

    by_place : ((point ≡ s.point) × ((x : Beside) × (slice_get old point ≡ Some x) × (own ≡ beside_with had came_too x))) ⊎ ((s.point ≡ point → ⊥) × (slice_get old point ≡ Some own))
        → IsBeside ring copies way (take (i + 1) all) point own
    by_place (inl mine) =
        let same : nat_eq s.point point ≡ true = eq-eqb s.point point (sym mine.0) in
        let before : IsBeside ring copies way (take i all) point mine.1.0 = are point mine.1.0 mine.1.1 in
        subst (IsBeside ring copies way (take (i + 1) all) point) (sym mine.1.2) (record {
          others = counted_step judged all i s mine.1.0.others had here few (ap (λ b. b && had) same) before.others;
          alone = counted_step alone all i s mine.1.0.alone (had && not came_too) here few (ap (λ b. (b && had) && not came_too) same) before.alone;
        })
    by_place (inr other) =
        let apart : nat_eq s.point point ≡ false = ne_eqb s.point point other.0 in
        let before : IsBeside ring copies way (take i all) point own = are point own other.1 in
        record {
          others = counted_step judged all i s own.others false here few (ap (λ b. b && had) apart) before.others;
          alone = counted_step alone all i s own.alone false here few (ap (λ b. (b && had) && not came_too) apart) before.alone;
        }

pub besides_more : (ring : Ring) (copies : List CaughtFields) (way other : ℕ) (all : List Sighting) (i : ℕ) (s : Sighting) (old new : List Beside) (had came_too : Bool) → slice_get all i ≡ Some s → i < 2 ^ 63
    → other ≡ other_way way → had ≡ is_judged ring copies other s → came_too ≡ kept_by way s → new ≡ changed (beside_with had came_too) s.point old → AreBesides ring copies way (take i all) old
    → AreBesides ring copies way (take (i + 1) all) new
besides_more ring copies way other all i s old new had came_too here few other_is had_is came_is is are =
    besides_step ring copies way all i s old new here few
    (is ∙ ap (λ b. changed (beside_with b came_too) s.point old) (had_is ∙ ap (λ w. is_judged ring copies w s) other_is)
    ∙ ap (λ b. changed (beside_with (is_judged ring copies (other_way way) s) b) s.point old) came_is) are

pub none_beside : (ring : Ring) (copies : List CaughtFields) (way : ℕ) (all : List Beside) → ((point : ℕ) (own : Beside) → slice_get all point ≡ Some own → own ≡ no_beside) → AreBesides ring copies way [] all
none_beside ring copies way all none point own own_at = subst (IsBeside ring copies way [] point) (sym (none point own own_at)) (record { others = refl; alone = refl })

-- what is kept came one way as its copies did
came_kept : (ring : Ring) (copies : List CaughtFields) (s : Sighting) (t : Seen) (way : ℕ) → way < 2 → IsSeenAs ring copies s t → kept_by way s ≡ came_by ring way t.copies
came_kept ring copies s t zero low is = ap is_some is.by_0 ∙ is_first ring 0 t.copies
came_kept ring copies s t (suc zero) low is = ap is_some is.by_1 ∙ is_first ring 1 t.copies
came_kept ring copies s t (suc (suc way)) low is = absurd (omega (arith, low))

kept_same : (ring : Ring) (copies : List CaughtFields) (s : Sighting) (t : Seen) (point way : ℕ) → way < 2 → IsSeenAs ring copies s t
    → is_kept_at ring copies point way s ≡ is_judged_at ring point way t
kept_same ring copies s t point way low is =
    ap (λ n. nat_eq n point && ((goes_to_group (slice_get copies s.first) && not (is_fate 3 (fate_of ring s))) && kept_by way s)) is.point
    ∙ ap (λ o. nat_eq t.point point && ((goes_to_group o && not (is_fate 3 (fate_of ring s))) && kept_by way s)) is.first
    ∙ ap (λ b. nat_eq t.point point && ((is_to_group t && not b) && kept_by way s)) (open_same ring copies s t is)
    ∙ ap (λ b. nat_eq t.point point && ((is_to_group t && not (is_open ring t.copies)) && b)) (came_kept ring copies s t way low is)
    ∙ by_bool (nat_eq t.point point) (is_to_group t) (not (is_open ring t.copies)) (came_by ring way t.copies)
  where
    by_bool : (p g o b : Bool) → (p && ((g && o) && b)) ≡ (((p && g) && o) && b)
    by_bool true g o b = refl
    by_bool false g o b = refl

-- ---- the whole

pub joined_more : (ring : Ring) (way_0 way_1 : List Beside) (most : List ℕ) (all new newer : List DirectionNumbers) (d : ℕ) (own before : DirectionNumbers) (beside : Beside) → length new ≡ d → newer ≡ new ++ own ∷ []
    → slice_get all d ≡ Some before → beside ≡ beside_at ring way_0 way_1 d → own ≡ with_beside beside (slice_index most d) before → AreJoined ring way_0 way_1 most all new
    → AreJoined ring way_0 way_1 most all newer
joined_more ring way_0 way_1 most all new newer d own before beside long is there beside_is own_is are j x at_j = by_place (slice_get_push new own x j (ap (λ l. slice_get l j) (sym is) ∙ at_j))
  where
    by_place : (slice_get new j ≡ Some x) ⊎ ((j ≡ length new) × (x ≡ own)) → IsJoined ring way_0 way_1 most all j x
    by_place (inl old) = are j x old
    by_place (inr here) = record {
      before = before;
      there = ap (slice_get all) (here.0 ∙ long) ∙ there;
      is = here.1 ∙ own_is ∙ ap (λ b. with_beside b (slice_index most d) before) beside_is
          ∙ ap (λ k. with_beside (beside_at ring way_0 way_1 k) (slice_index most k) before) (sym (here.0 ∙ long));
    }

other_low : (way : ℕ) → other_way way < 2
other_low way = by_test (nat_eq way 0)
  where
    by_test : (b : Bool) → cond b 1 0 < 2
    by_test true = omega arith
    by_test false = omega arith

-- what the other way of a direction's point had
beside_of : (ring : Ring) (copies : List CaughtFields) (all : List Sighting) (way_0 way_1 : List Beside) (points d : ℕ) → length way_0 ≡ points → length way_1 ≡ points
    → AreBesides ring copies 0 all way_0 → AreBesides ring copies 1 all way_1 → slice_index ring.points d < points → slice_index ring.ways d < 2
    → IsBeside ring copies (slice_index ring.ways d) all (slice_index ring.points d) (beside_at ring way_0 way_1 d)
beside_of ring copies all way_0 way_1 points d long_0 long_1 are_0 are_1 inside low = by_way (slice_index ring.ways d) low
  where
    point : ℕ
    point = slice_index ring.points d

    own : (way : ℕ) (besides : List Beside) → length besides ≡ points → AreBesides ring copies way all besides → IsBeside ring copies way all point (unwrap_or (slice_get besides point) no_beside)
    own way besides long are =
        let here = slice_get-get_or besides point no_beside (omega (arith, inside, long)) in
        subst (λ o. IsBeside ring copies way all point (unwrap_or o no_beside)) (sym here) (are point (get_or besides point no_beside) here)

    by_way : (way : ℕ) → way < 2
        → IsBeside ring copies way all point (cond (nat_eq way 0) (unwrap_or (slice_get way_0 point) no_beside) (unwrap_or (slice_get way_1 point) no_beside))
    by_way zero le = own 0 way_0 long_0 are_0
    by_way (suc zero) le = own 1 way_1 long_1 are_1
    by_way (suc (suc way)) le = absurd (omega (arith, le))

pub all_of_directions : (ring : Ring) (copies : List CaughtFields) (all : List Sighting) (numbers : List ℕ) (overtaken : List Overtaken) (points : ℕ) (base passed told : List DirectionNumbers)
    (way_0 way_1 : List Beside) (most : List ℕ) → length copies < 2 ^ 63 → AreSightings ring copies all numbers → AreOvertaken copies overtaken → AreDirected ring copies (length copies) base
    → length passed ≡ length base → ArePassed copies overtaken base passed → length way_0 ≡ points → length way_1 ≡ points → AreBesides ring copies 0 all way_0 → AreBesides ring copies 1 all way_1
    → length base ≤ length most → AreMost (reverse copies) most → AreJoined ring way_0 way_1 most passed told → AreDirections ring points (reverse copies) told
all_of_directions ring copies all numbers overtaken points base passed told way_0 way_1 most few sightings_are overtaken_are directed_are long passed_are long_0 long_1 are_0 are_1 room most_are joined d own own_d inside low =
    record {
      again = kept (λ x. x.again) (λ x b m. refl) (λ x n. refl)
          ∙ directed_count ring d (λ x. x.again) is_again (λ n p c. ap (more_if n.again) (at_least_same 1 (carried_before p c) (omega arith))) refl (reverse copies) short;
      most = ap (λ (x : DirectionNumbers). x.most) its.is ∙ most_are d (slice_index most d) (slice_get-get_or most d 0 (omega (arith, inside_all, room)));
      overtaken = ap (λ (x : DirectionNumbers). x.overtaken) its.is ∙ ap (λ (x : DirectionNumbers). x.overtaken) its_passed ∙ all_overtaken copies overtaken d overtaken_are;
      late = kept (λ x. x.late) (λ x b m. refl) (λ x n. refl) ∙ directed_count ring d (λ x. x.late) (is_late ring) (λ n p c. refl) refl (reverse copies) short;
      others = ap (λ (x : DirectionNumbers). x.others) its.is ∙ beside.others
          ∙ count_all ring copies all numbers (is_kept_at ring copies point (other_way way)) (is_judged_at ring point (other_way way)) sightings_are
          (λ s t is. kept_same ring copies s t point (other_way way) (other_low way) is);
      alone = ap (λ (x : DirectionNumbers). x.alone) its.is ∙ beside.alone
          ∙ count_all ring copies all numbers (λ s. is_kept_at ring copies point (other_way way) s && not (kept_by way s))
          (λ t. is_judged_at ring point (other_way way) t && not (came_by ring way t.copies)) sightings_are
          (λ s t is. ap (λ b. b && not (kept_by way s)) (kept_same ring copies s t point (other_way way) (other_low way) is)
          ∙ ap (λ b. is_judged_at ring point (other_way way) t && not b) (came_kept ring copies s t way low is));
    }
  where
    point : ℕ
    point = slice_index ring.points d

    way : ℕ
    way = slice_index ring.ways d

    short : length (reverse copies) < 2 ^ 63
    short = omega (arith, few, length-reverse copies)

    its : IsJoined ring way_0 way_1 most passed d own
    its = joined d own own_d

    beside : IsBeside ring copies way all point (beside_at ring way_0 way_1 d)
    beside = beside_of ring copies all way_0 way_1 points d long_0 long_1 are_0 are_1 inside low

    inside_all : d < length base
    inside_all = let below = slice_get_within passed d its.before its.there in omega (arith, below, long)

    first : DirectionNumbers
    first = get_or base d own

    at_d : slice_get base d ≡ Some first
    at_d = slice_get-get_or base d own inside_all

    its_passed : its.before ≡ record first { overtaken = overtaken_in copies d overtaken }
    its_passed = passed_are d first its.before at_d its.there

    whole : past_of copies (length copies) ≡ reverse copies
    whole = ap reverse (take_all (length copies) copies (omega arith))

    first_is : first ≡ directed ring d (reverse copies)
    first_is = directed_are d first at_d ∙ ap (directed ring d) whole

    -- what neither the other way nor the most copies of a frame nor copies that were overtaken change
    kept : (f : DirectionNumbers → ℕ) → ((x : DirectionNumbers) (b : Beside) (m : ℕ) → f (with_beside b m x) ≡ f x) → ((x : DirectionNumbers) (n : ℕ) → f (record x { overtaken = n }) ≡ f x)
        → f own ≡ f (directed ring d (reverse copies))
    kept f by_beside by_passed = ap f its.is ∙ by_beside its.before (beside_at ring way_0 way_1 d) (slice_index most d) ∙ ap f its_passed ∙ by_passed first (overtaken_in copies d overtaken) ∙ ap f first_is
