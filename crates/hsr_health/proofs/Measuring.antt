-- The greatest of numbers, and counts that differ by supervision frames alone.
use Rattle.std.proofs.Common.{◌≡◌, ℕ, ◌+◌, ◌<◌, ◌≤◌, max, Bool, true, false, cond, zero, suc, List, [], ◌∷◌, ◌++◌, get_or, length, map, take, ◌⊎◌, inl, inr, refl, sym, ap, subst, ◌∙◌, arith, Option, Some, None}
use Rattle.std.specs.List.{cons_option, range_with_len}
use Rattle.std.specs.Prelude.{filter_map, option_to_list, slice_get}
use Rattle.std.proofs.lemmas.List.{get_or-map, length-map, map_more, take_more}
use Rattle.std.proofs.lemmas.List.FromFn.{fill_by_all, length-map-range_with_len}
use Rattle.std.proofs.lemmas.List.Recursion.{max_push}
use Rattle.std.proofs.lemmas.Option.{get_or_from_slice_get, same_Some, slice_get-get_or}
use Rattle.std.proofs.lemmas.Bool.{cases_lt}
use Rattle.hsr_frame_groups.specs.Frames.{CaughtFields, past_of}
use Rattle.hsr_health.specs.Counted.{AreOfSources, OfSource, changed}
use Rattle.hsr_heard.specs.Hearing.{those_from}
use Rattle.hsr_sightings.specs.Copies.{crowd}
use Rattle.hsr_sightings.specs.Read.{AreCrowds, most_at}
use Rattle.hsr_sightings.specs.Ring.{Ring}
use Rattle.hsr_health.specs.Told.{is_greater}
use Rattle.hsr_health.specs.Whole.{AreAlike, greatest, is_alike, one_life, one_unreadable}
use Rattle.hsr_health.specs.declared.counts.Counts.{Counts}
use Rattle.hsr_health.proofs.Gapping.{before_true, before_yes}
use Rattle.hsr_health.proofs.Sourcing.{changed_at}
use Rattle.hsr_sightings.specs.declared.late.Crowd.{Crowd}

greatest_push : (numbers : List ℕ) (n : ℕ) → greatest (numbers ++ n ∷ []) ≡ max (greatest numbers) n
greatest_push numbers n = max_push greatest (λ (m : ℕ). m) refl (λ x xs. refl) numbers n

pub greatest_more : (numbers : List ℕ) (i d : ℕ) → i < length numbers → greatest (take (i + 1) numbers) ≡ max (greatest (take i numbers)) (get_or numbers i d)
greatest_more numbers i d below = ap greatest (take_more numbers i d below) ∙ greatest_push (take i numbers) (get_or numbers i d)

pub crowd_more : (crowds : List Crowd) (i most new : ℕ) (d : Crowd) → i < length crowds → most ≡ greatest (map (λ (crowd : Crowd). crowd.frames) (take i crowds))
    → new ≡ max most (get_or crowds i d).frames → new ≡ greatest (map (λ (crowd : Crowd). crowd.frames) (take (i + 1) crowds))
crowd_more crowds i most new d below most_is new_is =
    new_is ∙ ap (λ m. max m (get_or crowds i d).frames) most_is
    ∙ sym (ap greatest (map_more (λ (crowd : Crowd). crowd.frames) crowds i d below) ∙ greatest_push (map (λ (crowd : Crowd). crowd.frames) (take i crowds)) (get_or crowds i d).frames)

-- ---- the greatest crowd

not_itself : (a : Crowd) → is_greater a a ≡ false
not_itself a = by_case (is_greater a a) refl
  where
    never : (a.frames < a.frames) ⊎ ((a.frames ≡ a.frames) × (a.first < a.first)) → is_greater a a ≡ false
    never (inl less) = absurd (omega (arith, less))
    never (inr both) = absurd (omega (arith, both.1))

    by_case : (b : Bool) → is_greater a a ≡ b → is_greater a a ≡ false
    by_case false is = is
    by_case true is = never (before_true a.frames a.first a.frames a.first is)

-- what isn't greater than one isn't greater than what is greater than that
not_greater : (x a most : Crowd) → is_greater a most ≡ true → is_greater x most ≡ false → is_greater x a ≡ false
not_greater x a most greater still = by_case (is_greater x a) refl
  where
    join : (a.frames < x.frames) ⊎ ((a.frames ≡ x.frames) × (x.first < a.first)) → (most.frames < a.frames) ⊎ ((most.frames ≡ a.frames) × (a.first < most.first))
        → (most.frames < x.frames) ⊎ ((most.frames ≡ x.frames) × (x.first < most.first))
    join (inl p) (inl q) = inl (omega (arith, p, q))
    join (inl p) (inr q) = inl (omega (arith, p, q.0))
    join (inr p) (inl q) = inl (omega (arith, p.0, q))
    join (inr p) (inr q) = inr (omega (arith, p.0, q.0), omega (arith, p.1, q.1))

    by_case : (b : Bool) → is_greater x a ≡ b → is_greater x a ≡ false
    by_case false is = is
    by_case true is =
        let yes : is_greater x most ≡ true
        = before_yes most.frames x.first x.frames most.first (join (before_true a.frames x.first x.frames a.first is) (before_true most.frames a.first a.frames most.first greater)) in
        absurd cc

pub greatest_there : (crowds : List Crowd) (i : ℕ) (most new d : Crowd) → i < length crowds → new ≡ cond (is_greater (get_or crowds i d) most) (get_or crowds i d) most
    → (0 < most.frames → (k : ℕ) × (slice_get crowds k ≡ Some most)) → 0 < new.frames → (k : ℕ) × (slice_get crowds k ≡ Some new)
greatest_there crowds i most new d below new_is there some = by_case (is_greater (get_or crowds i d) most) refl
  where
    by_case : (b : Bool) → is_greater (get_or crowds i d) most ≡ b → (k : ℕ) × (slice_get crowds k ≡ Some new)
    by_case true is = (i, slice_get-get_or crowds i d below ∙ ap Some (sym (new_is ∙ ap (λ b. cond b (get_or crowds i d) most) is)))
    by_case false is =
        let same : new ≡ most = new_is ∙ ap (λ b. cond b (get_or crowds i d) most) is in
        let before = there (omega (arith, some, ap (λ (x : Crowd). x.frames) same)) in
        (before.0, before.1 ∙ ap Some (sym same))

pub greatest_most : (crowds : List Crowd) (i : ℕ) (most new d : Crowd) → i < length crowds → new ≡ cond (is_greater (get_or crowds i d) most) (get_or crowds i d) most
    → ((k : ℕ) (crowd : Crowd) → k < i → slice_get crowds k ≡ Some crowd → is_greater crowd most ≡ false)
    → (k : ℕ) (crowd : Crowd) → k < i + 1 → slice_get crowds k ≡ Some crowd → is_greater crowd new ≡ false
greatest_most crowds i most new d below new_is least k crowd inside at_k = by_case (is_greater own most) refl (cases_lt k i)
  where
    own : Crowd
    own = get_or crowds i d

    last : i ≤ k → crowd ≡ own
    last past = let place : k ≡ i = omega (arith, past, inside) in same_Some crowd own (sym at_k ∙ ap (slice_get crowds) place ∙ slice_get-get_or crowds i d below)

    new_by : (b : Bool) → is_greater own most ≡ b → new ≡ cond b own most
    new_by b is = new_is ∙ ap (λ x. cond x own most) is

    by_case : (b : Bool) → is_greater own most ≡ b → (k < i) ⊎ (i ≤ k) → is_greater crowd new ≡ false
    by_case true is (inl before) = ap (is_greater crowd) (new_by true is) ∙ not_greater crowd own most is (least k crowd before at_k)
    by_case true is (inr past) = ap (is_greater crowd) (new_by true is) ∙ ap (λ x. is_greater x own) (last past) ∙ not_itself own
    by_case false is (inl before) = ap (is_greater crowd) (new_by false is) ∙ least k crowd before at_k
    by_case false is (inr past) = ap (is_greater crowd) (new_by false is) ∙ ap (λ x. is_greater x most) (last past) ∙ is

-- ---- counts

pub alike_same : (counts : List Counts) → AreAlike counts counts
alike_same counts k own here = (own, here, refl)

alike_changed : (f : Counts → Counts) → ((own : Counts) → is_alike own (f own)) → (old new : List Counts) (source : ℕ) → new ≡ changed f source old → AreAlike old new
alike_changed f alike old new source is k own here = by_case (changed_at f old source k own (ap (λ l. slice_get l k) (sym is) ∙ here))
  where
    by_case : ((k ≡ source) × ((x : Counts) × (slice_get old k ≡ Some x) × (own ≡ f x))) ⊎ ((source ≡ k → ⊥) × (slice_get old k ≡ Some own))
        → (before : Counts) × (slice_get old k ≡ Some before) × is_alike before own
    by_case (inl found) = (found.1.0, found.1.1, subst (is_alike found.1.0) (sym found.1.2) (alike found.1.0))
    by_case (inr other) = (own, other.1, refl)

pub alike_life : (old new : List Counts) (source : ℕ) → new ≡ changed one_life source old → AreAlike old new
alike_life = alike_changed one_life (λ own. refl)

pub alike_unreadable : (old new : List Counts) (source : ℕ) → new ≡ changed one_unreadable source old → AreAlike old new
alike_unreadable = alike_changed one_unreadable (λ own. refl)

pub alike_on : (first old new : List Counts) → AreAlike first old → AreAlike old new → AreAlike first new
alike_on first old new before after k own here =
    let its = after k own here in
    let earlier = before k its.0 its.1 in
    (earlier.0, earlier.1, its.2 ∙ ap (λ (x : Counts). record x { lives = own.lives; unreadable = own.unreadable }) earlier.2)

pub of_sources_alike : (ring : Ring) (is_by_lane : ℕ → Bool) (macs : List (List ℕ)) (past : List CaughtFields) (old new : List Counts) → AreOfSources ring is_by_lane macs past old → AreAlike old new
    → AreOfSources ring is_by_lane macs past new
of_sources_alike ring is_by_lane macs past old new of alike k mac own mac_k own_k =
    let before = alike k own own_k in
    let is = of k mac before.0 mac_k before.1 in
    subst (OfSource ring is_by_lane mac past) (sym before.2)
    (record {
      frames = is.frames;
      first = is.first;
      last = is.last;
      clashes = is.clashes;
      late = is.late;
      size = is.size;
      lane = is.lane;
      group = is.group;
      single = is.single;
      skew = is.skew;
    })

-- ---- lists

pub short_filter_map : {X Y : Type 0} (h : X → Option Y) (xs : List X) → length (filter_map h xs) ≤ length xs
short_filter_map h [] = omega arith
short_filter_map {X} {Y} h (x ∷ xs) = with_first (h x) (filter_map h xs) (length xs) (short_filter_map h xs)
  where
    with_first : (o : Option Y) (ys : List Y) (n : ℕ) → length ys ≤ n → length (cons_option o ys) ≤ suc n
    with_first None ys n le = omega (arith, le)
    with_first (Some y) ys n le = omega (arith, le)

pub short_those : {X : Type 0} (tell : ℕ → List CaughtFields → CaughtFields → Option X) (copies : List CaughtFields) (i : ℕ) (rest : List CaughtFields) → length (those_from tell copies i rest) ≤ length rest
short_those tell copies i [] = omega arith
short_those {X} tell copies i (c ∷ rest) = with_own (tell i (past_of copies i) c) (those_from tell copies (i + 1) rest) (length rest) (short_those tell copies (i + 1) rest)
  where
    with_own : (o : Option X) (ys : List X) (n : ℕ) → length ys ≤ n → length (option_to_list o ++ ys) ≤ suc n
    with_own None ys n le = omega (arith, le)
    with_own (Some y) ys n le = omega (arith, le)

pub both_whole : (f : ℕ → Bool) (many : ℕ) (both sees : List Bool) → sees ≡ both → both ≡ map f (range_with_len 0 many) → sees ≡ map f (range_with_len 0 (length sees))
both_whole f many both sees same are =
    let long : many ≡ length sees = sym (ap length same ∙ ap length are ∙ length-map-range_with_len f 0 many) in
    same ∙ are ∙ ap (λ n. map f (range_with_len 0 n)) long

there_at : {X : Type 0} (xs : List X) (k : ℕ) → k < length xs → (x : X) × (slice_get xs k ≡ Some x)
there_at [] k below = absurd (omega (arith, below))
there_at (x ∷ xs) zero below = (x, refl)
there_at (x ∷ xs) (suc k) below = there_at xs k (omega (arith, below))

pub crowds_are : (ring : Ring) (copies : List CaughtFields) (many : ℕ) (crowds : List Crowd) → length crowds ≡ many → AreCrowds ring copies crowds
    → map (λ (x : Crowd). x.frames) crowds ≡ map (λ point. most_at ring point (crowd ring) copies) (range_with_len 0 many)
crowds_are ring copies many crowds long are =
    fill_by_all (λ point. most_at ring point (crowd ring) copies) (map (λ (x : Crowd). x.frames) crowds) many 0 (length-map crowds (λ (x : Crowd). x.frames) ∙ long)
    (λ k below.
    let inside : k < length crowds = omega (arith, below, long) in
    let own = there_at crowds k inside in
    get_or-map (λ (x : Crowd). x.frames) crowds k own.0 0 inside ∙ ap (λ (x : Crowd). x.frames) (get_or_from_slice_get crowds k own.0 own.0 own.1) ∙ (are k own.0 own.1).frames)
