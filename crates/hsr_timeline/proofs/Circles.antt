-- Entries that have stamps, and entries that have none.
use Rattle.std.proofs.Common.{◌≡◌, ◌⊎◌, ◌<◌, ◌≤◌, ◌+◌, ◌-◌, ℕ, zero, suc, Bool, true, false, cond, List, [], ◌∷◌, length, get_or, Option, Some, None, refl, ap, sym, ◌∙◌, subst, arith, inl, inr, ⊎_elim}
use Rattle.std.specs.Prelude.{option_map, slice_get, is_some, IsSome, ◌==◌, nat_lt, ◌&&◌, ◌||◌}
use Rattle.std.specs.Option.{option_and_then}
use Rattle.std.proofs.lemmas.Bool.{cases_eq, cases_lt, eqb-true, ltb-true}
use Rattle.std.proofs.lemmas.Bool.Decides.{nat_tests}
use Rattle.std.proofs.lemmas.List.{get_or_past}
use Rattle.std.proofs.lemmas.Option.{slice_get_past, slice_get_within}
use Rattle.hsr_timeline.specs.declared.origin.Origin.{Origin}
use Rattle.hsr_timeline.specs.declared.origin.Spot.{Spot}
use Rattle.hsr_timeline.specs.declared.stamp.Stamp.{Stamp}
use Rattle.hsr_timeline.specs.Stamps.{AreStamps, HasNoStamps, CausesFirst, FollowsAll, IsAfter, after, at_spot, before, is_earlier, later, next, stamp_by, stamp_of}
use Rattle.hsr_timeline.specs.Fronts.{AreAllKnown, AreBlocked, IsFront, length_at, next_spot}

-- ---- the order of stamps

abbrev pub IsBefore : Stamp → Stamp → Type 0
IsBefore x y = (x.moment < y.moment) ⊎ ((x.moment ≡ y.moment) × (x.step < y.step))

abbrev pub IsUpTo : Stamp → Stamp → Type 0
IsUpTo x y = (x.moment < y.moment) ⊎ ((x.moment ≡ y.moment) × (x.step ≤ y.step))

pub earlier_told : (x y : Stamp) → is_earlier x y ≡ true → IsBefore x y
earlier_told x y is = of (nat_lt x.moment y.moment) refl
  where
    of : (b : Bool) → nat_lt x.moment y.moment ≡ b → IsBefore x y
    of true e = inl (ltb-true x.moment y.moment e)
    of false e = within (x.moment == y.moment) refl
      where
        within : (b : Bool) → (x.moment == y.moment) ≡ b → IsBefore x y
        within true same = inr (eqb-true x.moment y.moment same, ltb-true x.step y.step (sym (ap (λ b. b || (x.moment == y.moment && nat_lt x.step y.step)) e ∙ ap (λ b. b && nat_lt x.step y.step) same) ∙ is))
        within false other = absurd (let h : false ≡ true = sym (ap (λ b. b || (x.moment == y.moment && nat_lt x.step y.step)) e ∙ ap (λ b. b && nat_lt x.step y.step) other) ∙ is in cc)

is_or : (b c : Bool) → c ≡ true → (b || c) ≡ true
is_or true c h = refl
is_or false c h = h

pub earlier_from : (x y : Stamp) → IsBefore x y → is_earlier x y ≡ true
earlier_from x y h = ⊎_elim
    (λ lt. let e : nat_lt x.moment y.moment ≡ true = grind (arith, nat_tests) in ap (λ b. b || (x.moment == y.moment && nat_lt x.step y.step)) e)
    (λ both. let same : (x.moment == y.moment) ≡ true = let h : x.moment ≡ y.moment = both.0 in grind (arith, nat_tests) in
    let less : nat_lt x.step y.step ≡ true = let h : x.step < y.step = both.1 in grind (arith, nat_tests) in
    is_or (nat_lt x.moment y.moment) (x.moment == y.moment && nat_lt x.step y.step) (ap (λ b. b && nat_lt x.step y.step) same ∙ less))
    h

pub order_cases : (x y : Stamp) → IsBefore x y ⊎ IsUpTo y x
order_cases x y = ⊎_elim (λ lt. inl (inl lt))
    (λ ge. ⊎_elim (λ same. ⊎_elim (λ lt. inl (inr (same, lt))) (λ le. inr (inr (sym same, le))) (cases_lt x.step y.step))
    (λ other. inr (inl (omega arith)))
    (cases_eq x.moment y.moment))
    (cases_lt x.moment y.moment)

before_up_to : (x y z : Stamp) → IsBefore x y → IsUpTo y z → IsBefore x z
before_up_to x y z h k = ⊎_elim
    (λ lt. inl (⊎_elim (λ (l : y.moment < z.moment). omega arith) (λ (l : (y.moment ≡ z.moment) × (y.step ≤ z.step)). let e = l.0 in omega arith) k))
    (λ both. ⊎_elim (λ l. inl (let e : x.moment ≡ y.moment = both.0 in omega arith))
    (λ l. inr (both.0 ∙ l.0, let a : x.step < y.step = both.1 in let b : y.step ≤ z.step = l.1 in omega arith)) k)
    h

not_earlier : (x y : Stamp) → is_earlier x y ≡ false → IsUpTo y x
not_earlier x y no_test = ⊎_elim (λ lt. absurd (let e : false ≡ true = sym no_test ∙ earlier_from x y lt in cc)) (λ le. le) (order_cases x y)

up_to_self : (x : Stamp) → IsUpTo x x
up_to_self x = inr (refl, omega arith)

before_up : (x y : Stamp) → IsBefore x y → IsUpTo x y
before_up x y h = ⊎_elim (λ l. inl l) (λ both. inr (both.0, let a : x.step < y.step = both.1 in omega arith)) h

before_next : (c : Stamp) → IsBefore c (next c)
before_next c = inr (refl, omega arith)

next_up_to : (c t : Stamp) → IsUpTo (next c) t → IsBefore c t
next_up_to c t h = before_up_to c (next c) t (before_next c) h

-- the later of two is after what either is after
later_told : (c t : Stamp) → IsBefore c (later t (next c)) × IsUpTo t (later t (next c))
later_told c t = of (is_earlier t (next c)) refl
  where
    of : (b : Bool) → is_earlier t (next c) ≡ b → IsBefore c (later t (next c)) × IsUpTo t (later t (next c))
    of true e = let is : next c ≡ later t (next c) = sym (ap (λ b. cond b (next c) t) e) in
        (let P : Stamp → Type 0 = λ u. IsBefore c u in subst P is (before_next c), let P : Stamp → Type 0 = λ u. IsUpTo t u in subst P is (before_up t (next c) (earlier_told t (next c) e)))
    of false e = let is : t ≡ later t (next c) = sym (ap (λ b. cond b (next c) t) e) in
        (let P : Stamp → Type 0 = λ u. IsBefore c u in subst P is (next_up_to c t (not_earlier t (next c) e)), let P : Stamp → Type 0 = λ u. IsUpTo t u in subst P is (up_to_self t))

-- ---- an entry comes after what it follows

after_up : (stamp : Spot → Option Stamp) (cause : Option Spot) (t u : Stamp) → after stamp cause t ≡ Some u → IsUpTo t u
after_up stamp None t u h = let e : t ≡ u = cc in let P : Stamp → Type 0 = λ v. IsUpTo t v in subst P e (up_to_self t)
after_up stamp (Some cause) t u h = of (stamp cause) refl
  where
    of : (o : Option Stamp) → stamp cause ≡ o → IsUpTo t u
    of None is = absurd (let e : option_map (λ c. later t (next c)) None ≡ Some u = ap (option_map (λ c. later t (next c))) (sym is) ∙ h in cc)
    of (Some c) is = let e : Some (later t (next c)) ≡ Some u = ap (option_map (λ c. later t (next c))) (sym is) ∙ h in
        let f : later t (next c) ≡ u = cc in let P : Stamp → Type 0 = λ v. IsUpTo t v in subst P f ((later_told c t).1)

after_first : (stamp : Spot → Option Stamp) (cause : Option Spot) (t u v : Stamp) → after stamp cause t ≡ Some u → IsUpTo u v → IsAfter stamp cause v
after_first stamp None t u v h up = tt
after_first stamp (Some cause) t u v h up = of (stamp cause) refl
  where
    of : (o : Option Stamp) → stamp cause ≡ o → IsAfter stamp (Some cause) v
    of None is = absurd (let e : option_map (λ c. later t (next c)) None ≡ Some u = ap (option_map (λ c. later t (next c))) (sym is) ∙ h in cc)
    of (Some c) is = let e : Some (later t (next c)) ≡ Some u = ap (option_map (λ c. later t (next c))) (sym is) ∙ h in
        let f : later t (next c) ≡ u = cc in
        let P : Stamp → Type 0 = λ w. IsBefore c w in
        (c, is, earlier_from c v (before_up_to c u v (subst P f ((later_told c t).0)) up))

up_trans : (x y z : Stamp) → IsUpTo x y → IsUpTo y z → IsUpTo x z
up_trans x y z h k = ⊎_elim (λ lt. before_up x z (before_up_to x y z (inl lt) k))
    (λ both. ⊎_elim (λ l. inl (let e : x.moment ≡ y.moment = both.0 in omega arith))
    (λ l. inr (both.0 ∙ l.0, let a : x.step ≤ y.step = both.1 in let b : y.step ≤ z.step = l.1 in omega arith)) k)
    h

by_follows : (stamp : Spot → Option Stamp) (spot : Spot) (x : Origin) (t : Stamp) → stamp_by stamp spot x ≡ Some t → FollowsAll stamp spot x t
by_follows stamp spot x t h = first (after stamp (before spot) own) refl
  where
    own : Stamp
    own = record { moment = x.at; step = 0 }

    first : (o : Option Stamp) → after stamp (before spot) own ≡ o → FollowsAll stamp spot x t
    first None is = absurd (let e : option_and_then (after stamp x.passed) (option_and_then (after stamp x.planned) None) ≡ Some t = ap (λ o. option_and_then (after stamp x.passed) (option_and_then (after stamp x.planned) o)) (sym is) ∙ h in cc)
    first (Some u) is = second (after stamp x.planned u) refl
      where
        second : (o : Option Stamp) → after stamp x.planned u ≡ o → FollowsAll stamp spot x t
        second None was = absurd (let e : option_and_then (after stamp x.passed) None ≡ Some t = ap (option_and_then (after stamp x.passed)) (sym was) ∙ (ap (λ o. option_and_then (after stamp x.passed) (option_and_then (after stamp x.planned) o)) (sym is) ∙ h) in cc)
        second (Some v) was =
            let third : after stamp x.passed v ≡ Some t = ap (option_and_then (after stamp x.passed)) (sym was) ∙ (ap (λ o. option_and_then (after stamp x.passed) (option_and_then (after stamp x.planned) o)) (sym is) ∙ h) in
            let vt : IsUpTo v t = after_up stamp x.passed v t third in
            let uv : IsUpTo u v = after_up stamp x.planned u v was in
            record {
              recorded = after_first stamp (before spot) own u t is (up_trans u v t uv vt);
              planned = after_first stamp x.planned u v t was vt;
              passed = after_first stamp x.passed v t t third (up_to_self t);
            }

pub causes_first : CausesFirst
causes_first records stamp are spot x t there is =
    by_follows stamp spot x t (ap (option_and_then (stamp_by stamp spot)) (sym there) ∙ (sym (are.each spot) ∙ is))

-- ---- within records

place_within : {X : Type 0} (rows : List (List X)) (spot : Spot) (x : X) → at_spot rows spot ≡ Some x → spot.place < length_at rows spot.node
place_within rows spot x h = slice_get_within (get_or rows spot.node []) spot.place x h

node_within : {X : Type 0} (rows : List (List X)) (spot : Spot) (x : X) → at_spot rows spot ≡ Some x → spot.node < length rows
node_within rows spot x h = ⊎_elim (λ lt. lt)
    (λ ge. absurd (let e = get_or_past rows spot.node [] ge in let f : slice_get [] spot.place ≡ Some x = ap (λ row. slice_get row spot.place) (sym e) ∙ h in cc))
    (cases_lt spot.node (length rows))

at_within : {X : Type 0} (rows : List (List X)) (spot : Spot) → spot.place < length_at rows spot.node → at_spot rows spot ≡ None → ⊥
at_within rows spot below h = of (get_or rows spot.node []) spot.place below h
  where
    of : {X : Type 0} (xs : List X) (i : ℕ) → i < length xs → slice_get xs i ≡ None → ⊥
    of [] i lt h = omega arith
    of (x ∷ xs) zero lt h = cc
    of (x ∷ xs) (suc i) lt h = of xs i (omega arith) h

-- ---- all are known

pub all_known : (records : List (List Origin)) (stamps : List (List Stamp)) → IsFront records stamps → AreAllKnown records stamps → AreStamps records (at_spot stamps)
all_known records stamps front all = record {
  each = λ spot. each spot (at_spot stamps spot) refl;
  known = λ spot x there. known spot x there (at_spot stamps spot) refl;
}
  where
    not_unknown : (spot : Spot) (x : Origin) → at_spot records spot ≡ Some x → at_spot stamps spot ≡ None → ⊥
    not_unknown spot x there = at_within stamps spot
        (let a = place_within records spot x there in let b = all spot.node (node_within records spot x there) in omega arith)

    known : (spot : Spot) (x : Origin) → at_spot records spot ≡ Some x → (o : Option Stamp) → at_spot stamps spot ≡ o → IsSome (at_spot stamps spot)
    known spot x there None is = absurd (not_unknown spot x there is)
    known spot x there (Some t) is = ap is_some is

    each : (spot : Spot) (o : Option Stamp) → at_spot stamps spot ≡ o → at_spot stamps spot ≡ stamp_of records (at_spot stamps) spot
    each spot (Some t) is = is ∙ sym (front.each spot t is)
    each spot None is = is ∙ outside (at_spot records spot) refl
      where
        outside : (p : Option Origin) → at_spot records spot ≡ p → None ≡ stamp_of records (at_spot stamps) spot
        outside None there = sym (ap (option_and_then (stamp_by (at_spot stamps) spot)) there)
        outside (Some x) there = absurd (not_unknown spot x there is)

-- ---- circles

-- an entry that waits for another
abbrev Waits : (Spot → Option Stamp) → (Spot → Option Stamp) → Stamp → Type 0
Waits known stamp t = (c : Spot) × (u : Stamp) × (known c ≡ None) × (stamp c ≡ Some u) × IsBefore u t

of_cause : (known stamp : Spot → Option Stamp) (cause : Option Spot) (t : Stamp) (o : Option Stamp) → option_and_then (after known cause) o ≡ None → IsAfter stamp cause t → (o ≡ None) ⊎ Waits known stamp t
of_cause known stamp cause t None h follows = inl refl
of_cause known stamp None t (Some v) h follows = absurd (cc)
of_cause known stamp (Some c) t (Some v) h follows = of (known c) refl
  where
    of : (p : Option Stamp) → known c ≡ p → (Some v ≡ None) ⊎ Waits known stamp t
    of None is = inr (c, follows.0, is, follows.1, earlier_told (follows.0) t (follows.2))
    of (Some k) is = absurd (let e : Some (later v (next k)) ≡ None = ap (option_map (λ k. later v (next k))) (sym is) ∙ h in cc)

by_waits : (known stamp : Spot → Option Stamp) (spot : Spot) (x : Origin) (t : Stamp) → stamp_by known spot x ≡ None → FollowsAll stamp spot x t → Waits known stamp t
by_waits known stamp spot x t h follows =
    let own : Stamp = record { moment = x.at; step = 0 } in
    ⊎_elim
    (λ second. ⊎_elim (λ first. ⊎_elim (λ none. absurd (cc)) (λ w. w) (of_cause known stamp (before spot) t (Some own) first follows.recorded)) (λ w. w) (of_cause known stamp x.planned t (after known (before spot) own) second follows.planned))
    (λ w. w) (of_cause known stamp x.passed t (option_and_then (after known x.planned) (after known (before spot) own)) h follows.passed)

stuck : (records : List (List Origin)) (stamps : List (List Stamp)) (stamp : Spot → Option Stamp) → AreBlocked records stamps (length records) → AreStamps records stamp →
    (spot : Spot) (t : Stamp) → at_spot stamps spot ≡ None → stamp spot ≡ Some t → Waits (at_spot stamps) stamp t
stuck records stamps stamp blocked are spot t unknown is = of (at_spot records spot) refl
  where
    of : (o : Option Origin) → at_spot records spot ≡ o → Waits (at_spot stamps) stamp t
    of None there = absurd (let e : option_and_then (stamp_by stamp spot) None ≡ Some t = ap (option_and_then (stamp_by stamp spot)) (sym there) ∙ (sym (are.each spot) ∙ is) in cc)
    of (Some x) there = ⊎_elim (λ lt. absurd (at_within stamps spot lt unknown)) (λ ge. ⊎_elim at_front (beyond ge) (cases_eq spot.place (length_at stamps spot.node))) (cases_lt spot.place (length_at stamps spot.node))
      where
        follows : FollowsAll stamp spot x t
        follows = causes_first records stamp are spot x t there is

        at_front : spot.place ≡ length_at stamps spot.node → Waits (at_spot stamps) stamp t
        at_front same =
            let here : next_spot stamps spot.node ≡ spot = ap (λ p. record { node = spot.node; place = p }) (sym same) in
            by_waits (at_spot stamps) stamp spot x t
            (ap (option_and_then (stamp_by (at_spot stamps) spot)) (sym there) ∙ (ap (stamp_of records (at_spot stamps)) (sym here) ∙ blocked spot.node (node_within records spot x there))) follows

        beyond : length_at stamps spot.node ≤ spot.place → (spot.place ≡ length_at stamps spot.node → ⊥) → Waits (at_spot stamps) stamp t
        beyond ge other =
            let cause : Spot = record { node = spot.node; place = spot.place - 1 } in
            let some : (spot.place == 0) ≡ false = grind (arith, nat_tests) in
            let found : before spot ≡ Some cause = ap (λ b. cond b None (Some cause)) some in
            let P : Option Spot → Type 0 = λ o. IsAfter stamp o t in
            let f : IsAfter stamp (Some cause) t = subst P found follows.recorded in
            (cause, f.0, slice_get_past (get_or stamps spot.node []) (spot.place - 1) (omega arith), f.1, earlier_told (f.0) t (f.2))

-- no stamps are before all others of entries that wait
within_moment : (records : List (List Origin)) (stamps : List (List Stamp)) (stamp : Spot → Option Stamp) → AreBlocked records stamps (length records) → AreStamps records stamp → (m : ℕ) →
    ((spot : Spot) (t : Stamp) → at_spot stamps spot ≡ None → stamp spot ≡ Some t → t.moment < m → ⊥) → (s : ℕ) (spot : Spot) (t : Stamp) → at_spot stamps spot ≡ None → stamp spot ≡ Some t → t.moment ≡ m → t.step < s → ⊥
within_moment records stamps stamp blocked are m below zero spot t unknown is at less = omega arith
within_moment records stamps stamp blocked are m below (suc s) spot t unknown is at less =
    let w = stuck records stamps stamp blocked are spot t unknown is in
    ⊎_elim (λ (lt : w.1.moment < t.moment). below (w.0) (w.1) (w.2) (w.3) (omega arith))
    (λ (both : (w.1.moment ≡ t.moment) × (w.1.step < t.step)). within_moment records stamps stamp blocked are m below s (w.0) (w.1) (w.2) (w.3) (both.0 ∙ at) (let a = both.1 in omega arith))
    (w.4)

no_moment : (records : List (List Origin)) (stamps : List (List Stamp)) (stamp : Spot → Option Stamp) → AreBlocked records stamps (length records) → AreStamps records stamp → (m : ℕ) →
    (spot : Spot) (t : Stamp) → at_spot stamps spot ≡ None → stamp spot ≡ Some t → t.moment < m → ⊥
no_moment records stamps stamp blocked are zero spot t unknown is less = omega arith
no_moment records stamps stamp blocked are (suc m) spot t unknown is less = ⊎_elim
    (λ lt. no_moment records stamps stamp blocked are m spot t unknown is lt)
    (λ ge. within_moment records stamps stamp blocked are m (no_moment records stamps stamp blocked are m) (t.step + 1) spot t unknown is (omega arith) (omega arith))
    (cases_lt t.moment m)

pub none_left : (records : List (List Origin)) (stamps : List (List Stamp)) → IsFront records stamps → AreBlocked records stamps (length records) → (AreAllKnown records stamps → ⊥) → HasNoStamps records
none_left records stamps front blocked left stamp are = left all
  where
    all : AreAllKnown records stamps
    all k below = ⊎_elim (λ lt. absurd (behind lt)) (λ ge. ⊎_elim (λ lt. absurd (ahead lt)) (λ le. omega arith) (cases_lt (length_at records k) (length_at stamps k))) (cases_lt (length_at stamps k) (length_at records k))
      where
        behind : length_at stamps k < length_at records k → ⊥
        behind lt = of (stamp (next_spot stamps k)) refl
          where
            there : (o : Option Origin) → at_spot records (next_spot stamps k) ≡ o → IsSome (stamp (next_spot stamps k))
            there None is = absurd (at_within records (next_spot stamps k) lt is)
            there (Some x) is = are.known (next_spot stamps k) x is

            of : (o : Option Stamp) → stamp (next_spot stamps k) ≡ o → ⊥
            of None is = let e : false ≡ true = sym (ap is_some is) ∙ there (at_spot records (next_spot stamps k)) refl in cc
            of (Some t) is = no_moment records stamps stamp blocked are (t.moment + 1) (next_spot stamps k) t (slice_get_past (get_or stamps k []) (length_at stamps k) (omega arith)) is (omega arith)

        ahead : length_at records k < length_at stamps k → ⊥
        ahead lt = of (at_spot stamps over) refl
          where
            over : Spot
            over = record { node = k; place = length_at records k }

            beyond : at_spot records over ≡ None
            beyond = slice_get_past (get_or records k []) (length_at records k) (omega arith)

            of : (o : Option Stamp) → at_spot stamps over ≡ o → ⊥
            of None is = at_within stamps over lt is
            of (Some t) is = let e : None ≡ Some t = sym (ap (option_and_then (stamp_by (at_spot stamps) over)) beyond) ∙ front.each over t is in cc
