-- The main worker's entries: each is there, none twice, and each but the first is paired with the one before.
use Rattle.std.proofs.Common.{◌≡◌, ℕ, suc, ◌+◌, ◌<◌, ◌≤◌, Bool, true, false, cond, List, [], ◌∷◌, ◌++◌, length, take, get_or, count_by, Option, Some, None, refl, sym, ap, ◌∙◌, subst, inl, inr, ⊎_elim, arith, slice_get, eq-eqb}
use Rattle.std.specs.Prelude.{filter_map, ◌==◌}
use Rattle.std.specs.List.{AllByRecursion, cons_option, range_with_len}
use Rattle.std.specs.Option.{option_and_then, option_or}
use Rattle.std.proofs.lemmas.Bool.{and_from, and_parts, cases_eq, cases_lt, eqb-true}
use Rattle.std.proofs.lemmas.Option.{same_Some, slice_get-get_or, slice_get_within}
use Rattle.hsr_node.specs.declared.entry.Entry.{Entry}
use Rattle.hsr_run_laws.proofs.Lists.{count_more}
use Rattle.hsr_run_laws.specs.Run.{Run, record_of}
use Rattle.hsr_run_index.specs.Turns.{holds_from, holds_of}
use Rattle.hsr_finished_run.specs.Finished.{IsPlanned, planned_by, planned_for}
use Rattle.hsr_finished_run.specs.declared.planned.Planned.{Planned}
use Rattle.hsr_timeline.specs.declared.origin.Spot.{Spot}
use Rattle.hsr_timeline.specs.Hops.{spot_at}
use Rattle.hsr_timeline.specs.Causes.{cause_if, cause_in, is_for, is_spot, main_at, main_before, main_next, main_pair, main_pairs, pair_of}
use Rattle.hsr_timeline.proofs.Pairing.{before_more}
use Rattle.hsr_timeline_laws.proofs.Judging.{count_rises, spot_told}
use Rattle.hsr_timeline_laws.proofs.Listed.{IsIn, Rises, all_weaker, from_mapped, in_mapped, in_range, one_index, take_all}

-- ---- the places of a worker's entries rise

holds_above : (worker n : ℕ) (xs : List Entry) → AllByRecursion (λ y. n ≤ y) (holds_of worker n xs)
holds_above worker n [] = tt
holds_above worker n (x ∷ xs) = of (x.worker == worker) (all_weaker (λ y. n + 1 ≤ y) (λ y. n ≤ y) (holds_of worker (n + 1) xs) (λ y le. omega (arith, le)) (holds_above worker (n + 1) xs))
  where
    of : (b : Bool) → AllByRecursion (λ y. n ≤ y) (holds_of worker (n + 1) xs) → AllByRecursion (λ y. n ≤ y) (cond b (n ∷ []) [] ++ holds_of worker (n + 1) xs)
    of true all = (omega arith, all)
    of false all = all

holds_rise : (worker n : ℕ) (xs : List Entry) → Rises (holds_of worker n xs)
holds_rise worker n [] = tt
holds_rise worker n (x ∷ xs) = of (x.worker == worker) (holds_rise worker (n + 1) xs)
  where
    of : (b : Bool) → Rises (holds_of worker (n + 1) xs) → Rises (cond b (n ∷ []) [] ++ holds_of worker (n + 1) xs)
    of true up = (all_weaker (λ y. n + 1 ≤ y) (λ y. n < y) (holds_of worker (n + 1) xs) (λ y le. omega (arith, le)) (holds_above worker (n + 1) xs), up)
    of false up = up

-- ---- the entry of a number

abbrev pub IsMainAt : Run → List Planned → ℕ → Spot → Type 0
IsMainAt run plan i p = (x : Planned) × (slice_get plan i ≡ Some x) × (x.node ≡ p.node) × (slice_get (holds_from 0 (record_of run p.node) 0) (count_by (is_for p.node) (take i plan)) ≡ Some p.place)

pub main_told : (run : Run) (plan : List Planned) (i : ℕ) (p : Spot) → main_at run plan i ≡ Some p → IsMainAt run plan i p
main_told run plan i p is = of (slice_get plan i) refl
  where
    of : (o : Option Planned) → slice_get plan i ≡ o → IsMainAt run plan i p
    of None e = absurd (let f : option_and_then (main_next run (take i plan)) None ≡ Some p = ap (option_and_then (main_next run (take i plan))) (sym e) ∙ is in cc)
    of (Some x) e =
        let f : main_next run (take i plan) x ≡ Some p = ap (option_and_then (main_next run (take i plan))) (sym e) ∙ is in
        let s = spot_told x.node (slice_get (holds_from 0 (record_of run x.node) 0) (count_by (is_for x.node) (take i plan))) p f in
        let P : ℕ → Type 0 = λ k. slice_get (holds_from 0 (record_of run k) 0) (count_by (is_for k) (take i plan)) ≡ Some p.place in
        (x, e, s.0, subst P s.0 s.1)

not_later : (run : Run) (plan : List Planned) (i j : ℕ) (p : Spot) → IsMainAt run plan i p → count_by (is_for p.node) (take i plan) ≡ count_by (is_for p.node) (take j plan) → i < j → ⊥
not_later run plan i j p is same less = let rises = count_rises (is_for p.node) plan i j is.0 less is.1 (eq-eqb is.0.node p.node is.2) in omega (arith, same, rises)

-- no entry has two numbers
one_number : (run : Run) (plan : List Planned) (i j : ℕ) (p : Spot) → main_at run plan i ≡ Some p → main_at run plan j ≡ Some p → i ≡ j
one_number run plan i j p here also =
    let a = main_told run plan i p here in
    let b = main_told run plan j p also in
    let counts = one_index (holds_from 0 (record_of run p.node) 0) (count_by (is_for p.node) (take i plan)) (count_by (is_for p.node) (take j plan)) p.place (holds_rise 0 0 (record_of run p.node)) a.3 b.3 in
    ⊎_elim (λ same. same)
    (λ apart. absurd (⊎_elim (λ lt. not_later run plan i j p a counts lt) (λ ge. not_later run plan j i p b (sym counts) (omega (arith, ge, apart))) (cases_lt i j)))
    (cases_eq i j)

-- ---- each number has an entry

for_counted : (k : ℕ) (plan : List Planned) → length (filter_map (planned_for k) plan) ≡ count_by (is_for k) plan
for_counted k [] = refl
for_counted k (x ∷ plan) = of (x.node == k) (for_counted k plan) ∙ sym (count_more (is_for k) x plan)
  where
    of : (b : Bool) → length (filter_map (planned_for k) plan) ≡ count_by (is_for k) plan → length (cons_option (cond b (Some x) None) (filter_map (planned_for k) plan)) ≡ cond b 1 0 + count_by (is_for k) plan
    of true e = omega (arith, e)
    of false e = omega (arith, e)

by_counted : (k n : ℕ) (xs : List Entry) → length (filter_map (planned_by k) xs) ≡ length (holds_of 0 n xs)
by_counted k n [] = refl
by_counted k n (x ∷ xs) = of (x.worker == 0) (by_counted k (n + 1) xs)
  where
    of : (b : Bool) → length (filter_map (planned_by k) xs) ≡ length (holds_of 0 (n + 1) xs) →
        length (cons_option (cond b (Some (record { node = k; at = x.at; event = x.event })) None) (filter_map (planned_by k) xs)) ≡ length (cond b (n ∷ []) [] ++ holds_of 0 (n + 1) xs)
    of true e = ap suc e
    of false e = e

module _ (run : Run) (plan : List Planned) (planned : IsPlanned run plan) where
  pub main_there : (m : ℕ) (x : Planned) → slice_get plan m ≡ Some x → (p : Spot) × (main_at run plan m ≡ Some p)
  main_there m x is =
      let below : m < length plan = slice_get_within plan m x is in
      let same : get_or plan m x ≡ x = same_Some (get_or plan m x) x (sym (slice_get-get_or plan m x below) ∙ is) in
      let P : Planned → Type 0 = λ y. y.node < length run.places in
      let inside : x.node < length run.places = subst P same (planned.nodes m x below) in
      let rises = count_rises (is_for x.node) plan m (length plan) x below is (eq-eqb x.node x.node refl) in
      let whole : count_by (is_for x.node) (take (length plan) plan) ≡ count_by (is_for x.node) plan = ap (count_by (is_for x.node)) (take_all plan) in
      let long : length (holds_from 0 (record_of run x.node) 0) ≡ count_by (is_for x.node) plan =
      sym (by_counted x.node 0 (record_of run x.node)) ∙ (ap length (sym (planned.each x.node inside)) ∙ for_counted x.node plan) in
      let at : ℕ = count_by (is_for x.node) (take m plan) in
      let within : at < length (holds_from 0 (record_of run x.node) 0) = omega (arith, rises, whole, long) in (
        record { node = x.node; place = get_or (holds_from 0 (record_of run x.node) 0) at 0 },
        ap (option_and_then (main_next run (take m plan))) is ∙ ap (spot_at x.node) (slice_get-get_or (holds_from 0 (record_of run x.node) 0) at 0 within),
      )

-- ---- causes

cause_sound : (pairs : List (Spot × Spot)) (q c : Spot) → cause_in pairs q ≡ Some c → IsIn (q, c) pairs
cause_sound [] q c is = absurd (cc)
cause_sound (pair ∷ pairs) q c is = of (cause_in pairs q) refl (cause_sound pairs q c)
  where
    last : (b : Bool) → is_spot pair.0 q ≡ b → option_or None (cond b (Some pair.1) None) ≡ Some c → pair ≡ (q, c)
    last false e f = absurd (cc)
    last true e f =
        let parts = and_parts (pair.0.node == q.node) (pair.0.place == q.place) e in
        let nodes = eqb-true pair.0.node q.node parts.0 in
        let places = eqb-true pair.0.place q.place parts.1 in
        let cause : pair.1 ≡ c = same_Some pair.1 c f in
        λ i. (record { node = nodes i; place = places i }, cause i)

    of : (o : Option Spot) → cause_in pairs q ≡ o → (cause_in pairs q ≡ Some c → IsIn (q, c) pairs) → IsIn (q, c) (pair ∷ pairs)
    of None e more = inl (last (is_spot pair.0 q) refl (ap (λ o. option_or o (cause_if q pair)) (sym e) ∙ is))
    of (Some d) e more = let f : Some d ≡ Some c = ap (λ o. option_or o (cause_if q pair)) (sym e) ∙ is in inr (more (e ∙ f))

cause_there : (pairs : List (Spot × Spot)) (q p : Spot) → IsIn (q, p) pairs → (c : Spot) × (cause_in pairs q ≡ Some c)
cause_there [] q p h = absurd h
cause_there (pair ∷ pairs) q p h = ⊎_elim here (λ more. let k = cause_there pairs q p more in (k.0, ap (λ o. option_or o (cause_if q pair)) k.1)) h
  where
    itself : is_spot q q ≡ true
    itself = and_from (q.node == q.node) (q.place == q.place) (eq-eqb q.node q.node refl) (eq-eqb q.place q.place refl)

    here : pair ≡ (q, p) → (c : Spot) × (cause_in (pair ∷ pairs) q ≡ Some c)
    here e =
        let this : cause_if q pair ≡ Some p = ap (cause_if q) e ∙ ap (λ b. cond b (Some p) None) itself in
        of (cause_in pairs q) refl this
      where
        of : (o : Option Spot) → cause_in pairs q ≡ o → cause_if q pair ≡ Some p → (c : Spot) × (cause_in (pair ∷ pairs) q ≡ Some c)
        of None f this = (p, ap (λ o. option_or o (cause_if q pair)) f ∙ this)
        of (Some d) f this = (d, ap (λ o. option_or o (cause_if q pair)) f)

-- the only cause that is paired with an entry is the one that is found
pub cause_one : (pairs : List (Spot × Spot)) (q p : Spot) → ((c : Spot) → IsIn (q, c) pairs → c ≡ p) → IsIn (q, p) pairs → cause_in pairs q ≡ Some p
cause_one pairs q p only h = let t = cause_there pairs q p h in t.1 ∙ ap (λ c. Some c) (only t.0 (cause_sound pairs q t.0 t.1))

-- what a pair is made of
pub pair_told : (effect cause : Option Spot) (q c : Spot) → pair_of effect cause ≡ Some (q, c) → (effect ≡ Some q) × (cause ≡ Some c)
pair_told None cause q c is = absurd (cc)
pair_told (Some e) None q c is = absurd (cc)
pair_told (Some e) (Some d) q c is =
    let same : (e, d) ≡ (q, c) = same_Some (e, d) (q, c) is in
    (ap (λ (p : Spot × Spot). Some p.0) same, ap (λ (p : Spot × Spot). Some p.1) same)

-- each of the main worker's entries is paired with the one before
pub main_cause : (run : Run) (plan : List Planned) (i : ℕ) (p q : Spot) → main_at run plan i ≡ Some p → main_at run plan (i + 1) ≡ Some q → cause_in (main_pairs run plan) q ≡ Some p
main_cause run plan i p q before is = cause_one (main_pairs run plan) q p only this
  where
    below : i + 1 < length plan
    below = let told = main_told run plan (i + 1) q is in slice_get_within plan (i + 1) told.0 told.1

    this : IsIn (q, p) (main_pairs run plan)
    this =
        let e : 0 + (i + 1) ≡ i + 1 = omega arith in
        let P : ℕ → Type 0 = λ k. IsIn k (range_with_len 0 (length plan)) in
        in_mapped (main_pair run plan) (range_with_len 0 (length plan)) (i + 1) (q, p) (subst P e (in_range 0 (length plan) (i + 1) below))
        (ap (λ o. pair_of o (main_before run plan (i + 1))) is ∙ ap (pair_of (Some q)) (before_more run plan i ∙ before))

    only : (c : Spot) → IsIn (q, c) (main_pairs run plan) → c ≡ p
    only c h =
        let k = from_mapped (main_pair run plan) (range_with_len 0 (length plan)) (q, c) h in
        let told = pair_told (main_at run plan k.0) (main_before run plan k.0) q c k.2 in
        let number : k.0 ≡ i + 1 = one_number run plan k.0 (i + 1) q told.0 is in
        same_Some c p (sym told.1 ∙ (ap (main_before run plan) number ∙ (before_more run plan i ∙ before)))
