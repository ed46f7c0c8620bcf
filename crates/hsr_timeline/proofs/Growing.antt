-- Stamps that become known, one entry after another.
use Rattle.std.proofs.Common.{◌≡◌, ◌⊎◌, ◌<◌, ℕ, zero, suc, List, [], ◌∷◌, ◌++◌, length, set, get_or, Option, Some, None, refl, ap, sym, ◌∙◌, arith, inl, inr, ⊎_elim}
use Rattle.std.specs.Prelude.{option_map, slice_get, Vec}
use Rattle.std.specs.Option.{option_and_then}
use Rattle.std.specs.Global.{Global}
use Rattle.std.proofs.lemmas.Bool.{cases_eq}
use Rattle.std.proofs.lemmas.List.{get_or-map, get_or-set_same, get_or-set_other, length-map, length-set}
use Rattle.hsr_timeline.specs.declared.origin.Origin.{Origin}
use Rattle.hsr_timeline.specs.declared.origin.Spot.{Spot}
use Rattle.hsr_timeline.specs.declared.stamp.Stamp.{Stamp}
use Rattle.hsr_timeline.specs.Stamps.{after, at_spot, before, later, next, stamp_by, stamp_of}
use Rattle.hsr_timeline.specs.Fronts.{IsFront, items_of, length_at, lists_of, next_of, next_spot}

-- ---- one more element

get_kept : {X : Type 0} (xs : List X) (x : X) (i : ℕ) (y : X) → slice_get xs i ≡ Some y → slice_get (xs ++ x ∷ []) i ≡ Some y
get_kept [] x i y h = absurd (cc)
get_kept (z ∷ zs) x zero y h = h
get_kept (z ∷ zs) x (suc i) y h = get_kept zs x i y h

get_pushed : {X : Type 0} (xs : List X) (x : X) (i : ℕ) (y : X) → slice_get (xs ++ x ∷ []) i ≡ Some y → (slice_get xs i ≡ Some y) ⊎ ((i ≡ length xs) × (x ≡ y))
get_pushed [] x zero y h = inr (refl, cc)
get_pushed [] x (suc i) y h = absurd (cc)
get_pushed (z ∷ zs) x zero y h = inl h
get_pushed (z ∷ zs) x (suc i) y h = ⊎_elim (λ e. inl e) (λ both. inr (ap (λ n. suc n) both.0, both.1)) (get_pushed zs x i y h)

get_last : {X : Type 0} (xs : List X) (x : X) → slice_get (xs ++ x ∷ []) (length xs) ≡ Some x
get_last [] x = refl
get_last (z ∷ zs) x = get_last zs x

-- ---- one more stamp

-- the stamps with one more at a node
abbrev pub pushed : List (List Stamp) → ℕ → Stamp → List (List Stamp)
pushed stamps node t = set stamps node (get_or stamps node [] ++ t ∷ [])

row_there : (stamps : List (List Stamp)) (node : ℕ) (t : Stamp) → node < length stamps → get_or (pushed stamps node t) node [] ≡ get_or stamps node [] ++ t ∷ []
row_there stamps node t below = get_or-set_same stamps node (get_or stamps node [] ++ t ∷ []) [] below

row_else : (stamps : List (List Stamp)) (node : ℕ) (t : Stamp) (k : ℕ) → (k ≡ node → ⊥) → get_or (pushed stamps node t) k [] ≡ get_or stamps k []
row_else stamps node t k other = get_or-set_other stamps node k (get_or stamps node [] ++ t ∷ []) [] other

-- what was known is known
abbrev pub Grows : (Spot → Option Stamp) → (Spot → Option Stamp) → Type 0
Grows old new = (spot : Spot) (t : Stamp) → old spot ≡ Some t → new spot ≡ Some t

grows : (stamps : List (List Stamp)) (node : ℕ) (t : Stamp) → node < length stamps → Grows (at_spot stamps) (at_spot (pushed stamps node t))
grows stamps node t below spot u known = ⊎_elim
    (λ same. let old : slice_get (get_or stamps node []) spot.place ≡ Some u = ap (λ k. slice_get (get_or stamps k []) spot.place) (sym same) ∙ known in
    ap (λ k. slice_get (get_or (pushed stamps node t) k []) spot.place) same
    ∙ (ap (λ row. slice_get row spot.place) (row_there stamps node t below) ∙ get_kept (get_or stamps node []) t spot.place u old))
    (λ other. ap (λ row. slice_get row spot.place) (row_else stamps node t spot.node other) ∙ known)
    (cases_eq spot.node node)

after_grows : (old new : Spot → Option Stamp) → Grows old new → (cause : Option Spot) (t u : Stamp) → after old cause t ≡ Some u → after new cause t ≡ Some u
after_grows old new more None t u h = h
after_grows old new more (Some c) t u h = of (old c) refl
  where
    of : (o : Option Stamp) → old c ≡ o → after new (Some c) t ≡ Some u
    of None is = absurd (let e : option_map (λ k. later t (next k)) None ≡ Some u = ap (option_map (λ k. later t (next k))) (sym is) ∙ h in cc)
    of (Some k) is = ap (option_map (λ k. later t (next k))) (more c k is) ∙ (ap (option_map (λ k. later t (next k))) (sym is) ∙ h)

then_grows : (old new : Spot → Option Stamp) → Grows old new → (cause : Option Spot) (o p : Option Stamp) → ((t : Stamp) → o ≡ Some t → p ≡ Some t) → (u : Stamp) →
    option_and_then (after old cause) o ≡ Some u → option_and_then (after new cause) p ≡ Some u
then_grows old new more cause None p same u h = absurd (cc)
then_grows old new more cause (Some t) p same u h = ap (option_and_then (after new cause)) (same t refl) ∙ after_grows old new more cause t u h

stamp_by_grows : (old new : Spot → Option Stamp) → Grows old new → (spot : Spot) (x : Origin) (u : Stamp) → stamp_by old spot x ≡ Some u → stamp_by new spot x ≡ Some u
stamp_by_grows old new more spot x u h =
    let own : Stamp = record { moment = x.at; step = 0 } in
    then_grows old new more x.passed (option_and_then (after old x.planned) (after old (before spot) own)) (option_and_then (after new x.planned) (after new (before spot) own))
    (λ t is. then_grows old new more x.planned (after old (before spot) own) (after new (before spot) own) (λ v was. after_grows old new more (before spot) own v was) t is) u h

stamp_of_grows : (records : List (List Origin)) (old new : Spot → Option Stamp) → Grows old new → (spot : Spot) (u : Stamp) → stamp_of records old spot ≡ Some u → stamp_of records new spot ≡ Some u
stamp_of_grows records old new more spot u h = of (at_spot records spot) refl
  where
    of : (o : Option Origin) → at_spot records spot ≡ o → stamp_of records new spot ≡ Some u
    of None is = absurd (let e : option_and_then (stamp_by old spot) None ≡ Some u = ap (option_and_then (stamp_by old spot)) (sym is) ∙ h in cc)
    of (Some x) is = ap (option_and_then (stamp_by new spot)) is ∙ stamp_by_grows old new more spot x u (ap (option_and_then (stamp_by old spot)) (sym is) ∙ h)

pub front_more : (records : List (List Origin)) (stamps : List (List Stamp)) (node : ℕ) (t : Stamp) → IsFront records stamps → node < length stamps → next_of records stamps node ≡ Some t →
    IsFront records (pushed stamps node t)
front_more records stamps node t front below ready = record {
  nodes = length-set stamps node (get_or stamps node [] ++ t ∷ []) ∙ front.nodes;
  each = λ spot u known. ⊎_elim (at_node spot u known) (elsewhere spot u known) (cases_eq spot.node node);
}
  where
    more : Grows (at_spot stamps) (at_spot (pushed stamps node t))
    more = grows stamps node t below

    elsewhere : (spot : Spot) (u : Stamp) → at_spot (pushed stamps node t) spot ≡ Some u → (spot.node ≡ node → ⊥) → stamp_of records (at_spot (pushed stamps node t)) spot ≡ Some u
    elsewhere spot u known other =
        stamp_of_grows records (at_spot stamps) (at_spot (pushed stamps node t)) more spot u (front.each spot u (sym (ap (λ row. slice_get row spot.place) (row_else stamps node t spot.node other)) ∙ known))

    at_node : (spot : Spot) (u : Stamp) → at_spot (pushed stamps node t) spot ≡ Some u → spot.node ≡ node → stamp_of records (at_spot (pushed stamps node t)) spot ≡ Some u
    at_node spot u known same = ⊎_elim
        (λ old. stamp_of_grows records (at_spot stamps) (at_spot (pushed stamps node t)) more spot u (front.each spot u (ap (λ k. slice_get (get_or stamps k []) spot.place) same ∙ old)))
        (λ both. let here : next_spot stamps node ≡ spot = ap (λ k. record { node = k; place = length_at stamps node }) (sym same) ∙ ap (λ p. record { node = spot.node; place = p }) (sym both.0) in
        stamp_of_grows records (at_spot stamps) (at_spot (pushed stamps node t)) more spot u (ap (stamp_of records (at_spot stamps)) (sym here) ∙ (ready ∙ ap (λ x. Some x) both.1)))
        (get_pushed (get_or stamps node []) t spot.place u
        (sym (ap (λ row. slice_get row spot.place) (row_there stamps node t below)) ∙ (ap (λ k. slice_get (get_or (pushed stamps node t) k []) spot.place) (sym same) ∙ known)))

-- ---- lists in memory

pub row_at : {X : Type 0} (vs : List (Vec X Global)) (k : ℕ) (v : Vec X Global) → k < length vs → v ≡ get_or vs k v → get_or (lists_of vs) k [] ≡ v.items
row_at vs k v below is = get_or-map items_of vs k v [] below ∙ ap items_of (sym is)

pub below_rows : {X Y Z : Type 0} (xs : List (Vec X Global)) (ys : List (Vec Y Global)) (zs : List (Vec Z Global)) (k : ℕ) → length (lists_of xs) ≡ length (lists_of ys) → length (lists_of zs) ≡ length (lists_of ys) → k < length xs → k < length (lists_of zs)
below_rows xs ys zs k e f below = let a = length-map xs items_of in omega (arith, a, e, f, below)
