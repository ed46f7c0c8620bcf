-- Who sent frames, by the numbers of addresses.
use Rattle.std.proofs.Common.{Bool, cond, ◌≡◌, ℕ, zero, suc, ◌+◌, ◌<◌, ◌≤◌, List, [], ◌∷◌, ◌++◌, drop, get_or, length, take, ◌⊎◌, inl, inr, refl, sym, ap, subst, ◌∙◌, arith, true, false, Option, Some, None}
use Rattle.std.specs.Prelude.{nat_lt, slice_get, Contains, IfNone, IfSome}
use Rattle.std.specs.List.{insert}
use Rattle.std.proofs.lemmas.Bool.{cases_order, eq-eqb, eqb-true, ltb-false, ltb-true}
use Rattle.std.proofs.lemmas.Option.{none-some, same_Some, slice_get-get_or, slice_get_within}
use Rattle.std.proofs.lemmas.Slice.Eq.{bytes_eq-Decides}
use Rattle.hsr_address.specs.Numbers.{number_of}
use Rattle.hsr_address.proofs.Numbering.{same_by_number}
use Rattle.hsr_frame.specs.Address.{IsAddress, is_same_address}
use Rattle.hsr_frame_groups.specs.Frames.{CaughtFields}
use Rattle.hsr_health.specs.Counted.{AreSources}
use Rattle.hsr_health.specs.Sources.{AreIndexes, AreMacs, HasManySources, IsIndex, IsPart, IsPlace, IsSourceOf, IsWith, Rise, index_by, index_if, source_number, stands_by}
use Rattle.hsr_sightings.proofs.Gathering.{slice_get_push}

-- ---- places

no_mac : (macs : List (List ℕ)) (k : ℕ) → k < length macs → slice_get macs k ≡ None → ⊥
no_mac [] k below none = omega (arith, below)
no_mac (x ∷ macs) zero below none = absurd cc
no_mac (x ∷ macs) (suc k) below none = no_mac macs k (omega (arith, below)) none

place_step : (macs : List (List ℕ)) (number middle : ℕ) (own : List ℕ) → Rise macs → slice_get macs middle ≡ Some own → number_of own < number → (k : ℕ) (x : List ℕ) → k < middle + 1
    → slice_get macs k ≡ Some x → number_of x < number
place_step macs number middle own rise here less k x below at_k = by_order (cases_order k middle)
  where
    by_order : (k ≡ middle) ⊎ ((k < middle) ⊎ (middle < k)) → number_of x < number
    by_order (inl same) = let its : x ≡ own = same_Some x own (sym at_k ∙ ap (slice_get macs) same ∙ here) in omega (arith, less, ap number_of its)
    by_order (inr (inl before)) = let lower = rise k middle x own before at_k here in omega (arith, lower, less)
    by_order (inr (inr after)) = absurd (omega (arith, after, below))

place_above : (macs : List (List ℕ)) (number middle : ℕ) (own : List ℕ) → Rise macs → slice_get macs middle ≡ Some own → number ≤ number_of own → (k : ℕ) (x : List ℕ) → middle ≤ k
    → slice_get macs k ≡ Some x → number ≤ number_of x
place_above macs number middle own rise here more k x from at_k = by_order (cases_order k middle)
  where
    by_order : (k ≡ middle) ⊎ ((k < middle) ⊎ (middle < k)) → number ≤ number_of x
    by_order (inl same) = let its : x ≡ own = same_Some x own (sym at_k ∙ ap (slice_get macs) same ∙ here) in omega (arith, more, ap number_of its)
    by_order (inr (inl before)) = absurd (omega (arith, before, from))
    by_order (inr (inr after)) = let higher = rise middle k own x after here at_k in omega (arith, higher, more)

-- the halves of what is left
pub part_upper : (macs : List (List ℕ)) (number middle low high : ℕ) → Rise macs → middle < high → low ≤ middle → ((own : List ℕ) → slice_get macs middle ≡ Some own → nat_lt (number_of own) number ≡ true)
    → IsPart macs number low high → IsPart macs number (middle + 1) high
part_upper macs number middle low high rise before behind less is = by_own (slice_get macs middle) refl
  where
    by_own : (o : Option (List ℕ)) → slice_get macs middle ≡ o → IsPart macs number (middle + 1) high
    by_own None none = absurd (no_mac macs middle (omega (arith, before, is.within)) none)
    by_own (Some own) here = record {
      order = omega (arith, before);
      within = is.within;
      below = λ k x under at_k. place_step macs number middle own rise here (ltb-true (number_of own) number (less own here)) k x under at_k;
      above = is.above;
    }

pub part_lower : (macs : List (List ℕ)) (number middle low high : ℕ) → Rise macs → middle < high → low ≤ middle → high ≤ length macs
    → ((own : List ℕ) → slice_get macs middle ≡ Some own → nat_lt (number_of own) number ≡ false) → IsPart macs number low high → IsPart macs number low middle
part_lower macs number middle low high rise before behind inside more is = by_own (slice_get macs middle) refl
  where
    by_own : (o : Option (List ℕ)) → slice_get macs middle ≡ o → IsPart macs number low middle
    by_own None none = absurd (no_mac macs middle (omega (arith, before, is.within)) none)
    by_own (Some own) here = record {
      order = behind;
      within = omega (arith, before, is.within);
      below = is.below;
      above = λ k x from at_k. place_above macs number middle own rise here (ltb-false (number_of own) number (more own here)) k x from at_k;
    }

pub part_all : (macs : List (List ℕ)) (number high : ℕ) → high ≡ length macs → IsPart macs number 0 high
part_all macs number high long = record {
  order = omega arith;
  within = omega (arith, long);
  below = λ k own under at_k. absurd (omega (arith, under));
  above = λ k own from at_k. let inside = slice_get_within macs k own at_k in absurd (omega (arith, inside, from, long));
}

pub place_found : (macs : List (List ℕ)) (number low high : ℕ) → high ≤ low → IsPart macs number low high → IsPlace macs number low
place_found macs number low high over is = record {
  below = is.below;
  above = λ k own from at_k. is.above k own (omega (arith, from, over, is.order)) at_k;
}

-- an address with a number stands at its place
index_at : (macs : List (List ℕ)) (number place : ℕ) → Rise macs → (k : ℕ) × IsIndex macs number k → IsPlace macs number place → IsIndex macs number place
index_at macs number place rise found is = by_order (cases_order found.0 place)
  where
    by_order : (found.0 ≡ place) ⊎ ((found.0 < place) ⊎ (place < found.0)) → IsIndex macs number place
    by_order (inl same) = record { own = found.1.own; there = ap (slice_get macs) (sym same) ∙ found.1.there; is = found.1.is }
    by_order (inr (inl before)) = let less = is.below found.0 found.1.own before found.1.there in absurd (omega (arith, less, found.1.is))
    by_order (inr (inr after)) =
        let inside = slice_get_within macs found.0 found.1.own found.1.there in
        let here = slice_get-get_or macs place found.1.own (omega (arith, after, inside)) in
        let more = is.above place (get_or macs place found.1.own) (omega arith) here in
        let less = rise place found.0 (get_or macs place found.1.own) found.1.own after here found.1.there in
        absurd (omega (arith, more, less, found.1.is))

-- the index of a copy's source, where it was looked for
pub source_at : (copies : List CaughtFields) (macs : List (List ℕ)) (i place : ℕ) (c : CaughtFields) → AreMacs copies (length copies) macs → slice_get copies i ≡ Some c → IsAddress c.copy.src
    → IsPlace macs (source_number c) place → slice_get macs place ≡ Some c.copy.src
source_at copies macs i place c are here address at =
    let found = index_at macs (source_number c) place are.rise (are.there i c (slice_get_within copies i c here) here) at in
    found.there ∙ ap Some (same_by_number found.own c.copy.src (are.sources place found.own found.there).1 address found.is)

pub indexes_more : (copies : List CaughtFields) (macs : List (List ℕ)) (indexes new : List ℕ) (i own : ℕ) (c : CaughtFields) → length indexes ≡ i → new ≡ indexes ++ own ∷ [] → slice_get copies i ≡ Some c
    → slice_get macs own ≡ Some c.copy.src → ((j k : ℕ) (x : CaughtFields) → slice_get copies j ≡ Some x → slice_get indexes j ≡ Some k → slice_get macs k ≡ Some x.copy.src) → (j k : ℕ) (x : CaughtFields)
    → slice_get copies j ≡ Some x → slice_get new j ≡ Some k → slice_get macs k ≡ Some x.copy.src
indexes_more copies macs indexes new i own c long is here own_is each j k x at_j index_j = by_case (slice_get_push indexes own k j (ap (λ l. slice_get l j) (sym is) ∙ index_j))
  where
    by_case : (slice_get indexes j ≡ Some k) ⊎ ((j ≡ length indexes) × (k ≡ own)) → slice_get macs k ≡ Some x.copy.src
    by_case (inl old) = each j k x at_j old
    by_case (inr last) =
        let same : x ≡ c = same_Some x c (sym at_j ∙ ap (slice_get copies) (last.0 ∙ long) ∙ here) in
        ap (slice_get macs) last.1 ∙ own_is ∙ ap (λ (y : CaughtFields). Some y.copy.src) (sym same)

-- ---- an address among others

index_found : (macs : List (List ℕ)) (place : ℕ) (mac : List ℕ) (k : ℕ) → index_if macs place mac ≡ Some k → slice_get macs k ≡ Some mac
index_found macs place mac k is = by_own (slice_get macs place) refl is
  where
    by_same : (own : List ℕ) → slice_get macs place ≡ Some own → (b : Bool) → is_same_address own mac ≡ b → cond b (Some place) None ≡ Some k → slice_get macs k ≡ Some mac
    by_same own here true same found = ap (slice_get macs) (sym (same_Some place k found)) ∙ here ∙ ap Some ((bytes_eq-Decides own mac).0 same)
    by_same own here false same found = absurd (none-some k found)

    by_own : (o : Option (List ℕ)) → slice_get macs place ≡ o → index_by place mac o ≡ Some k → slice_get macs k ≡ Some mac
    by_own None none found = absurd (none-some k found)
    by_own (Some own) here found = by_same own here (is_same_address own mac) refl found

index_none : (macs : List (List ℕ)) (place : ℕ) (mac : List ℕ) → index_if macs place mac ≡ None → IsPlace macs (number_of mac) place → Rise macs → Contains macs mac → ⊥
index_none macs place mac is at rise has = by_own (slice_get macs place) refl is
  where
    here : slice_get macs has.0 ≡ Some mac
    here = slice_get-get_or macs has.0 mac has.1 ∙ ap Some has.2

    own : IsIndex macs (number_of mac) place
    own = index_at macs (number_of mac) place rise (has.0, record { own = mac; there = here; is = refl }) at

    same_place : place ≡ has.0
    same_place = by_order (cases_order place has.0)
      where
        by_order : (place ≡ has.0) ⊎ ((place < has.0) ⊎ (has.0 < place)) → place ≡ has.0
        by_order (inl same) = same
        by_order (inr (inl before)) = let less = rise place has.0 own.own mac before own.there here in absurd (omega (arith, less, own.is))
        by_order (inr (inr after)) = let less = rise has.0 place mac own.own after here own.there in absurd (omega (arith, less, own.is))

    by_own : (o : Option (List ℕ)) → slice_get macs place ≡ o → index_by place mac o ≡ None → ⊥
    by_own None none found = absurd (none-some mac (sym none ∙ ap (slice_get macs) same_place ∙ here))
    by_own (Some x) at_place found =
        let same : x ≡ mac = same_Some x mac (sym at_place ∙ ap (slice_get macs) same_place ∙ here) in
        let mine : is_same_address x mac ≡ true = (bytes_eq-Decides x mac).1 same in
        none-some place (sym found ∙ ap (λ b. cond b (Some place) None) mine)

pub found_if : (macs : List (List ℕ)) (place : ℕ) (mac : List ℕ) (o : Option ℕ) → o ≡ index_if macs place mac → IfSome o (λ k. slice_get macs k ≡ Some mac)
found_if macs place mac None is = tt
found_if macs place mac (Some k) is = index_found macs place mac k (sym is)

pub none_if : (macs : List (List ℕ)) (place : ℕ) (mac : List ℕ) (o : Option ℕ) → o ≡ index_if macs place mac → (Rise macs → IsPlace macs (number_of mac) place) → IfNone o (Rise macs → Contains macs mac → ⊥)
none_if macs place mac None is at = λ rise has. index_none macs place mac (sym is) (at rise) rise has
none_if macs place mac (Some k) is at = tt

-- ---- one address more

inserted_at : {X : Type 0} (xs : List X) (n : ℕ) (x y : X) (k : ℕ) → n ≤ length xs → slice_get (take n xs ++ x ∷ drop n xs) k ≡ Some y
    → ((k < n) × (slice_get xs k ≡ Some y)) ⊎ (((k ≡ n) × (y ≡ x)) ⊎ ((j : ℕ) × (k ≡ j + 1) × (n ≤ j) × (slice_get xs j ≡ Some y)))
inserted_at xs zero x y zero within here = inr (inl (refl, same_Some y x (sym here)))
inserted_at xs zero x y (suc j) within here = inr (inr (j, omega arith, omega arith, here))
inserted_at [] (suc n) x y k within here = absurd (omega (arith, within))
inserted_at (z ∷ xs) (suc n) x y zero within here = inl (omega arith, here)
inserted_at {X} (z ∷ xs) (suc n) x y (suc k) within here = by_case (inserted_at xs n x y k (omega (arith, within)) here)
  where
    by_case : ((k < n) × (slice_get xs k ≡ Some y)) ⊎ (((k ≡ n) × (y ≡ x)) ⊎ ((j : ℕ) × (k ≡ j + 1) × (n ≤ j) × (slice_get xs j ≡ Some y)))
        → ((suc k < suc n) × (slice_get (z ∷ xs) (suc k) ≡ Some y)) ⊎ (((suc k ≡ suc n) × (y ≡ x)) ⊎ ((j : ℕ) × (suc k ≡ j + 1) × (suc n ≤ j) × (slice_get (z ∷ xs) j ≡ Some y)))
    by_case (inl before) = inl (omega (arith, before.0), before.1)
    by_case (inr (inl own)) = inr (inl (ap suc own.0, own.1))
    by_case (inr (inr behind)) = inr (inr (suc behind.0, omega (arith, behind.1), omega (arith, behind.2), behind.3))

inserted_kept : {X : Type 0} (xs : List X) (n : ℕ) (x y : X) (j : ℕ) → slice_get xs j ≡ Some y → (k : ℕ) × (slice_get (take n xs ++ x ∷ drop n xs) k ≡ Some y)
inserted_kept xs zero x y j here = (suc j, here)
inserted_kept [] (suc n) x y j here = absurd (none-some y here)
inserted_kept (z ∷ xs) (suc n) x y zero here = (zero, here)
inserted_kept (z ∷ xs) (suc n) x y (suc j) here = let rest = inserted_kept xs n x y j here in (suc rest.0, rest.1)

inserted_there : {X : Type 0} (xs : List X) (n : ℕ) (x : X) → n ≤ length xs → slice_get (take n xs ++ x ∷ drop n xs) n ≡ Some x
inserted_there xs zero x within = refl
inserted_there [] (suc n) x within = absurd (omega (arith, within))
inserted_there (z ∷ xs) (suc n) x within = inserted_there xs n x (omega (arith, within))

-- no address from its place on has a number, or a lesser one
above_place : (macs : List (List ℕ)) (number place : ℕ) → Rise macs → IsPlace macs number place → stands_by number (slice_get macs place) ≡ false → (j : ℕ) (own : List ℕ) → place ≤ j
    → slice_get macs j ≡ Some own → number < number_of own
above_place macs number place rise at none j own from here = by_order (cases_order place j)
  where
    by_order : (place ≡ j) ⊎ ((place < j) ⊎ (j < place)) → number < number_of own
    by_order (inl same) =
        let other : (number_of own ≡ number → ⊥) = λ e. let is : true ≡ false = sym (eq-eqb (number_of own) number e) ∙ sym (ap (stands_by number) (ap (slice_get macs) same ∙ here)) ∙ none in absurd cc in
        let more = at.above j own from here in
        by_cases other more (cases_order number (number_of own))
      where
        by_cases : (number_of own ≡ number → ⊥) → number ≤ number_of own → (number ≡ number_of own) ⊎ ((number < number_of own) ⊎ (number_of own < number)) → number < number_of own
        by_cases other more (inl is) = absurd (other (sym is))
        by_cases other more (inr (inl less)) = less
        by_cases other more (inr (inr over)) = absurd (omega (arith, over, more))
    by_order (inr (inl before)) =
        let inside = slice_get_within macs j own here in
        let at_place = slice_get-get_or macs place own (omega (arith, before, inside)) in
        let more = at.above place (get_or macs place own) (omega arith) at_place in
        let less = rise place j (get_or macs place own) own before at_place here in
        omega (arith, more, less)
    by_order (inr (inr after)) = absurd (omega (arith, after, from))

inserted_rise : (macs : List (List ℕ)) (mac : List ℕ) (place : ℕ) → place ≤ length macs → Rise macs → IsPlace macs (number_of mac) place → stands_by (number_of mac) (slice_get macs place) ≡ false
    → Rise (take place macs ++ mac ∷ drop place macs)
inserted_rise macs mac place within rise at none j k a b before at_j at_k = by_case (inserted_at macs place mac a j within at_j) (inserted_at macs place mac b k within at_k)
  where
    Cases : ℕ → List ℕ → Type 0
    Cases n own = ((n < place) × (slice_get macs n ≡ Some own)) ⊎ (((n ≡ place) × (own ≡ mac)) ⊎ ((m : ℕ) × (n ≡ m + 1) × (place ≤ m) × (slice_get macs m ≡ Some own)))

    by_case : Cases j a → Cases k b → number_of a < number_of b
    by_case (inl x) (inl y) = rise j k a b before x.1 y.1
    by_case (inl x) (inr (inl y)) = let less = at.below j a x.0 x.1 in omega (arith, less, ap number_of y.1)
    by_case (inl x) (inr (inr y)) = rise j y.0 a b (omega (arith, x.0, y.2)) x.1 y.3
    by_case (inr (inl x)) (inl y) = absurd (omega (arith, before, x.0, y.0))
    by_case (inr (inl x)) (inr (inl y)) = absurd (omega (arith, before, x.0, y.0))
    by_case (inr (inl x)) (inr (inr y)) = let more = above_place macs (number_of mac) place rise at none y.0 b y.2 y.3 in omega (arith, more, ap number_of x.1)
    by_case (inr (inr x)) (inl y) = absurd (omega (arith, before, x.1, x.2, y.0))
    by_case (inr (inr x)) (inr (inl y)) = absurd (omega (arith, before, x.1, x.2, y.0))
    by_case (inr (inr x)) (inr (inr y)) = rise x.0 y.0 a b (omega (arith, before, x.1, y.1)) x.3 y.3

-- an address was there
pub with_old : (macs : List (List ℕ)) (mac : List ℕ) (place : ℕ) → stands_by (number_of mac) (slice_get macs place) ≡ true → Rise macs → IsWith macs mac macs
with_old macs mac place stands rise = record {
  rise = rise;
  kept = λ j own here. (j, here);
  there = by_own (slice_get macs place) refl;
  from = λ k own here. inr (k, here);
}
  where
    by_own : (o : Option (List ℕ)) → slice_get macs place ≡ o → (k : ℕ) × IsIndex macs (number_of mac) k
    by_own None none = let is : false ≡ true = sym (ap (stands_by (number_of mac)) none) ∙ stands in absurd cc
    by_own (Some own) here = (place, record { own = own; there = here; is = eqb-true (number_of own) (number_of mac) (sym (ap (stands_by (number_of mac)) here) ∙ stands) })

-- or is put at its place
pub with_new : (macs new : List (List ℕ)) (mac : List ℕ) (place : ℕ) → place ≤ length macs → new ≡ insert macs place mac → stands_by (number_of mac) (slice_get macs place) ≡ false → IsPlace macs (number_of mac) place
    → Rise macs → IsWith macs mac new
with_new macs new mac place within is none at rise = subst (IsWith macs mac) (sym is) (record {
  rise = inserted_rise macs mac place within rise at none;
  kept = λ j own here. inserted_kept macs place mac own j here;
  there = (place, record { own = mac; there = inserted_there macs place mac within; is = refl });
  from = λ k own here. by_case own (inserted_at macs place mac own k within here);
})
  where
    by_case : (own : List ℕ) {k : ℕ} → ((k < place) × (slice_get macs k ≡ Some own)) ⊎ (((k ≡ place) × (own ≡ mac)) ⊎ ((m : ℕ) × (k ≡ m + 1) × (place ≤ m) × (slice_get macs m ≡ Some own)))
        → (own ≡ mac) ⊎ ((j : ℕ) × (slice_get macs j ≡ Some own))
    by_case own {k} (inl before) = inr (k, before.1)
    by_case own {k} (inr (inl here)) = inl here.1
    by_case own {k} (inr (inr behind)) = inr (behind.0, behind.3)

-- ---- the whole

pub macs_none : (copies : List CaughtFields) → AreMacs copies 0 []
macs_none copies = record {
  rise = λ j k a b before at_j at_k. absurd (none-some a at_j);
  there = λ i c below here. absurd (omega (arith, below));
  sources = λ k mac here. absurd (none-some mac here);
}

-- one copy more
macs_with : (copies : List CaughtFields) (i : ℕ) (c : CaughtFields) (old new : List (List ℕ)) → slice_get copies i ≡ Some c → IsAddress c.copy.src → IsWith old c.copy.src new → AreMacs copies i old
    → AreMacs copies (i + 1) new
macs_with copies i c old new here address one are = record {
  rise = one.rise;
  there = λ j x below at_j. by_order j x at_j below (cases_order j i);
  sources = λ k mac at_k. by_from mac (one.from k mac at_k);
}
  where
    by_order : (j : ℕ) (x : CaughtFields) → slice_get copies j ≡ Some x → j < i + 1 → (j ≡ i) ⊎ ((j < i) ⊎ (i < j)) → (k : ℕ) × IsIndex new (source_number x) k
    by_order j x at_j below (inl same) =
        let its : c ≡ x = same_Some c x (sym here ∙ ap (slice_get copies) (sym same) ∙ at_j) in
        subst (λ (y : CaughtFields). (k : ℕ) × IsIndex new (source_number y) k) its one.there
    by_order j x at_j below (inr (inl before)) =
        let was = are.there j x before at_j in
        let now = one.kept was.0 was.1.own was.1.there in
        (now.0, record { own = was.1.own; there = now.1; is = was.1.is })
    by_order j x at_j below (inr (inr after)) = absurd (omega (arith, after, below))

    by_from : (mac : List ℕ) → (mac ≡ c.copy.src) ⊎ ((j : ℕ) × (slice_get old j ≡ Some mac)) → IsSourceOf copies mac × IsAddress mac
    by_from mac (inl is) = (record { place = i; copy = c; there = here; is = sym is }, subst IsAddress (sym is) address)
    by_from mac (inr was) = are.sources was.0 mac was.1

-- the copy that was read
pub macs_more : (copies : List CaughtFields) (i : ℕ) (c : CaughtFields) (mac : List ℕ) (old new : List (List ℕ)) → slice_get copies i ≡ Some c → mac ≡ c.copy.src → IsAddress mac → (Rise old → IsWith old mac new)
    → AreMacs copies i old → AreMacs copies (i + 1) new
macs_more copies i c mac old new here is address one are = macs_with copies i c old new here (subst IsAddress is address) (subst (λ m. IsWith old m new) is (one are.rise)) are

macs_once : (macs : List (List ℕ)) → Rise macs → (j k : ℕ) (mac : List ℕ) → slice_get macs j ≡ Some mac → slice_get macs k ≡ Some mac → j ≡ k
macs_once macs rise j k mac mac_j mac_k = by_order (cases_order j k)
  where
    by_order : (j ≡ k) ⊎ ((j < k) ⊎ (k < j)) → j ≡ k
    by_order (inl same) = same
    by_order (inr (inl before)) = let less = rise j k mac mac before mac_j mac_k in absurd (omega (arith, less))
    by_order (inr (inr after)) = let less = rise k j mac mac after mac_k mac_j in absurd (omega (arith, less))

pub sources_are : (copies : List CaughtFields) (macs : List (List ℕ)) (indexes : List ℕ) → AreMacs copies (length copies) macs → AreIndexes copies macs indexes → AreSources copies macs indexes
sources_are copies macs indexes are indexed = record {
  there = λ k mac mac_k. (are.sources k mac mac_k).0;
  rise = are.rise;
  each = λ i k c here index. indexed.each i k c here index;
  once = macs_once macs are.rise;
  long = indexed.long;
}

pub many_sources : (copies : List CaughtFields) (i : ℕ) (macs : List (List ℕ)) → AreMacs copies i macs → 1024 < length macs → HasManySources copies
many_sources copies i macs are many = record { macs = macs; many = many; there = λ k mac mac_k. (are.sources k mac mac_k).0; once = macs_once macs are.rise }
