-- Tests of addresses, and what they tell.
use Rattle.std.proofs.Common.{◌≡◌, ℕ, ◌<◌, ◌||◌, Bool, true, false, List, [], ◌∷◌, length, take, slice_index_or, Some, sym, ◌∙◌, subst, arith, zero, suc, ⊎_elim}
use Rattle.std.specs.Prelude.{slice_get}
use Rattle.std.specs.List.{list_any}
use Rattle.std.proofs.lemmas.Bool.{cases_Bool, cases_lt, false≢true, or_cases, or_left, or_right}
use Rattle.std.proofs.lemmas.List.{get_or_default}
use Rattle.hsr_node.specs.declared.place.Place.{Place}
use Rattle.hsr_node.specs.declared.place.Place.TheVariants.{Danh, RedBox, QuadBox, Station}
use Rattle.hsr_node.specs.Place.{owns}
use Rattle.hsr_run_laws.proofs.Same.{address_same, same_address}
use Rattle.hsr_run_laws.specs.Run.{Run, place_of}
use Rattle.hsr_network_laws.specs.Network.{HasAddress}
use Rattle.hsr_frame.specs.Address.{is_same_address}
use Rattle.hsr_routes.specs.Addressed.{OwnBelow, shares, shares_any}
use Rattle.hsr_routes.specs.Networks.{HaveOwnAddresses}

-- ---- lists

pub record IsSomewhere {X : Type 0} (p : X → Bool) (xs : List X) : Type 0 where
  i : ℕ
  x : X
  got : slice_get xs i ≡ Some x
  is : p x ≡ true

pub somewhere : {X : Type 0} (p : X → Bool) (xs : List X) → list_any p xs ≡ true → IsSomewhere p xs
somewhere p [] h = absurd (false≢true h)
somewhere p (x ∷ xs) h =
    ⊎_elim (λ here. record { i = zero; x = x; got = Rattle.std.proofs.Common.refl; is = here })
    (λ later. let at = somewhere p xs later in record { i = suc at.i; x = at.x; got = at.got; is = at.is })
    (or_cases (p x) (list_any p xs) h)

pub any_at : {X : Type 0} (p : X → Bool) (xs : List X) (i : ℕ) (x : X) → slice_get xs i ≡ Some x → p x ≡ true → list_any p xs ≡ true
any_at p [] i x got is = absurd (none got)
  where
    none : Rattle.std.proofs.Common.None ≡ Some x → ⊥
    none e = cc
any_at p (y ∷ xs) zero x got is =
    let same : Some y ≡ Some x = got in
    let equal : y ≡ x = cc in
    or_left (p y) (list_any p xs) (subst (λ z. p z ≡ true) (sym equal) is)
any_at p (y ∷ xs) (suc i) x got is = or_right (p y) (list_any p xs) (any_at p xs i x got is)

-- ---- one node

pub owner_has : (place : Place) (mac : List ℕ) → owns place mac ≡ true → HasAddress place mac
owner_has (Danh own mode) mac h = sym (same_address own mac h)
owner_has (RedBox own mode) mac h = sym (same_address own mac h)
owner_has QuadBox mac h = absurd (false≢true h)
owner_has (Station macs) mac h =
    let at = somewhere _ macs.items h in
    let same : at.x ≡ mac = the_same at.x at.is in
    (at.i, subst (λ x. slice_get macs.items at.i ≡ Some x) same at.got)
  where
    the_same : (x : List ℕ) → is_same_address x mac ≡ true → x ≡ mac
    the_same x e = same_address x mac e

pub has_owner : (place : Place) (mac : List ℕ) → HasAddress place mac → owns place mac ≡ true
has_owner (Danh own mode) mac e = address_same own mac (sym e)
has_owner (RedBox own mode) mac e = address_same own mac (sym e)
has_owner QuadBox mac e = absurd e
has_owner (Station macs) mac e = any_at _ macs.items e.0 mac e.1 (address_same mac mac Rattle.std.proofs.Common.refl)

-- ---- two nodes

pub record HaveOne (place other : Place) : Type 0 where
  mac : List ℕ
  first : HasAddress place mac
  second : HasAddress other mac

pub sharers : (place other : Place) → shares place other ≡ true → HaveOne place other
sharers (Danh mac mode) other h = record { mac = mac; first = Rattle.std.proofs.Common.refl; second = owner_has other mac h }
sharers (RedBox mac mode) other h = record { mac = mac; first = Rattle.std.proofs.Common.refl; second = owner_has other mac h }
sharers QuadBox other h = absurd (false≢true h)
sharers (Station macs) other h =
    let at = somewhere (owns other) macs.items h in
    record { mac = at.x; first = (at.i, at.got); second = owner_has other at.x at.is }

pub so_shares : (place other : Place) (mac : List ℕ) → HasAddress place mac → HasAddress other mac → shares place other ≡ true
so_shares (Danh own mode) other mac first second = has_owner other own (subst (HasAddress other) first second)
so_shares (RedBox own mode) other mac first second = has_owner other own (subst (HasAddress other) first second)
so_shares QuadBox other mac first second = absurd first
so_shares (Station macs) other mac first second = any_at (owns other) macs.items first.0 mac first.1 (has_owner other mac second)

-- ---- a node and those before it

record IsEarlier (p : Place → Bool) (places : List Place) (n : ℕ) : Type 0 where
  i : ℕ
  low : i < n
  below : i < length places
  is : p (slice_index_or places i QuadBox) ≡ true

before_any : (p : Place → Bool) (places : List Place) (n : ℕ) → list_any p (take n places) ≡ true → IsEarlier p places n
before_any p places zero h = absurd (false≢true h)
before_any p [] (suc n) h = absurd (false≢true h)
before_any p (x ∷ xs) (suc n) h =
    ⊎_elim (λ here. record { i = zero; low = omega arith; below = omega arith; is = here })
    (λ later. let at = before_any p xs n later in let low = at.low in let below = at.below in record { i = suc at.i; low = omega (arith, low); below = omega (arith, below); is = at.is })
    (or_cases (p x) (list_any p (take n xs)) h)

any_before : (p : Place → Bool) (places : List Place) (n i : ℕ) → i < n → i < length places → p (slice_index_or places i QuadBox) ≡ true → list_any p (take n places) ≡ true
any_before p [] n i low below is = absurd (omega (arith, below))
any_before p (x ∷ xs) zero i low below is = absurd (omega (arith, low))
any_before p (x ∷ xs) (suc n) zero low below is = or_left (p x) (list_any p (take n xs)) is
any_before p (x ∷ xs) (suc n) (suc i) low below is = or_right (p x) (list_any p (take n xs)) (any_before p xs n i (omega (arith, low)) (omega (arith, below)) is)

pub own_of_below : (run : Run) → OwnBelow run.places (length run.places) → HaveOwnAddresses run
unfolding shares_any
own_of_below run own i j mac low high first second =
    ⊎_elim (λ lower. absurd (clash i j lower low high first second))
    (λ at_least. ⊎_elim (λ lower. absurd (clash j i lower high low second first)) (λ at_most. omega (arith, at_least, at_most)) (cases_lt j i))
    (cases_lt i j)
  where
    clash : (i j : ℕ) → i < j → i < length run.places → j < length run.places → HasAddress (place_of run i) mac → HasAddress (place_of run j) mac → ⊥
    clash i j lower low high first second =
        false≢true (sym (own j QuadBox high) ∙ any_before (shares (place_of run j)) run.places j i lower low (so_shares (place_of run j) (place_of run i) mac second first))

pub below_of_own : (run : Run) → HaveOwnAddresses run → OwnBelow run.places (length run.places)
unfolding shares_any
below_of_own run own k d below =
    ⊎_elim (λ again. absurd (clash again)) (λ no. no) (cases_Bool (list_any (shares (slice_index_or run.places k d)) (take k run.places)))
  where
    clash : list_any (shares (slice_index_or run.places k d)) (take k run.places) ≡ true → ⊥
    clash again =
        let P : Place → Type 0 = λ p. list_any (shares p) (take k run.places) ≡ true in
        let at = before_any (shares (place_of run k)) run.places k (subst P (get_or_default run.places k d QuadBox below) again) in
        let both = sharers (place_of run k) (place_of run at.i) at.is in
        let same = own at.i k both.mac at.below below both.second both.first in
        let low = at.low in
        omega (arith, low, same)
