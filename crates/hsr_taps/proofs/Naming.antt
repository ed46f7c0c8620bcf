-- What the names of interfaces tell.
use Rattle.std.proofs.Common.{◌≡◌, ℕ, ◌+◌, ◌≤◌, Bool, true, false, cond, List, [], ◌∷◌, ◌++◌, length, drop, get_or, refl, sym, ap, subst, ◌∙◌, arith, Option, Some, None}
use Rattle.std.specs.List.{list_any}
use Rattle.std.specs.Prelude.{nat_eq, slice_get}
use Rattle.std.specs.Str.{bytes_eq}
use Rattle.std.proofs.lemmas.Bool.{cond-false, cond-true}
use Rattle.std.proofs.lemmas.List.{drop_more, length_push}
use Rattle.std.proofs.lemmas.List.Folds.{list_any_at}
use Rattle.std.proofs.lemmas.Option.{get_or_from_slice_get, same_Some, slice_get_within}
use Rattle.std.proofs.lemmas.Slice.Eq.{bytes_eq-Decides}
use Rattle.hsr_capture_reader.specs.Fields.{InterfaceFields}
use Rattle.hsr_taps.specs.Asked.{ChoiceFields, PointFields}
use Rattle.hsr_taps.specs.Named.{AreOwners, IsOwner, asked_for, before_last, names_from, owner_of, with_name, with_owner}
use Rattle.hsr_taps.specs.Tallies.{is_at}
use Rattle.hsr_taps.proofs.Tallying.{all_more, slice_get_left}

-- what stands in front of the last octet of all, if that is the one
pub before_own : (octet : ℕ) (text : List ℕ) (last : ℕ) → nat_eq last octet ≡ true → before_last octet (text ++ last ∷ []) ≡ Some text
before_own octet [] last is = rw is refl
before_own octet (b ∷ text) last is = rw (before_own octet text last is) refl

-- another one at the end changes nothing
pub before_other : (octet : ℕ) (text : List ℕ) (last : ℕ) → nat_eq last octet ≡ false → before_last octet (text ++ last ∷ []) ≡ before_last octet text
before_other octet [] last other = rw other refl
before_other octet (b ∷ text) last other = rw (before_other octet text last other) refl

-- ---- what was asked for

-- what is left answers for all, one step on
pub asked_step : (i : ℕ) (points : List PointFields) (k : ℕ) (p : PointFields) (name new all : List ℕ) → slice_get points k ≡ Some p → new ≡ cond (list_any (λ j. nat_eq j i) p.interfaces) p.name name
    → asked_for i name (drop k points) ≡ all → asked_for i new (drop (k + 1) points) ≡ all
asked_step i points k p name new all here is told =
    ap (λ n. asked_for i n (drop (k + 1) points)) is
    ∙ sym (ap (asked_for i name) (drop_more points k p (slice_get_within points k p here) ∙ ap (λ x. x ∷ drop (k + 1) points) (get_or_from_slice_get points k p p here))) ∙ told

-- ---- points

name_there : (names : List (List ℕ)) (k : ℕ) (name : List ℕ) → slice_get names k ≡ Some name → list_any (λ other. bytes_eq other name) names ≡ true
name_there names k name here =
    list_any_at (λ other. bytes_eq other name) names k name (slice_get_within names k name here)
    ((bytes_eq-Decides (get_or names k name) name).1 (get_or_from_slice_get names k name name here))

pub name_kept : (names : List (List ℕ)) (k : ℕ) (name : List ℕ) → slice_get names k ≡ Some name → names ≡ with_name names name
name_kept names k name here = sym (cond-true _ names (names ++ name ∷ []) (name_there names k name here))

pub name_put : (names new : List (List ℕ)) (name : List ℕ) → list_any (λ other. bytes_eq other name) names ≡ false → new ≡ names ++ name ∷ [] → new ≡ with_name names name
name_put names new name none is = is ∙ sym (cond-false _ names (names ++ name ∷ []) none)

-- a name stays where it is
pub name_stays : (names : List (List ℕ)) (name : List ℕ) (k : ℕ) (x : List ℕ) → slice_get names k ≡ Some x → slice_get (with_name names name) k ≡ Some x
name_stays names name k x here = by_case (list_any (λ other. bytes_eq other name) names)
  where
    by_case : (b : Bool) → slice_get (cond b names (names ++ name ∷ [])) k ≡ Some x
    by_case true = here
    by_case false = slice_get_left names (name ∷ []) k (slice_get_within names k x here) ∙ here

-- the names of the interfaces that are left, one step on
pub names_step : (choice : ChoiceFields) (looked : List Bool) (names all : List (List ℕ)) (i : ℕ) (interfaces : List InterfaceFields) (interface : InterfaceFields) → slice_get interfaces i ≡ Some interface
    → names_from choice looked names i (drop i interfaces) ≡ all → names_from choice looked (with_owner choice looked names i interface) (i + 1) (drop (i + 1) interfaces) ≡ all
names_step choice looked names all i interfaces interface here is =
    ap (λ x. names_from choice looked (with_owner choice looked names i x) (i + 1) (drop (i + 1) interfaces)) (sym (get_or_from_slice_get interfaces i interface interface here))
    ∙ sym (ap (names_from choice looked names i) (drop_more interfaces i interface (slice_get_within interfaces i interface here))) ∙ is

pub owner_put : (choice : ChoiceFields) (looked : List Bool) (names : List (List ℕ)) (i : ℕ) (interface : InterfaceFields) → is_at looked i ≡ true
    → with_owner choice looked names i interface ≡ with_name names (owner_of choice i interface)
owner_put choice looked names i interface is = cond-true _ (with_name names (owner_of choice i interface)) names is

pub no_owner_put : (choice : ChoiceFields) (looked : List Bool) (names : List (List ℕ)) (i : ℕ) (interface : InterfaceFields) → is_at looked i ≡ false → with_owner choice looked names i interface ≡ names
no_owner_put choice looked names i interface is = cond-false _ (with_name names (owner_of choice i interface)) names is

-- ---- owners

still_owner : (points new : List (List ℕ)) (name : List ℕ) (looked : Bool) (owner : Option ℕ) → ((k : ℕ) (x : List ℕ) → slice_get points k ≡ Some x → slice_get new k ≡ Some x)
    → IsOwner points name looked owner → IsOwner new name looked owner
still_owner points new name true None stays is = is
still_owner points new name true (Some k) stays is = stays k name is
still_owner points new name false owner stays is = is

pub owner_is : (points : List (List ℕ)) (name : List ℕ) (k : ℕ) (looked : Bool) → looked ≡ true → slice_get points k ≡ Some name → IsOwner points name looked (Some k)
owner_is points name k true is here = here
owner_is points name k false is here = absurd cc

pub no_owner : (points : List (List ℕ)) (name : List ℕ) (looked : Bool) → looked ≡ false → IsOwner points name looked None
no_owner points name true is = absurd cc
no_owner points name false is = refl

pub owners_more : (choice : ChoiceFields) (looked : List Bool) (interfaces : List InterfaceFields) (points new : List (List ℕ)) (owners told : List (Option ℕ)) (i : ℕ) (interface : InterfaceFields)
    (owner : Option ℕ) → length owners ≡ i → slice_get interfaces i ≡ Some interface → told ≡ owners ++ owner ∷ []
    → ((k : ℕ) (x : List ℕ) → slice_get points k ≡ Some x → slice_get new k ≡ Some x) → IsOwner new (owner_of choice i interface) (is_at looked i) owner
    → AreOwners choice looked interfaces points owners → AreOwners choice looked interfaces new told
owners_more choice looked interfaces points new owners told i interface owner long here is stays own all k other x there at_k =
    all_more (λ k x. (other : InterfaceFields) → slice_get interfaces k ≡ Some other → IsOwner new (owner_of choice k other) (is_at looked k) x) owners told i owner long is
    (λ k x at_k other there. still_owner points new (owner_of choice k other) (is_at looked k) x stays (all k other x there at_k))
    (λ other there. subst (λ o. IsOwner new (owner_of choice i o) (is_at looked i) owner) (same_Some _ _ (sym here ∙ there)) own) k x at_k other there

-- ---- how many points

few_with : (names : List (List ℕ)) (name : List ℕ) → length (with_name names name) ≤ length names + 1
few_with names name = by_case (list_any (λ other. bytes_eq other name) names)
  where
    by_case : (b : Bool) → length (cond b names (names ++ name ∷ [])) ≤ length names + 1
    by_case true = omega arith
    by_case false = let more : length (names ++ name ∷ []) ≡ length names + 1 = length_push names name in omega (arith, more)

few_owner : (choice : ChoiceFields) (looked : List Bool) (names : List (List ℕ)) (i : ℕ) (interface : InterfaceFields) → length (with_owner choice looked names i interface) ≤ length names + 1
few_owner choice looked names i interface = by_case (is_at looked i)
  where
    by_case : (b : Bool) → length (cond b (with_name names (owner_of choice i interface)) names) ≤ length names + 1
    by_case true = few_with names (owner_of choice i interface)
    by_case false = omega arith

pub few_names : (choice : ChoiceFields) (looked : List Bool) (names : List (List ℕ)) (i : ℕ) (interfaces : List InterfaceFields)
    → length (names_from choice looked names i interfaces) ≤ length names + length interfaces
few_names choice looked names i [] = omega arith
few_names choice looked names i (interface ∷ rest) =
    let here = few_owner choice looked names i interface in
    let later = few_names choice looked (with_owner choice looked names i interface) (i + 1) rest in
    omega (arith, here, later)

pub owner_stays : (choice : ChoiceFields) (looked : List Bool) (names : List (List ℕ)) (i : ℕ) (interface : InterfaceFields) (k : ℕ) (x : List ℕ) → slice_get names k ≡ Some x
    → slice_get (with_owner choice looked names i interface) k ≡ Some x
owner_stays choice looked names i interface k x here = by_case (is_at looked i)
  where
    by_case : (b : Bool) → slice_get (cond b (with_name names (owner_of choice i interface)) names) k ≡ Some x
    by_case true = name_stays names (owner_of choice i interface) k x here
    by_case false = here
