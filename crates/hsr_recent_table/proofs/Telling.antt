-- What a table tells of the previous thing with a key, one thing after the other.
use Rattle.std.proofs.Common.{◌≡◌, ◌≢◌, ℕ, zero, suc, ◌+◌, ◌<◌, ◌≤◌, Bool, true, false, cond, List, [], ◌∷◌, length, get_or, refl, sym, ap, subst, ◌∙◌, arith, below_more, Option, Some, None}
use Rattle.std.specs.Prelude.{nat_eq, IfNone, IfSome, option_map, slice_get}
use Rattle.std.proofs.lemmas.Bool.{eqb-true, eqb-false}
use Rattle.hsr_recent_table.specs.Recent.{Knows, Put, horizon_of, latest, moment_of, value_of}
use Rattle.hsr_recent_table.specs.declared.table.RecentTable.{RecentTable}
use Rattle.hsr_recent_table.specs.declared.previous.Keyed.{Keyed}
use Rattle.hsr_recent_table.specs.Previous.{HasOther, IsLatestBefore, IsPreviousOf}
use Rattle.hsr_recent_table.specs.Ready.{IsReady, IsTold, IsToldBy, put_for}

pub there : {X : Type 0} (xs : List X) (i : ℕ) (x : X) → i < length xs → x ≡ get_or xs i x → slice_get xs i ≡ Some x
there [] i x lt is = absurd (omega (arith, lt))
there (y ∷ xs) zero x lt is = ap Some (sym is)
there (y ∷ xs) (suc i) x lt is = there xs i x (omega (arith, lt)) is

same_there : {X : Type 0} (a b : X) → Some a ≡ Some b → a ≡ b
same_there a b h = cc

-- ---- the two answers

pub found_is : (horizon : ℕ) (things : List Keyed) (i : ℕ) (thing : Keyed) (put : Option Put) (j : ℕ) → IsTold things thing.key i put → option_map value_of put ≡ Some j
    → IsPreviousOf horizon things i thing (Some j)
found_is horizon things i thing None j told is = absurd cc
found_is horizon things i thing (Some put) j told is =
    let same : put.value ≡ j = cc in
    subst (IsLatestBefore things thing.key i) same told.latest

pub missing_is : (horizon since moment : ℕ) (things : List Keyed) (i : ℕ) (thing : Keyed) (put : Option Put) → since ≡ horizon → moment ≤ thing.at → IsTold things thing.key i put
    → IfSome put (λ p. p.at + since ≤ moment) → IsPreviousOf horizon things i thing None
missing_is horizon since moment things i thing None is later told old = λ k t below here same. absurd (told k below t here same)
missing_is horizon since moment things i thing (Some put) is later told old = λ k t below here same.
    let before : t.at ≤ put.at = told.moments k t below here same in
    omega (arith, before, old, is, later)

-- ---- one thing more

pub nothing_ready : (horizon : ℕ) (things : List Keyed) (table : RecentTable) → Knows table [] → horizon_of table ≡ horizon → moment_of table ≡ 0 → IsReady horizon things table 0 []
nothing_ready horizon things table knows is moment = record {
  knows = knows;
  told = λ key k below. absurd (omega (arith, below));
  before = λ k t below. absurd (omega (arith, below));
  next = λ t here. omega (arith, moment);
  forgets = is;
}

-- the thing that is put is the latest with its key
put_told : (things : List Keyed) (i key : ℕ) (thing : Keyed) → slice_get things i ≡ Some thing → thing.key ≡ key
    → ((k : ℕ) (t : Keyed) → k < i → slice_get things k ≡ Some t → t.at ≤ thing.at) → IsToldBy things key (i + 1) (put_for thing i)
put_told things i key thing here same before = record {
  latest = record {
    below = omega arith;
    has = record { thing = thing; there = here; same = same };
    others = λ k after until. absurd (omega (arith, after, until));
  };
  moments = λ k. moments k;
}
  where
    own : (t : Keyed) → slice_get things i ≡ Some t → t.at ≤ thing.at
    own t there = let is : thing ≡ t = same_there thing t (sym here ∙ there) in subst (λ (x : Keyed). x.at ≤ thing.at) is (omega arith)

    each : (k : ℕ) → k < i + 1 → (t : Keyed) → slice_get things k ≡ Some t → t.at ≤ thing.at
    each = below_more _ _ (λ k below t. before k t below) own

    moments : (k : ℕ) (t : Keyed) → k < i + 1 → slice_get things k ≡ Some t → t.key ≡ key → t.at ≤ thing.at
    moments k t below there with_key = each k below t there

-- what was told of another key goes on
other_told : (things : List Keyed) (i key : ℕ) (thing : Keyed) (put : Option Put) → slice_get things i ≡ Some thing → thing.key ≢ key → IsTold things key i put → IsTold things key (i + 1) put
other_told things i key thing None here other told = below_more _ _ told (own)
  where
    own : HasOther things key i
    own t there = let is : thing ≡ t = same_there thing t (sym here ∙ there) in subst (λ (x : Keyed). x.key ≢ key) is other
other_told things i key thing (Some put) here other told = record {
  latest = record {
    below = omega (arith, told.latest.below);
    has = told.latest.has;
    others = λ k after until. others k until after;
  };
  moments = λ k t below. moments k below t;
}
  where
    own : HasOther things key i
    own t there = let is : thing ≡ t = same_there thing t (sym here ∙ there) in subst (λ (x : Keyed). x.key ≢ key) is other

    others : (k : ℕ) → k < i + 1 → put.value < k → HasOther things key k
    others = below_more _ _ (λ k below after. told.latest.others k after below) (λ after. own)

    moments : (k : ℕ) → k < i + 1 → (t : Keyed) → slice_get things k ≡ Some t → t.key ≡ key → t.at ≤ put.at
    moments = below_more _ _ (λ k below t. told.moments k t below) (λ t there same. absurd (own t there same))

pub one_more_told : (things : List Keyed) (i key : ℕ) (thing : Keyed) (puts : List Put) → slice_get things i ≡ Some thing
    → ((k : ℕ) (t : Keyed) → k < i → slice_get things k ≡ Some t → t.at ≤ thing.at)
    → IsTold things key i (latest key puts) → IsTold things key (i + 1) (latest key (put_for thing i ∷ puts))
one_more_told things i key thing puts here before told = by_case (nat_eq thing.key key) refl
  where
    by_case : (b : Bool) → nat_eq thing.key key ≡ b → IsTold things key (i + 1) (cond b (Some (put_for thing i)) (latest key puts))
    by_case true is = put_told things i key thing here (eqb-true thing.key key is) before
    by_case false is = other_told things i key thing (latest key puts) here (eqb-false thing.key key is) told

pub one_more_ready : (horizon : ℕ) (things : List Keyed) (old new : RecentTable) (i : ℕ) (puts : List Put) (thing : Keyed)
    → ((j : ℕ) (a b : Keyed) → slice_get things j ≡ Some a → slice_get things (j + 1) ≡ Some b → a.at ≤ b.at)
    → IsReady horizon things old i puts → slice_get things i ≡ Some thing
    → Knows new (put_for thing i ∷ puts) → moment_of new ≡ thing.at → horizon_of new ≡ horizon_of old
    → IsReady horizon things new (i + 1) (put_for thing i ∷ puts)
one_more_ready horizon things old new i puts thing time ready here knows moment is = record {
  knows = knows;
  told = λ key. one_more_told things i key thing puts here earlier (ready.told key);
  before = λ k t below. before k below t;
  next = λ t there. rw moment (time i thing t here there);
  forgets = is ∙ ready.forgets;
}
  where
    earlier : (k : ℕ) (t : Keyed) → k < i → slice_get things k ≡ Some t → t.at ≤ thing.at
    earlier k t below there =
        let to_old : t.at ≤ moment_of old = ready.before k t below there in
        let to_here : moment_of old ≤ thing.at = ready.next thing here in
        omega (arith, to_old, to_here)

    own : (t : Keyed) → slice_get things i ≡ Some t → t.at ≤ moment_of new
    own t there = let is : thing ≡ t = same_there thing t (sym here ∙ there) in subst (λ (x : Keyed). x.at ≤ moment_of new) is (omega (arith, moment))

    before : (k : ℕ) → k < i + 1 → (t : Keyed) → slice_get things k ≡ Some t → t.at ≤ moment_of new
    before = below_more _ _ (λ k below t there. let h = earlier k t below there in omega (arith, h, moment)) own

-- ---- what is found

-- what a table finds is the previous one
pub told_is : (horizon since moment : ℕ) (things : List Keyed) (i : ℕ) (thing : Keyed) (put : Option Put) (found : Option ℕ) → since ≡ horizon → moment ≤ thing.at
    → IsTold things thing.key i put → IfSome found (λ j. option_map value_of put ≡ Some j) → IfNone found (IfSome put (λ p. p.at + since ≤ moment))
    → IsPreviousOf horizon things i thing found
told_is horizon since moment things i thing put None is later told some none = missing_is horizon since moment things i thing put is later told none
told_is horizon since moment things i thing put (Some j) is later told some none = found_is horizon things i thing put j told some
