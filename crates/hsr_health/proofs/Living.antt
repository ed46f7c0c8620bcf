-- How many supervision frames sources sent, one after the other.
use Rattle.std.proofs.Common.{◌≡◌, ℕ, ◌+◌, ◌<◌, ◌&&◌, Bool, true, false, cond, List, [], ◌∷◌, ◌++◌, get_or, take, length, ◌⊎◌, inl, inr, refl, sym, ap, subst, ◌∙◌, arith, Some}
use Rattle.std.specs.Prelude.{nat_eq, count_by, slice_get, slice_index}
use Rattle.std.proofs.lemmas.Bool.{eq-eqb, ne_eqb}
use Rattle.std.proofs.lemmas.List.{take_more}
use Rattle.std.proofs.lemmas.List.Sums.{sum_by_push}
use Rattle.hsr_health.specs.Counted.{changed, one_more}
use Rattle.hsr_health.specs.Loads.{capped}
use Rattle.hsr_health.specs.Whole.{AreAlike, AreAsMany, AreMore, HaveLives, is_alike, is_life_of, life_put, lives_of, one_life, one_unreadable, unreadable_of, with_lives}
use Rattle.hsr_health.specs.declared.counts.Counts.{Counts}
use Rattle.hsr_heard.specs.declared.heard.Heard.{Heard}
use Rattle.hsr_health.proofs.Measuring.{alike_life, alike_on, alike_same, alike_unreadable}
use Rattle.hsr_health.proofs.Sourcing.{changed_at}
use Rattle.hsr_sightings.proofs.Gathering.{slice_get_push}

count_push : {X : Type 0} (p : X → Bool) (xs : List X) (x : X) → count_by p (xs ++ x ∷ []) ≡ count_by p xs + cond (p x) 1 0
count_push p xs x = sum_by_push (λ y. cond (p y) 1 0) xs x

capped_more : (n m : ℕ) → m ≡ capped n → one_more m ≡ capped (n + 1)
capped_more n m is = omega (arith, is)

-- with one more, if it is so, of one of several
pub more_put : {X : Type 0} (field : Counts → ℕ) (f : Counts → Counts) → ((own : Counts) → field (f own) ≡ one_more (field own)) → (p : ℕ → X → Bool) (xs : List X) (x : X) (source : ℕ) (is_so : Bool)
    (start old new : List Counts) → ((k : ℕ) → p k x ≡ (is_so && nat_eq source k)) → new ≡ cond is_so (changed f source old) old → AreMore field (λ k. count_by (p k) xs) start old
    → AreMore field (λ k. count_by (p k) (xs ++ x ∷ [])) start new
more_put field f grows p xs x source false start old new test is are k own here =
    let its = are k own (ap (λ l. slice_get l k) (sym is) ∙ here) in
    (its.0, its.1, λ none. its.2 none ∙ ap capped (sym (count_push (p k) xs x ∙ ap (λ b. count_by (p k) xs + cond b 1 0) (test k) ∙ omega arith)))
more_put field f grows p xs x source true start old new test is are k own here = by_case (changed_at f old source k own (ap (λ l. slice_get l k) (sym is) ∙ here))
  where
    by_case : ((k ≡ source) × ((x : Counts) × (slice_get old k ≡ Some x) × (own ≡ f x))) ⊎ ((source ≡ k → ⊥) × (slice_get old k ≡ Some own))
        → (before : Counts) × (slice_get start k ≡ Some before) × (field before ≡ 0 → field own ≡ capped (count_by (p k) (xs ++ x ∷ [])))
    by_case (inl found) =
        let its = are k found.1.0 found.1.1 in (
          its.0,
          its.1,
          λ none.
              ap field found.1.2 ∙ grows found.1.0 ∙ capped_more (count_by (p k) xs) (field found.1.0) (its.2 none)
              ∙ ap capped (sym (count_push (p k) xs x ∙ ap (λ b. count_by (p k) xs + cond b 1 0) (test k ∙ eq-eqb source k (sym found.0)))),
        )
    by_case (inr other) =
        let its = are k own other.1 in (
          its.0,
          its.1,
          λ none.
              its.2 none ∙ ap capped (sym (count_push (p k) xs x ∙ ap (λ b. count_by (p k) xs + cond b 1 0) (test k ∙ ne_eqb source k other.0) ∙ omega arith)),
        )

pub as_many_put : (field : Counts → ℕ) (f : Counts → Counts) → ((own : Counts) → field (f own) ≡ field own) → (source : ℕ) (is_so : Bool) (start old new : List Counts) → new ≡ cond is_so (changed f source old) old
    → AreAsMany field start old → AreAsMany field start new
as_many_put field f same source false start old new is are k own here = are k own (ap (λ l. slice_get l k) (sym is) ∙ here)
as_many_put field f same source true start old new is are k own here = by_case (changed_at f old source k own (ap (λ l. slice_get l k) (sym is) ∙ here))
  where
    by_case : ((k ≡ source) × ((x : Counts) × (slice_get old k ≡ Some x) × (own ≡ f x))) ⊎ ((source ≡ k → ⊥) × (slice_get old k ≡ Some own))
        → (before : Counts) × (slice_get start k ≡ Some before) × (field own ≡ field before)
    by_case (inl found) = let its = are k found.1.0 found.1.1 in (its.0, its.1, ap field found.1.2 ∙ same found.1.0 ∙ its.2)
    by_case (inr other) = are k own other.1

pub alike_put : (of_copy : List ℕ) (one : Heard) (is_so : Bool) (old new : List Counts) → new ≡ cond is_so (changed one_life (slice_index of_copy one.copy) old) old → AreAlike old new
alike_put of_copy one true old new is = alike_life old new (slice_index of_copy one.copy) is
alike_put of_copy one false old new is = subst (AreAlike old) (sym is) (alike_same old)

-- ---- so far

pub record AreLives (of_copy : List ℕ) (heard : List Heard) (start counts : List Counts) : Type 0 where
  pub long : length counts ≡ length start
  pub alike : AreAlike start counts
  pub lives : AreMore (λ own. own.lives) (lives_of of_copy heard) start counts
  pub others : AreAsMany (λ own. own.unreadable) start counts

pub record AreUnread (of_copy unread : List ℕ) (start counts : List Counts) : Type 0 where
  pub long : length counts ≡ length start
  pub alike : AreAlike start counts
  pub unreadable : AreMore (λ own. own.unreadable) (unreadable_of of_copy unread) start counts
  pub others : AreAsMany (λ own. own.lives) start counts

none_more : (field : Counts → ℕ) (many : ℕ → ℕ) (counts : List Counts) → ((k : ℕ) → many k ≡ 0) → AreMore field many counts counts
none_more field many counts none k own here = (own, here, λ is. is ∙ sym (ap capped (none k)))

pub no_lives : (of_copy : List ℕ) (counts : List Counts) → AreLives of_copy [] counts counts
no_lives of_copy counts = record {
  long = refl;
  alike = alike_same counts;
  lives = none_more (λ own. own.lives) (lives_of of_copy []) counts (λ k. refl);
  others = λ k own here. (own, here, refl);
}

pub no_unread : (of_copy : List ℕ) (counts : List Counts) → AreUnread of_copy [] counts counts
no_unread of_copy counts = record {
  long = refl;
  alike = alike_same counts;
  unreadable = none_more (λ own. own.unreadable) (unreadable_of of_copy []) counts (λ k. refl);
  others = λ k own here. (own, here, refl);
}

pub lives_more : (of_copy : List ℕ) (heard : List Heard) (i : ℕ) (d : Heard) (start old new : List Counts) → i < length heard → length new ≡ length old → new ≡ life_put of_copy (get_or heard i d) old
    → AreLives of_copy (take i heard) start old → AreLives of_copy (take (i + 1) heard) start new
lives_more of_copy heard i d start old new below long is are =
    let one = get_or heard i d in
    record {
      long = long ∙ are.long;
      alike = alike_on start old new are.alike (alike_put of_copy one one.begins old new is);
      lives = subst (λ l. AreMore (λ own. own.lives) (lives_of of_copy l) start new) (sym (take_more heard i d below))
          (more_put (λ own. own.lives) one_life (λ own. refl) (is_life_of of_copy) (take i heard) one (slice_index of_copy one.copy) one.begins start old new (λ k. refl) is are.lives);
      others = as_many_put (λ own. own.unreadable) one_life (λ own. refl) (slice_index of_copy one.copy) one.begins start old new is are.others;
    }

pub unread_more : (of_copy unread : List ℕ) (i d : ℕ) (start old new : List Counts) → i < length unread → length new ≡ length old → new ≡ changed one_unreadable (slice_index of_copy (get_or unread i d)) old
    → AreUnread of_copy (take i unread) start old → AreUnread of_copy (take (i + 1) unread) start new
unread_more of_copy unread i d start old new below long is are =
    let source = slice_index of_copy (get_or unread i d) in
    record {
      long = long ∙ are.long;
      alike = alike_on start old new are.alike (alike_unreadable old new source is);
      unreadable = subst (λ l. AreMore (λ own. own.unreadable) (unreadable_of of_copy l) start new) (sym (take_more unread i d below))
          (more_put (λ own. own.unreadable) one_unreadable (λ own. refl) (λ k copy. nat_eq (slice_index of_copy copy) k) (take i unread) (get_or unread i d) source true start old new (λ k. refl) is are.unreadable);
      others = as_many_put (λ own. own.lives) one_unreadable (λ own. refl) source true start old new is are.others;
    }

-- ---- the supervision frames of others

-- counts with them, and one more
pub alike_pushed : (counts all new : List Counts) (k : ℕ) (own before lives : Counts) → length all ≡ k → new ≡ all ++ own ∷ [] → slice_get counts k ≡ Some before → own ≡ with_lives lives before
    → AreAlike counts all → AreAlike counts new
alike_pushed counts all new k own before lives long is here own_is are j x at_j = by_case (slice_get_push all own x j (ap (λ l. slice_get l j) (sym is) ∙ at_j))
  where
    by_case : (slice_get all j ≡ Some x) ⊎ ((j ≡ length all) × (x ≡ own)) → (b : Counts) × (slice_get counts j ≡ Some b) × is_alike b x
    by_case (inl old) = are j x old
    by_case (inr last) = (
      before,
      ap (slice_get counts) (last.0 ∙ long) ∙ here,
      let its : x ≡ with_lives lives before = last.1 ∙ own_is in its ∙ ap (λ (y : Counts). record before { lives = y.lives; unreadable = y.unreadable }) (sym its),
    )

pub lives_pushed : (lives all new : List Counts) (k : ℕ) (own before its : Counts) → length all ≡ k → new ≡ all ++ own ∷ [] → slice_get lives k ≡ Some its → own ≡ with_lives its before
    → HaveLives lives all → HaveLives lives new
lives_pushed lives all new k own before its long is here own_is are j x at_j = by_case (slice_get_push all own x j (ap (λ l. slice_get l j) (sym is) ∙ at_j))
  where
    by_case : (slice_get all j ≡ Some x) ⊎ ((j ≡ length all) × (x ≡ own)) → (t : Counts) × (slice_get lives j ≡ Some t) × ((x.lives ≡ t.lives) × (x.unreadable ≡ t.unreadable))
    by_case (inl old) = are j x old
    by_case (inr last) =
        let same = last.1 ∙ own_is in (
          its,
          ap (slice_get lives) (last.0 ∙ long) ∙ here,
          (ap (λ (y : Counts). y.lives) same, ap (λ (y : Counts). y.unreadable) same),
        )
