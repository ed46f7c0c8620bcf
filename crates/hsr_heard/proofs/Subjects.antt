-- Whom copies tell of, one address after the other.
use Rattle.std.proofs.Common.{◌≡◌, ℕ, zero, suc, ◌+◌, ◌-◌, ◌/◌, ◌<◌, ◌≤◌, Bool, true, false, cond, List, [], ◌∷◌, ◌++◌, append_assoc, drop, length, ◌⊎◌, inl, inr, refl, sym, ap, subst, ◌∙◌, arith, Some}
use Rattle.std.specs.Prelude.{filter, flat_map, slice_get, slice_range, IsPermutation}
use Rattle.std.specs.List.Sorted.{IsSortedByKey, IsStableByKey}
use Rattle.std.specs.Ordering.{nat_cmp}
use Rattle.std.proofs.lemmas.Bool.{cases_lt}
use Rattle.std.proofs.lemmas.List.{append-nil, drop_more}
use Rattle.std.proofs.lemmas.List.Sorted.{Contains-permutation}
use Rattle.std.proofs.lemmas.Option.{get_or_from_slice_get, same_Some, slice_get-get_or, slice_get_within}
use Rattle.hsr_address.specs.Numbers.{number_of}
use Rattle.hsr_sightings.proofs.Counting.{slice_get_end, slice_get_left}
use Rattle.hsr_sightings.proofs.Gathering.{slice_get_push}
use Rattle.hsr_heard.specs.Finding.{IsRun, PutsAbout, PutsOne, key_of, moment_of}
use Rattle.hsr_heard.specs.Subjects.{AreAbouts, IsAbout, IsAboutOf, IsToldOf, Rise, frames_about, frames_in, is_about, silences_among, silences_of, steps_from, those_about}
use Rattle.hsr_heard.specs.declared.abouts.About.{About}
use Rattle.hsr_heard.specs.declared.abouts.Abouts.{Abouts}
use Rattle.hsr_heard.specs.declared.abouts.Silence.{Silence}
use Rattle.hsr_heard.specs.declared.heard.Heard.{Heard}
use Rattle.hsr_heard.proofs.Sorted.{in_range, run_below, run_is, same_about, those_same}

-- ---- lists

none_begun : (copies : List Heard) (k : ℕ) (one : Heard) → frames_in copies ≡ [] → slice_get copies k ≡ Some one → one.begins ≡ true → ⊥
none_begun [] k one none here begins = absurd cc
none_begun (x ∷ copies) zero one none here begins =
    let same : x ≡ one = same_Some x one here in
    let there : frames_in (x ∷ copies) ≡ x ∷ frames_in copies = ap (λ b. cond b (x ∷ frames_in copies) (frames_in copies)) (ap (λ (y : Heard). y.begins) same ∙ begins) in
    let clash : x ∷ frames_in copies ≡ [] = sym there ∙ none in absurd cc
none_begun (x ∷ copies) (suc k) one none here begins = by_case x.begins refl (λ rest. none_begun copies k one rest here begins)
  where
    by_case : (b : Bool) → x.begins ≡ b → (frames_in copies ≡ [] → ⊥) → ⊥
    by_case true is later =
        let there : frames_in (x ∷ copies) ≡ x ∷ frames_in copies = ap (λ b. cond b (x ∷ frames_in copies) (frames_in copies)) is in
        let clash : x ∷ frames_in copies ≡ [] = sym there ∙ none in absurd cc
    by_case false is later = later (sym (ap (λ b. cond b (x ∷ frames_in copies) (frames_in copies)) is) ∙ none)

-- what passes a test passes it, and stood in the list
filter_had : {X : Type 0} (p : X → Bool) (xs : List X) (k : ℕ) (x : X) → slice_get (filter p xs) k ≡ Some x → (p x ≡ true) × ((j : ℕ) × (slice_get xs j ≡ Some x))
filter_had p [] k x here = absurd cc
filter_had {X} p (y ∷ xs) k x here = by_case (p y) refl k here (λ j at_j. filter_had p xs j x at_j)
  where
    by_case : (b : Bool) → p y ≡ b → (k : ℕ) → slice_get (cond b (y ∷ filter p xs) (filter p xs)) k ≡ Some x
        → ((j : ℕ) → slice_get (filter p xs) j ≡ Some x → (p x ≡ true) × ((i : ℕ) × (slice_get xs i ≡ Some x))) → (p x ≡ true) × ((j : ℕ) × (slice_get (y ∷ xs) j ≡ Some x))
    by_case true is zero at_k later = (ap p (sym (same_Some y x at_k)) ∙ is, (zero, at_k))
    by_case true is (suc k) at_k later = let rest = later k at_k in (rest.0, (suc rest.1.0, rest.1.1))
    by_case false is k at_k later = let rest = later k at_k in (rest.0, (suc rest.1.0, rest.1.1))

flat_push : {X Y : Type 0} (f : X → List Y) (xs : List X) (x : X) → flat_map f (xs ++ x ∷ []) ≡ flat_map f xs ++ f x
flat_push f [] x = append-nil (f x)
flat_push f (y ∷ xs) x = ap (λ l. f y ++ l) (flat_push f xs x) ∙ sym (append_assoc (f y) (flat_map f xs) (f x))

flat_same : {X Y : Type 0} (f g : X → List Y) (xs : List X) → ((k : ℕ) (x : X) → slice_get xs k ≡ Some x → f x ≡ g x) → flat_map f xs ≡ flat_map g xs
flat_same f g [] same = refl
flat_same f g (x ∷ xs) same = ap (λ l. l ++ flat_map f xs) (same zero x refl) ∙ ap (λ l. g x ++ l) (flat_same f g xs (λ k y here. same (suc k) y here))

-- ---- from frame to frame

pub step_more : (frames : List Heard) (k : ℕ) (before own : Heard) (steps new all : List ℕ) (step : ℕ) → slice_get frames (k - 1) ≡ Some before → slice_get frames k ≡ Some own
    → step ≡ (own.at - before.at) / 1000 → new ≡ steps ++ step ∷ [] → steps ++ steps_from (moment_of (slice_get frames (k - 1))) (drop k frames) ≡ all
    → new ++ steps_from (moment_of (slice_get frames (k + 1 - 1))) (drop (k + 1) frames) ≡ all
step_more frames k before own steps new all step at_before here step_is is told =
    ap (λ l. l ++ steps_from (moment_of (slice_get frames (k + 1 - 1))) (drop (k + 1) frames)) is
    ∙ append_assoc steps (step ∷ []) (steps_from (moment_of (slice_get frames (k + 1 - 1))) (drop (k + 1) frames))
    ∙ ap (λ n. steps ++ (step ∷ steps_from (moment_of (slice_get frames n)) (drop (k + 1) frames))) {x = k + 1 - 1} {y = k} (omega arith)
    ∙ ap (λ o. steps ++ (step ∷ steps_from (moment_of o) (drop (k + 1) frames))) here
    ∙ ap (λ n. steps ++ (n ∷ steps_from own.at (drop (k + 1) frames))) step_is
    ∙ sym (ap (λ o. steps ++ steps_from (moment_of o) (drop k frames)) at_before
    ∙ ap (λ l. steps ++ steps_from before.at l) (drop_more frames k own (slice_get_within frames k own here) ∙ ap (λ x. x ∷ drop (k + 1) frames) (get_or_from_slice_get frames k own own here)))
    ∙ told

-- ---- up to an index at which another address begins

pub record AreSoFar (copies : List Heard) (start end from : ℕ) (abouts : List About) (silences : List Silence) : Type 0 where
  pub within : from ≤ length copies
  pub parts : (i j : ℕ) (a b : Heard) → i < from → from ≤ j → slice_get copies i ≡ Some a → slice_get copies j ≡ Some b → key_of a < key_of b
  pub each : (k : ℕ) (about : About) → slice_get abouts k ≡ Some about → IsAbout copies about
  pub low : (k : ℕ) (about : About) → slice_get abouts k ≡ Some about → (j : ℕ) (b : Heard) → from ≤ j → slice_get copies j ≡ Some b → number_of about.mac < key_of b
  pub rise : Rise abouts
  pub all : (i : ℕ) (one : Heard) → i < from → slice_get copies i ≡ Some one → one.begins ≡ true → IsToldOf abouts one.said.about
  pub silences_are : silences ≡ silences_among start end copies abouts

pub so_far_none : (copies : List Heard) (start end : ℕ) (abouts : List About) (silences : List Silence) → abouts ≡ [] → silences ≡ [] → AreSoFar copies start end 0 abouts silences
so_far_none copies start end abouts silences none quiet = subst (λ l. AreSoFar copies start end 0 l silences) (sym none) (subst (λ l. AreSoFar copies start end 0 [] l) (sym quiet) (record {
  within = omega arith;
  parts = λ i j a b below. absurd (omega (arith, below));
  each = λ k about here. absurd cc;
  low = λ k about here. absurd cc;
  rise = λ j k a b less here. absurd cc;
  all = λ i one below. absurd (omega (arith, below));
  silences_are = refl;
}))

pub so_far_end : (copies : List Heard) (start end from : ℕ) (abouts : List About) (silences : List Silence) → length copies ≤ from → AreSoFar copies start end from abouts silences
    → AreAbouts copies start end abouts silences
so_far_end copies start end from abouts silences past are = record {
  each = are.each;
  rise = are.rise;
  all = λ i one here begins. let within = slice_get_within copies i one here in are.all i one (omega (arith, within, past)) here begins;
  silences_are = are.silences_are;
}

still_told : (abouts : List About) (about : About) (mac : List ℕ) → IsToldOf abouts mac → IsToldOf (abouts ++ about ∷ []) mac
still_told abouts about mac told = record {
  place = told.place;
  about = told.about;
  there = slice_get_left abouts (about ∷ []) told.place (slice_get_within abouts told.place told.about told.there) ∙ told.there;
  is = told.is;
}

module _ (copies : List Heard) (start end from until : ℕ) (old new : Abouts) (sorted : IsSortedByKey key_of nat_cmp copies) (run : IsRun copies from until)
    (are : AreSoFar copies start end from old.all.items old.silences.items) where
  first_low : (i : ℕ) (a : Heard) → i < from → slice_get copies i ≡ Some a → key_of a < key_of run.first
  first_low i a below here = are.parts i from a run.first below (omega arith) here run.first_is

  in_run : (i : ℕ) (one : Heard) → (i < from → ⊥) → i < until → slice_get copies i ≡ Some one → one.said.about ≡ run.first.said.about
  in_run i one past below here = run.same i one (omega (arith, past)) below here

  parts_more : (i j : ℕ) (a b : Heard) → i < until → until ≤ j → slice_get copies i ≡ Some a → slice_get copies j ≡ Some b → key_of a < key_of b
  parts_more i j a b below past at_i at_j = by_case (cases_lt i from)
    where
      by_case : (i < from) ⊎ (from ≤ i) → key_of a < key_of b
      by_case (inl before) = are.parts i j a b before (omega (arith, run.more, past)) at_i at_j
      by_case (inr within) =
          let same = run.same i a within below at_i in
          let less = run_below copies from until sorted run j b past at_j in
          omega (arith, less, ap number_of same)

  more_none : frames_in (slice_range copies from until) ≡ [] → AreSoFar copies start end until old.all.items old.silences.items
  more_none none = record {
    within = run.within;
    parts = parts_more;
    each = are.each;
    low = λ k about here j b past at_j. are.low k about here j b (omega (arith, run.more, past)) at_j;
    rise = are.rise;
    all = told;
    silences_are = are.silences_are;
  }
    where
      told : (i : ℕ) (one : Heard) → i < until → slice_get copies i ≡ Some one → one.begins ≡ true → IsToldOf old.all.items one.said.about
      told i one below here begins = by_case (cases_lt i from)
        where
          by_case : (i < from) ⊎ (from ≤ i) → IsToldOf old.all.items one.said.about
          by_case (inl before) = are.all i one before here begins
          by_case (inr within) = absurd (none_begun (slice_range copies from until) (i - from) one none (in_range copies from until i one within below here) begins)

  module _ (mac : List ℕ) (mac_is : mac ≡ run.first.said.about) (puts : PutsOne start end mac (slice_range copies from until) old new) where
    own_is : puts.about.mac ≡ run.first.said.about
    own_is = puts.mac_is ∙ mac_is

    own_those : those_about puts.about.mac copies ≡ slice_range copies from until
    own_those = ap (λ m. those_about m copies) own_is ∙ run_is copies from until sorted run first_low

    own_low : (j : ℕ) (b : Heard) → until ≤ j → slice_get copies j ≡ Some b → number_of puts.about.mac < key_of b
    own_low j b past at_j = let less = run_below copies from until sorted run j b past at_j in omega (arith, less, ap number_of own_is)

    cases : (k : ℕ) (about : About) → slice_get new.all.items k ≡ Some about → (slice_get old.all.items k ≡ Some about) ⊎ ((k ≡ length old.all.items) × (about ≡ puts.about))
    cases k about here = slice_get_push old.all.items puts.about about k (ap (λ l. slice_get l k) (sym puts.all) ∙ here)

    each_more : (k : ℕ) (about : About) → slice_get new.all.items k ≡ Some about → IsAbout copies about
    each_more k about here = by_case (cases k about here)
      where
        by_case : (slice_get old.all.items k ≡ Some about) ⊎ ((k ≡ length old.all.items) × (about ≡ puts.about)) → IsAbout copies about
        by_case (inl before) = are.each k about before
        by_case (inr own) = subst (IsAbout copies) (sym own.1) (subst (λ l. IsAboutOf l puts.about) (sym own_those) puts.is)

    low_more : (k : ℕ) (about : About) → slice_get new.all.items k ≡ Some about → (j : ℕ) (b : Heard) → until ≤ j → slice_get copies j ≡ Some b → number_of about.mac < key_of b
    low_more k about here j b past at_j = by_case (cases k about here)
      where
        by_case : (slice_get old.all.items k ≡ Some about) ⊎ ((k ≡ length old.all.items) × (about ≡ puts.about)) → number_of about.mac < key_of b
        by_case (inl before) = are.low k about before j b (omega (arith, run.more, past)) at_j
        by_case (inr own) = let less = own_low j b past at_j in omega (arith, less, ap (λ (a : About). number_of a.mac) own.1)

    rise_more : Rise new.all.items
    rise_more j k a b less at_j at_k = by_case (cases j a at_j) (cases k b at_k)
      where
        by_case : (slice_get old.all.items j ≡ Some a) ⊎ ((j ≡ length old.all.items) × (a ≡ puts.about)) → (slice_get old.all.items k ≡ Some b) ⊎ ((k ≡ length old.all.items) × (b ≡ puts.about))
            → number_of a.mac < number_of b.mac
        by_case (inl first) (inl second) = are.rise j k a b less first second
        by_case (inl first) (inr own) =
            let lower = are.low j a first from run.first (omega arith) run.first_is in
            omega (arith, lower, ap (λ (x : About). number_of x.mac) own.1, ap number_of own_is)
        by_case (inr own) (inl second) = let within = slice_get_within old.all.items k b second in absurd (omega (arith, own.0, within, less))
        by_case (inr own) (inr other) = absurd (omega (arith, own.0, other.0, less))

    own_told : (one : Heard) → one.said.about ≡ run.first.said.about → IsToldOf (old.all.items ++ puts.about ∷ []) one.said.about
    own_told one same = record {
      place = length old.all.items;
      about = puts.about;
      there = slice_get_end old.all.items puts.about (length old.all.items) refl;
      is = own_is ∙ sym same;
    }

    all_more : (i : ℕ) (one : Heard) → i < until → slice_get copies i ≡ Some one → one.begins ≡ true → IsToldOf new.all.items one.said.about
    all_more i one below here begins = subst (λ l. IsToldOf l one.said.about) (sym puts.all) (by_case (cases_lt i from))
      where
        by_case : (i < from) ⊎ (from ≤ i) → IsToldOf (old.all.items ++ puts.about ∷ []) one.said.about
        by_case (inl before) = still_told old.all.items puts.about one.said.about (are.all i one before here begins)
        by_case (inr within) = own_told one (run.same i one within below here)

    silences_more : new.silences.items ≡ silences_among start end copies new.all.items
    silences_more =
        puts.silences
        ∙ ap (λ l. l ++ silences_of start end mac (frames_in (slice_range copies from until))) are.silences_are
        ∙ ap (λ m. silences_among start end copies old.all.items ++ silences_of start end m (frames_in (slice_range copies from until))) (sym puts.mac_is)
        ∙ ap (λ l. silences_among start end copies old.all.items ++ silences_of start end puts.about.mac (frames_in l)) (sym own_those)
        ∙ sym (flat_push (λ (about : About). silences_of start end about.mac (frames_about about.mac copies)) old.all.items puts.about)
        ∙ ap (silences_among start end copies) (sym puts.all)

    more_one : AreSoFar copies start end until new.all.items new.silences.items
    more_one = record {
      within = run.within;
      parts = parts_more;
      each = each_more;
      low = low_more;
      rise = rise_more;
      all = all_more;
      silences_are = silences_more;
    }

  pub so_far_more : (mac : List ℕ) → mac ≡ run.first.said.about → PutsAbout start end mac (slice_range copies from until) old new → AreSoFar copies start end until new.all.items new.silences.items
  so_far_more mac mac_is (inl none) = subst (λ (told : Abouts). AreSoFar copies start end until told.all.items told.silences.items) (sym none.1) (more_none none.0)
  so_far_more mac mac_is (inr puts) = more_one mac mac_is puts

-- ---- as the copies stood before they were sorted

module _ (heard sorted : List Heard) (start end : ℕ) (abouts : List About) (silences : List Silence) (stable : IsStableByKey key_of nat_cmp heard sorted)
    (are : AreAbouts sorted start end abouts silences) where
  those_kept : (about : About) → IsAbout sorted about → those_about about.mac sorted ≡ those_about about.mac heard
  those_kept about is =
      let first = filter_had (λ (one : Heard). one.begins) (those_about about.mac sorted) 0 is.first is.first_is in
      let there = filter_had (is_about about.mac) sorted first.1.0 is.first first.1.1 in
      let same = same_about about.mac is.first there.0 in
      ap (λ m. those_about m sorted) (sym same) ∙ those_same heard sorted is.first stable ∙ ap (λ m. those_about m heard) same

  pub as_they_stood : ((i : ℕ) (one : Heard) → slice_get heard i ≡ Some one → (j : ℕ) × (slice_get sorted j ≡ Some one)) → AreAbouts heard start end abouts silences
  as_they_stood there = record {
    each = λ k about here. subst (λ l. IsAboutOf l about) (those_kept about (are.each k about here)) (are.each k about here);
    rise = are.rise;
    all = λ i one here begins. let its = there i one here in are.all its.0 one its.1 begins;
    silences_are = are.silences_are ∙ flat_same (λ (about : About). silences_of start end about.mac (frames_about about.mac sorted)) (λ (about : About). silences_of start end about.mac (frames_about about.mac heard)) abouts
        (λ k about here. ap (λ l. silences_of start end about.mac (frames_in l)) (those_kept about (are.each k about here)));
  }

-- a sort keeps each
pub still_there : (heard sorted : List Heard) → IsPermutation heard sorted → (i : ℕ) (one : Heard) → slice_get heard i ≡ Some one → (j : ℕ) × (slice_get sorted j ≡ Some one)
still_there heard sorted same i one here =
    let has = Contains-permutation heard sorted one same (i, slice_get_within heard i one here, get_or_from_slice_get heard i one one here) in
    (has.0, slice_get-get_or sorted has.0 one has.1 ∙ ap Some has.2)
