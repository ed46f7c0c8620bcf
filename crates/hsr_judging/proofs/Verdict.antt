-- The observed copies of a capture, and when a device conforms.
use Rattle.std.proofs.Common.{◌≡◌, ◌≢◌, ◌⊎◌, inl, inr, ℕ, zero, suc, ◌+◌, ◌<◌, ◌≤◌, ◌∙◌, ◌++◌, ◌&&◌, ◌||◌, append_assoc, Bool, true, false, List, [], ◌∷◌, length, get_or, drop, map, cond, Bor, refl, ap, sym, subst, arith, if◌then◌else◌}
use Rattle.std.proofs.lemmas.Bool.{and_from, and_parts, cases_Bool}
use Rattle.std.proofs.lemmas.List.{at_drop_more, at_drop_all, map-append}
use Rattle.std.proofs.lemmas.List.Elements.{Contains-get_or}
use Rattle.std.proofs.lemmas.List.Folds.{list_any_at}
use Rattle.std.proofs.lemmas.List.Sums.{AllPass-from_list_all, list_all-from_AllPass}
use Rattle.std.specs.List.{AllPass, Contains, filter, list_all, list_any}
use Rattle.hsr_playback.specs.declared.passage.Passage.{Passage}
use Rattle.hsr_judging.specs.Fates.{conforms, is_found, is_same, is_well}
use Rattle.hsr_judging.specs.Judged.{IsNothingLeft, observed_in, went_out}
use Rattle.hsr_judging.specs.Matching.{views}
use Rattle.hsr_judging.specs.declared.fates.ExpectedFate.{ExpectedFate}
use Rattle.hsr_judging.specs.declared.fates.ExpectedFate.TheVariants as expected
use Rattle.hsr_judging.specs.declared.fates.ObservedFate.{ObservedFate}
use Rattle.hsr_judging.specs.declared.fates.ObservedFate.TheVariants as observed

-- ---- one more passage

views_push : (ps : List (Bor Passage)) (p : Bor Passage) → views (ps ++ p ∷ []) ≡ views ps ++ p.now ∷ []
views_push ps p = map-append (λ (p : Bor Passage). p.now) ps (p ∷ [])

out_kept : (ps : List (Bor Passage)) (p : Bor Passage) (test : Bool) (rest whole : List Passage) → test ≡ true
    → views ps ++ cond test (p.now ∷ rest) rest ≡ whole → views (ps ++ p ∷ []) ++ rest ≡ whole
out_kept ps p false rest whole h so = absurd (cc)
out_kept ps p true rest whole h so = ap (λ front. front ++ rest) (views_push ps p) ∙ append_assoc (views ps) (p.now ∷ []) rest ∙ so

in_left : (front rest whole : List Passage) (p : Passage) (test : Bool) → test ≡ false → front ++ cond test (p ∷ rest) rest ≡ whole → front ++ rest ≡ whole
in_left front rest whole p true h so = absurd (cc)
in_left front rest whole p false h so = so

pub observed_out : (ps : List Passage) (i : ℕ) (p : Bor Passage) (left : List (Bor Passage)) (whole : List Passage) → i < length ps → p.now ≡ get_or ps i p.now
    → went_out p.now ≡ true → views left ++ observed_in (drop i ps) ≡ whole → views (left ++ p ∷ []) ++ observed_in (drop (i + 1) ps) ≡ whole
observed_out ps i p left whole h is test so =
    let next = at_drop_more observed_in ps i p.now h in
    let here = ap (λ (x : Passage). observed_in (x ∷ drop (i + 1) ps)) (sym is) in
    out_kept left p (went_out p.now) (observed_in (drop (i + 1) ps)) whole test (ap (λ rest. views left ++ rest) (sym (next ∙ here)) ∙ so)

pub observed_in_left : (ps : List Passage) (i : ℕ) (p : Passage) (front whole : List Passage) → i < length ps → p ≡ get_or ps i p
    → went_out p ≡ false → front ++ observed_in (drop i ps) ≡ whole → front ++ observed_in (drop (i + 1) ps) ≡ whole
observed_in_left ps i p front whole h is test so =
    let next = at_drop_more observed_in ps i p h in
    let here = ap (λ (x : Passage). observed_in (x ∷ drop (i + 1) ps)) (sym is) in
    in_left front (observed_in (drop (i + 1) ps)) whole p (went_out p) test (ap (λ rest. front ++ rest) (sym (next ∙ here)) ∙ so)

pub observed_all : (ps : List Passage) (i : ℕ) → length ps ≤ i → observed_in (drop i ps) ≡ []
observed_all ps i h = at_drop_all observed_in ps i h

-- ---- when a device conforms

-- none is there for which a test fails
none_failing : {X : Type 0} (test : X → Bool) (xs : List X) (x : X) → test x ≡ false → list_all test xs ≡ true → ¬ Contains xs x
none_failing test xs x fails all has =
    let passes : test x ≡ true = subst (λ y. test y ≡ true) has.2 (AllPass-from_list_all test xs all has.0 x has.1) in absurd (cc)

well_if : (f : ObservedFate) → f ≢ observed.Late → f ≢ observed.Altered → f ≢ observed.Extra → is_well f ≡ true
well_if observed.Same p q r = refl
well_if observed.Late p q r = absurd (p refl)
well_if observed.Altered p q r = absurd (q refl)
well_if observed.Extra p q r = absurd (r refl)
well_if observed.Ignored p q r = refl
well_if observed.Open p q r = refl

found_if : (f : ExpectedFate) → f ≢ expected.Missing → is_found f ≡ true
found_if expected.Matched p = refl
found_if expected.Missing p = absurd (p refl)
found_if expected.Ignored p = refl
found_if expected.Open p = refl

same_is : (f : ObservedFate) → is_same f ≡ true → f ≡ observed.Same
same_is observed.Same h = refl
same_is observed.Late h = absurd (cc)
same_is observed.Altered h = absurd (cc)
same_is observed.Extra h = absurd (cc)
same_is observed.Ignored h = absurd (cc)
same_is observed.Open h = absurd (cc)

not_at : {X : Type 0} (xs : List X) (x d : X) (k : ℕ) → k < length xs → ¬ Contains xs x → get_or xs k d ≢ x
not_at xs x d k h none e = none (subst (λ y. Contains xs y) e (Contains-get_or xs k d h))

all_well : (os : List ObservedFate) → ¬ Contains os observed.Late → ¬ Contains os observed.Altered → ¬ Contains os observed.Extra → list_all is_well os ≡ true
all_well os p q r = list_all-from_AllPass is_well os
    (λ k d h. well_if (get_or os k d) (not_at os observed.Late d k h p) (not_at os observed.Altered d k h q) (not_at os observed.Extra d k h r))

all_found : (es : List ExpectedFate) → ¬ Contains es expected.Missing → list_all is_found es ≡ true
all_found es p = list_all-from_AllPass is_found es (λ k d h. found_if (get_or es k d) (not_at es expected.Missing d k h p))

some_same : (os : List ObservedFate) → Contains os observed.Same → list_any is_same os ≡ true
some_same os has = list_any_at is_same os has.0 observed.Same has.1 (ap is_same has.2)

later : (here rest : Bool) → here ≡ false → (here || rest) ≡ true → rest ≡ true
later true rest p h = absurd (cc)
later false rest p h = h

same_found : (os : List ObservedFate) → list_any is_same os ≡ true → Contains os observed.Same
same_found [] h = absurd (cc)
same_found (o ∷ os) h = elim (cases_Bool (is_same o)) as (λ _. Contains (o ∷ os) observed.Same) [
  | inl is ↦ (zero, omega arith, same_is o is)
  | inr isnt ↦ (let rest = same_found os (later (is_same o) (list_any is_same os) isnt h) in (suc rest.0, omega (arith, rest.1), rest.2))
]

pub nothing_left : (os : List ObservedFate) (es : List ExpectedFate) → (conforms os es ≡ true → IsNothingLeft os es) × (IsNothingLeft os es → conforms os es ≡ true)
nothing_left os es = (
  λ is_so. (let one = and_parts (list_all is_well os) (list_all is_found es && list_any is_same os) is_so in
      let two = and_parts (list_all is_found es) (list_any is_same os) one.1 in (
        none_failing is_well os observed.Late refl one.0,
        none_failing is_well os observed.Altered refl one.0,
        none_failing is_well os observed.Extra refl one.0,
        none_failing is_found es expected.Missing refl two.0,
        same_found os two.1,
      )),
  λ left. and_from (list_all is_well os) (list_all is_found es && list_any is_same os) (all_well os left.0 left.1 left.2)
      (and_from (list_all is_found es) (list_any is_same os) (all_found es left.3) (some_same os left.4)),
)
