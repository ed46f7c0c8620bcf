-- Gaps, groups and numbers, one after the other.
use Rattle.std.proofs.Common.{◌≡◌, ℕ, ◌+◌, ◌<◌, ◌≤◌, ◌^◌, ◌&&◌, ◌||◌, not, Bool, true, false, List, [], ◌∷◌, ◌++◌, get_or, length, ◌⊎◌, inl, inr, refl, sym, ap, subst, ◌∙◌, arith, Option, Some, None}
use Rattle.std.specs.Prelude.{nat_eq, nat_lt, option_to_list, slice_get, slice_index}
use Rattle.std.proofs.lemmas.Bool.{cases_lt}
use Rattle.std.proofs.lemmas.Bool.Decides.{nat_tests}
use Rattle.std.proofs.lemmas.List.{append-nil, length_push}
use Rattle.std.proofs.lemmas.Option.{same_Some, slice_get-get_or, slice_get_within}
use Rattle.hsr_frame_groups.specs.Frames.{CaughtFields}
use Rattle.hsr_sightings.specs.Copies.{is_clash}
use Rattle.hsr_sightings.specs.Frames.{begins}
use Rattle.hsr_sightings.proofs.Gathering.{slice_get_push}
use Rattle.hsr_health.specs.Numbering.{AreGroups, IsFirstSame, number_if, numbered_at}
use Rattle.hsr_health.specs.Told.{is_before}
use Rattle.hsr_number_runs.specs.declared.gaps.Gap.{Gap}
use Rattle.hsr_number_runs.specs.declared.run.Numbered.{Numbered}

-- ---- gaps

-- told before another one, by moments and copies
pub before_true : (at copy bt bopy : ℕ) → (nat_lt at bt || (nat_eq at bt && nat_lt copy bopy)) ≡ true → (at < bt) ⊎ ((at ≡ bt) × (copy < bopy))
before_true at copy bt bopy is = by_less (nat_lt at bt) refl
  where
    by_both : (b d : Bool) → nat_eq at bt ≡ b → nat_lt copy bopy ≡ d → (b && d) ≡ true → (at ≡ bt) × (copy < bopy)
    by_both true true same less both = (grind (arith, nat_tests), grind (arith, nat_tests))
    by_both true false same less both = absurd cc
    by_both false d same less both = absurd cc

    by_less : (b : Bool) → nat_lt at bt ≡ b → (at < bt) ⊎ ((at ≡ bt) × (copy < bopy))
    by_less true less = inl (grind (arith, nat_tests))
    by_less false less = inr (by_both (nat_eq at bt) (nat_lt copy bopy) refl refl (sym (ap (λ b. b || (nat_eq at bt && nat_lt copy bopy)) less) ∙ is))

pub before_yes : (at copy bt bopy : ℕ) → (at < bt) ⊎ ((at ≡ bt) × (copy < bopy)) → (nat_lt at bt || (nat_eq at bt && nat_lt copy bopy)) ≡ true
before_yes at copy bt bopy (inl less) = let is : nat_lt at bt ≡ true = grind (arith, nat_tests) in ap (λ b. b || (nat_eq at bt && nat_lt copy bopy)) is
before_yes at copy bt bopy (inr both) =
    let apart : nat_lt at bt ≡ false = grind (arith, nat_tests) in
    let same : nat_eq at bt ≡ true = grind (arith, nat_tests) in
    let less : nat_lt copy bopy ≡ true = grind (arith, nat_tests) in
    ap (λ b. b || (nat_eq at bt && nat_lt copy bopy)) apart ∙ ap (λ b. b && nat_lt copy bopy) same ∙ less

not_itself : (g : Gap) → is_before g g ≡ false
not_itself g =
    let apart : nat_lt g.at g.at ≡ false = grind (arith, nat_tests) in
    let last : nat_lt g.copy g.copy ≡ false = grind (arith, nat_tests) in
    ap (λ b. b || (nat_eq g.at g.at && nat_lt g.copy g.copy)) apart ∙ ap (λ b. nat_eq g.at g.at && b) last ∙ never (nat_eq g.at g.at)
  where
    never : (b : Bool) → (b && false) ≡ false
    never true = refl
    never false = refl

-- what isn't before one isn't before what is before that
not_before : (g a f : Gap) → is_before a f ≡ true → is_before g f ≡ false → is_before g a ≡ false
not_before g a f less still = by_case (is_before g a) refl
  where
    join : (g.at < a.at) ⊎ ((g.at ≡ a.at) × (g.copy < a.copy)) → (a.at < f.at) ⊎ ((a.at ≡ f.at) × (a.copy < f.copy)) → (g.at < f.at) ⊎ ((g.at ≡ f.at) × (g.copy < f.copy))
    join (inl p) (inl q) = inl (omega (arith, p, q))
    join (inl p) (inr q) = inl (omega (arith, p, q.0))
    join (inr p) (inl q) = inl (omega (arith, p.0, q))
    join (inr p) (inr q) = inr (omega (arith, p.0, q.0), omega (arith, p.1, q.1))

    by_case : (b : Bool) → is_before g a ≡ b → is_before g a ≡ false
    by_case false is = is
    by_case true is =
        let yes : is_before g f ≡ true = before_yes g.at g.copy f.at f.copy (join (before_true g.at g.copy a.at a.copy is) (before_true a.at a.copy f.at f.copy less)) in
        absurd cc

pub least_more : (gaps : List Gap) (k first new : ℕ) (less : Bool) (d e : Gap) → k < length gaps → first < length gaps → less ≡ is_before (get_or gaps k d) (get_or gaps first e)
    → ((less ≡ true) × (new ≡ k)) ⊎ ((less ≡ false) × (new ≡ first))
    → ((j : ℕ) (gap own : Gap) → j < k → slice_get gaps j ≡ Some gap → slice_get gaps first ≡ Some own → is_before gap own ≡ false)
    → (j : ℕ) (gap own : Gap) → j < k + 1 → slice_get gaps j ≡ Some gap → slice_get gaps new ≡ Some own → is_before gap own ≡ false
least_more gaps k first new less d e within inside less_is cases least j gap own below at_j at_new = by_case cases (cases_lt j k)
  where
    f : Gap
    f = get_or gaps first e

    a : Gap
    a = get_or gaps k d

    at_first : slice_get gaps first ≡ Some f
    at_first = slice_get-get_or gaps first e inside

    at_k : slice_get gaps k ≡ Some a
    at_k = slice_get-get_or gaps k d within

    by_case : ((less ≡ true) × (new ≡ k)) ⊎ ((less ≡ false) × (new ≡ first)) → (j < k) ⊎ (k ≤ j) → is_before gap own ≡ false
    by_case (inl is) (inl before_k) =
        let own_is : own ≡ a = same_Some own a (sym at_new ∙ ap (slice_get gaps) is.1 ∙ at_k) in
        ap (is_before gap) own_is ∙ not_before gap a f (sym less_is ∙ is.0) (least j gap f before_k at_j at_first)
    by_case (inl is) (inr past) =
        let place : j ≡ k = omega (arith, past, below) in
        let same : gap ≡ own = same_Some gap own (sym at_j ∙ ap (slice_get gaps) (place ∙ sym is.1) ∙ at_new) in
        ap (λ g. is_before g own) same ∙ not_itself own
    by_case (inr is) (inl before_k) = least j gap own before_k at_j (ap (slice_get gaps) (sym is.1) ∙ at_new)
    by_case (inr is) (inr past) =
        let place : j ≡ k = omega (arith, past, below) in
        let gap_is : gap ≡ a = same_Some gap a (sym at_j ∙ ap (slice_get gaps) place ∙ at_k) in
        let own_is : own ≡ f = same_Some own f (sym at_new ∙ ap (slice_get gaps) is.1 ∙ at_first) in
        ap (λ g. is_before g own) gap_is ∙ ap (is_before a) own_is ∙ sym less_is ∙ is.0

-- ---- groups

pub groups_more : (names : List (List ℕ)) (groups new : List ℕ) (k own : ℕ) → length groups ≡ k → new ≡ groups ++ own ∷ [] → IsFirstSame names k own → AreGroups names groups → AreGroups names new
groups_more names groups new k own long is first are j group at_j = by_case (slice_get_push groups own group j (ap (λ l. slice_get l j) (sym is) ∙ at_j))
  where
    by_case : (slice_get groups j ≡ Some group) ⊎ ((j ≡ length groups) × (group ≡ own)) → IsFirstSame names j group
    by_case (inl here) = are j group here
    by_case (inr last) = subst (λ n. IsFirstSame names n group) (sym (last.0 ∙ long)) (subst (IsFirstSame names k) (sym last.1) first)

-- ---- numbers

pub one_more_at_most : (old new : List Numbered) (own : Option Numbered) (i : ℕ) → new ≡ old ++ option_to_list own → length old ≤ i → length new ≤ i + 1
one_more_at_most old new None i is le = let same = ap length (is ∙ append-nil old) in omega (arith, same, le)
one_more_at_most old new (Some n) i is le = let more = ap length is ∙ length_push old n in omega (arith, more, le)

-- a group is one of the sources
pub groups_small : (names : List (List ℕ)) (groups : List ℕ) → AreGroups names groups → length groups ≡ length names → length names ≤ 1024
    → (k group : ℕ) → slice_get groups k ≡ Some group → group < 2 ^ 32
groups_small names groups are long few k group here =
    let within = slice_get_within groups k group here in
    let there = slice_get-get_or names k [] (omega (arith, within, long)) in
    let below = slice_get_within names group (get_or names k []) ((are k group here).same ∙ there) in
    omega (arith, below, few)

pub number_is : (of_copy groups : List ℕ) (i sender group : ℕ) (is : Bool) (c : CaughtFields) (own : Option Numbered) → sender ≡ slice_index of_copy i → group ≡ slice_index groups sender
    → own ≡ number_if i sender group is c → (past : List CaughtFields) → is ≡ begins past c && not (is_clash past c) → own ≡ numbered_at of_copy groups i past c
number_is of_copy groups i sender group is c own sender_is group_is own_is past is_is =
    own_is ∙ ap (λ b. number_if i sender group b c) is_is
    ∙ ap (λ n. number_if i sender n (begins past c && not (is_clash past c)) c) group_is
    ∙ ap (λ n. number_if i n (slice_index groups n) (begins past c && not (is_clash past c)) c) sender_is
