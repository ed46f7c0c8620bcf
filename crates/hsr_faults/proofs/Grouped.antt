-- Groups of sends, send by send.
use Rattle.std.proofs.Common.{◌≡◌, ◌⊎◌, ℕ, zero, suc, ◌+◌, ◌<◌, ◌≤◌, ◌==◌, Bool, true, false, cond, List, [], ◌∷◌, ◌++◌, length, slice_index_or, refl, sym, ap, ◌∙◌, subst, arith, ⊎_elim, eq-eqb}
use Rattle.std.specs.Prelude.{count_by}
use Rattle.std.proofs.lemmas.Bool.{cases_lt}
use Rattle.std.proofs.lemmas.List.Sums.{sum_by-append}
use Rattle.hsr_scenario.specs.declared.steps.Order.{Order}
use Rattle.hsr_plays.specs.declared.span.SendSpan.{SendSpan}
use Rattle.hsr_faults.specs.Groups.{AreGrouped, IsGroupOf, IsPlace, is_number}
use Rattle.hsr_faults.specs.declared.groups.Group.{Group}
use Rattle.hsr_faults.proofs.Pushed.{at_before, at_last, length_more}

-- ---- how many

pub count_more : {X : Type 0} (p : X → Bool) (xs : List X) (x : X) → count_by p (xs ++ x ∷ []) ≡ count_by p xs + cond (p x) 1 0
count_more p xs x =
    let more : count_by p (xs ++ x ∷ []) ≡ count_by p xs + (0 + cond {A = ℕ} (p x) 1 0) = sum_by-append (λ y. cond {A = ℕ} (p y) 1 0) xs (x ∷ []) in
    omega (arith, more)

-- ---- a group's place

record IsPlaced (old new : List Group) (j : ℕ) (group : Group) : Type 0 where
  below : j < length new
  here : (d : Group) → slice_index_or new j d ≡ group
  kept : (k : ℕ) (d : Group) → k < length old → slice_index_or new k d ≡ slice_index_or old k d
  grows : length old ≤ length new
  only : (k : ℕ) → k < length new → (k < length old) ⊎ (j ≡ k)

placed : (old new : List Group) (j : ℕ) (group : Group) → IsPlace old new j group → IsPlaced old new j group
placed old new j group at = ⊎_elim
    (λ (was : (new ≡ old) × (j < length old) × ((d : Group) → slice_index_or old j d ≡ group)).
    let long : length new ≡ length old = ap length was.0 in
    let low = was.1 in
    record {
      below = omega (arith, long, low);
      here = λ d. ap (λ (xs : List Group). slice_index_or xs j d) was.0 ∙ was.2 d;
      kept = λ k d inside. ap (λ (xs : List Group). slice_index_or xs k d) was.0;
      grows = omega (arith, long);
      only = λ k inside. Rattle.std.proofs.Common.inl (omega (arith, inside, long));
    })
    (λ (last : (new ≡ old ++ group ∷ []) × (j ≡ length old)).
    let long : length new ≡ length old + 1 = length_more old new group (length old) last.0 refl in
    let end = last.1 in
    record {
      below = omega (arith, long, end);
      here = λ d. ap (λ (xs : List Group). slice_index_or xs j d) last.0 ∙ (ap (λ k. slice_index_or (old ++ group ∷ []) k d) last.1 ∙ at_last old group d);
      kept = λ k d inside. ap (λ (xs : List Group). slice_index_or xs k d) last.0 ∙ at_before old (group ∷ []) k d inside;
      grows = omega (arith, long);
      only = λ k inside. ⊎_elim
          (λ lower. Rattle.std.proofs.Common.inl lower)
          (λ high. Rattle.std.proofs.Common.inr (omega (arith, inside, high, long, end)))
          (cases_lt k (length old));
    })
    at

-- ---- one more send

pub grouped_start : (orders : List Order) (spans : List SendSpan) → AreGrouped orders spans 0 [] []
grouped_start orders spans = record {
  many = refl;
  below = λ i d low. absurd (omega (arith, low));
  each = λ i e d span low. absurd (omega (arith, low));
  some = λ j low. absurd (omega (arith, low));
  sent = λ j low. absurd (omega (arith, low));
  rises = λ i j e low. absurd (omega (arith, low));
}

pub grouped_more : (orders : List Order) (spans : List SendSpan) (n : ℕ) (span : SendSpan) (group : Group) (groups more : List Group) (of all : List ℕ) (j : ℕ) →
    ((s : SendSpan) → slice_index_or spans n s ≡ span) → IsGroupOf orders span group → IsPlace groups more j group → all ≡ of ++ j ∷ [] → AreGrouped orders spans n groups of → AreGrouped orders spans (n + 1) more all
grouped_more orders spans n span group groups more of all j read one at is g = record {
  many = length_more of all j n is g.many;
  below = λ i d low. ⊎_elim
      (λ lower. let was = g.below i d lower in let same = before i d lower in omega (arith, was, same, wider))
      (λ high. let same : i ≡ n = omega (arith, low, high) in let last = here i d same in omega (arith, last, inside))
      (cases_lt i n);
  each = λ i e d s low. ⊎_elim
      (λ lower.
      let was = g.each i e d s lower in
      let there : slice_index_or more (slice_index_or all i e) d ≡ slice_index_or groups (slice_index_or of i e) d =
      ap (λ k. slice_index_or more k d) (before i e lower) ∙ p.kept (slice_index_or of i e) d (g.below i e lower) in
      subst (λ (x : Group). IsGroupOf orders (slice_index_or spans i s) x) (sym there) was)
      (λ high.
      let same : i ≡ n = omega (arith, low, high) in
      let there : slice_index_or more (slice_index_or all i e) d ≡ group = ap (λ k. slice_index_or more k d) (here i e same) ∙ p.here d in
      let mine : slice_index_or spans i s ≡ span = ap (λ k. slice_index_or spans k s) same ∙ read s in
      subst (λ (x : Group). IsGroupOf orders (slice_index_or spans i s) x) (sym there) (subst (λ (x : SendSpan). IsGroupOf orders x group) (sym mine) one))
      (cases_lt i n);
  some = λ k low.
      let long = ap (count_by (is_number k)) is ∙ count_more (is_number k) of j in
      ⊎_elim
      (λ old. let was = g.some k old in omega (arith, was, long))
      (λ (new : j ≡ k).
      let one_more : cond (is_number k j) 1 0 ≡ 1 = ap (λ (b : Bool). cond {A = ℕ} b 1 0) (eq-eqb j k new) in
      omega (arith, long, one_more))
      (p.only k low);
  sent = sent_by;
  rises = λ i k e low rise. ⊎_elim
      (λ lower.
      let same = before i e lower in
      let was = g.rises i k e lower (omega (arith, rise, same)) in
      let at = was.low in
      record { at = was.at; low = was.low; is = λ d. before was.at d (omega (arith, at, lower)) ∙ was.is d })
      (λ high.
      let same : i ≡ n = omega (arith, low, high) in
      let last = here i e same in
      let known : k < length more = omega (arith, rise, last, inside) in
      let first = sent_by k known in
      let at = first.1 in
      record { at = first.0; low = omega (arith, at, same); is = first.2 })
      (cases_lt i n);
}
  where
    p : IsPlaced groups more j group
    p = placed groups more j group at

    wider : length groups ≤ length more
    wider = p.grows

    inside : j < length more
    inside = p.below

    before : (i d : ℕ) → i < n → slice_index_or all i d ≡ slice_index_or of i d
    before i d lower = let many = g.many in ap (λ (xs : List ℕ). slice_index_or xs i d) is ∙ at_before of (j ∷ []) i d (omega (arith, lower, many))

    here : (i d : ℕ) → i ≡ n → slice_index_or all i d ≡ j
    here i d same =
        let long : i ≡ length of = same ∙ sym g.many in
        ap (λ (xs : List ℕ). slice_index_or xs i d) is ∙ (ap (λ k. slice_index_or (of ++ j ∷ []) k d) long ∙ at_last of j d)

    sent_by : (k : ℕ) → k < length more → (h : ℕ) × (h < n + 1) × ((d : ℕ) → slice_index_or all h d ≡ k)
    sent_by k low = ⊎_elim
        (λ old. let was = g.sent k old in let at = was.1 in (was.0, omega (arith, at), λ d. before was.0 d was.1 ∙ was.2 d))
        (λ (new : j ≡ k). (n, omega arith, λ d. here n d refl ∙ new))
        (p.only k low)
