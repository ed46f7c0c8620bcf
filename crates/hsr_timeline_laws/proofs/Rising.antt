-- Stamps of entries that follow one another.
use Rattle.std.proofs.Common.{◌≡◌, ◌⊎◌, ◌<◌, ◌≤◌, ◌+◌, ◌-◌, ℕ, zero, suc, Bool, true, false, cond, List, Option, Some, None, refl, ap, sym, ◌∙◌, subst, arith, inl, inr, ⊎_elim}
use Rattle.std.specs.Prelude.{◌==◌, nat_lt, ◌&&◌, ◌||◌}
use Rattle.std.specs.Option.{option_and_then}
use Rattle.std.proofs.lemmas.Bool.{cases_eq, cases_lt, eqb-true, ltb-true}
use Rattle.std.proofs.lemmas.Bool.Decides.{nat_tests}
use Rattle.hsr_timeline.specs.declared.origin.Origin.{Origin}
use Rattle.hsr_timeline.specs.declared.origin.Spot.{Spot}
use Rattle.hsr_timeline.specs.declared.stamp.Stamp.{Stamp}
use Rattle.hsr_timeline.specs.Stamps.{AreStamps, FollowsAll, IsAfter, at_spot, before, is_earlier, stamp_by}
use Rattle.hsr_timeline.proofs.Circles.{IsBefore, IsUpTo, causes_first, earlier_from, earlier_told}

-- ---- the order of stamps

pub before_trans : (x y z : Stamp) → IsBefore x y → IsBefore y z → IsBefore x z
before_trans x y z h k = ⊎_elim
    (λ lt. inl (⊎_elim (λ (l : y.moment < z.moment). omega arith) (λ (l : (y.moment ≡ z.moment) × (y.step < z.step)). let e = l.0 in omega arith) k))
    (λ both. ⊎_elim (λ l. inl (let e : x.moment ≡ y.moment = both.0 in omega arith))
    (λ l. inr (both.0 ∙ l.0, let a : x.step < y.step = both.1 in let b : y.step < z.step = l.1 in omega arith)) k)
    h

pub not_both : (x y : Stamp) → IsBefore x y → IsUpTo y x → ⊥
not_both x y h k = ⊎_elim
    (λ lt. ⊎_elim (λ (l : y.moment < x.moment). omega arith) (λ (l : (y.moment ≡ x.moment) × (y.step ≤ x.step)). let e = l.0 in omega arith) k)
    (λ both. ⊎_elim (λ l. let e : x.moment ≡ y.moment = both.0 in omega arith)
    (λ l. let a : x.step < y.step = both.1 in let b : y.step ≤ x.step = l.1 in omega arith) k)
    h

pub earlier_trans : (x y z : Stamp) → is_earlier x y ≡ true → is_earlier y z ≡ true → is_earlier x z ≡ true
earlier_trans x y z h k = earlier_from x z (before_trans x y z (earlier_told x y h) (earlier_told y z k))

pub up_trans : (x y z : Stamp) → IsUpTo x y → IsUpTo y z → IsUpTo x z
up_trans x y z h k = ⊎_elim
    (λ lt. inl (⊎_elim (λ (l : y.moment < z.moment). omega arith) (λ (l : (y.moment ≡ z.moment) × (y.step ≤ z.step)). let e = l.0 in omega arith) k))
    (λ both. ⊎_elim (λ l. inl (let e : x.moment ≡ y.moment = both.0 in omega arith))
    (λ l. inr (both.0 ∙ l.0, let a : x.step ≤ y.step = both.1 in let b : y.step ≤ z.step = l.1 in omega arith)) k)
    h

-- ---- what an entry follows

module _ (records : List (List Origin)) (stamp : Spot → Option Stamp) (are : AreStamps records stamp) where
  -- an entry that has a stamp comes after all that it follows
  pub follows : (spot : Spot) (t : Stamp) → stamp spot ≡ Some t → (x : Origin) × (at_spot records spot ≡ Some x) × FollowsAll stamp spot x t
  follows spot t is = of (at_spot records spot) refl
    where
      of : (o : Option Origin) → at_spot records spot ≡ o → (x : Origin) × (at_spot records spot ≡ Some x) × FollowsAll stamp spot x t
      of None e = absurd (let f : option_and_then (stamp_by stamp spot) None ≡ Some t = ap (option_and_then (stamp_by stamp spot)) (sym e) ∙ (sym (are.each spot) ∙ is) in cc)
      of (Some x) e = (x, e, causes_first records stamp are spot x t e is)

  pub after_later : (p : Spot) (s t : Stamp) → IsAfter stamp (Some p) s → is_earlier s t ≡ true → IsAfter stamp (Some p) t
  after_later p s t h k = (h.0, h.1, earlier_trans h.0 s t h.2 k)

  -- it comes after the one before it in its record
  behind : (p q : Spot) (t : Stamp) → p.node ≡ q.node → q.place ≡ p.place + 1 → stamp q ≡ Some t → IsAfter stamp (Some p) t
  behind p q t node place is =
      let cause : Spot = record { node = q.node; place = q.place - 1 } in
      let some : (q.place == 0) ≡ false = grind (arith, nat_tests) in
      let found : before q ≡ Some cause = ap (λ b. cond b None (Some cause)) some in
      let P : Option Spot → Type 0 = λ o. IsAfter stamp o t in
      let after : IsAfter stamp (Some cause) t = subst P found (follows q t is).2.recorded in
      let at : q.place - 1 ≡ p.place = omega (arith, place) in
      let same : cause ≡ p = λ i. record { node = sym node i; place = at i } in
      let Q : Spot → Type 0 = λ s. IsAfter stamp (Some s) t in
      subst Q same after

  recorded : (k : ℕ) (p q : Spot) (t : Stamp) → p.node ≡ q.node → q.place ≡ p.place + suc k → stamp q ≡ Some t → IsAfter stamp (Some p) t
  recorded zero p q t node place is = behind p q t node (omega (arith, place)) is
  recorded (suc k) p q t node place is =
      let cause : Spot = record { node = q.node; place = q.place - 1 } in
      let c = behind cause q t refl (omega (arith, place)) is in
      after_later p c.0 t (recorded k p cause c.0 node (omega (arith, place)) c.1) c.2

  pub recorded_before : (p q : Spot) (t : Stamp) → p.node ≡ q.node → p.place < q.place → stamp q ≡ Some t → IsAfter stamp (Some p) t
  recorded_before p q t node place is = recorded (q.place - p.place - 1) p q t node (omega (arith, place)) is
