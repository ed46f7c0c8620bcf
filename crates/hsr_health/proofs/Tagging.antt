-- Frames counted by their VLAN tags.
use Rattle.std.proofs.Common.{◌≡◌, ℕ, suc, ◌+◌, ◌-◌, ◌%◌, ◌<◌, ◌&&◌, Bool, true, false, cond, List, [], ◌∷◌, ◌++◌, IfSome, length, map, reverse, ◌⊎◌, inl, inr, refl, sym, ap, subst, ◌∙◌, arith, Option, Some, None}
use Rattle.std.specs.Prelude.{nat_eq, count_by, option_map, option_to_list, slice_get, Contains}
use Rattle.std.proofs.lemmas.Bool.{cases_eq, eq-eqb, ne_eqb}
use Rattle.std.proofs.lemmas.List.{take_all}
use Rattle.std.proofs.lemmas.List.Elements.{Contains-push_cases}
use Rattle.std.proofs.lemmas.List.Sums.{sum_by-cons}
use Rattle.std.proofs.lemmas.Option.{slice_get-map}
use Rattle.hsr_frame_groups.specs.Frames.{CaughtFields, past_of}
use Rattle.hsr_sightings.specs.Copies.{count_copies}
use Rattle.hsr_sightings.specs.Frames.{begins}
use Rattle.hsr_health.specs.ByKey.{AreCountsOf}
use Rattle.hsr_health.specs.Kinds.{AreVlanKeys, AreVlans, control_by, has_vlan, vlan_by, vlan_if, vlan_rank}
use Rattle.hsr_health.specs.declared.by_key.KeyCount.{KeyCount}
use Rattle.hsr_health.specs.declared.kinds.VlanKind.{VlanKind}
use Rattle.hsr_health.proofs.Keying.{count_push, some_counted}
use Rattle.hsr_health.proofs.Pasts.{past_more}
use Rattle.hsr_health.proofs.Sorting.{mapped_from}

-- a tag is the one with a rank
vlan_same : (control vlan : Option ℕ) (c : CaughtFields) → c.copy.vlan ≡ vlan → has_vlan control c ≡ nat_eq (vlan_rank vlan) (vlan_rank control)
vlan_same None None c is = rw is refl
vlan_same None (Some n) c is = rw is (sym (ne_eqb (n + 1) 0 (λ e. omega (arith, e))))
vlan_same (Some m) None c is = rw is (sym (ne_eqb 0 (m + 1) (λ e. omega (arith, e))))
vlan_same (Some m) (Some n) c is = rw is (by_case (cases_eq m n))
  where
    by_case : (m ≡ n) ⊎ (m ≡ n → ⊥) → nat_eq m n ≡ nat_eq (n + 1) (m + 1)
    by_case (inl same) = eq-eqb m n same ∙ sym (eq-eqb (n + 1) (m + 1) (omega (arith, same)))
    by_case (inr other) = ne_eqb m n other ∙ sym (ne_eqb (n + 1) (m + 1) (λ e. other (omega (arith, e))))

has_rank : (control : Option ℕ) (c : CaughtFields) → has_vlan control c ≡ nat_eq (vlan_rank c.copy.vlan) (vlan_rank control)
has_rank control c = vlan_same control c.copy.vlan c refl

count_agree : (f g : List CaughtFields → CaughtFields → Bool) → ((past : List CaughtFields) (c : CaughtFields) → f past c ≡ g past c) → (past : List CaughtFields) → count_copies f past ≡ count_copies g past
count_agree f g same [] = refl
count_agree f g same (c ∷ past) =
    ap (λ b. cond b (count_copies f past + 1) (count_copies f past)) (same past c) ∙ ap (λ n. cond (g past c) (n + 1) n) (count_agree f g same past)

-- ---- one copy more

nothing : (xs : List ℕ) → xs ++ [] ≡ xs
nothing [] = refl
nothing (x ∷ xs) = ap (λ l. x ∷ l) (nothing xs)

pub no_vlans : (copies : List CaughtFields) → AreVlanKeys copies 0 []
no_vlans copies = record { counted = λ key. refl; small = λ n has. absurd (omega (arith, has.1)) }

pub vlan_step : (copies : List CaughtFields) (i : ℕ) (c : CaughtFields) (is_first : Bool) (o : Option ℕ) (old new : List ℕ) → slice_get copies i ≡ Some c → is_first ≡ begins (past_of copies i) c
    → o ≡ vlan_if is_first c → IfSome o (λ n. n < 65537) → new ≡ old ++ option_to_list o → AreVlanKeys copies i old → AreVlanKeys copies (i + 1) new
vlan_step copies i c is_first o old new here begins_is o_is small new_is are = by_first is_first begins_is o o_is small new_is
  where
    such : ℕ → List CaughtFields → CaughtFields → Bool
    such key past d = begins past d && nat_eq (vlan_rank d.copy.vlan) key

    grown : (key : ℕ) (b : Bool) → b ≡ begins (past_of copies i) c → count_copies (such key) (past_of copies (i + 1))
        ≡ cond (b && nat_eq (vlan_rank c.copy.vlan) key) (count_copies (such key) (past_of copies i) + 1) (count_copies (such key) (past_of copies i))
    grown key b is =
        ap (count_copies (such key)) (past_more copies i c here)
        ∙ ap (λ x. cond (x && nat_eq (vlan_rank c.copy.vlan) key) (count_copies (such key) (past_of copies i) + 1) (count_copies (such key) (past_of copies i))) (sym is)

    by_key : (n m : ℕ) (b : Bool) → n ≡ m → n + cond b 1 0 ≡ cond b (m + 1) m
    by_key n m true is = omega (arith, is)
    by_key n m false is = omega (arith, is)

    by_first : (b : Bool) → b ≡ begins (past_of copies i) c → (p : Option ℕ) → p ≡ vlan_if b c → IfSome p (λ n. n < 65537) → new ≡ old ++ option_to_list p → AreVlanKeys copies (i + 1) new
    by_first true is None p_is low l_is = absurd cc
    by_first false is (Some n) p_is low l_is = absurd cc
    by_first true is (Some n) p_is low l_is = record {
      counted = λ key.
          ap (count_by (λ m. nat_eq m key)) l_is ∙ count_push key old n ∙ by_key (count_by (λ m. nat_eq m key) old) (count_copies (such key) (past_of copies i)) (nat_eq n key) (are.counted key)
          ∙ ap (λ r. cond (nat_eq r key) (count_copies (such key) (past_of copies i) + 1) (count_copies (such key) (past_of copies i))) rank_is ∙ sym (grown key true is);
      small = λ m has. by_has m (Contains-push_cases old n m (subst (λ l. Contains l m) l_is has));
    }
      where
        rank_is : n ≡ vlan_rank c.copy.vlan
        rank_is = cc

        by_has : (m : ℕ) → Contains old m ⊎ (n ≡ m) → m < 65537
        by_has m (inl has) = are.small m has
        by_has m (inr own) = subst (λ k. k < 65537) own low
    by_first false is None p_is low l_is = record {
      counted = λ key. ap (count_by (λ m. nat_eq m key)) (l_is ∙ nothing old) ∙ are.counted key ∙ sym (grown key false is);
      small = λ m has. are.small m (subst (λ l. Contains l m) (l_is ∙ nothing old) has);
    }

-- ---- the whole

-- a number that is counted is there
counted_there : (q : ℕ) (keys : List ℕ) → 0 < count_by (λ n. nat_eq n q) keys → Contains keys q
counted_there q [] some = absurd (omega (arith, some))
counted_there q (x ∷ keys) some = by_case (cases_eq x q) (λ more. counted_there q keys more)
  where
    by_case : (x ≡ q) ⊎ (x ≡ q → ⊥) → (0 < count_by (λ n. nat_eq n q) keys → Contains keys q) → Contains (x ∷ keys) q
    by_case (inl same) rest = (0, omega arith, same)
    by_case (inr other) rest =
        let split = sum_by-cons (λ n. cond (nat_eq n q) 1 0) x keys in
        let none : ◌≡◌ {A = ℕ} (cond (nat_eq x q) 1 0) 0 = ap (λ b. cond b 1 0) (ne_eqb x q other) in
        let has = rest (omega (arith, some, split, none)) in
        (suc has.0, omega (arith, has.1), has.2)

rank_back : (key : ℕ) → key < 65537 → vlan_rank (control_by key) ≡ key
rank_back key small = by_case (cases_eq key 0)
  where
    by_case : (key ≡ 0) ⊎ (key ≡ 0 → ⊥) → vlan_rank (control_by key) ≡ key
    by_case (inl none) = ap (λ b. vlan_rank (cond b None (Some ((key - 1) % 65536)))) (eq-eqb key 0 none) ∙ sym none
    by_case (inr some) = ap (λ b. vlan_rank (cond b None (Some ((key - 1) % 65536)))) (ne_eqb key 0 some) ∙ omega (arith, small, some)

control_back : (control : Option ℕ) → vlan_rank control < 65537 → control_by (vlan_rank control) ≡ control
control_back None small = refl
control_back (Some n) small =
    ap (λ b. cond b None (Some ((n + 1 - 1) % 65536))) (ne_eqb (n + 1) 0 (λ e. omega (arith, e)))
    ∙ ap Some (let same : (n + 1 - 1) % 65536 ≡ n = omega (arith, small) in same)

pub vlans_are : (copies : List CaughtFields) (keys : List ℕ) (counts : List KeyCount) (kinds : List VlanKind) → AreVlanKeys copies (length copies) keys → AreCountsOf keys counts → kinds ≡ map vlan_by counts
    → AreVlans (reverse copies) kinds
vlans_are copies keys counts kinds keys_are are is = record {
  counted = λ k kind at_k.
      let own = from k kind at_k in
      let some = some_counted own.0.key keys (are.there k own.0 own.1) in
      let rank = rank_back own.0.key (keys_are.small own.0.key (are.there k own.0 own.1)) in
      let count : own.0.count ≡ count_copies (λ before c. begins before c && has_vlan (control_by own.0.key) c) (reverse copies)
      = are.each k own.0 own.1 ∙ ap (λ key. count_by (λ n. nat_eq n key) keys) (sym rank) ∙ by_control (control_by own.0.key) in
      subst (λ (x : VlanKind). (x.frames ≡ count_copies (λ before c. begins before c && has_vlan x.control c) (reverse copies)) × (0 < x.frames)) (sym own.2)
      (count, omega (arith, are.each k own.0 own.1, some));
  once = λ j k kind other before at_j at_k.
      let a = from j kind at_j in
      let b = from k other at_k in
      let less = are.rise j k a.0 b.0 before a.1 b.1 in
      let a_is : vlan_rank kind.control ≡ a.0.key = ap (λ (x : VlanKind). vlan_rank x.control) a.2 ∙ rank_back a.0.key (keys_are.small a.0.key (are.there j a.0 a.1)) in
      let b_is : vlan_rank other.control ≡ b.0.key = ap (λ (x : VlanKind). vlan_rank x.control) b.2 ∙ rank_back b.0.key (keys_are.small b.0.key (are.there k b.0 b.1)) in
      subst (λ n. n < vlan_rank other.control) (sym a_is) (subst (λ n. a.0.key < n) (sym b_is) less);
  all = λ control some.
      let has = counted_there (vlan_rank control) keys (subst (λ n. 0 < n) (sym (by_control control)) some) in
      let own = are.all (vlan_rank control) has in (
        own.0,
        vlan_by own.1,
        ap (λ l. slice_get l own.0) is ∙ slice_get-map vlan_by counts own.0 ∙ ap (option_map vlan_by) own.2,
        ap control_by own.3 ∙ control_back control (keys_are.small (vlan_rank control) has),
      );
}
  where
    from : (k : ℕ) (kind : VlanKind) → slice_get kinds k ≡ Some kind → (own : KeyCount) × (slice_get counts k ≡ Some own) × (kind ≡ vlan_by own)
    from k kind at_k = mapped_from vlan_by counts k kind (ap (λ l. slice_get l k) (sym is) ∙ at_k)

    by_control : (control : Option ℕ) → count_by (λ n. nat_eq n (vlan_rank control)) keys ≡ count_copies (λ before c. begins before c && has_vlan control c) (reverse copies)
    by_control control =
        keys_are.counted (vlan_rank control)
        ∙ ap (λ l. count_copies (λ before c. begins before c && nat_eq (vlan_rank c.copy.vlan) (vlan_rank control)) (reverse l)) (take_all (length copies) copies (omega arith))
        ∙ count_agree (λ before c. begins before c && nat_eq (vlan_rank c.copy.vlan) (vlan_rank control)) (λ before c. begins before c && has_vlan control c)
        (λ before c. ap (λ b. begins before c && b) (sym (has_rank control c))) (reverse copies)
