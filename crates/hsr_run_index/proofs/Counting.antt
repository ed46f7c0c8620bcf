-- How often copies stand in a list, counted by an index.
use Rattle.std.proofs.Common.{◌≡◌, ℕ, ◌+◌, ◌&&◌, Bool, true, false, cond, nat_eq, List, Option, Some, None, unwrap_or, Bor, refl, sym, ap, ◌∙◌, subst, arith}
use Rattle.std.specs.Option.{option_eq}
use Rattle.std.specs.Str.{bytes_eq}
use Rattle.std.proofs.lemmas.Bool.{false≢true}
use Rattle.indexmap.specs.IndexMap.{IndexMap, Updates, get_by}
use Rattle.hsr_node.specs.declared.event.Carried.{Carried}
use Rattle.hsr_node.specs.declared.event.Probe.{Probe}
use Rattle.hsr_run_laws.proofs.Same.{address_same, same_address}
use Rattle.hsr_run_index.specs.Often.{count_of, is_key_of, is_same_carried, is_same_probe, probe_pair}
use Rattle.hsr_run_index.proofs.Often.{carried_tells}

-- ---- keys

abbrev pub is_same_key : Option (ℕ × ℕ) × Bor (List ℕ) → Option (ℕ × ℕ) × Bor (List ℕ) → Bool
is_same_key x y = option_eq (λ a b. nat_eq a.0 b.0 && nat_eq a.1 b.1) x.0 y.0 && bytes_eq x.1.now y.1.now

bytes_turned : (a b : List ℕ) → bytes_eq a b ≡ bytes_eq b a
bytes_turned a b = by_first (bytes_eq a b) (bytes_eq b a) refl refl
  where
    by_first : (x y : Bool) → bytes_eq a b ≡ x → bytes_eq b a ≡ y → x ≡ y
    by_first true true one other = refl
    by_first false false one other = refl
    by_first true false one other = absurd (false≢true (sym other ∙ address_same b a (sym (same_address a b one))))
    by_first false true one other = absurd (false≢true (sym one ∙ address_same a b (sym (same_address b a other))))

same_probes : (p q : Option Probe) → option_eq (λ a b. nat_eq a.0 b.0 && nat_eq a.1 b.1) (probe_pair p) (probe_pair q) ≡ is_same_probe q p
same_probes None None = refl
same_probes None (Some q) = refl
same_probes (Some p) None = refl
same_probes (Some p) (Some q) = refl

pub keys_same : (copy other : Carried) (octets : List ℕ) → octets ≡ copy.octets →
    (option_eq (λ a b. nat_eq a.0 b.0 && nat_eq a.1 b.1) (probe_pair copy.probe) (probe_pair other.probe) && bytes_eq octets other.octets) ≡ is_same_carried other copy
keys_same copy other octets is =
    ap (λ b. b && bytes_eq octets other.octets) (same_probes copy.probe other.probe)
    ∙ ap (λ b. is_same_probe other.probe copy.probe && b) (ap (λ xs. bytes_eq xs other.octets) is ∙ bytes_turned copy.octets other.octets)

-- ---- one more copy

pub one_counted : {S : Type 0} (old new : IndexMap (Option (ℕ × ℕ) × Bor (List ℕ)) ℕ S) (copy : Carried) (key : Option (ℕ × ℕ) × Bor (List ℕ)) (count : ℕ) →
    key.0 ≡ probe_pair copy.probe → key.1.now ≡ copy.octets → count ≡ count_of old copy + 1 → Updates is_same_key old new key (Some count) →
    (other : Carried) → count_of new other ≡ count_of old other + cond (is_same_carried other copy) 1 0
one_counted old new copy key count send octets more updates other =
    let other_key : Option (ℕ × ℕ) × Bor (List ℕ) = (probe_pair other.probe, record key.1 { now = other.octets }) in
    let P : Option (ℕ × ℕ) → Type 0 = λ p. (option_eq (λ a b. nat_eq a.0 b.0 && nat_eq a.1 b.1) p (probe_pair other.probe) && bytes_eq key.1.now other.octets) ≡ is_same_carried other copy in
    let same : is_same_key key other_key ≡ is_same_carried other copy = subst P (sym send) (keys_same copy other key.1.now octets) in
    let found : get_by (is_key_of other) new ≡ cond (is_same_carried other copy) (Some count) (get_by (is_key_of other) old) =
    updates.0 other_key ∙ ap (λ b. cond b (Some count) (get_by (is_key_of other) old)) same in
    ap (λ o. unwrap_or o 0) found ∙ by_same (is_same_carried other copy) refl
  where
    by_same : (b : Bool) → is_same_carried other copy ≡ b →
        unwrap_or (cond b (Some count) (get_by (is_key_of other) old)) 0 ≡ count_of old other + cond b 1 0
    by_same true is = let e : count_of old copy ≡ count_of old other = ap (count_of old) (sym (carried_tells other copy is)) in omega (arith, more, e)
    by_same false is = omega arith

-- ---- a look-up

pub looked_up : {S : Type 0} (counts : IndexMap (Option (ℕ × ℕ) × Bor (List ℕ)) ℕ S) (copy : Carried) (key : Option (ℕ × ℕ) × Bor (List ℕ)) →
    key.0 ≡ probe_pair copy.probe → key.1.now ≡ copy.octets → unwrap_or (get_by (is_same_key key) counts) 0 ≡ count_of counts copy
looked_up counts copy key send octets =
    let by : Option (ℕ × ℕ) → List ℕ → ℕ = λ p xs. unwrap_or (get_by (λ k. option_eq (λ a b. nat_eq a.0 b.0 && nat_eq a.1 b.1) p k.0 && bytes_eq xs k.1.now) counts) 0 in
    ap (λ p. by p key.1.now) send ∙ ap (by (probe_pair copy.probe)) octets
