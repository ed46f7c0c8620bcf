-- Where copies stand, gathered by an index.
use Rattle.std.proofs.Common.{◌≡◌, ℕ, ◌+◌, ◌&&◌, Bool, true, false, cond, nat_eq, List, [], ◌∷◌, ◌++◌, take, get_or, count_by, Option, Some, None, unwrap_or, Bor, refl, sym, ap, ◌∙◌, subst}
use Rattle.std.specs.Prelude.{Vec, slice_get}
use Rattle.std.specs.Global.{Global}
use Rattle.std.specs.Option.{option_eq}
use Rattle.std.specs.Str.{bytes_eq}
use Rattle.std.proofs.lemmas.List.{append-nil}
use Rattle.indexmap.specs.IndexMap.{IndexMap, Updates, get_by}
use Rattle.hsr_frame.proofs.OneMore.{passing_more}
use Rattle.hsr_node.specs.declared.event.Carried.{Carried}
use Rattle.hsr_run_index.specs.Often.{count_of, is_key_of, is_same_carried, probe_pair}
use Rattle.hsr_run_index.proofs.Counting.{is_same_key, keys_same}
use Rattle.hsr_run_index.proofs.Often.{carried_tells}
use Rattle.hsr_timeline.specs.IndexedCopies.{found_at, indices_in, items_if}
use Rattle.hsr_timeline.specs.Partners.{indices, indices_below, is_at, partner_of}

-- ---- one more index

pub one_kept : {S : Type 0} (old new : IndexMap (Option (ℕ × ℕ) × Bor (List ℕ)) (Vec ℕ Global) S) (copy : Carried) (key : Option (ℕ × ℕ) × Bor (List ℕ)) (index : ℕ) (indices : Vec ℕ Global) →
    key.0 ≡ probe_pair copy.probe → key.1.now ≡ copy.octets → indices.items ≡ indices_in old copy ++ index ∷ [] → Updates is_same_key old new key (Some indices) →
    (other : Carried) → indices_in new other ≡ indices_in old other ++ cond (is_same_carried other copy) (index ∷ []) []
one_kept old new copy key index indices at octets more updates other =
    let other_key : Option (ℕ × ℕ) × Bor (List ℕ) = (probe_pair other.probe, record key.1 { now = other.octets }) in
    let P : Option (ℕ × ℕ) → Type 0 = λ p. (option_eq (λ a b. nat_eq a.0 b.0 && nat_eq a.1 b.1) p (probe_pair other.probe) && bytes_eq key.1.now other.octets) ≡ is_same_carried other copy in
    let same : is_same_key key other_key ≡ is_same_carried other copy = subst P (sym at) (keys_same copy other key.1.now octets) in
    let found : get_by (is_key_of other) new ≡ cond (is_same_carried other copy) (Some indices) (get_by (is_key_of other) old) =
    updates.0 other_key ∙ ap (λ b. cond b (Some indices) (get_by (is_key_of other) old)) same in
    ap items_if found ∙ by_same (is_same_carried other copy) refl
  where
    by_same : (b : Bool) → is_same_carried other copy ≡ b →
        items_if (cond b (Some indices) (get_by (is_key_of other) old)) ≡ indices_in old other ++ cond b (index ∷ []) []
    by_same true is = more ∙ ap (λ xs. xs ++ index ∷ []) (ap (indices_in old) (sym (carried_tells other copy is)))
    by_same false is = sym (append-nil (indices_in old other))

pub items_kept : (o : Option (Vec ℕ Global)) (none : Vec ℕ Global) → none.items ≡ [] → (unwrap_or o none).items ≡ items_if o
items_kept None none is = is
items_kept (Some indices) none is = refl

pub found : {S : Type 0} (kept : IndexMap (Option (ℕ × ℕ) × Bor (List ℕ)) (Vec ℕ Global) S) (copy : Carried) (key : Option (ℕ × ℕ) × Bor (List ℕ)) →
    key.0 ≡ probe_pair copy.probe → key.1.now ≡ copy.octets → get_by (is_same_key key) kept ≡ get_by (is_key_of copy) kept
found kept copy key send octets =
    let by : Option (ℕ × ℕ) → List ℕ → Option (Vec ℕ Global) = λ p xs. get_by (λ k. option_eq (λ a b. nat_eq a.0 b.0 && nat_eq a.1 b.1) p k.0 && bytes_eq xs k.1.now) kept in
    ap (λ p. by p key.1.now) send ∙ ap (by (probe_pair copy.probe)) octets

-- ---- one more copy

pub indices_more : (copy : Carried) (xs : List (Option Carried)) (i : ℕ) →
    indices_below copy xs (i + 1) ≡ indices_below copy xs i ++ cond (is_at copy (get_or xs i None)) (i ∷ []) []
indices_more copy xs i = passing_more (λ k. is_at copy (get_or xs k None)) i

-- ---- one more row

pub found_partner : {S T : Type 0} (kept : IndexMap (Option (ℕ × ℕ) × Bor (List ℕ)) (Vec ℕ Global) S) (counts : IndexMap (Option (ℕ × ℕ) × Bor (List ℕ)) ℕ T) (xs ys : List (Option Carried)) (j : ℕ) →
    ((copy : Carried) → indices_in kept copy ≡ indices copy xs) → ((copy : Carried) → count_of counts copy ≡ count_by (is_at copy) (take j ys)) → (o : Option Carried) →
    found_at kept counts o ≡ partner_of xs ys j o
found_partner kept counts xs ys j indices_are counts_are None = refl
found_partner kept counts xs ys j indices_are counts_are (Some copy) = ap (λ ps. slice_get ps (count_of counts copy)) (indices_are copy) ∙ ap (slice_get (indices copy xs)) (counts_are copy)
