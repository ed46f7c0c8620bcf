-- Nodes that missed a send, kept one after another.
use Rattle.std.proofs.Common.{◌≡◌, ℕ, ◌+◌, ◌<◌, ◌≤◌, ◌&&◌, ◌||◌, Bool, true, false, List, [], ◌∷◌, ◌++◌, length, set, take, get_or, refl, sym, ap, ◌∙◌, arith, Option, Some}
use Rattle.std.specs.Prelude.{nat_eq, slice_get}
use Rattle.std.proofs.lemmas.Bool.{eq-eqb, eqb-true, false≢true, ne_eqb}
use Rattle.std.proofs.lemmas.Grind.{get_or-set_at}
use Rattle.std.proofs.lemmas.List.{get_or-set_other, length-set, length-take, take_more}
use Rattle.std.proofs.lemmas.Option.{get_or_from_slice_get, same_Some, slice_get-get_or, slice_get_within}
use Rattle.hsr_bitset.specs.Numbers.{has}
use Rattle.hsr_deliveries.specs.Delivered.{Delivery}
use Rattle.hsr_plan_sweep.specs.Audience.{Audience}
use Rattle.hsr_plan_sweep.specs.Counting.{stream_if}
use Rattle.hsr_plan_report.specs.Missing.{AreMissing, Misses, misses, one_missed}
use Rattle.hsr_plan_report.specs.Streams.{counts_at, row_of}

or_none : (b : Bool) → (b || false) ≡ b
or_none true = refl
or_none false = refl

-- ---- one row

-- the set of a row is put in the place of the one before
pub missed_at : (row : ℕ) (test : ℕ → Bool) (old : List (List ℕ)) (d now : List ℕ) → row < length old → ((k : ℕ) → k < 512 → has now k ≡ (has (get_or old row d) k || test k))
    → Misses row test old (set old row now)
missed_at row test old d now low is = record { long = length-set old row now; each = λ r before after was here k few. at r before after was here k few (nat_eq row r) refl }
  where
    at : (r : ℕ) (before after : List ℕ) → slice_get old r ≡ Some before → slice_get (set old row now) r ≡ Some after → (k : ℕ) → k < 512 → (b : Bool) → nat_eq row r ≡ b
        → has after k ≡ (has before k || (nat_eq row r && test k))
    at r before after was here k few true is_row =
        let same : r ≡ row = sym (eqb-true row r is_row) in
        let new : after ≡ now = sym (get_or_from_slice_get (set old row now) r after now here) ∙ get_or-set_at old row r now now same low in
        let was_row : get_or old row d ≡ before = ap (λ n. get_or old n d) (sym same) ∙ get_or_from_slice_get old r before d was in
        ap (λ set. has set k) new ∙ is k few ∙ ap (λ set. has set k || test k) was_row ∙ ap (λ b. has before k || (b && test k)) (sym is_row)
    at r before after was here k few false is_other =
        let stays = get_or-set_other old row r now after (λ same. false≢true (sym is_other ∙ eq-eqb row r (sym same))) in
        let new : after ≡ before = sym (get_or_from_slice_get (set old row now) r after after here) ∙ stays ∙ get_or_from_slice_get old r before after was in
        ap (λ set. has set k) new ∙ sym (or_none (has before k)) ∙ ap (λ b. has before k || (b && test k)) (sym is_other)

-- there is no such row
pub missed_nowhere : (row : ℕ) (test : ℕ → Bool) (old : List (List ℕ)) → length old ≤ row → Misses row test old old
missed_nowhere row test old high = record {
  long = refl;
  each = λ r before after was here k few.
      let inside = slice_get_within old r before was in
      let other = ne_eqb row r (λ same. omega (arith, same, inside, high)) in
      ap (λ set. has set k) (same_Some after before (sym here ∙ was)) ∙ sym (or_none (has before k)) ∙ ap (λ b. has before k || (b && test k)) (sym other);
}

-- ---- one send more

or_through : (a b c : Bool) → (a || (b || c)) ≡ ((a || b) || c)
or_through true b c = refl
or_through false b c = refl

module _ (a : Audience) (streams : List (Option ℕ)) (last row k : ℕ) where
  missed_push : (i : ℕ) (ds : List Delivery) (d : Delivery)
      → one_missed a streams last row k i (ds ++ d ∷ [])
      ≡ (one_missed a streams last row k i ds || (counts_at streams last row (i + length ds) && misses a (stream_if (slice_get streams (i + length ds))) d k))
  missed_push i [] d =
      let place : i ≡ i + 0 = omega arith in
      or_none (counts_at streams last row i && misses a (stream_if (slice_get streams i)) d k) ∙ ap (λ n. counts_at streams last row n && misses a (stream_if (slice_get streams n)) d k) place
  missed_push i (e ∷ ds) d =
      let place : (i + 1) + length ds ≡ i + length (e ∷ ds) = omega arith in
      let first = counts_at streams last row i && misses a (stream_if (slice_get streams i)) e k in
      ap (λ b. first || b) (missed_push (i + 1) ds d)
      ∙ or_through first (one_missed a streams last row k (i + 1) ds) (counts_at streams last row ((i + 1) + length ds) && misses a (stream_if (slice_get streams ((i + 1) + length ds))) d k)
      ∙ ap (λ n. (first || one_missed a streams last row k (i + 1) ds) || (counts_at streams last row n && misses a (stream_if (slice_get streams n)) d k)) place

  missed_more : (ds : List Delivery) (i : ℕ) (d : Delivery) → i < length ds
      → one_missed a streams last row k 0 (take (i + 1) ds)
      ≡ (one_missed a streams last row k 0 (take i ds) || (counts_at streams last row i && misses a (stream_if (slice_get streams i)) (get_or ds i d) k))
  missed_more ds i d low =
      let long : 0 + length (take i ds) ≡ i = let taken = length-take i ds in omega (arith, taken, low) in
      ap (one_missed a streams last row k 0) (take_more ds i d low) ∙ missed_push 0 (take i ds) (get_or ds i d)
      ∙ ap (λ n. one_missed a streams last row k 0 (take i ds) || (counts_at streams last row n && misses a (stream_if (slice_get streams n)) (get_or ds i d) k)) long

pub missing_more : (a : Audience) (streams : List (Option ℕ)) (last row : ℕ) (ds : List Delivery) (i : ℕ) (d : Delivery) (old new : List (List ℕ)) → i < length ds
    → row ≡ row_of last (stream_if (slice_get streams i)) → Misses row (misses a (stream_if (slice_get streams i)) (get_or ds i d)) old new → AreMissing a streams last (take i ds) old
    → AreMissing a streams last (take (i + 1) ds) new
missing_more a streams last row ds i d old new low is more are r set here k few =
    let before = get_or old r [] in
    let was = slice_get-get_or old r [] (let inside = slice_get_within new r set here in omega (arith, inside, more.long)) in
    more.each r before set was here k few ∙ ap (λ b. b || (nat_eq row r && misses a (stream_if (slice_get streams i)) (get_or ds i d) k)) (are r before was k few)
    ∙ ap (λ n. one_missed a streams last r k 0 (take i ds) || (nat_eq n r && misses a (stream_if (slice_get streams i)) (get_or ds i d) k)) is
    ∙ sym (missed_more a streams last r k ds i d low)
