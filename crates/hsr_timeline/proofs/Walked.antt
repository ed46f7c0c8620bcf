-- A walk over what entries passed finds the partners of rows.
use Rattle.std.proofs.Common.{◌≡◌, ℕ, zero, suc, ◌+◌, ◌-◌, ◌<◌, ◌≤◌, ⊎_elim, Bool, true, false, cond, List, [], ◌∷◌, ◌++◌, length, map, take, get_or, count_by, Option, Some, None, refl, sym, ap, ◌∙◌, subst, arith}
use Rattle.std.specs.Prelude.{slice_get}
use Rattle.std.specs.List.{range_with_len}
use Rattle.std.proofs.lemmas.Bool.{cases_lt}
use Rattle.std.proofs.lemmas.List.{length-append, map-append}
use Rattle.hsr_frame.proofs.OneMore.{counted_more, numbers_more}
use Rattle.hsr_node.specs.Record.{Owner}
use Rattle.hsr_node.specs.declared.entry.Entry.{Entry}
use Rattle.hsr_node.specs.declared.event.Carried.{Carried}
use Rattle.hsr_run_index.specs.InOrder.{passed_by}
use Rattle.hsr_run_index.proofs.Often.{carried_itself}
use Rattle.hsr_timeline.specs.declared.walk.Step.{Step}
use Rattle.hsr_timeline.specs.Hops.{passed_from}
use Rattle.hsr_timeline.specs.Partners.{indices, indices_below, is_at, partner, partner_of}
use Rattle.hsr_timeline.specs.Walk.{IsNextPass, IsStep, IsWalked}
use Rattle.hsr_timeline.proofs.Placing.{indices_more}

-- ---- what the entries of a record passed

pub passed_long : (owner : Owner) (port n : ℕ) (entries : List Entry) → length (passed_from owner port n entries) ≡ length entries
passed_long owner port n [] = refl
passed_long owner port n (x ∷ xs) = ap (λ m. suc m) (passed_long owner port (n + 1) xs)

passed_there : (owner : Owner) (port n : ℕ) (entries : List Entry) (i : ℕ) (d : Entry) → i < length entries →
    get_or (passed_from owner port n entries) i None ≡ passed_by owner port (n + i) (get_or entries i d)
passed_there owner port n [] i d below = absurd (omega (arith, below))
passed_there owner port n (x ∷ xs) zero d below = let e : n ≡ n + zero = omega arith in ap (λ m. passed_by owner port m x) e
passed_there owner port n (x ∷ xs) (suc i) d below =
    let e : n + 1 + i ≡ n + suc i = omega arith in
    passed_there owner port (n + 1) xs i d (omega (arith, below)) ∙ ap (λ m. passed_by owner port m (get_or xs i d)) e

pub passed_here : (owner : Owner) (port : ℕ) (entries : List Entry) (i : ℕ) (d : Entry) → i < length entries →
    get_or (passed_from owner port 0 entries) i None ≡ passed_by owner port i (get_or entries i d)
passed_here owner port entries i d below =
    let e : 0 + i ≡ i = omega arith in passed_there owner port 0 entries i d below ∙ ap (λ m. passed_by owner port m (get_or entries i d)) e

-- ---- where a copy stands among the equal ones

got_before : (ns ms : List ℕ) (at n : ℕ) → slice_get ns at ≡ Some n → slice_get (ns ++ ms) at ≡ Some n
got_before [] ms at n h = absurd (cc)
got_before (m ∷ ns) ms zero n h = h
got_before (m ∷ ns) ms (suc at) n h = got_before ns ms at n h

got_last : (ns : List ℕ) (n : ℕ) → slice_get (ns ++ n ∷ []) (length ns) ≡ Some n
got_last [] n = refl
got_last (m ∷ ns) n = got_last ns n

-- there are as many indices below one as there are equal copies before it
many : (copy : Carried) (xs : List (Option Carried)) (n : ℕ) → n ≤ length xs → length (indices_below copy xs n) ≡ count_by (is_at copy) (take n xs)
many copy xs zero low = refl
many copy xs (suc n) low =
    let e : n + 1 ≡ suc n = omega arith in
    let before = many copy xs n (omega (arith, low)) in
    let here = is_at copy (get_or xs n None) in
    let left = ap length (indices_more copy xs n) ∙ length-append (indices_below copy xs n) (cond here (n ∷ []) []) in
    let right = counted_more (is_at copy) xs n None (omega (arith, low)) in
    let one = one_if n here in
    subst (λ m. length (indices_below copy xs m) ≡ count_by (is_at copy) (take m xs)) e (omega (arith, before, left, right, one))
  where
    one_if : (n : ℕ) (b : Bool) → length (cond b (n ∷ []) []) ≡ cond b 1 0
    one_if n true = refl
    one_if n false = refl

-- so the copy at an index is the one that is left by those
placed : (copy : Carried) (xs : List (Option Carried)) (i n : ℕ) → i < n → n ≤ length xs → is_at copy (get_or xs i None) ≡ true →
    slice_get (indices_below copy xs n) (count_by (is_at copy) (take i xs)) ≡ Some i
placed copy xs i zero below low is = absurd (omega (arith, below))
placed copy xs i (suc n) below low is =
    let e : n + 1 ≡ suc n = omega arith in
    subst (λ m. slice_get (indices_below copy xs m) (count_by (is_at copy) (take i xs)) ≡ Some i) e
    (ap (λ ns. slice_get ns (count_by (is_at copy) (take i xs))) (indices_more copy xs n)
    ∙ ⊎_elim
    (λ lower. got_before (indices_below copy xs n) (cond (is_at copy (get_or xs n None)) (n ∷ []) []) (count_by (is_at copy) (take i xs)) i (placed copy xs i n lower (omega (arith, low)) is))
    (λ last. let same : i ≡ n = omega (arith, below, last) in at_end same)
    (cases_lt i n))
  where
    at_end : i ≡ n → slice_get (indices_below copy xs n ++ cond (is_at copy (get_or xs n None)) (n ∷ []) []) (count_by (is_at copy) (take i xs)) ≡ Some i
    at_end same =
        let here : is_at copy (get_or xs n None) ≡ true = ap (λ m. is_at copy (get_or xs m None)) (sym same) ∙ is in
        let count : count_by (is_at copy) (take i xs) ≡ length (indices_below copy xs n) = ap (λ m. count_by (is_at copy) (take m xs)) same ∙ sym (many copy xs n (omega (arith, low))) in
        ap (λ b. slice_get (indices_below copy xs n ++ cond b (n ∷ []) []) (count_by (is_at copy) (take i xs))) here
        ∙ (ap (slice_get (indices_below copy xs n ++ n ∷ [])) count ∙ (got_last (indices_below copy xs n) n ∙ ap (λ m. Some m) (sym same)))

-- ---- one more row

-- where entries passed nothing no copy is counted
skipped : (copy : Carried) (xs : List (Option Carried)) (from n : ℕ) → from + n ≤ length xs → ((k : ℕ) → k < from + n → from ≤ k → get_or xs k None ≡ None) →
    count_by (is_at copy) (take (from + n) xs) ≡ count_by (is_at copy) (take from xs)
skipped copy xs from zero low none = let e : from + zero ≡ from = omega arith in ap (λ m. count_by (is_at copy) (take m xs)) e
skipped copy xs from (suc n) low none =
    let e : from + suc n ≡ from + n + 1 = omega arith in
    let before = skipped copy xs from n (omega (arith, low)) (λ k less behind. none k (omega (arith, less)) behind) in
    let more = counted_more (is_at copy) xs (from + n) None (omega (arith, low)) in
    let nothing : ◌≡◌ {A = ℕ} (cond (is_at copy (get_or xs (from + n) None)) 1 0) 0 = ap (λ o. cond (is_at copy o) 1 0) (none (from + n) (omega arith) (omega arith)) in
    ap (λ m. count_by (is_at copy) (take m xs)) e ∙ omega (arith, before, more, nothing)

up_to : (other copy : Carried) (xs : List (Option Carried)) (from at : ℕ) → IsNextPass xs from copy at → count_by (is_at other) (take at xs) ≡ count_by (is_at other) (take from xs)
up_to other copy xs from at is =
    let behind = is.behind in
    let below = is.below in
    let e : from + (at - from) ≡ at = omega (arith, behind) in
    ap (λ m. count_by (is_at other) (take m xs)) (sym e)
    ∙ skipped other xs from (at - from) (omega (arith, behind, below)) (λ k less after. is.nothing k (omega (arith, less, behind)) after)

module _ (xs ys : List (Option Carried)) (from j : ℕ) (places : List (Option ℕ)) (below : j < length ys) (so_far : IsWalked xs ys from j places) where
  with_place : (place : Option ℕ) → partner xs ys j ≡ place → places ++ place ∷ [] ≡ map (partner xs ys) (range_with_len 0 (j + 1))
  with_place place is =
      ap (λ ps. ps ++ place ∷ []) so_far.are_partners
      ∙ (ap (λ p. map (partner xs ys) (range_with_len 0 j) ++ p ∷ []) (sym is)
      ∙ sym (ap (map (partner xs ys)) (numbers_more j) ∙ map-append (partner xs ys) (range_with_len 0 j) (j ∷ [])))

  no_copy : get_or ys j None ≡ None → IsWalked xs ys from (j + 1) (places ++ None ∷ [])
  no_copy none = record {
    as_often = λ copy.
        let before = so_far.as_often copy in
        let more = counted_more (is_at copy) ys j None below in
        let nothing : ◌≡◌ {A = ℕ} (cond (is_at copy (get_or ys j None)) 1 0) 0 = ap (λ o. cond (is_at copy o) 1 0) none in
        omega (arith, before, more, nothing);
    are_partners = with_place None (ap (partner_of xs ys j) none);
  }

  a_copy : (copy : Carried) (at : ℕ) → get_or ys j None ≡ Some copy → IsNextPass xs from copy at → IsWalked xs ys (at + 1) (j + 1) (places ++ Some at ∷ [])
  a_copy copy at here is =
      let low = is.below in
      let same : is_at copy (get_or xs at None) ≡ true = ap (is_at copy) is.passes ∙ carried_itself copy in
      let count : count_by (is_at copy) (take j ys) ≡ count_by (is_at copy) (take at xs) = sym (up_to copy copy xs from at is ∙ so_far.as_often copy) in
      record {
        as_often = λ other.
            let before = so_far.as_often other in
            let skip = up_to other copy xs from at is in
            let one = counted_more (is_at other) xs at None low in
            let more = counted_more (is_at other) ys j None below in
            let both : ◌≡◌ {A = ℕ} (cond (is_at other (get_or xs at None)) 1 0) (cond (is_at other (get_or ys j None)) 1 0) = ap (λ o. cond (is_at other o) 1 0) (is.passes ∙ sym here) in
            omega (arith, before, skip, one, more, both);
        are_partners = with_place (Some at)
            (ap (partner_of xs ys j) here ∙ (ap (slice_get (indices copy xs)) count ∙ placed copy xs at (length xs) low (omega arith) same));
      }

  pub walked_more : (o : Option Carried) (s : Step) → get_or ys j None ≡ o → IsStep xs from o s → IsWalked xs ys s.next (j + 1) (places ++ s.place ∷ [])
  walked_more None s here is = subst (λ (t : Step). IsWalked xs ys t.next (j + 1) (places ++ t.place ∷ [])) (sym is) (no_copy here)
  walked_more (Some copy) s here is =
      subst (λ (m : ℕ). IsWalked xs ys m (j + 1) (places ++ s.place ∷ [])) (sym is.next)
      (subst (λ (p : Option ℕ). IsWalked xs ys (is.at + 1) (j + 1) (places ++ p ∷ [])) (sym is.place) (a_copy copy is.at here is.is_next))
