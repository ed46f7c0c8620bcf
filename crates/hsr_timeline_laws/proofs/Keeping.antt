-- The list has each row once, and keeps the order of entries.
use Rattle.std.proofs.Common.{◌≡◌, ◌⊎◌, ℕ, zero, suc, ◌+◌, ◌-◌, ◌<◌, ◌≤◌, ◌&&◌, ltb, Bool, true, false, cond, List, [], ◌∷◌, length, map, get_or, count_by, Option, Some, None, refl, sym, ap, ap₂, ◌∙◌, subst, inl, inr, ⊎_elim, arith, slice_get, nat_cmp, is_lt, Ordering, Less, Equal, Greater, lt-ltb, eq-eqb}
use Rattle.std.specs.Prelude.{option_map, filter, Contains, ◌==◌}
use Rattle.std.specs.List.Sorted.{IsSorted}
use Rattle.std.specs.Option.{option_and_then}
use Rattle.std.specs.Ordering.{ordering_then}
use Rattle.std.proofs.lemmas.Bool.{and_from, and_left, and_parts, and_right, cases_eq, cases_lt, eqb-true, false≢true}
use Rattle.std.proofs.lemmas.Bool.Decides.{nat_tests}
use Rattle.std.proofs.lemmas.List.{get_or_past}
use Rattle.std.proofs.lemmas.List.Sorted.{Contains-permutation, IsPermutation-sym, sum_by-IsPermutation}
use Rattle.std.proofs.lemmas.List.Sums.{sum_by-append}
use Rattle.std.proofs.lemmas.Option.{get_or_from_slice_get, same_Some, slice_get-get_or, slice_get_within}
use Rattle.hsr_link.specs.declared.row.Row.{Row}
use Rattle.hsr_run_laws.proofs.Lists.{count_more, one_if, zero_if}
use Rattle.hsr_run_laws.specs.Closed.{IsClosed}
use Rattle.hsr_run_laws.specs.Run.{Run, rows_of}
use Rattle.hsr_finished_run.specs.Finished.{Finished, IsFinished}
use Rattle.hsr_timeline.specs.declared.origin.Spot.{Spot}
use Rattle.hsr_timeline.specs.declared.stamp.Stamp.{Stamp}
use Rattle.hsr_timeline.specs.declared.hop.Hop.{Hop}
use Rattle.hsr_timeline.specs.Hops.{hop_of, hops, hops_below, hops_from}
use Rattle.hsr_timeline.specs.Choice.{is_copy_of, is_on, is_wanted}
use Rattle.hsr_timeline.specs.Story.{AreShown, IsStory, shown_at, shown_by, shown_cmp, shown_then, shown_where}
use Rattle.hsr_timeline.specs.declared.shown.Shown.{Shown}
use Rattle.hsr_timeline_laws.specs.Keeps.{ChosenKeepOrder, HasEachOnce, KeepsOrder, StoryKeepsOrder, entry_of, is_row}
use Rattle.hsr_timeline_laws.proofs.Following.{comes_after}
use Rattle.hsr_timeline_laws.proofs.Judging.{hop_below}
use Rattle.hsr_timeline_laws.proofs.Listed.{IsIn, contains_in, count_kept, in_contains, in_kept, kept_index, kept_indices}
use Rattle.hsr_timeline.proofs.Circles.{IsBefore, IsUpTo, earlier_told, order_cases}
use Rattle.hsr_timeline_laws.proofs.Rising.{not_both, up_trans}

-- ---- what a row tells

abbrev stamp_of : Shown → Stamp
stamp_of x = record { moment = x.moment; step = x.step }

-- where and when it stands
abbrev IsTold : (Spot → Option Stamp) → Hop → Shown → Type 0
IsTold stamp hop x = (x.link ≡ hop.link) × (x.number ≡ hop.number) × (shown_where hop ≡ Some (entry_of x)) × (stamp (entry_of x) ≡ Some (stamp_of x))

shown_told : (stamp : Spot → Option Stamp) (hop : Hop) (x : Shown) → shown_at stamp hop ≡ Some x → IsTold stamp hop x
shown_told stamp hop x is = at_where (shown_where hop) refl
  where
    at_where : (o : Option Spot) → shown_where hop ≡ o → IsTold stamp hop x
    at_where None e = absurd (let f : option_and_then (shown_then stamp hop) None ≡ Some x = ap (option_and_then (shown_then stamp hop)) (sym e) ∙ is in cc)
    at_where (Some spot) e = at_stamp (stamp spot) refl
      where
        then : option_map (shown_by hop spot) (stamp spot) ≡ Some x
        then = ap (option_and_then (shown_then stamp hop)) (sym e) ∙ is

        at_stamp : (o : Option Stamp) → stamp spot ≡ o → IsTold stamp hop x
        at_stamp None f = absurd (let g : option_map (shown_by hop spot) None ≡ Some x = ap (option_map (shown_by hop spot)) (sym f) ∙ then in cc)
        at_stamp (Some t) f =
            let g : shown_by hop spot t ≡ x = same_Some (shown_by hop spot t) x (ap (option_map (shown_by hop spot)) (sym f) ∙ then) in
            let at : spot ≡ entry_of x = ap entry_of g in
            let when : t ≡ stamp_of x = ap stamp_of g in
            (sym (ap (λ (y : Shown). y.link) g), sym (ap (λ (y : Shown). y.number) g), e ∙ ap (λ s. Some s) at, ap stamp (sym at) ∙ (f ∙ ap (λ u. Some u) when))

-- each row is told by a hop
hop_at : (stamp : Spot → Option Stamp) (hs : List Hop) (rs : List Shown) (k : ℕ) (x : Shown) → AreShown stamp hs rs → slice_get rs k ≡ Some x → (hop : Hop) × IsIn hop hs × (shown_at stamp hop ≡ Some x)
hop_at stamp hs [] k x are is = absurd (cc)
hop_at stamp [] (r ∷ rs) k x are is = absurd (cc)
hop_at stamp (h ∷ hs) (r ∷ rs) zero x are is = let e : shown_at stamp h ≡ Some r = cc in (h, inl refl, e ∙ is)
hop_at stamp (h ∷ hs) (r ∷ rs) (suc k) x are is =
    let rest : map (shown_at stamp) hs ≡ map (λ (y : Shown). Some y) rs = cc in
    let more = hop_at stamp hs rs k x rest is in
    (more.0, inr more.1, more.2)

-- ---- each row once

-- it is the hop of the row of this number on this link
abbrev hop_is : ℕ → ℕ → Hop → Bool
hop_is l j hop = hop.link == l && hop.number == j

module _ (l j : ℕ) where
  -- as many rows of a number as hops
  rows_counted : (stamp : Spot → Option Stamp) (hs : List Hop) (rs : List Shown) → AreShown stamp hs rs → count_by (is_row l j) rs ≡ count_by (hop_is l j) hs
  rows_counted stamp [] [] are = refl
  rows_counted stamp [] (r ∷ rs) are = absurd (cc)
  rows_counted stamp (h ∷ hs) [] are = absurd (cc)
  rows_counted stamp (h ∷ hs) (r ∷ rs) are =
      let e : shown_at stamp h ≡ Some r = cc in
      let rest : map (shown_at stamp) hs ≡ map (λ (y : Shown). Some y) rs = cc in
      let k = shown_told stamp h r e in
      let same : is_row l j r ≡ hop_is l j h = ap₂ (λ m n. m == l && n == j) k.0 k.1 in
      let one : cond (is_row l j r) 1 0 ≡ cond (hop_is l j h) 1 0 = ap (λ b. cond {A = ℕ} b 1 0) same in
      let a = count_more (is_row l j) r rs in
      let b = count_more (hop_is l j) h hs in
      let c = rows_counted stamp hs rs rest in
      omega (arith, one, a, b, c)

  none_of : (run : Run) (m n : ℕ) (rows : List Row) → ¬ (m ≡ l) → count_by (hop_is l j) (hops_from run m n rows) ≡ 0
  none_of run m n [] other = refl
  none_of run m n (row ∷ rows) other =
      let no : (m == l && n == j) ≡ false = and_left (m == l) (n == j) (let e : (m == l) ≡ false = grind (arith, nat_tests) in e) in
      let a = count_more (hop_is l j) (hop_of run m n row) (hops_from run m (n + 1) rows) in
      let b = zero_if (m == l && n == j) no in
      let c = none_of run m (n + 1) rows other in
      omega (arith, a, b, c)

  none_from : (run : Run) (n : ℕ) (rows : List Row) → j < n → count_by (hop_is l j) (hops_from run l n rows) ≡ 0
  none_from run n [] less = refl
  none_from run n (row ∷ rows) less =
      let no : (l == l && n == j) ≡ false = and_right (l == l) (n == j) (let e : (n == j) ≡ false = grind (arith, nat_tests) in e) in
      let a = count_more (hop_is l j) (hop_of run l n row) (hops_from run l (n + 1) rows) in
      let b = zero_if (l == l && n == j) no in
      let c = none_from run (n + 1) rows (omega (arith, less)) in
      omega (arith, a, b, c)

  one_from : (run : Run) (n : ℕ) (rows : List Row) → n ≤ j → j < n + length rows → count_by (hop_is l j) (hops_from run l n rows) ≡ 1
  one_from run n [] le less = absurd (omega (arith, le, less))
  one_from run n (row ∷ rows) le less = ⊎_elim here (λ other. later other (one_from run (n + 1) rows (omega (arith, le, other)) (omega (arith, less)))) (cases_eq n j)
    where
      a : count_by (hop_is l j) (hops_from run l n (row ∷ rows)) ≡ cond (l == l && n == j) 1 0 + count_by (hop_is l j) (hops_from run l (n + 1) rows)
      a = count_more (hop_is l j) (hop_of run l n row) (hops_from run l (n + 1) rows)

      here : n ≡ j → count_by (hop_is l j) (hops_from run l n (row ∷ rows)) ≡ 1
      here e =
          let b = one_if (l == l && n == j) (and_from (l == l) (n == j) (eq-eqb l l refl) (eq-eqb n j e)) in
          let c = none_from run (n + 1) rows (omega (arith, e)) in
          let whole = a in
          omega (arith, whole, b, c)

      later : ¬ (n ≡ j) → count_by (hop_is l j) (hops_from run l (n + 1) rows) ≡ 1 → count_by (hop_is l j) (hops_from run l n (row ∷ rows)) ≡ 1
      later other c =
          let b = zero_if (l == l && n == j) (and_right (l == l) (n == j) (let e : (n == j) ≡ false = grind (arith, nat_tests) in e)) in
          let whole = a in
          omega (arith, whole, b, c)

below_of : (l j : ℕ) (run : Run) (n : ℕ) → j < length (rows_of run l) → ((n ≤ l) × (count_by (hop_is l j) (hops_below run n) ≡ 0)) ⊎ ((l < n) × (count_by (hop_is l j) (hops_below run n) ≡ 1))
below_of l j run zero below = inl (omega arith, refl)
below_of l j run (suc n) below = ⊎_elim early late (below_of l j run n below)
  where
    parts : count_by (hop_is l j) (hops_below run (suc n)) ≡ count_by (hop_is l j) (hops_below run n) + count_by (hop_is l j) (hops_from run n 0 (rows_of run n))
    parts = sum_by-append (λ hop. cond {A = ℕ} (hop_is l j hop) 1 0) (hops_below run n) (hops_from run n 0 (rows_of run n))

    late : (l < n) × (count_by (hop_is l j) (hops_below run n) ≡ 1) → ((suc n ≤ l) × (count_by (hop_is l j) (hops_below run (suc n)) ≡ 0)) ⊎ ((l < suc n) × (count_by (hop_is l j) (hops_below run (suc n)) ≡ 1))
    late h =
        let less : l < n = h.0 in
        let one = h.1 in
        let none = none_of l j run n 0 (rows_of run n) (λ e. let same : n ≡ l = e in omega (arith, less, same)) in
        let whole = parts in
        inr (omega (arith, less), omega (arith, one, none, whole))

    early : (n ≤ l) × (count_by (hop_is l j) (hops_below run n) ≡ 0) → ((suc n ≤ l) × (count_by (hop_is l j) (hops_below run (suc n)) ≡ 0)) ⊎ ((l < suc n) × (count_by (hop_is l j) (hops_below run (suc n)) ≡ 1))
    early h = ⊎_elim
        (λ same. let one : count_by (hop_is l j) (hops_from run n 0 (rows_of run n)) ≡ 1 = ap (λ m. count_by (hop_is l j) (hops_from run m 0 (rows_of run m))) same ∙ one_from l j run 0 (rows_of run l) (omega arith) (omega (arith, below)) in
        let none = h.1 in
        let whole = parts in
        inr (omega (arith, same), omega (arith, one, none, whole)))
        (λ other. let le : n ≤ l = h.0 in
        let rest = h.1 in
        let none = none_of l j run n 0 (rows_of run n) other in
        let whole = parts in
        inl (omega (arith, le, other), omega (arith, rest, none, whole)))
        (cases_eq n l)

-- each row of the run has one hop
one_hop : (run : Run) → IsClosed run → (l j : ℕ) (row : Row) → slice_get (rows_of run l) j ≡ Some row → count_by (hop_is l j) (hops run) ≡ 1
one_hop run closed l j row is = ⊎_elim (λ h. absurd (let le : length run.links ≤ l = h.0 in outside le)) (λ h. h.1) (below_of l j run (length run.links) (slice_get_within (rows_of run l) j row is))
  where
    outside : length run.links ≤ l → ⊥
    outside le =
        let rows = closed.rows in
        let none : rows_of run l ≡ [] = get_or_past run.rows l [] (omega (arith, rows, le)) in
        let f : slice_get {X = Row} [] j ≡ Some row = ap (λ rs. slice_get rs j) (sym none) ∙ is in
        cc

-- ---- the order of time

nat_less : (m n : ℕ) → m < n → nat_cmp m n ≡ Less
nat_less m n lt = ap (λ b. cond b Less (cond (m == n) Equal Greater)) (lt-ltb m n lt)

nat_same : (m n : ℕ) → m ≡ n → nat_cmp m n ≡ Equal
nat_same m n e =
    let no : ltb m n ≡ false = grind (arith, nat_tests) in
    ap (λ b. cond b Less (cond (m == n) Equal Greater)) no ∙ ap (λ b. cond b Equal Greater) (eq-eqb m n e)

then_less : (o p : Ordering) → o ≡ Less → is_lt (ordering_then o p) ≡ true
then_less o p e = ap (λ q. is_lt (ordering_then q p)) e

then_same : (o p : Ordering) → o ≡ Equal → is_lt p ≡ true → is_lt (ordering_then o p) ≡ true
then_same o p e h = ap (λ q. is_lt (ordering_then q p)) e ∙ h

less : (x y : Shown) → IsBefore (stamp_of x) (stamp_of y) → is_lt (shown_cmp x y) ≡ true
less x y h = ⊎_elim
    (λ lt. then_less (nat_cmp x.moment y.moment) _ (nat_less x.moment y.moment lt))
    (λ both. then_same (nat_cmp x.moment y.moment) _ (nat_same x.moment y.moment both.0) (then_less (nat_cmp x.step y.step) _ (nat_less x.step y.step both.1)))
    h

up : (a b : Shown) → is_lt (shown_cmp b a) ≡ false → IsUpTo (stamp_of a) (stamp_of b)
up a b h = ⊎_elim (λ before. absurd (false≢true (sym h ∙ less b a before))) (λ le. le) (order_cases (stamp_of b) (stamp_of a))

-- no row is earlier than one before it
never_earlier : (story : List Shown) → IsSorted shown_cmp story → (n i : ℕ) (d : Shown) → i + n < length story → IsUpTo (stamp_of (get_or story i d)) (stamp_of (get_or story (i + n) d))
never_earlier story sorted zero i d below =
    let e : i ≡ i + 0 = omega arith in
    let P : ℕ → Type 0 = λ k. IsUpTo (stamp_of (get_or story i d)) (stamp_of (get_or story k d)) in
    subst P e (inr (refl, omega arith))
never_earlier story sorted (suc n) i d below =
    let e : i + n + 1 ≡ i + suc n = omega arith in
    let P : ℕ → Type 0 = λ k. IsUpTo (stamp_of (get_or story i d)) (stamp_of (get_or story k d)) in
    let last = up (get_or story (i + n) d) (get_or story (i + n + 1) d) (sorted (i + n) d (omega arith) (omega (arith, below))) in
    subst P e (up_trans (stamp_of (get_or story i d)) (stamp_of (get_or story (i + n) d)) (stamp_of (get_or story (i + n + 1) d)) (never_earlier story sorted n i d (omega (arith, below))) last)

-- ---- the law

module _ (f : Finished) (finished : IsFinished f) (story : List Shown) (is : IsStory f.run f.plan story) where
  -- a row of the list is told by a hop
  hop_of_row : (x : Shown) → Contains story x → (hop : Hop) × IsIn hop (hops f.run) × IsTold is.stamp hop x
  hop_of_row x inside =
      let k = Contains-permutation story is.rows x (IsPermutation-sym is.rows story is.once) inside in
      let h = hop_at is.stamp (hops f.run) is.rows k.0 x is.shown (slice_get-get_or is.rows k.0 x k.1 ∙ ap (λ y. Some y) k.2) in
      (h.0, h.1, shown_told is.stamp h.0 x h.2)

  each_once : HasEachOnce f.run story
  each_once = record {
    once = λ l j row there. sum_by-IsPermutation (λ x. cond {A = ℕ} (is_row l j x) 1 0) is.rows story is.once ∙ (rows_counted l j is.stamp (hops f.run) is.rows is.shown ∙ one_hop f.run finished.closed l j row there);
    only = only;
  }
    where
      only : (x : Shown) → Contains story x → (row : Row) × (slice_get (rows_of f.run x.link) x.number ≡ Some row) × (shown_where (hop_of f.run x.link x.number row) ≡ Some (entry_of x))
      only x inside =
          let h = hop_of_row x inside in
          let b = hop_below f.run (length f.run.links) h.0 h.1 in
          let link : x.link ≡ b.0 = h.2.0 ∙ sym (ap (λ (o : Hop). o.link) b.5) in
          let number : x.number ≡ b.1 = h.2.1 ∙ sym (ap (λ (o : Hop). o.number) b.5) in
          let row : slice_get (rows_of f.run x.link) x.number ≡ slice_get (rows_of f.run b.0) b.1 = λ i. slice_get (rows_of f.run (link i)) (number i) in
          let hop : hop_of f.run x.link x.number b.2 ≡ hop_of f.run b.0 b.1 b.2 = λ i. hop_of f.run (link i) (number i) b.2 in
          (b.2, row ∙ b.4, ap shown_where (hop ∙ b.5) ∙ h.2.2)

  keeps_order : KeepsOrder f story
  keeps_order i j x y at also before = ⊎_elim (λ lt. lt) (λ ge. absurd (behind ge)) (cases_lt i j)
    where
      there : (k : ℕ) (z : Shown) → slice_get story k ≡ Some z → Contains story z
      there k z here = (k, slice_get_within story k z here, get_or_from_slice_get story k z z here)

      behind : j ≤ i → ⊥
      behind le =
          let a = hop_of_row x (there i x at) in
          let b = hop_of_row y (there j y also) in
          let after = comes_after f finished is.stamp is.stamps (entry_of x) (entry_of y) (stamp_of y) before b.2.3 in
          let same : after.0 ≡ stamp_of x = same_Some after.0 (stamp_of x) (sym after.1 ∙ a.2.3) in
          let P : Stamp → Type 0 = λ t. IsBefore t (stamp_of y) in
          let earlier : IsBefore (stamp_of x) (stamp_of y) = subst P same (earlier_told after.0 (stamp_of y) after.2) in
          let within = slice_get_within story i x at in
          let e : j + (i - j) ≡ i = omega (arith, le) in
          let far = never_earlier story is.sorted (i - j) j x (omega (arith, within, e)) in
          let Q : ℕ → Type 0 = λ k. IsUpTo (stamp_of (get_or story j x)) (stamp_of (get_or story k x)) in
          let first : get_or story j x ≡ y = get_or_from_slice_get story j y x also in
          let last : get_or story i x ≡ x = get_or_from_slice_get story i x x at in
          let R : Shown → Type 0 = λ z. IsUpTo (stamp_of z) (stamp_of x) in
          let S : Shown → Type 0 = λ z. IsUpTo (stamp_of (get_or story j x)) (stamp_of z) in
          not_both (stamp_of x) (stamp_of y) earlier (subst R first (subst S last (subst Q e far)))

pub story_keeps_order : StoryKeepsOrder
story_keeps_order f finished story is = (each_once f finished story is, keeps_order f finished story is)

-- ---- the rows that are wanted

-- what is kept of a list keeps its order
kept_order : (f : Finished) (w : Shown → Bool) (list : List Shown) → KeepsOrder f list → KeepsOrder f (filter w list)
kept_order f w list order i j x y at also before = ⊎_elim (λ lt. lt) (λ ge. absurd (⊎_elim (same ge) (λ other. later (omega (arith, ge, other))) (cases_eq j i))) (cases_lt i j)
  where
    same : j ≤ i → j ≡ i → ⊥
    same ge e =
        let one : x ≡ y = same_Some x y (sym at ∙ (ap (slice_get (filter w list)) (sym e) ∙ also)) in
        let k = kept_index w list i x at in
        let less : k.0 < k.0 = order k.0 k.0 x y k.1 (k.1 ∙ ap (λ z. Some z) one) before in
        omega (arith, less)

    later : j < i → ⊥
    later lt =
        let k = kept_indices w list j i y x lt also at in
        let one = k.2 in
        let other = order k.1 k.0 x y k.4 k.3 before in
        omega (arith, one, other)

pub chosen_keep_order : ChosenKeepOrder
chosen_keep_order f finished story is choice = (record { once = once; only = only }, kept_order f (is_wanted f.run choice) story (keeps_order f finished story is))
  where
    whole : HasEachOnce f.run story
    whole = each_once f finished story is

    once : (l j : ℕ) (row : Row) → slice_get (rows_of f.run l) j ≡ Some row → is_on choice.link l ≡ true → is_copy_of choice.send (Some row) ≡ true → count_by (is_row l j) (filter (is_wanted f.run choice) story) ≡ 1
    once l j row there on copy = count_kept (is_row l j) (is_wanted f.run choice) wanted story ∙ whole.once l j row there
      where
        wanted : (x : Shown) → is_row l j x ≡ true → is_wanted f.run choice x ≡ true
        wanted x e =
            let parts = and_parts (x.link == l) (x.number == j) e in
            let link = eqb-true x.link l parts.0 in
            let number = eqb-true x.number j parts.1 in
            and_from (is_on choice.link x.link) (is_copy_of choice.send (slice_get (rows_of f.run x.link) x.number)) (ap (is_on choice.link) link ∙ on)
            (ap (is_copy_of choice.send) (ap₂ (λ m n. slice_get (rows_of f.run m) n) link number ∙ there) ∙ copy)

    only : (x : Shown) → Contains (filter (is_wanted f.run choice) story) x →
        (row : Row) × (slice_get (rows_of f.run x.link) x.number ≡ Some row) × (shown_where (hop_of f.run x.link x.number row) ≡ Some (entry_of x)) × (is_wanted f.run choice x ≡ true)
    only x inside =
        let k = in_kept (is_wanted f.run choice) story x (contains_in (filter (is_wanted f.run choice) story) x inside) in
        let h = whole.only x (in_contains story x k.0) in
        (h.0, h.1, h.2, k.1)
