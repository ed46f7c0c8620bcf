-- Receipts in passes, one worker after another.
use Rattle.std.proofs.Common.{◌≡◌, ℕ, ◌+◌, ◌<◌, ◌==◌, ◌&&◌, not, zero, suc, cond, Bool, true, false, List, [], ◌∷◌, ◌++◌, length, map, max, get_or, set, filter_map, Some, None, refl, sym, ap, ◌∙◌, subst, arith, eqb-true, append_assoc, append-nil}
use Rattle.std.specs.Prelude.{slice_get}
use Rattle.std.specs.List.{cons_option, AllByRecursion}
use Rattle.std.proofs.lemmas.List.{length_push, map-append}
use Rattle.std.proofs.lemmas.List.Elements.{filter_map-append}
use Rattle.hsr_node.specs.Kept.{Receipts, Record}
use Rattle.hsr_node.specs.declared.entry.Entry.{Entry}
use Rattle.hsr_node.specs.declared.entry.Receipt.{Receipt}
use Rattle.hsr_finished_run.specs.Passes.{AreByPlan, AreByWorker, AreMain, is_other, other_in, others_in, others_of, receipts_in, receipts_of}
use Rattle.hsr_finished_run.specs.Receipts.{HasReceipts, IsRight, IsShown, Shows, done_of, entry_in, holds_of, named, names_of, planned_of}
use Rattle.hsr_finished_run.specs.declared.planned.Planned.{Planned}
use Rattle.hsr_run_index.proofs.Decided.{not_same, same}
use Rattle.hsr_finished_run.proofs.Plan.{all_append, all_at}

-- one more pass
pub one_more : (w : ℕ) (ps : List Receipts) (p : Receipts) → receipts_of w (ps ++ p ∷ []) ≡ receipts_of w ps ++ receipts_in w p
one_more w [] p = append-nil (receipts_in w p)
one_more w (q ∷ ps) p = ap (λ rs. receipts_in w q ++ rs) (one_more w ps p) ∙ sym (append_assoc (receipts_in w q) (receipts_of w ps) (receipts_in w p))

-- ---- passes by worker

by_worker_more : (n : ℕ) (ps : List Receipts) (p : Receipts) → AreByWorker n ps → p.worker ≡ n + length ps → AreByWorker n (ps ++ p ∷ [])
by_worker_more n [] p h is = (omega (arith, is), tt)
by_worker_more n (q ∷ ps) p h is = (h.0, by_worker_more (n + 1) ps p h.1 (omega (arith, is)))

worker_at : (n i : ℕ) (ps : List Receipts) (d : Receipts) → AreByWorker n ps → i < length ps → (get_or ps i d).worker ≡ n + i
worker_at n i [] d h below = absurd (omega arith)
worker_at n zero (p ∷ ps) d h below = let e = h.0 in omega (arith, e)
worker_at n (suc i) (p ∷ ps) d h below = let e = worker_at (n + 1) i ps d h.1 (omega (arith, below)) in omega (arith, e)

by_worker_set : (n i : ℕ) (ps : List Receipts) (new : Receipts) → AreByWorker n ps → new.worker ≡ n + i → AreByWorker n (set ps i new)
by_worker_set n i [] new h is = tt
by_worker_set n zero (p ∷ ps) new h is = (omega (arith, is), h.1)
by_worker_set n (suc i) (p ∷ ps) new h is = (h.0, by_worker_set (n + 1) i ps new h.1 (omega (arith, is)))

-- one more, without receipts
pub record IsLonger (ps after : List Receipts) (n : ℕ) : Type 0 where
  pub count : length after ≡ n + 1
  pub workers : AreByWorker 0 after
  pub receipts : (w : ℕ) → receipts_of w after ≡ receipts_of w ps

pub empty_more : (ps after : List Receipts) (p : Receipts) (n : ℕ) → length ps ≡ n → AreByWorker 0 ps → p ≡ record { worker = n; receipts = [] } → after ≡ ps ++ p ∷ [] → IsLonger ps after n
empty_more ps after p n count h empty is = record {
  count = ap length is ∙ (length_push ps p ∙ ap (λ k. k + 1) count);
  workers = subst (AreByWorker 0) (sym is) (by_worker_more 0 ps p h (let e = ap (λ (q : Receipts). q.worker) empty in omega (arith, e, count)));
  receipts = λ w. ap (receipts_of w) is ∙ (one_more w ps p ∙ (ap (λ xs. receipts_of w ps ++ xs) (ap (receipts_in w) empty ∙ nothing (n == w) [] refl) ∙ append-nil (receipts_of w ps)));
}
  where
    nothing : (b : Bool) (rs : List Receipt) → rs ≡ [] → cond b rs [] ≡ []
    nothing true rs none = none
    nothing false rs none = refl

pub none_before : (w n : ℕ) (ps : List Receipts) → AreByWorker n ps → w < n → receipts_of w ps ≡ []
none_before w n [] h below = refl
none_before w n (p ∷ ps) h below =
    let first = h.0 in
    ap (λ b. cond b p.receipts [] ++ receipts_of w ps) (not_same p.worker w (λ e. omega (arith, e, first, below))) ∙ none_before w (n + 1) ps h.1 (omega (arith, below))

-- more receipts of a worker
receipts_set : (w n i : ℕ) (ps : List Receipts) (old new : Receipts) (rs : List Receipt) → AreByWorker n ps → i < length ps → old ≡ get_or ps i old →
    new ≡ record old { receipts = old.receipts ++ rs } → receipts_of w (set ps i new) ≡ receipts_of w ps ++ (cond (old.worker == w) rs [])
receipts_set w n i [] old new rs h below stands is = absurd (omega arith)
receipts_set w n zero (p ∷ ps) old new rs h below stands is =
    (λ j. receipts_in w (is j) ++ receipts_of w ps)
    ∙ (in_place (old.worker == w) refl
    ∙ (λ j. receipts_of w (stands j ∷ ps) ++ cond (old.worker == w) rs []))
  where
    in_place : (b : Bool) → (old.worker == w) ≡ b → cond b (old.receipts ++ rs) [] ++ receipts_of w ps ≡ (cond b old.receipts [] ++ receipts_of w ps) ++ cond b rs []
    in_place true same_worker =
        let worker = eqb-true old.worker w same_worker in
        let first : old.worker ≡ n = ap (λ (q : Receipts). q.worker) stands ∙ h.0 in
        let none : receipts_of w ps ≡ [] = none_before w (n + 1) ps h.1 (omega (arith, worker, first)) in
        ap (λ xs. (old.receipts ++ rs) ++ xs) none
        ∙ (append-nil (old.receipts ++ rs)
        ∙ (ap (λ xs. xs ++ rs) (sym (append-nil old.receipts)) ∙ ap (λ xs. (old.receipts ++ xs) ++ rs) (sym none)))
    in_place false other = sym (append-nil (receipts_of w ps))
receipts_set w n (suc i) (p ∷ ps) old new rs h below stands is =
    ap (λ xs. receipts_in w p ++ xs) (receipts_set w (n + 1) i ps old new rs h.1 (omega (arith, below)) stands is)
    ∙ sym (append_assoc (receipts_in w p) (receipts_of w ps) (cond (old.worker == w) rs []))

pub long_enough : (after ps : List Receipts) (worker : ℕ) → length after ≡ max (length ps) (worker + 1) → worker < length after
long_enough after ps worker count = omega (arith, count)

-- the receipt of an entry of another than the main worker
pub other_set : (ps : List Receipts) (i node place : ℕ) (x : Entry) (old new : Receipts) (r : Receipt) → AreByWorker 0 ps → x.worker < length ps → i ≡ x.worker → (x.worker ≡ 0 → ⊥) →
    old ≡ get_or ps i old → r ≡ record { node = node; place = place; entry = x } → new ≡ record old { receipts = old.receipts ++ r ∷ [] } →
    AreByWorker 0 (set ps i new) × ((w : ℕ) → receipts_of w (set ps i new) ≡ receipts_of w ps ++ other_in w node place x)
other_set ps i node place x old new r h below at other stands made is =
    let inside : i < length ps = omega (arith, below, at) in
    let counted : old.worker ≡ 0 + i = ap (λ (q : Receipts). q.worker) stands ∙ worker_at 0 i ps old h inside in
    let worker : old.worker ≡ i = omega (arith, counted) in
    let new_worker : new.worker ≡ 0 + i = ap (λ (q : Receipts). q.worker) is ∙ counted in
    let tested : (w : ℕ) → (old.worker == w) ≡ is_other w x = λ w.
    ap (λ v. v == w) (worker ∙ at) ∙ sym (ap (λ b. not b && (x.worker == w)) (not_same x.worker 0 other)) in (
      by_worker_set 0 i ps new h new_worker,
      λ w. receipts_set w 0 i ps old new (r ∷ []) h inside stands is ∙ (λ j. receipts_of w ps ++ cond (tested w j) (made j ∷ []) []),
    )

-- ---- passes

pub names_flat : (w k : ℕ) (ps : List Receipts) → names_of w k ps ≡ filter_map (named k) (receipts_of w ps)
names_flat w k [] = refl
names_flat w k (p ∷ ps) =
    by_worker (p.worker == w) (names_flat w k ps) ∙ sym (filter_map-append (named k) (receipts_in w p) (receipts_of w ps))
  where
    by_worker : (b : Bool) → names_of w k ps ≡ filter_map (named k) (receipts_of w ps) →
        cond b (filter_map (named k) p.receipts) [] ++ names_of w k ps ≡ filter_map (named k) (cond b p.receipts []) ++ filter_map (named k) (receipts_of w ps)
    by_worker true rest = ap (λ xs. filter_map (named k) p.receipts ++ xs) rest
    by_worker false rest = rest

done_flat : (ps : List Receipts) → done_of ps ≡ map planned_of (receipts_of 0 ps)
done_flat [] = refl
done_flat (p ∷ ps) = by_worker (p.worker == 0) (done_flat ps) ∙ sym (map-append planned_of (receipts_in 0 p) (receipts_of 0 ps))
  where
    by_worker : (b : Bool) → done_of ps ≡ map planned_of (receipts_of 0 ps) →
        cond b (map planned_of p.receipts) [] ++ done_of ps ≡ map planned_of (cond b p.receipts []) ++ map planned_of (receipts_of 0 ps)
    by_worker true rest = ap (λ xs. map planned_of p.receipts ++ xs) rest
    by_worker false rest = rest

all_left : {X : Type 0} (P : X → Type 0) (xs ys : List X) → AllByRecursion P (xs ++ ys) → AllByRecursion P xs
all_left P [] ys h = tt
all_left P (x ∷ xs) ys h = (h.0, all_left P xs ys h.1)

all_right : {X : Type 0} (P : X → Type 0) (xs ys : List X) → AllByRecursion P (xs ++ ys) → AllByRecursion P ys
all_right P [] ys h = h
all_right P (x ∷ xs) ys h = all_right P xs ys h.1

pub shown_flat : (kept : List Record) (w : ℕ) (ps : List Receipts) → AllByRecursion (Shows kept) (receipts_of w ps) → IsShown kept w ps (length ps)
shown_flat kept w [] all = λ j d below is. absurd (omega arith)
shown_flat kept w (p ∷ ps) all = by_index (shown_flat kept w ps (all_right (Shows kept) (receipts_in w p) (receipts_of w ps) all))
  where
    here : p.worker ≡ w → AllByRecursion (Shows kept) p.receipts
    here is =
        let P : Bool → Type 0 = λ b. AllByRecursion (Shows kept) (cond b p.receipts []) in
        subst P (same p.worker w is) (all_left (Shows kept) (receipts_in w p) (receipts_of w ps) all)

    by_index : IsShown kept w ps (length ps) → IsShown kept w (p ∷ ps) (length (p ∷ ps))
    by_index rest zero d below is = all_at (Shows kept) p.receipts (here is)
    by_index rest (suc j) d below is = rest j d (omega (arith, below)) is

-- ---- other workers

no_others_in : (k n : ℕ) (xs : List Entry) → others_in 0 k n xs ≡ []
no_others_in k n [] = refl
no_others_in k n (x ∷ xs) = by_worker (x.worker == 0) (no_others_in k (n + 1) xs)
  where
    by_worker : (b : Bool) → others_in 0 k (n + 1) xs ≡ [] → cond (not b && b) (record { node = k; place = n; entry = x } ∷ []) [] ++ others_in 0 k (n + 1) xs ≡ []
    by_worker true rest = rest
    by_worker false rest = rest

pub no_others : (k : ℕ) (rs : List Record) → others_of 0 k rs ≡ []
no_others k [] = refl
no_others k (r ∷ rs) = (λ i. no_others_in k 0 r.entries i ++ others_of 0 (k + 1) rs) ∙ no_others (k + 1) rs

module _ (w : ℕ) (other : w ≡ 0 → ⊥) where
  -- an entry is another's as it is the worker's
  plain : (x : Entry) → is_other w x ≡ (x.worker == w)
  plain x = by_worker (x.worker == w) refl
    where
      by_worker : (b : Bool) → (x.worker == w) ≡ b → (not (x.worker == 0) && b) ≡ b
      by_worker true is = ap (λ b. not b && true) (not_same x.worker 0 (λ none. other (sym (eqb-true x.worker w is) ∙ none)))
      by_worker false is = by_main (x.worker == 0)
        where
          by_main : (b : Bool) → (not b && false) ≡ false
          by_main true = refl
          by_main false = refl

  named_in : (k n : ℕ) (xs : List Entry) → filter_map (named k) (others_in w k n xs) ≡ holds_of w n xs
  named_in k n [] = refl
  named_in k n (x ∷ xs) =
      ap (λ b. filter_map (named k) (cond b (record { node = k; place = n; entry = x } ∷ []) [] ++ others_in w k (n + 1) xs)) (plain x)
      ∙ by_worker (x.worker == w) (named_in k (n + 1) xs)
    where
      by_worker : (b : Bool) → filter_map (named k) (others_in w k (n + 1) xs) ≡ holds_of w (n + 1) xs →
          filter_map (named k) (cond b (record { node = k; place = n; entry = x } ∷ []) [] ++ others_in w k (n + 1) xs) ≡ cond b (n ∷ []) [] ++ holds_of w (n + 1) xs
      by_worker true rest = ap (λ b. cons_option (cond b (Some n) None) (filter_map (named k) (others_in w k (n + 1) xs))) (same k k refl) ∙ ap (λ ys. n ∷ ys) rest
      by_worker false rest = rest

  named_none : (j k n : ℕ) (xs : List Entry) → (k ≡ j → ⊥) → filter_map (named j) (others_in w k n xs) ≡ []
  named_none j k n [] apart = refl
  named_none j k n (x ∷ xs) apart = by_worker (is_other w x) (named_none j k (n + 1) xs apart)
    where
      by_worker : (b : Bool) → filter_map (named j) (others_in w k (n + 1) xs) ≡ [] →
          filter_map (named j) (cond b (record { node = k; place = n; entry = x } ∷ []) [] ++ others_in w k (n + 1) xs) ≡ []
      by_worker true rest = ap (λ b. cons_option (cond b (Some n) None) (filter_map (named j) (others_in w k (n + 1) xs))) (not_same k j apart) ∙ rest
      by_worker false rest = rest

  named_after : (j k : ℕ) (rs : List Record) → j < k → filter_map (named j) (others_of w k rs) ≡ []
  named_after j k [] below = refl
  named_after j k (r ∷ rs) below =
      filter_map-append (named j) (others_in w k 0 r.entries) (others_of w (k + 1) rs)
      ∙ ((λ i. named_none j k 0 r.entries (λ e. omega (arith, e, below)) i ++ filter_map (named j) (others_of w (k + 1) rs)) ∙ named_after j (k + 1) rs (omega (arith, below)))

  named_all : (rs : List Record) (k i : ℕ) (d : Record) → i < length rs → filter_map (named (k + i)) (others_of w k rs) ≡ holds_of w 0 (get_or rs i d).entries
  named_all [] k i d below = absurd (omega arith)
  named_all (r ∷ rs) k zero d below =
      let e : k + 0 ≡ k = omega arith in
      ap (λ j. filter_map (named j) (others_of w k (r ∷ rs))) e
      ∙ (filter_map-append (named k) (others_in w k 0 r.entries) (others_of w (k + 1) rs)
      ∙ ((λ i. named_in k 0 r.entries i ++ named_after k (k + 1) rs (omega arith) i) ∙ append-nil (holds_of w 0 r.entries)))
  named_all (r ∷ rs) k (suc i) d below =
      let e : k + suc i ≡ k + 1 + i = omega arith in
      filter_map-append (named (k + suc i)) (others_in w k 0 r.entries) (others_of w (k + 1) rs)
      ∙ ((λ j. named_none (k + suc i) k 0 r.entries (λ h. omega (arith, h)) j ++ filter_map (named (e j)) (others_of w (k + 1) rs))
      ∙ named_all rs (k + 1) i d (omega (arith, below)))

-- ---- what they show

shown_in : (kept : List Record) (w k : ℕ) (r : Record) → slice_get kept k ≡ Some r → (n : ℕ) (xs : List Entry) → ((i : ℕ) → slice_get r.entries (n + i) ≡ slice_get xs i) →
    AllByRecursion (Shows kept) (others_in w k n xs)
shown_in kept w k r at n [] all = tt
shown_in kept w k r at n (x ∷ xs) all =
    all_append (Shows kept) (other_in w k n x) (others_in w k (n + 1) xs) (by_worker (is_other w x))
    (shown_in kept w k r at (n + 1) xs (λ i. let e : n + 1 + i ≡ n + suc i = omega arith in ap (slice_get r.entries) e ∙ all (suc i)))
  where
    by_worker : (b : Bool) → AllByRecursion (Shows kept) (cond b (record { node = k; place = n; entry = x } ∷ []) [])
    by_worker true = (let e : n ≡ n + 0 = omega arith in ap (entry_in n) at ∙ (ap (slice_get r.entries) e ∙ all 0), tt)
    by_worker false = tt

shown_all : (kept : List Record) (w k : ℕ) (rs : List Record) → ((i : ℕ) → slice_get kept (k + i) ≡ slice_get rs i) → AllByRecursion (Shows kept) (others_of w k rs)
shown_all kept w k [] all = tt
shown_all kept w k (r ∷ rs) all =
    all_append (Shows kept) (others_in w k 0 r.entries) (others_of w (k + 1) rs)
    (shown_in kept w k r (let e : k ≡ k + 0 = omega arith in ap (slice_get kept) e ∙ all 0) 0 r.entries (λ i. let e : 0 + i ≡ i = omega arith in ap (slice_get r.entries) e))
    (shown_all kept w (k + 1) rs (λ i. let e : k + 1 + i ≡ k + suc i = omega arith in ap (slice_get kept) e ∙ all (suc i)))

-- ---- all

module _ (kept : List Record) (plan : List Planned) (main : Receipts) (passes : List Receipts) (is_main : main.worker ≡ 0)
    (whole : (w : ℕ) → receipts_of w passes ≡ receipts_of w ([] ++ main ∷ []) ++ others_of w 0 kept) where
  of_main : receipts_of 0 passes ≡ main.receipts
  of_main =
      whole 0
      ∙ ((λ i. ((cond (same main.worker 0 is_main i) main.receipts []) ++ []) ++ no_others 0 kept i)
      ∙ (append-nil (main.receipts ++ []) ∙ append-nil main.receipts))

  pub of_other : (w : ℕ) → (w ≡ 0 → ⊥) → receipts_of w passes ≡ others_of w 0 kept
  of_other w other =
      let apart : (main.worker == w) ≡ false = not_same main.worker w (λ e. other (sym e ∙ is_main)) in
      whole w ∙ (λ i. (cond (apart i) main.receipts [] ++ []) ++ others_of w 0 kept)

  pub by_plan : AreByPlan kept plan main.receipts → AreByPlan kept plan (receipts_of 0 passes)
  by_plan = subst (AreByPlan kept plan) (sym of_main)

  right_main : AreMain kept plan main.receipts → IsRight kept passes plan 0
  right_main h = record {
    shown = shown_flat kept 0 passes (subst (AllByRecursion (Shows kept)) (sym of_main) h.shown);
    placed = λ k d below. names_flat 0 k passes ∙ (ap (filter_map (named k)) of_main ∙ h.names k d below);
    planned = λ none. done_flat passes ∙ (ap (map planned_of) of_main ∙ h.told);
  }

  right_other : (w : ℕ) → (w ≡ 0 → ⊥) → IsRight kept passes plan w
  right_other w other = record {
    shown = shown_flat kept w passes (subst (AllByRecursion (Shows kept)) (sym (of_other w other))
        (shown_all kept w 0 kept (λ i. let e : 0 + i ≡ i = omega arith in ap (slice_get kept) e)));
    placed = λ k d below.
        let e : k ≡ 0 + k = omega arith in
        names_flat w k passes ∙ (ap (filter_map (named k)) (of_other w other) ∙ (ap (λ j. filter_map (named j) (others_of w 0 kept)) e ∙ named_all w other kept 0 k d below));
    planned = λ none. absurd (other none);
  }

  pub has_receipts : AreMain kept plan main.receipts → HasReceipts kept passes plan
  unfolding HasReceipts
  has_receipts h = λ w. by_number w
    where
      by_number : (w : ℕ) → IsRight kept passes plan w
      by_number zero = right_main h
      by_number (suc w) = right_other (suc w) (λ e. omega (arith, e))
