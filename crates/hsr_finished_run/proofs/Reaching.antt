-- How far workers' receipts come, one pass after another; and the entries that are left.
use Rattle.std.proofs.Common.{◌≡◌, ◌↔◌, ℕ, ◌+◌, ◌<◌, ◌&&◌, zero, suc, ◌==◌, ◌-◌, cond, Bool, true, false, List, [], ◌∷◌, ◌++◌, length, drop, get_or, set, refl, sym, ap, ◌∙◌, subst, arith, ⊎_elim}
use Rattle.std.specs.List.{AllByRecursion}
use Rattle.std.proofs.lemmas.Bool.{and_cases, and_parts, cases_Bool, cases_eq}
use Rattle.std.proofs.lemmas.List.{get_or-drop, get_or-set_other, get_or-set_same, length-drop, length-set}
use Rattle.hsr_node.specs.Kept.{Receipts, Record}
use Rattle.hsr_node.specs.declared.entry.Entry.{Entry}
use Rattle.hsr_node.specs.declared.entry.Receipt.{Receipt}
use Rattle.hsr_run_index.specs.Turns.{IsPassed, place_at}
use Rattle.hsr_finished_run.specs.Next.{AreNext, holds_from}
use Rattle.hsr_finished_run.specs.Passes.{receipts_of}
use Rattle.hsr_finished_run.specs.Reached.{AllFollow, AreTold, Follows, HasUsedUp, IsMarked, IsMore, IsStart}
use Rattle.hsr_finished_run.specs.Receipts.{holds_of}
use Rattle.hsr_finished_run.specs.declared.reached.Reached.{Reached}
use Rattle.hsr_finished_run.proofs.Coming.{kept_first}
use Rattle.hsr_run_index.proofs.Decided.{not_same, same}
use Rattle.hsr_finished_run.proofs.Plan.{all_append, all_at}

-- ---- the start

pub start_more : (rs after : List Reached) → AllByRecursion IsStart rs → IsMore rs after → AllByRecursion IsStart after
start_more rs after all more = subst (AllByRecursion IsStart) (sym more.is) (all_append IsStart rs (more.more ∷ []) all (more.start, tt))

pub start_follow : (kept : List Record) (passes : List Receipts) (rs : List Reached) → AllByRecursion IsStart rs → AllFollow kept passes passes rs
start_follow kept passes rs all = record {
  each = λ w d below.
      let start = all_at IsStart rs all w d below in
      record {
        right = λ right. kept_first w kept passes (place_at (get_or rs w d).next) start.first;
        wrong = λ wrong kept_by. let no : true ≡ false = sym start.right ∙ wrong in absurd (no_true no);
      };
}
  where
    no_true : true ≡ false → ⊥
    no_true e = cc

-- ---- receipts

pub follows_more : (kept : List Record) (passes : List Receipts) (w : ℕ) (rs rest : List Receipt) (old new : Reached) (comes : Bool) → new.is_right ≡ (old.is_right && comes) →
    (comes ≡ true → (more : List Receipt) → AreNext w kept (place_at old.next) (rs ++ more) ↔ AreNext w kept (place_at new.next) more) →
    (comes ≡ false → (more : List Receipt) → AreNext w kept (place_at old.next) (rs ++ more) → ⊥) →
    Follows kept passes w (rs ++ rest) old → Follows kept passes w rest new
follows_more kept passes w rs rest old new comes is come wrong h = record {
  right = λ right.
      let parts = and_parts old.is_right comes (sym is ∙ right) in
      let here = h.right parts.0 in
      let on = come parts.1 rest in
      (λ a. here.0 (on.1 a), λ k. on.0 (here.1 k));
  wrong = λ not_right kept_by.
      ⊎_elim (λ before. h.wrong before kept_by)
      (λ lost. ⊎_elim (λ before. wrong lost rest ((h.right before).1 kept_by)) (λ before. h.wrong before kept_by) (cases_Bool old.is_right))
      (and_cases old.is_right comes (sym is ∙ not_right));
}

-- ---- one of a list

at_set : {X : Type 0} (P : ℕ → X → Type 0) (xs : List X) (n : ℕ) (y : X) → P n y → ((w : ℕ) (d : X) → w < length xs → (n ≡ w → ⊥) → P w (get_or xs w d)) →
    (w : ℕ) (d : X) → w < length xs → P w (get_or (set xs n y) w d)
at_set P xs n y here there w d below =
    ⊎_elim
    (λ same_place.
    subst (λ (v : ℕ). P v (get_or (set xs n y) v d)) same_place (subst (P n) (sym (get_or-set_same xs n y d (omega (arith, same_place, below)))) here))
    (λ other. subst (P w) (sym (get_or-set_other xs n w y d (λ e. other (sym e)))) (there w d below other))
    (cases_eq n w)

follow_set : (kept : List Record) (passes rest : List Receipts) (p : Receipts) (rs : List Reached) (old new : Reached) → p.worker < length rs → old ≡ get_or rs p.worker old →
    ((more : List Receipt) → Follows kept passes p.worker (p.receipts ++ more) old → Follows kept passes p.worker more new) →
    AllFollow kept passes (p ∷ rest) rs → AllFollow kept passes rest (set rs p.worker new)
follow_set kept passes rest p rs old new inside stands on h =
    let P : ℕ → Reached → Type 0 = λ w r. Follows kept passes w (receipts_of w rest) r in
    let more : List Receipt = receipts_of p.worker rest in
    let F : Bool → Type 0 = λ b. Follows kept passes p.worker (cond b p.receipts [] ++ more) old in
    let O : Reached → Type 0 = λ r. Follows kept passes p.worker (receipts_of p.worker (p ∷ rest)) r in
    let here : P p.worker new = on more (subst F (same p.worker p.worker refl) (subst O (sym stands) (h.each p.worker old inside))) in
    let there : (w : ℕ) (d : Reached) → w < length rs → (p.worker ≡ w → ⊥) → P w (get_or rs w d) = λ w d below other.
    subst (λ (b : Bool). Follows kept passes w (cond b p.receipts [] ++ receipts_of w rest) (get_or rs w d)) (not_same p.worker w other) (h.each w d below) in
    record { each = λ w d below. at_set P rs p.worker new here there w d (let e = length-set rs p.worker new in omega (arith, e, below)) }

-- as a pass gives its worker and receipts
pub follow_at : (kept : List Record) (passes rest : List Receipts) (p : Receipts) (rs : List Reached) (old new : Reached) (w n : ℕ) (got : List Receipt) →
    w ≡ p.worker → n ≡ w → got ≡ p.receipts → p.worker < length rs → old ≡ get_or rs n old →
    ((more : List Receipt) → Follows kept passes w (got ++ more) old → Follows kept passes w more new) →
    AllFollow kept passes (p ∷ rest) rs → AllFollow kept passes rest (set rs n new)
follow_at kept passes rest p rs old new w n got worker_is place_is got_is inside stands on h =
    let at : p.worker ≡ n = sym (place_is ∙ worker_is) in
    subst (λ (m : ℕ). AllFollow kept passes rest (set rs m new)) at
    (follow_set kept passes rest p rs old new inside (stands ∙ ap (λ m. get_or rs m old) (sym at))
    (λ more. subst (λ (v : ℕ). Follows kept passes v (p.receipts ++ more) old → Follows kept passes v more new) worker_is
    (subst (λ (xs : List Receipt). Follows kept passes w (xs ++ more) old → Follows kept passes w more new) got_is (on more))) h)

-- ---- marks

pub marked_as : (P Q : ℕ → (ℕ → ℕ) → Type 0) (a b : List Reached) → ((w : ℕ) (next : ℕ → ℕ) → P w next ↔ Q w next) → IsMarked P a b → IsMarked Q a b
marked_as P Q a b alike h = record {
  count = h.count;
  next = h.next;
  right = λ w d below.
      let is = alike w (place_at (get_or a w d).next) in
      ((λ right. let parts = (h.right w d below).0 right in (parts.0, is.0 parts.1)), (λ p. (h.right w d below).1 (p.0, is.1 p.1)));
}

-- ---- what is left of a record

none_held : (w n : ℕ) (xs : List Entry) → ((p : ℕ) (d : Entry) → p < length xs → (get_or xs p d).worker ≡ w → ⊥) → holds_of w n xs ≡ []
none_held w n [] h = refl
none_held w n (x ∷ xs) h =
    ap (λ b. cond b (n ∷ []) [] ++ holds_of w (n + 1) xs) (not_same x.worker w (h 0 x (omega arith)))
    ∙ none_held w (n + 1) xs (λ p d below. h (suc p) d (omega (arith, below)))

held_none : (w n : ℕ) (xs : List Entry) → holds_of w n xs ≡ [] → (p : ℕ) (d : Entry) → p < length xs → (get_or xs p d).worker ≡ w → ⊥
held_none w n [] h p d below is = absurd (omega arith)
held_none w n (x ∷ xs) h zero d below is =
    let long : length (cond (x.worker == w) (n ∷ []) [] ++ holds_of w (n + 1) xs) ≡ 0 = ap length h in
    let first : length (n ∷ holds_of w (n + 1) xs) ≡ 0 = subst (λ (b : Bool). length (cond b (n ∷ []) [] ++ holds_of w (n + 1) xs) ≡ 0) (same x.worker w is) long in
    omega (arith, first)
held_none w n (x ∷ xs) h (suc p) d below is = held_none w (n + 1) xs (rest (x.worker == w) h) p d (omega (arith, below)) is
  where
    rest : (b : Bool) → cond b (n ∷ []) [] ++ holds_of w (n + 1) xs ≡ [] → holds_of w (n + 1) xs ≡ []
    rest true e = let long = ap length e in absurd (omega (arith, long))
    rest false e = e

pub passed_all : (xs : List Entry) (w from : ℕ) → IsPassed xs w from (length xs) ↔ (holds_from w xs from ≡ [])
passed_all xs w from = (
  λ h. none_held w from (drop from xs) (λ p d below is.
      let inside : from + p < length xs = let e = length-drop from xs in omega (arith, e, below) in
      h (from + p) d inside (omega arith) (ap (λ (y : Entry). y.worker) (sym (get_or-drop from xs p d)) ∙ is)),
  λ none p d below above is.
      let at : from + (p - from) ≡ p = omega (arith, above) in
      held_none w from (drop from xs) none (p - from) d (let e = length-drop from xs in omega (arith, e, below, above))
      (ap (λ (y : Entry). y.worker) (get_or-drop from xs (p - from) d) ∙ (ap (λ m. (get_or xs m d).worker) at ∙ is)),
)

-- ---- the end

none_next : (kept : List Record) (w : ℕ) (next : ℕ → ℕ) → AreNext w kept next [] ↔ HasUsedUp kept w next (length kept)
none_next kept w next = (λ h k d below. sym (h.names k d below), λ h. record { shown = tt; names = λ k d below. sym (h k d below) })

pub told_all : (kept : List Record) (passes : List Receipts) (count : ℕ) (rs after : List Reached) → length rs ≡ count → AllFollow kept passes [] rs →
    IsMarked (λ w next. HasUsedUp kept w next (length kept)) rs after → AreTold kept passes count after
told_all kept passes count rs after long follow marked = record {
  long = marked.count ∙ long;
  each = λ w d below.
      let inside : w < length rs = let e = marked.count in omega (arith, e, below) in
      let h = follow.each w d inside in
      let mark = marked.right w d inside in
      let none = none_next kept w (place_at (get_or rs w d).next) in (
        λ right. let parts = mark.0 right in (h.right parts.0).0 (none.1 parts.1),
        λ kept_by.
            ⊎_elim (λ right. mark.1 (right, none.0 ((h.right right).1 kept_by))) (λ wrong. absurd (h.wrong wrong kept_by)) (cases_Bool (get_or rs w d).is_right),
      );
}
