-- A worker above the highest has no receipt and no entry.
use Rattle.std.proofs.Common.{◌≡◌, ℕ, ◌+◌, ◌<◌, ◌≤◌, zero, suc, cond, true, false, List, [], ◌∷◌, ◌++◌, length, get_or, filter_map, Option, Some, None, refl, sym, ap, ◌∙◌, arith, ⊎_elim}
use Rattle.std.specs.Prelude.{MatchOption}
use Rattle.std.proofs.lemmas.Bool.{cases_lt, true≢false}
use Rattle.hsr_node.specs.Kept.{Receipts, Record}
use Rattle.hsr_node.specs.declared.entry.Entry.{Entry}
use Rattle.hsr_finished_run.specs.Reached.{AreTold, IsFirstLost, IsKeptBy}
use Rattle.hsr_finished_run.specs.Receipts.{HasReceipts, IsFirstWrong, IsRight, done_of, holds_of, named, names_of}
use Rattle.hsr_finished_run.specs.Workers.{most_in, most_kept, most_passed, most_worker}
use Rattle.hsr_finished_run.specs.declared.planned.Planned.{Planned}
use Rattle.hsr_finished_run.specs.declared.reached.Reached.{Reached}
use Rattle.hsr_run_index.proofs.Decided.{not_same}

pub no_holds : (w n : ℕ) (xs : List Entry) → most_in xs < w → holds_of w n xs ≡ []
no_holds w n [] h = refl
no_holds w n (x ∷ xs) h =
    let other = not_same x.worker w (λ e. omega (arith, h, e)) in
    ap (λ b. cond b (n ∷ []) [] ++ holds_of w (n + 1) xs) other ∙ no_holds w (n + 1) xs (omega (arith, h))

pub no_names : (w k : ℕ) (ps : List Receipts) → most_passed ps < w → names_of w k ps ≡ []
no_names w k [] h = refl
no_names w k (p ∷ ps) h =
    let other = not_same p.worker w (λ e. omega (arith, h, e)) in
    ap (λ b. cond b (filter_map (named k) p.receipts) [] ++ names_of w k ps) other ∙ no_names w k ps (omega (arith, h))

pub below_in : (xs : List Entry) (i : ℕ) (d : Entry) → i < length xs → (get_or xs i d).worker ≤ most_in xs
below_in [] i d h = absurd (omega arith)
below_in (x ∷ xs) zero d h = omega arith
below_in (x ∷ xs) (suc i) d h = let e = below_in xs i d (omega arith) in omega (arith, e)

pub below_kept : (kept : List Record) (k : ℕ) (d : Record) → k < length kept → most_in (get_or kept k d).entries ≤ most_kept kept
below_kept [] k d h = absurd (omega arith)
below_kept (x ∷ xs) zero d h = omega arith
below_kept (x ∷ xs) (suc k) d h = let e = below_kept xs k d (omega arith) in omega (arith, e)

pub below_passed : (ps : List Receipts) (j : ℕ) (d : Receipts) → j < length ps → (get_or ps j d).worker ≤ most_passed ps
below_passed [] j d h = absurd (omega arith)
below_passed (x ∷ xs) zero d h = omega arith
below_passed (x ∷ xs) (suc j) d h = let e = below_passed xs j d (omega arith) in omega (arith, e)

idle : (kept : List Record) (passes : List Receipts) (plan : List Planned) (w : ℕ) → most_worker kept passes < w → IsRight kept passes plan w
idle kept passes plan w h = record {
  shown = λ j p below is i d inside. let e = below_passed passes j p below in absurd (omega (arith, e, is, h));
  placed = λ k d below. let e = below_kept kept k d below in no_names w k passes (omega (arith, h)) ∙ sym (no_holds w 0 (get_or kept k d).entries (omega (arith, e, h)));
  planned = λ none. absurd (omega (arith, none, h));
}

-- ---- the lowest wrong one

pub one_of : {X : Type 0} (xs : List X) (n : ℕ) → n < length xs → X
one_of [] n below = absurd (omega arith)
one_of (x ∷ xs) n below = x

pub not_planned : (kept : List Record) (passes : List Receipts) (plan : List Planned) → (done_of passes ≡ plan → ⊥) → IsFirstWrong kept passes plan 0
not_planned kept passes plan other = record { here = λ right. other (right.planned refl); before = λ w below. absurd (omega (arith, below)) }

right : (kept : List Record) (passes : List Receipts) (plan : List Planned) (w : ℕ) → done_of passes ≡ plan → IsKeptBy kept passes w → IsRight kept passes plan w
right kept passes plan w planned kept_by = record { shown = kept_by.0; placed = kept_by.1; planned = λ main. planned }

all_right : (kept : List Record) (passes : List Receipts) (plan : List Planned) (most : ℕ) (rs : List Reached) → done_of passes ≡ plan → most ≡ most_worker kept passes →
    AreTold kept passes (most + 1) rs → ((w : ℕ) (d : Reached) → w < length rs → (get_or rs w d).is_right ≡ true) → HasReceipts kept passes plan
unfolding HasReceipts
all_right kept passes plan most rs planned is told all = λ w.
    ⊎_elim (λ low. let long = told.long in let inside : w < length rs = omega (arith, low, long) in let d = one_of rs w inside in right kept passes plan w planned ((told.each w d inside).0 (all w d inside)))
    (λ high. idle kept passes plan w (omega (arith, high, is)))
    (cases_lt w (most + 1))

wrong_first : (kept : List Record) (passes : List Receipts) (plan : List Planned) (most : ℕ) (rs : List Reached) (w : ℕ) → done_of passes ≡ plan →
    AreTold kept passes (most + 1) rs → IsFirstLost rs w → IsFirstWrong kept passes plan w
wrong_first kept passes plan most rs w planned told lost = record {
  here = λ is. let d = one_of rs w lost.below in let no : true ≡ false = sym ((told.each w d lost.below).1 (is.shown, is.placed)) ∙ lost.here d in absurd (true≢false no);
  before = λ v below. let inside = lost.below in let d = one_of rs w inside in right kept passes plan v planned ((told.each v d (omega (arith, below, inside))).0 (lost.before v d below));
}

pub which_wrong : (kept : List Record) (passes : List Receipts) (plan : List Planned) (most : ℕ) (rs : List Reached) (o : Option ℕ) → done_of passes ≡ plan → most ≡ most_worker kept passes →
    AreTold kept passes (most + 1) rs → MatchOption o ((w : ℕ) (d : Reached) → w < length rs → (get_or rs w d).is_right ≡ true) (λ w. IsFirstLost rs w) →
    MatchOption o (HasReceipts kept passes plan) (λ w. IsFirstWrong kept passes plan w)
which_wrong kept passes plan most rs None planned is told all = all_right kept passes plan most rs planned is told all
which_wrong kept passes plan most rs (Some w) planned is told lost = wrong_first kept passes plan most rs w planned told lost
