-- Pairs of one more entry.
use Rattle.std.proofs.Common.{◌≡◌, ℕ, ◌+◌, ◌-◌, ◌<◌, ◌==◌, Bool, true, false, cond, List, [], ◌∷◌, ◌++◌, length, map, take, get_or, count_by, nat_eq, eqb-true, Option, Some, None, refl, sym, ap, ◌∙◌, arith}
use Rattle.std.specs.Prelude.{filter_map, slice_get}
use Rattle.std.specs.List.{cons_option, range_with_len}
use Rattle.std.specs.Option.{option_and_then, option_or}
use Rattle.std.proofs.Math.ListN.{get_or-map}
use Rattle.std.proofs.lemmas.List.{take_more}
use Rattle.std.proofs.lemmas.List.Elements.{filter_map-append}
use Rattle.std.proofs.lemmas.Option.{slice_get-get_or}
use Rattle.hsr_frame.proofs.OneMore.{counted_more, numbers_more}
use Rattle.hsr_run_laws.specs.Run.{Run, record_of}
use Rattle.hsr_finished_run.specs.declared.planned.Planned.{Planned}
use Rattle.hsr_timeline.specs.declared.origin.Spot.{Spot}
use Rattle.hsr_timeline.specs.Causes.{cause_if, cause_in, is_for, is_spot, main_at, main_before, main_next, main_pair}
use Rattle.hsr_timeline.specs.IndexedCauses.{main_by, mains_of}

-- ---- one more pair

cause_push : (xs : List (Spot × Spot)) (x : Spot × Spot) (spot : Spot) → cause_in (xs ++ x ∷ []) spot ≡ cond (is_spot x.0 spot) (Some x.1) (cause_in xs spot)
cause_push [] x spot = of (is_spot x.0 spot)
  where
    of : (b : Bool) → option_or None (cond b (Some x.1) None) ≡ cond b (Some x.1) None
    of true = refl
    of false = refl
cause_push (y ∷ ys) x spot = ap (λ o. option_or o (cause_if spot y)) (cause_push ys x spot) ∙ of (is_spot x.0 spot)
  where
    of : (b : Bool) → option_or (cond b (Some x.1) (cause_in ys spot)) (cause_if spot y) ≡ cond b (Some x.1) (option_or (cause_in ys spot) (cause_if spot y))
    of true = refl
    of false = refl

pub cause_more : (xs : List (Spot × Spot)) (i : ℕ) (d : Spot × Spot) (spot : Spot) → i < length xs →
    cause_in (take (i + 1) xs) spot ≡ cond (is_spot (get_or xs i d).0 spot) (Some (get_or xs i d).1) (cause_in (take i xs) spot)
cause_more xs i d spot below = ap (λ ys. cause_in ys spot) (take_more xs i d below) ∙ cause_push (take i xs) (get_or xs i d) spot

-- ---- one more of the main worker's entries

pub counts_more : (plan : List Planned) (i : ℕ) (x : Planned) (node count old : ℕ) → i < length plan → x ≡ get_or plan i x → count ≡ count_by (is_for x.node) (take i plan) →
    old ≡ count_by (is_for node) (take i plan) → cond (nat_eq x.node node) (count + 1) old ≡ count_by (is_for node) (take (i + 1) plan)
counts_more plan i x node count old below is counted was = by_same (nat_eq x.node node) refl
  where
    more : count_by (is_for node) (take (i + 1) plan) ≡ count_by (is_for node) (take i plan) + cond (nat_eq x.node node) 1 0
    more = counted_more (is_for node) plan i x below ∙ ap (λ (y : Planned). count_by (is_for node) (take i plan) + cond (is_for node y) 1 0) (sym is)

    by_same : (b : Bool) → nat_eq x.node node ≡ b → cond b (count + 1) old ≡ count_by (is_for node) (take (i + 1) plan)
    by_same true e =
        let m : count_by (is_for node) (take (i + 1) plan) ≡ count_by (is_for node) (take i plan) + 1 = more ∙ ap (λ b. count_by (is_for node) (take i plan) + cond b 1 0) e in
        let same : count ≡ count_by (is_for node) (take i plan) = counted ∙ ap (λ (n : ℕ). count_by (is_for n) (take i plan)) (eqb-true x.node node e) in
        omega (arith, m, same)
    by_same false e =
        let m : count_by (is_for node) (take (i + 1) plan) ≡ count_by (is_for node) (take i plan) + 0 = more ∙ ap (λ b. count_by (is_for node) (take i plan) + cond b 1 0) e in
        omega (arith, m, was)

pub main_is : (run : Run) (plan : List Planned) (i : ℕ) (x : Planned) (count : ℕ) (rows : List (List ℕ)) → i < length plan → x ≡ get_or plan i x → rows ≡ map mains_of run.records →
    count ≡ count_by (is_for x.node) (take i plan) → main_by rows x.node count ≡ main_at run plan i
main_is run plan i x count rows below is rows_are counted =
    ap (λ (rs : List (List ℕ)). main_by rs x.node count) rows_are
    ∙ (ap (λ (ms : List ℕ). Rattle.hsr_timeline.specs.Hops.spot_at x.node (slice_get ms count)) (get_or-map mains_of run.records x.node [])
    ∙ (ap (λ (n : ℕ). Rattle.hsr_timeline.specs.Hops.spot_at x.node (slice_get (mains_of (record_of run x.node)) n)) counted
    ∙ sym (ap (option_and_then (main_next run (take i plan))) (slice_get-get_or plan i x below ∙ ap (λ (y : Planned). Some y) (sym is)))))

pub before_more : (run : Run) (plan : List Planned) (i : ℕ) → main_before run plan (i + 1) ≡ main_at run plan i
before_more run plan i =
    let some : (i + 1 == 0) ≡ false = grind arith in
    let back : i + 1 - 1 ≡ i = omega arith in
    ap (λ b. cond b None (main_at run plan (i + 1 - 1))) some ∙ ap (main_at run plan) back

pub pairs_more : (run : Run) (plan : List Planned) (i : ℕ) →
    filter_map (main_pair run plan) (range_with_len 0 (i + 1)) ≡ filter_map (main_pair run plan) (range_with_len 0 i) ++ cons_option (main_pair run plan i) []
pairs_more run plan i =
    ap (filter_map (main_pair run plan)) (numbers_more i) ∙ (filter_map-append (main_pair run plan) (range_with_len 0 i) (i ∷ []) ∙ ap (λ ps. filter_map (main_pair run plan) (range_with_len 0 i) ++ ps) (one (main_pair run plan i) refl))
  where
    one : (o : Option (Spot × Spot)) → main_pair run plan i ≡ o → filter_map (main_pair run plan) (i ∷ []) ≡ cons_option (main_pair run plan i) []
    one o is = refl
