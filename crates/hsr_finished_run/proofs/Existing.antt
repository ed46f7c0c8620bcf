-- There are passes for any records and plan; where the records don't tell of the plan, the main worker's are wrong.
use Rattle.std.proofs.Common.{◌≡◌, ◌⊎◌, inl, inr, ℕ, ◌+◌, ◌<◌, ◌≤◌, ◌==◌, ◌&&◌, not, zero, suc, cond, Bool, true, false, List, [], ◌∷◌, ◌++◌, length, get_or, set, Vec, refl, sym, ap, ◌∙◌, subst, arith, ⊎_elim, append-nil}
use Rattle.std.specs.Global.{Global}
use Rattle.std.proofs.lemmas.Bool.{cases_eq, cases_lt}
use Rattle.std.proofs.lemmas.List.{get_or_default}
use Rattle.hsr_node.specs.Kept.{Receipts, Record}
use Rattle.hsr_node.specs.declared.entry.Entry.{Entry}
use Rattle.hsr_node.specs.declared.entry.Receipt.{Receipt}
use Rattle.hsr_link.specs.declared.row.Row.{Row}
use Rattle.hsr_topology.specs.Topology.{Topology}
use Rattle.hsr_finished_run.specs.Finished.{run_of}
use Rattle.hsr_finished_run.specs.Next.{AreFirst, IsNext, holds_from}
use Rattle.hsr_finished_run.specs.OfRecords.{ArePassesOf}
use Rattle.hsr_finished_run.specs.Passes.{AreByPlan, AreByWorker, AreMain, IsToldBy, is_other, others_in, others_of, receipts_in, receipts_of}
use Rattle.hsr_finished_run.specs.Receipts.{IsFirstWrong, holds_of}
use Rattle.hsr_finished_run.specs.Shape.{IsShaped}
use Rattle.hsr_finished_run.specs.Workers.{most_in, most_kept}
use Rattle.hsr_finished_run.specs.declared.planned.Planned.{Planned}
use Rattle.hsr_run_index.proofs.Decided.{not_same, same}
use Rattle.hsr_finished_run.proofs.Idle.{one_of}
use Rattle.hsr_finished_run.proofs.Keeping.{keeps, over, stops}
use Rattle.hsr_finished_run.proofs.MainPass.{IsUpTo, drop_all, drop_at, never_stops, up_to_all, up_to_end, up_to_more, up_to_none, up_to_over}
use Rattle.hsr_finished_run.proofs.Plan.{is_planned, told_by}
use Rattle.hsr_finished_run.proofs.Receiving.{by_plan, has_receipts, no_others, none_before, of_other}
use Rattle.hsr_finished_run.proofs.Shaped.{many}

-- ---- the next place

abbrev pub HasNext : ℕ → List Entry → ℕ → Type 0
HasNext w xs from = (holds_from w xs from ≡ []) ⊎ ((place : ℕ) × IsNext w xs from place)

pub next_in : (w m from : ℕ) (xs : List Entry) → length xs ≤ from + m → HasNext w xs from
next_in w zero from xs past = inl (ap (holds_of w from) (drop_all xs from (omega (arith, past))))
next_in w (suc m) from xs past = ⊎_elim (λ below. inside below (next_in w m (from + 1) xs (omega (arith, past)))) (λ above. inl (ap (holds_of w from) (drop_all xs from (omega (arith, above))))) (cases_lt from (length xs))
  where
    inside : from < length xs → HasNext w xs (from + 1) → HasNext w xs from
    inside below later = by_worker (x.worker == w) refl
      where
        x : Entry
        x = get_or xs from (one_of xs from below)

        here : holds_from w xs from ≡ cond (x.worker == w) (from ∷ []) [] ++ holds_from w xs (from + 1)
        here = ap (holds_of w from) (drop_at xs from x below (get_or_default xs from (one_of xs from below) x below))

        by_worker : (b : Bool) → (x.worker == w) ≡ b → HasNext w xs from
        by_worker true is = inr (from, record { below = below; holds = here ∙ ap (λ b. cond b (from ∷ []) [] ++ holds_from w xs (from + 1)) is })
        by_worker false other =
            let rest : holds_from w xs from ≡ holds_from w xs (from + 1) = here ∙ ap (λ b. cond b (from ∷ []) [] ++ holds_from w xs (from + 1)) other in
            ⊎_elim (λ none. inl (rest ∙ none)) (λ found. inr (found.0, record { below = found.1.below; holds = rest ∙ found.1.holds })) later

-- ---- the main worker

record HasMain (kept : List Record) (plan : List Planned) : Type 0 where
  receipts : List Receipt
  first : AreByPlan kept plan receipts
  main : IsToldBy kept plan → AreMain kept plan receipts

module _ (kept : List Record) (plan : List Planned) where
  main_from : (m n : ℕ) → n + m ≡ length plan → (next : List ℕ) (receipts : List Receipt) → IsUpTo kept plan n next receipts → HasMain kept plan
  main_from zero n all next receipts h = record {
    receipts = receipts;
    first = up_to_end kept plan n next receipts (omega (arith, all)) h;
    main = up_to_all kept plan n next receipts (omega (arith, all)) h;
  }
  main_from (suc m) n all next receipts h = ⊎_elim (there (main_from m (n + 1) (omega (arith, all)))) outside (cases_lt planned.node (length kept))
    where
      below : n < length plan
      below = omega (arith, all)

      planned : Planned
      planned = get_or plan n (one_of plan n below)

      is : planned ≡ get_or plan n planned
      is = get_or_default plan n (one_of plan n below) planned below

      outside : length kept ≤ planned.node → HasMain kept plan
      outside out = record {
        receipts = receipts;
        first = up_to_over kept plan n planned next receipts below is (λ d inside. absurd (omega (arith, inside, out))) h;
        main = λ told. absurd (never_stops kept plan n planned next receipts below is (λ inside rest left. omega (arith, inside, out)) h told);
      }

      there : ((later : List ℕ) (after : List Receipt) → IsUpTo kept plan (n + 1) later after → HasMain kept plan) → planned.node < length kept → HasMain kept plan
      there on inside = ⊎_elim ended goes (next_in 0 (length e.entries) from e.entries (omega arith))
        where
          e : Record
          e = get_or kept planned.node (one_of kept planned.node inside)

          at : e ≡ get_or kept planned.node e
          at = get_or_default kept planned.node (one_of kept planned.node inside) e inside

          from : ℕ
          from = get_or next planned.node 0

          ended : holds_from 0 e.entries from ≡ [] → HasMain kept plan
          ended none = record {
            receipts = receipts;
            first = up_to_over kept plan n planned next receipts below is (over kept next planned e from h.ahead.long inside at refl none) h;
            main = λ told. absurd (never_stops kept plan n planned next receipts below is (λ in_it. stops kept next planned e from h.ahead.long inside at refl none) h told);
          }

          goes : (place : ℕ) × IsNext 0 e.entries from place → HasMain kept plan
          goes found =
              let place = found.0 in
              let x : Entry = get_or e.entries place (one_of e.entries place found.1.below) in
              let more : Receipt = record { node = planned.node; place = place; entry = x } in
              on (set next planned.node (place + 1)) (receipts ++ more ∷ [])
              (up_to_more kept plan n planned next (set next planned.node (place + 1)) receipts (receipts ++ more ∷ []) below is
              (keeps kept next planned e from h.ahead.long inside at refl place x receipts found.1 (get_or_default e.entries place (one_of e.entries place found.1.below) x found.1.below)) h)

zeros : (n : ℕ) → (next : List ℕ) × AreFirst n next
zeros zero = ([], record { long = refl; first = tt })
zeros (suc n) = let rest = zeros n in (0 ∷ rest.0, record { long = ap suc rest.1.long; first = (refl, rest.1.first) })

has_main : (kept : List Record) (plan : List Planned) → HasMain kept plan
has_main kept plan = let first = zeros (length kept) in main_from kept plan (length plan) 0 (omega arith) first.0 [] (up_to_none kept plan first.0 first.1)

-- ---- the others

module _ (kept : List Record) where
  others_from : ℕ → ℕ → List Receipts
  others_from n zero = []
  others_from n (suc count) = record { worker = n; receipts = others_of n 0 kept } ∷ others_from (n + 1) count

  by_worker_from : (n count : ℕ) → AreByWorker n (others_from n count)
  unfolding others_from
  by_worker_from n zero = tt
  by_worker_from n (suc count) = (refl, by_worker_from (n + 1) count)

  receipts_there : (w n count : ℕ) → n ≤ w → w < n + count → receipts_of w (others_from n count) ≡ others_of w 0 kept
  unfolding others_from
  receipts_there w n zero low high = absurd (omega (arith, low, high))
  receipts_there w n (suc count) low high = ⊎_elim
      (λ is. subst (λ (v : ℕ). receipts_of v (others_from n (suc count)) ≡ others_of v 0 kept) is
      (ap (λ b. cond b (others_of n 0 kept) [] ++ receipts_of n (others_from (n + 1) count)) (same n n refl)
      ∙ (ap (λ rs. others_of n 0 kept ++ rs) (none_before n (n + 1) (others_from (n + 1) count) (by_worker_from (n + 1) count) (omega arith)) ∙ append-nil (others_of n 0 kept))))
      (λ other. ap (λ b. cond b (others_of n 0 kept) [] ++ receipts_of w (others_from (n + 1) count)) (not_same n w other)
      ∙ receipts_there w (n + 1) count (omega (arith, low, other)) (omega (arith, high)))
      (cases_eq n w)

  receipts_none : (w n count : ℕ) → n + count ≤ w → receipts_of w (others_from n count) ≡ []
  unfolding others_from
  receipts_none w n zero past = refl
  receipts_none w n (suc count) past =
      ap (λ b. cond b (others_of n 0 kept) [] ++ receipts_of w (others_from (n + 1) count)) (not_same n w (λ e. omega (arith, past, e)))
      ∙ receipts_none w (n + 1) count (omega (arith, past))

not_other : (w : ℕ) (x : Entry) → x.worker < w → is_other w x ≡ false
not_other w x low = ap (λ b. not (x.worker == 0) && b) (not_same x.worker w (λ e. omega (arith, low, e))) ∙ by_main (x.worker == 0)
  where
    by_main : (b : Bool) → (not b && false) ≡ false
    by_main true = refl
    by_main false = refl

idle_in : (w k n : ℕ) (xs : List Entry) → most_in xs < w → others_in w k n xs ≡ []
idle_in w k n [] low = refl
idle_in w k n (x ∷ xs) low =
    ap (λ b. cond b (record { node = k; place = n; entry = x } ∷ []) [] ++ others_in w k (n + 1) xs) (not_other w x (omega (arith, low)))
    ∙ idle_in w k (n + 1) xs (omega (arith, low))

idle_of : (w k : ℕ) (rs : List Record) → most_kept rs < w → others_of w k rs ≡ []
idle_of w k [] low = refl
idle_of w k (r ∷ rs) low = (λ i. idle_in w k 0 r.entries (omega (arith, low)) i ++ others_of w (k + 1) rs) ∙ idle_of w (k + 1) rs (omega (arith, low))

all_others : (kept : List Record) (w : ℕ) → receipts_of w (others_from kept 1 (most_kept kept)) ≡ others_of w 0 kept
all_others kept zero = none_before 0 1 (others_from kept 1 (most_kept kept)) (by_worker_from kept 1 (most_kept kept)) (omega arith) ∙ sym (no_others 0 kept)
all_others kept (suc w) = ⊎_elim
    (λ low. receipts_there kept (suc w) 1 (most_kept kept) (omega arith) (omega (arith, low)))
    (λ high. receipts_none kept (suc w) 1 (most_kept kept) (omega (arith, high)) ∙ sym (idle_of (suc w) 0 kept (omega (arith, high))))
    (cases_lt (suc w) (most_kept kept + 1))

-- ---- all

pub record HasPasses (kept : List Record) (plan : List Planned) : Type 0 where
  pub passes : List Receipts
  pub told : ArePassesOf kept plan passes

pub has_passes : (kept : List Record) (plan : List Planned) → HasPasses kept plan
has_passes kept plan =
    let m = has_main kept plan in
    let main : Receipts = record { worker = 0; receipts = m.receipts } in
    let others : List Receipts = others_from kept 1 (most_kept kept) in
    let whole : (w : ℕ) → receipts_of w (main ∷ others) ≡ receipts_of w ([] ++ main ∷ []) ++ others_of w 0 kept =
    λ w. ap (λ rs. receipts_in w main ++ rs) (all_others kept w) ∙ ap (λ rs. rs ++ others_of w 0 kept) (sym (append-nil (receipts_in w main))) in
    record {
      passes = main ∷ others;
      told = record {
        right = λ told. has_receipts kept plan main (main ∷ others) refl whole (m.main told);
        workers = (refl, by_worker_from kept 1 (most_kept kept));
        main = by_plan kept plan main (main ∷ others) refl whole m.first;
        others = of_other kept plan main (main ∷ others) refl whole;
      };
    }

-- the main worker's receipts tell the plan
pub not_told : (capacity : ℕ) (topology : Topology) (kept : List Record) (rows : List (Vec Row Global)) (passes : List Receipts) (plan : List Planned) →
    IsShaped topology kept rows → (IsToldBy kept plan → ⊥) → IsFirstWrong kept passes plan 0
not_told capacity topology kept rows passes plan shaped other = record {
  here = λ right. other (told_by (run_of capacity topology kept rows) kept plan refl (sym (many capacity topology kept rows shaped))
      (is_planned capacity topology kept rows passes plan shaped right));
  before = λ w below. absurd (omega (arith, below));
}
