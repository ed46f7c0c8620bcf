-- Where an entry comes before another, its stamp is earlier.
use Rattle.std.proofs.Common.{◌≡◌, ℕ, zero, suc, ◌+◌, ◌-◌, ◌<◌, ◌≤◌, true, false, List, [], ◌∷◌, length, get_or, Option, Some, sym, ap, ◌∙◌, subst, ⊎_elim, arith, slice_get}
use Rattle.std.specs.Prelude.{is_some}
use Rattle.std.proofs.lemmas.Bool.{cases_lt}
use Rattle.std.proofs.lemmas.List.{get_or_past}
use Rattle.std.proofs.lemmas.Option.{same_Some, slice_get-get_or, slice_get_cases, slice_get_within}
use Rattle.hsr_node.specs.declared.entry.Entry.{Entry}
use Rattle.hsr_run_laws.specs.Run.{Run, record_of}
use Rattle.hsr_finished_run.specs.Finished.{Finished, IsFinished}
use Rattle.hsr_finished_run.specs.declared.planned.Planned.{Planned}
use Rattle.hsr_timeline.specs.Stamps.{AreStamps, IsAfter, at_spot}
use Rattle.hsr_timeline.specs.declared.origin.Origin.{Origin}
use Rattle.hsr_timeline.specs.declared.origin.Spot.{Spot}
use Rattle.hsr_timeline.specs.declared.stamp.Stamp.{Stamp}
use Rattle.hsr_timeline.specs.declared.hop.Hop.{Hop}
use Rattle.hsr_timeline.specs.Hops.{hops}
use Rattle.hsr_timeline.specs.Causes.{cause_in, hop_pair, hop_pairs, main_at, main_pairs, origin_at, origins, origins_from, pair_of}
use Rattle.hsr_timeline_laws.specs.Keeps.{ComesBefore, IsPassedTo, StampsRise}
use Rattle.hsr_timeline_laws.proofs.Judging.{hop_below, one_judged}
use Rattle.hsr_timeline_laws.proofs.Listed.{IsIn, from_mapped, in_at, in_mapped}
use Rattle.hsr_timeline_laws.proofs.MainOrder.{cause_one, main_cause, main_there, main_told, pair_told}
use Rattle.hsr_timeline_laws.proofs.Rising.{after_later, follows, recorded_before}
use Rattle.hsr_timeline_laws.proofs.Standing.{below_at, below_long, stamp_there}

-- ---- what entries follow

from_told : (planned passed : Spot → Option Spot) (node n : ℕ) (xs : List Entry) (i : ℕ) (x : Origin) → slice_get (origins_from planned passed node n xs) i ≡ Some x →
    (x.planned ≡ planned (record { node = node; place = n + i })) × (x.passed ≡ passed (record { node = node; place = n + i }))
from_told planned passed node n [] i x is = absurd (cc)
from_told planned passed node n (y ∷ ys) zero x is =
    let at : n ≡ n + 0 = omega arith in
    let e : origin_at planned passed (record { node = node; place = n }) y ≡ x = same_Some (origin_at planned passed (record { node = node; place = n }) y) x is in
    (sym (ap (λ (o : Origin). o.planned) e) ∙ ap (λ k. planned (record { node = node; place = k })) at, sym (ap (λ (o : Origin). o.passed) e) ∙ ap (λ k. passed (record { node = node; place = k })) at)
from_told planned passed node n (y ∷ ys) (suc i) x is =
    let at : (n + 1) + i ≡ n + suc i = omega arith in
    let k = from_told planned passed node (n + 1) ys i x is in
    (k.0 ∙ ap (λ k. planned (record { node = node; place = k })) at, k.1 ∙ ap (λ k. passed (record { node = node; place = k })) at)

-- an entry follows the main worker's entry and the passing with which it is paired
origin_told : (run : Run) (plan : List Planned) (q : Spot) (x : Origin) → at_spot (origins run plan) q ≡ Some x →
    (x.planned ≡ cause_in (main_pairs run plan) q) × (x.passed ≡ cause_in (hop_pairs run) q)
origin_told run plan q x is = ⊎_elim inside outside (cases_lt q.node (length run.places))
  where
    planned : Spot → Option Spot
    planned = cause_in (main_pairs run plan)

    passed_on : Spot → Option Spot
    passed_on = cause_in (hop_pairs run)

    inside : q.node < length run.places → (x.planned ≡ planned q) × (x.passed ≡ passed_on q)
    inside lt =
        let at : 0 + q.place ≡ q.place = omega arith in
        let here : slice_get (origins_from planned passed_on q.node 0 (record_of run q.node)) q.place ≡ Some x =
        ap (λ os. slice_get os q.place) (sym (below_at run planned passed_on (length run.places) q.node lt)) ∙ is in
        let k = from_told planned passed_on q.node 0 (record_of run q.node) q.place x here in
        (k.0 ∙ ap (λ k. planned (record { node = q.node; place = k })) at, k.1 ∙ ap (λ k. passed_on (record { node = q.node; place = k })) at)

    outside : length run.places ≤ q.node → (x.planned ≡ planned q) × (x.passed ≡ passed_on q)
    outside ge =
        let long = below_long run planned passed_on (length run.places) in
        let none : get_or (origins run plan) q.node [] ≡ [] = get_or_past (origins run plan) q.node [] (omega (arith, long, ge)) in
        absurd (let f : slice_get {X = Origin} [] q.place ≡ Some x = ap (λ os. slice_get os q.place) (sym none) ∙ is in cc)

-- ---- the three orders

module _ (f : Finished) (finished : IsFinished f) (stamp : Spot → Option Stamp) (are : AreStamps (origins f.run f.plan) stamp) where
  -- by what is planned before it
  main_step : (i : ℕ) (p q : Spot) (u : Stamp) → main_at f.run f.plan i ≡ Some p → main_at f.run f.plan (i + 1) ≡ Some q → stamp q ≡ Some u → IsAfter stamp (Some p) u
  main_step i p q u before is at =
      let k = follows (origins f.run f.plan) stamp are q u at in
      let cause : k.0.planned ≡ Some p = (origin_told f.run f.plan q k.0 k.1).0 ∙ main_cause f.run f.plan i p q before is in
      let P : Option Spot → Type 0 = λ o. IsAfter stamp o u in
      subst P cause k.2.planned

  main_rises : (k i : ℕ) (p q : Spot) (u : Stamp) → main_at f.run f.plan i ≡ Some p → main_at f.run f.plan (i + 1 + k) ≡ Some q → stamp q ≡ Some u → IsAfter stamp (Some p) u
  main_rises zero i p q u before is at = let e : i + 1 ≡ i + 1 + 0 = omega arith in main_step i p q u before (ap (main_at f.run f.plan) e ∙ is) at
  main_rises (suc k) i p q u before is at =
      let e : i + 1 + k + 1 ≡ i + 1 + suc k = omega arith in
      let told = main_told f.run f.plan (i + 1 + suc k) q is in
      let below = slice_get_within f.plan (i + 1 + suc k) told.0 told.1 in
      let x : Planned = get_or f.plan (i + 1 + k) told.0 in
      let r = main_there f.run f.plan finished.planned (i + 1 + k) x (slice_get-get_or f.plan (i + 1 + k) told.0 (omega (arith, below))) in
      let last = main_step (i + 1 + k) r.0 q u r.1 (ap (main_at f.run f.plan) e ∙ is) at in
      after_later (origins f.run f.plan) stamp are p last.0 u (main_rises k i p r.0 last.0 before r.1 last.1) last.2

  -- by the copy with which it came
  passed_rises : (p q : Spot) (u : Stamp) → IsPassedTo f.run p q → stamp q ≡ Some u → IsAfter stamp (Some p) u
  passed_rises p q u h at =
      let pair : hop_pair h.0 ≡ Some (q, p) = ap (λ o. pair_of o h.0.passed) h.3 ∙ ap (pair_of (Some q)) h.2 in
      let k = follows (origins f.run f.plan) stamp are q u at in
      let found : cause_in (hop_pairs f.run) q ≡ Some p = cause_one (hop_pairs f.run) q p only (in_mapped hop_pair (hops f.run) h.0 (q, p) inside pair) in
      let cause : k.0.passed ≡ Some p = (origin_told f.run f.plan q k.0 k.1).1 ∙ found in
      let P : Option Spot → Type 0 = λ o. IsAfter stamp o u in
      subst P cause k.2.passed
    where
      inside : IsIn h.0 (hops f.run)
      inside = in_at (hops f.run) h.1.0 h.0 (slice_get-get_or (hops f.run) h.1.0 h.0 h.1.1 ∙ ap (λ o. Some o) h.1.2)

      only : (c : Spot) → IsIn (q, c) (hop_pairs f.run) → c ≡ p
      only c more =
          let k = from_mapped hop_pair (hops f.run) (q, c) more in
          let told = pair_told k.0.judged k.0.passed q c k.2 in
          let a = hop_below f.run (length f.run.links) h.0 inside in
          let b = hop_below f.run (length f.run.links) k.0 k.1 in
          let same = one_judged f.run finished.wired a.0 b.0 a.1 b.1 a.2 b.2 q a.3 b.3 a.4 b.4 (ap (λ (o : Hop). o.judged) a.5 ∙ h.3) (ap (λ (o : Hop). o.judged) b.5 ∙ told.0) in
          let hop_same : h.0 ≡ k.0 = sym a.5 ∙ (same ∙ b.5) in
          same_Some c p (sym told.1 ∙ (sym (ap (λ (o : Hop). o.passed) hop_same) ∙ h.2))

  pub comes_after : (p q : Spot) (u : Stamp) → ComesBefore f p q → stamp q ≡ Some u → IsAfter stamp (Some p) u
  comes_after p q u before at = ⊎_elim
      (λ recorded. recorded_before (origins f.run f.plan) stamp are p q u recorded.0 recorded.1 at)
      (λ other. ⊎_elim
      (λ main. let i = main.0 in let j = main.1 in let less = main.2 in
      let e : j ≡ i + 1 + (j - i - 1) = omega (arith, less) in main_rises (j - i - 1) i p q u main.3 (ap (main_at f.run f.plan) (sym e) ∙ main.4) at)
      (λ passed. passed_rises p q u passed at)
      other)
      before

pub stamps_rise : StampsRise
stamps_rise f finished stamp are p q entry before =
    ⊎_elim
    (λ h. let t = stamp_there f.run f.plan stamp finished.closed are q h.1 in
    let a = comes_after f finished stamp are p q t.0 before t.1 in
    (a.0, t.0, a.1, t.1, a.2))
    (λ h. absurd (let e : false ≡ true = sym (ap is_some h.1) ∙ entry in cc))
    (slice_get_cases (record_of f.run q.node) q.place).1
