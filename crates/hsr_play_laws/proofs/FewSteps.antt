-- A node has had fewer steps than it refuses for their number: of the main worker no more than the scenario asks for, and no more arrivals
-- than there were moves.
use Rattle.std.proofs.Common.{◌≡◌, ℕ, ◌+◌, ◌*◌, ◌^◌, ◌<◌, ◌≤◌, ◌==◌, not, Bool, true, false, cond, if◌then◌else◌, List, [], ◌∷◌, length, take, count_by, Option, Some, Ok, refl, sym, ap, ◌∙◌, subst, arith, zero, suc, eq-eqb, ne_eqb, ⊎_elim}
use Rattle.std.specs.Prelude.{sum_by}
use Rattle.std.proofs.lemmas.Bool.{cases_Bool, cond-false, cond-true}
use Rattle.std.proofs.lemmas.List.Sums.{sum_by-cons}
use Rattle.std.proofs.lemmas.Nat.{mul-le}
use Rattle.hsr_node.specs.Record.{Each, answer, is_aged, now, steps}
use Rattle.hsr_node.specs.declared.entry.Entry.{Entry}
use Rattle.hsr_node.specs.declared.event.Event.{Event}
use Rattle.hsr_node.specs.declared.event.Event.TheVariants.{Send, Supervise, Arrive, Age}
use Rattle.hsr_node.specs.declared.event.Outcome.{Outcome}
use Rattle.hsr_node.specs.declared.event.Outcome.TheVariants.{Aged}
use Rattle.hsr_run_laws.specs.Run.{owner_of, record_in}
use Rattle.hsr_run_laws.proofs.Lists.{count_more, one_if, zero_if}
use Rattle.hsr_run_laws.proofs.Records.{Answered}
use Rattle.hsr_scenario.specs.declared.steps.Order.{Order}
use Rattle.hsr_world_laws.specs.World.{World, record_at}
use Rattle.hsr_plays.specs.Conditions.{IsClear}
use Rattle.hsr_plays.specs.Law.{is_main, is_planned_for, is_send, run_in}
use Rattle.hsr_plays.specs.Setup.{IsSetup, Setup}
use Rattle.hsr_under_way.specs.StepsOn.{is_arrival, judged_in, moves_in, rows_moved}
use Rattle.hsr_play_laws.specs.Accepted.{FewSteps}
use Rattle.hsr_play_laws.specs.Told.{IsAt, IsTold, Timed, is_main_at}
use Rattle.hsr_play_laws.proofs.MovesFew.{few_moves}
use Rattle.hsr_play_laws.proofs.Told.{tells_all}
use Rattle.hsr_play_laws.proofs.Worlds.{answers}

-- ---- lists

count_taken : {X : Type 0} (p : X → Bool) (n : ℕ) (xs : List X) → count_by p (take n xs) ≤ length xs
count_taken p zero xs = omega arith
count_taken p (suc n) [] = omega arith
count_taken p (suc n) (x ∷ xs) =
    let rest = count_taken p n xs in
    let more = count_more p x (take n xs) in
    ⊎_elim (λ yes. let one = one_if (p x) yes in omega (arith, rest, more, one)) (λ no. let none = zero_if (p x) no in omega (arith, rest, more, none)) (cases_Bool (p x))

one_of : {X : Type 0} (f : X → ℕ) (xs : List X) (k : ℕ) (d : X) → f d ≡ 0 → f (Rattle.std.specs.Prelude.slice_index_or xs k d) ≤ sum_by f xs
one_of f [] k d none = omega (arith, none)
one_of f (x ∷ xs) zero d none = let sum = sum_by-cons f x xs in omega (arith, sum)
one_of f (x ∷ xs) (suc k) d none =
    let sum = sum_by-cons f x xs in
    let rest = one_of f xs k d none in
    omega (arith, sum, rest)

-- ---- a record

step_more : (b : Bool) (n : ℕ) → (if not b then n + 1 else n) ≤ n + 1
step_more true n = omega arith
step_more false n = omega arith

no_more : (b : Bool) (n : ℕ) → b ≡ true → (if not b then n + 1 else n) ≡ n
no_more true n is = refl
no_more false n is = absurd (Rattle.std.proofs.lemmas.Bool.false≢true is)

module _ (s : Setup) (w : World) (k : ℕ) where
  -- an entry of a send is the main worker's
  steps_most : (last : ℕ) (h : List Entry) → Timed s w k last h → Each (Answered s.capacity (owner_of (run_in s w) k)) h → ((n : ℕ) → n < length h → is_main_at n (record_at w k) ≡ is_main_at n h) →
      steps h ≤ count_by is_main h + judged_in h
  steps_most last [] timed legal same = omega arith
  steps_most last (x ∷ past) (time, low, at, is, timed) legal same =
      by_event x.event refl is
      (steps_most time past timed legal.1 (λ n below. same n (omega (arith, below)) ∙ cond-false (n == length past) (is_main x) (is_main_at n past) (ne_eqb n (length past) (λ e. omega (arith, e, below)))))
    where
      Most : Type 0
      Most = steps (x ∷ past) ≤ count_by is_main (x ∷ past) + judged_in (x ∷ past)

      here : is_main_at (length past) (record_at w k) ≡ is_main x
      here = same (length past) (omega arith) ∙ cond-true (length past == length past) (is_main x) (is_main_at (length past) past) (eq-eqb (length past) (length past) refl)

      by_main : is_main_at (length past) (record_at w k) ≡ true → steps past ≤ count_by is_main past + judged_in past → Most
      by_main main rest =
          let one_more = step_more (is_aged x.outcome) (steps past) in
          let mains = count_more is_main x past in
          let judged = count_more (λ (y : Entry). is_arrival y.event) x past in
          let one = one_if (is_main x) (sym here ∙ main) in
          omega (arith, rest, one_more, mains, judged, one)

      by_event : (event : Event) → x.event ≡ event → IsAt s w k time event past → steps past ≤ count_by is_main past + judged_in past → Most
      by_event (Send from dst vlan ethertype payload) e is rest = by_main is.0.main rest
      by_event (Supervise about) e is rest = by_main is.0.main rest
      by_event (Arrive port copy) e is rest =
          let one_more = step_more (is_aged x.outcome) (steps past) in
          let mains = count_more is_main x past in
          let judged = count_more (λ (y : Entry). is_arrival y.event) x past in
          let one = one_if (is_arrival x.event) (ap is_arrival e) in
          omega (arith, rest, one_more, mains, judged, one)
      by_event Age e is rest =
          let ok : Ok Aged ≡ Ok x.outcome = subst (λ ev. answer s.capacity (owner_of (run_in s w) k) past (now (x ∷ past)) ev ≡ Ok x.outcome) e legal.0 in
          let same_outcome : Aged ≡ x.outcome = cc in
          let none = no_more (is_aged x.outcome) (steps past) (ap is_aged (sym same_outcome)) in
          let mains = count_more is_main x past in
          let judged = count_more (λ (y : Entry). is_arrival y.event) x past in
          omega (arith, rest, none, mains, judged)

-- ---- a world of a play

bound : (links orders sends n main judged all : ℕ) → links ≤ 128 → orders < 4294967296 → sends ≤ orders → n ≤ links * (6 * sends) → links * (6 * sends) ≤ 128 * (6 * 4294967296) → main ≤ orders → judged ≤ n → all ≤ main + judged → all < 4611686018427387904
bound links orders sends n main judged all few_links few some less most few_mains of_moves whole = omega arith

module _ (s : Setup) (setup : IsSetup s) (clear : IsClear s) (time n : ℕ) (w : World) (told : IsTold s time n w) (k : ℕ) where
  pub steps_few : steps (record_at w k) < 2 ^ 62
  steps_few =
      let links = setup.wired.few_links in
      let orders = setup.few in
      let mains = told.mains k in
      let main_few = count_taken (is_planned_for k) time s.orders in
      let sends = count_taken is_send time s.orders in
      let moves = few_moves s clear time n w told in
      let sends_few : 6 * count_by is_send (take time s.orders) ≤ 6 * 4294967296 = omega (arith, sends, orders) in
      let most = mul-le (length s.links) (6 * count_by is_send (take time s.orders)) 128 (6 * 4294967296) links sends_few in
      let one : judged_in (record_at w k) ≤ sum_by judged_in w.records = one_of judged_in w.records k [] refl in
      let sum : n ≡ sum_by rows_moved w.spans + sum_by judged_in w.records = told.moves in
      let whole = steps_most s w k time (record_at w k) (told.timed k) (answers s w told.own k) (λ m below. refl) in
      bound (length s.links) (length s.orders) (count_by is_send (take time s.orders)) n (count_by is_main (record_at w k)) (judged_in (record_at w k)) (steps (record_at w k))
      links orders sends moves most (omega (arith, mains, main_few)) (omega (arith, one, sum)) whole

pub few_steps : FewSteps
few_steps s done later n w setup clear played k = steps_few s setup clear (length done) n w (tells_all s done later n w setup clear played) k
