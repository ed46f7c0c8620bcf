-- Where spans stand that pass a test, and how many there are then.
use Rattle.std.proofs.Common.{◌≡◌, ℕ, ◌+◌, ◌-◌, ◌<◌, ◌≤◌, ◌^◌, nat_le, nat_lt, Bool, true, false, cond, if◌then◌else◌, List, [], ◌∷◌, ◌++◌, length, take, count_by, get_or, slice_index, Option, Some, None, refl, sym, ap, ◌∙◌, arith, zero, suc, ltb-true, leb-true, ⊎_elim}
use Rattle.std.specs.Prelude.{slice_get}
use Rattle.std.proofs.lemmas.Bool.{and_parts, cases_lt, le-ltb, lt-ltb}
use Rattle.std.proofs.lemmas.List.Sums.{count_by-le-length, count_by_more_no, count_by_more_yes, sum_by-cons}
use Rattle.std.proofs.lemmas.Option.{get_or_from_slice_get, slice_get-get_or, slice_get_within}
use Rattle.hsr_scenario.specs.declared.steps.Order.{Order}
use Rattle.hsr_run_laws.specs.Run.{Run}
use Rattle.hsr_plays.specs.Conditions.{is_numbered_by_then, is_same_counter, numbers_of}
use Rattle.hsr_plays.specs.Setup.{asked_by}
use Rattle.hsr_plays.specs.Spans.{end_from, is_open_at, meets, moment_after, span_if, spans_from}
use Rattle.hsr_plays.specs.declared.span.Asked.{Asked}
use Rattle.hsr_plays.specs.declared.span.SendSpan.{SendSpan}
use Rattle.hsr_plays.proofs.Asking.{asked_at}
use Rattle.hsr_certify.specs.Standing.{AreWithin, Rise, most_by}

-- all before a place ended before any that stands from another place on
abbrev pub HaveEnded : List SendSpan → ℕ → ℕ → Type 0
HaveEnded spans low i = (j k : ℕ) (a b : SendSpan) → j < low → i ≤ k → slice_get spans j ≡ Some a → slice_get spans k ≡ Some b → a.end ≤ b.index

-- a node numbers a send
abbrev pub is_numbered_by : Run → ℕ → SendSpan → Bool
is_numbered_by net node span = is_same_counter (Some node) (numbers_of net span.asked.node)

-- ---- counts

counted : (passes : SendSpan → Bool) (a : SendSpan) (later : List SendSpan) → count_by passes (a ∷ later) ≡ cond {A = ℕ} (passes a) 1 0 + count_by passes later
counted passes a later = sum_by-cons (λ x. cond {A = ℕ} (passes x) 1 0) a later

-- those that pass are no more than there are places for them
pub no_more : (passes : SendSpan → Bool) (spans : List SendSpan) (low high : ℕ) → AreWithin passes spans low high → count_by passes spans ≤ high - low
no_more passes [] low high within = omega arith
no_more passes (a ∷ later) low high within =
    step (passes a) refl
    (no_more passes later (low - 1) (high - 1) (λ j b listed passed. let w = within (suc j) b listed passed in let x = w.0 in let y = w.1 in (omega (arith, x), omega (arith, y))))
  where
    step : (b : Bool) → passes a ≡ b → count_by passes later ≤ (high - 1) - (low - 1) → count_by passes (a ∷ later) ≤ high - low
    step true is rest =
        let sum = counted passes a later in
        let one : cond {A = ℕ} (passes a) 1 0 ≡ 1 = ap (λ t. cond {A = ℕ} t 1 0) is in
        let w = within zero a refl is in
        let x = w.0 in
        let y = w.1 in
        omega (arith, rest, sum, one, x, y)
    step false is rest =
        let sum = counted passes a later in
        let none : cond {A = ℕ} (passes a) 1 0 ≡ 0 = ap (λ t. cond {A = ℕ} t 1 0) is in
        omega (arith, rest, sum, none)

-- those that pass stand before a place, and pass another test
pub counted_before : (passes others : SendSpan → Bool) (spans : List SendSpan) (n : ℕ) →
    ((j : ℕ) (a : SendSpan) → slice_get spans j ≡ Some a → passes a ≡ true → (j < n) × (others a ≡ true)) → count_by passes spans ≤ count_by others (take n spans)
counted_before passes others [] n before = omega arith
counted_before passes others (a ∷ later) zero before =
    let none = no_more passes (a ∷ later) 0 0 (λ j b listed passed. let low = (before j b listed passed).0 in absurd (omega (arith, low))) in
    omega (arith, none)
counted_before passes others (a ∷ later) (suc n) before =
    step (passes a) (others a) refl refl
    (counted_before passes others later n (λ j b listed passed. let w = before (suc j) b listed passed in let x = w.0 in (omega (arith, x), w.1)))
  where
    step : (b c : Bool) → passes a ≡ b → others a ≡ c → count_by passes later ≤ count_by others (take n later) → count_by passes (a ∷ later) ≤ count_by others (a ∷ take n later)
    step true true is other rest =
        let sum = counted passes a later in
        let sums = counted others a (take n later) in
        let one : cond {A = ℕ} (passes a) 1 0 ≡ 1 = ap (λ t. cond {A = ℕ} t 1 0) is in
        let ones : cond {A = ℕ} (others a) 1 0 ≡ 1 = ap (λ t. cond {A = ℕ} t 1 0) other in
        omega (arith, rest, sum, sums, one, ones)
    step true false is other rest =
        let passed : others a ≡ true = (before zero a refl is).1 in
        let e : false ≡ true = sym other ∙ passed in
        absurd cc
    step false c is other rest =
        let sum = counted passes a later in
        let sums = counted others a (take n later) in
        let none : cond {A = ℕ} (passes a) 1 0 ≡ 0 = ap (λ t. cond {A = ℕ} t 1 0) is in
        omega (arith, rest, sum, sums, none)

-- ---- in their order

pub rise : (within : Option ℕ) (moment index : ℕ) (orders : List Order) → Rise (spans_from within moment index orders)
rise within moment index [] j k a b low first second = absurd cc
rise within moment index (order ∷ later) j k a b low first second = step (asked_by order) j k low first second (rise within (moment_after moment order) (index + 1) later)
  where
    rest : List SendSpan
    rest = spans_from within (moment_after moment order) (index + 1) later

    step : (o : Option Asked) (j k : ℕ) → j < k → slice_get (span_if within moment index later o ++ rest) j ≡ Some a → slice_get (span_if within moment index later o ++ rest) k ≡ Some b →
        Rise rest → a.index < b.index
    step None j k low first second before = before j k a b low first second
    step (Some asked) j zero low first second before = absurd (omega (arith, low))
    step (Some asked) zero (suc k) low first second before =
        let made : SendSpan = record { asked = asked; index = index; moment = moment; end = end_from within moment (index + 1) later } in
        let same : made ≡ a = let e : Some made ≡ Some a = first in cc in
        let here : index ≡ a.index = ap (λ (x : SendSpan). x.index) same in
        let there = (asked_at within (moment_after moment order) (index + 1) later k b second).index_is in
        omega (arith, here, there)
    step (Some asked) (suc j) (suc k) low first second before = before j k a b (omega (arith, low)) first second

-- one more that ended
pub ended_next : (spans : List SendSpan) (from at index : ℕ) (b : SendSpan) → slice_get spans at ≡ Some b → b.end ≤ index →
    ((j : ℕ) (a : SendSpan) → from ≤ j → j < at → slice_get spans j ≡ Some a → a.end ≤ index) → (j : ℕ) (a : SendSpan) → from ≤ j → j < at + 1 → slice_get spans j ≡ Some a → a.end ≤ index
ended_next spans from at index b there over before j a above below listed =
    ⊎_elim
    (λ less. before j a above less listed)
    (λ more.
    let same : j ≡ at = omega (arith, below, more) in
    let it : Some a ≡ Some b = sym listed ∙ (ap (slice_get spans) same ∙ there) in
    let ends : a.end ≡ b.end = let e : a ≡ b = cc in ap (λ (x : SendSpan). x.end) e in
    omega (arith, ends, over))
    (cases_lt j at)

-- ---- windows

module _ (spans : List SendSpan) (i low next : ℕ) (span : SendSpan) (rises : Rise spans) (listed : slice_get spans i ≡ Some span) (ended : HaveEnded spans low i)
    (reached : (j : ℕ) (a : SendSpan) → low ≤ j → j < next → slice_get spans j ≡ Some a → a.end ≤ span.index) where
  -- all before the next low place ended before this send
  ended_here : (j : ℕ) (a : SendSpan) → j < next → slice_get spans j ≡ Some a → a.end ≤ span.index
  ended_here j a below there =
      ⊎_elim
      (λ early. ended j i a span early (let same : i ≤ i = omega arith in same) there listed)
      (λ late. reached j a late below there)
      (cases_lt j low)

  pub ended_more : HaveEnded spans next (i + 1)
  ended_more j k a b below above first second =
      let here = ended_here j a below first in
      let less = rises i k span b (omega (arith, above)) listed second in
      omega (arith, here, less)

  -- one that is open behind this send's step stands from the low place on
  above_low : (j : ℕ) (a : SendSpan) → slice_get spans j ≡ Some a → span.index < a.end → next ≤ j
  above_low j a there later =
      ⊎_elim
      (λ below. let here = ended_here j a below there in absurd (omega (arith, here, later)))
      (λ above. above)
      (cases_lt j next)

  pub open_within : AreWithin (is_open_at (span.index + 1)) spans next (i + 1)
  open_within j a there passed =
      let parts = and_parts (nat_lt a.index (span.index + 1)) (nat_le (span.index + 1) a.end) passed in
      let sent = ltb-true a.index (span.index + 1) parts.0 in
      let still = leb-true (span.index + 1) a.end parts.1 in (
        above_low j a there (omega (arith, still)),
        ⊎_elim
            (λ below. below)
            (λ above. let less = rises i j span a (omega (arith, above)) listed there in absurd (omega (arith, less, sent)))
            (cases_lt j (i + 1)),
      )

  pub met_within : (high : ℕ) → ((a : SendSpan) → slice_get spans high ≡ Some a → span.end ≤ a.index) → AreWithin (meets span) spans next high
  met_within high from j a there passed =
      let parts = and_parts (nat_lt span.index a.end) (nat_lt a.index span.end) passed in
      let later = ltb-true span.index a.end parts.0 in
      let sooner = ltb-true a.index span.end parts.1 in (
        above_low j a there later,
        ⊎_elim
            (λ below. below)
            (λ above. absurd (behind sooner above))
            (cases_lt j high),
      )
    where
      behind : a.index < span.end → high ≤ j → ⊥
      behind sooner above =
          let inside = slice_get_within spans j a there in
          let first = slice_get-get_or spans high a (omega (arith, inside, above)) in
          let far = from (get_or spans high a) first in
          ⊎_elim
          (λ less. let low = rises high j (get_or spans high a) a less first there in omega (arith, far, low, sooner))
          (λ more.
          let same : high ≡ j = omega (arith, above, more) in
          let it = from a (ap (slice_get spans) same ∙ there) in
          omega (arith, it, sooner))
          (cases_lt high j)

-- ---- numbers

abbrev amount : Bool → ℕ
amount b = if b then 1 else 0

module _ (net : Run) (spans : List SendSpan) (i : ℕ) (span : SendSpan) (listed : slice_get spans i ≡ Some span) (counter : Option ℕ) (is : counter ≡ numbers_of net span.asked.node) (old new : List ℕ)
    (before : (c : ℕ) → c < 64 → slice_index old c ≡ count_by (is_numbered_by net c) (take i spans))
    (put : (c : ℕ) → c < 64 → slice_index new c ≡ slice_index old c + (if is_same_counter (Some c) counter then 1 else 0)) where
  -- each node's count is that of its sends, with one more
  pub counted_next : (c : ℕ) → c < 64 → slice_index new c ≡ count_by (is_numbered_by net c) (take (i + 1) spans)
  counted_next c small = step (is_numbered_by net c span) refl
    where
      inside : i < length spans
      inside = slice_get_within spans i span listed

      here : get_or spans i span ≡ span
      here = get_or_from_slice_get spans i span span listed

      own : is_same_counter (Some c) counter ≡ is_numbered_by net c span
      own = ap (is_same_counter (Some c)) is

      step : (b : Bool) → is_numbered_by net c span ≡ b → slice_index new c ≡ count_by (is_numbered_by net c) (take (i + 1) spans)
      step true so =
          let one : amount (is_same_counter (Some c) counter) ≡ 1 = ap amount (own ∙ so) in
          let sum : slice_index new c ≡ slice_index old c + amount (is_same_counter (Some c) counter) = put c small in
          let all = before c small in
          let more = count_by_more_yes (is_numbered_by net c) spans i span inside (ap (is_numbered_by net c) here ∙ so) in
          omega (arith, one, sum, all, more)
      step false so =
          let none : amount (is_same_counter (Some c) counter) ≡ 0 = ap amount (own ∙ so) in
          let sum : slice_index new c ≡ slice_index old c + amount (is_same_counter (Some c) counter) = put c small in
          let all = before c small in
          let same = count_by_more_no (is_numbered_by net c) spans i span inside (ap (is_numbered_by net c) here ∙ so) in
          omega (arith, none, sum, all, same)

  -- so it bounds how many its node numbers up to this send
  pub numbered_most : Rise spans → length spans < 2 ^ 63 → count_by (is_numbered_by_then net span) spans ≤ most_by counter new
  numbered_most rises short = step counter refl
    where
      parts : (o : Option ℕ) → counter ≡ o → (a : SendSpan) → is_numbered_by_then net span a ≡ true → (is_same_counter o (numbers_of net a.asked.node) ≡ true) × (a.index ≤ span.index)
      parts o e a passed =
          let both = and_parts (is_same_counter (numbers_of net span.asked.node) (numbers_of net a.asked.node)) (nat_le a.index span.index) passed in
          (ap (λ x. is_same_counter x (numbers_of net a.asked.node)) (sym e ∙ is) ∙ both.0, leb-true a.index span.index both.1)

      step : (o : Option ℕ) → counter ≡ o → count_by (is_numbered_by_then net span) spans ≤ most_by counter new
      step None e =
          let none = no_more (is_numbered_by_then net span) spans 0 0 (λ j a there passed. let x : is_same_counter None (numbers_of net a.asked.node) ≡ true = (parts None e a passed).0 in absurd cc) in
          omega (arith, none)
      step (Some c) e =
          ⊎_elim
          (λ small.
          let few =
          counted_before (is_numbered_by_then net span) (is_numbered_by net c) spans (i + 1)
          (λ j a there passed.
          let w = parts (Some c) e a passed in
          let low = w.1 in
          (⊎_elim (λ below. below) (λ above. let less = rises i j span a (omega (arith, above)) listed there in absurd (omega (arith, less, low))) (cases_lt j (i + 1)), w.0)) in
          let count = counted_next c small in
          let most : most_by counter new ≡ slice_index new c = ap (λ o. most_by o new) e ∙ ap (λ b. if b then slice_index new c else 2 ^ 64 - 1) (lt-ltb c 64 small) in
          omega (arith, few, count, most))
          (λ great.
          let most : most_by counter new ≡ 2 ^ 64 - 1 = ap (λ o. most_by o new) e ∙ ap (λ b. if b then slice_index new c else 2 ^ 64 - 1) (le-ltb c 64 great) in
          let few = count_by-le-length (is_numbered_by_then net span) spans in
          omega (arith, few, short, most))
          (cases_lt c 64)
