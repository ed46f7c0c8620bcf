-- The first step, or the first send, that fails a test: it does, and those before it pass.
use Rattle.std.proofs.Common.{◌≡◌, ℕ, ◌+◌, ◌<◌, Bool, true, false, if◌then◌else◌, List, [], ◌∷◌, Some, None, refl, sym, ap, ◌∙◌, arith, zero, suc}
use Rattle.std.specs.Prelude.{slice_get}
use Rattle.hsr_scenario.specs.declared.steps.Order.{Order}
use Rattle.hsr_plays.specs.declared.span.SendSpan.{SendSpan}
use Rattle.hsr_certify.specs.Firsts.{first_send, first_step}

-- ---- steps

pub steps_pass : (passes : ℕ → Order → Bool) (i : ℕ) (orders : List Order) → first_step passes i orders ≡ None →
    (j : ℕ) (order : Order) → slice_get orders j ≡ Some order → passes (i + j) order ≡ true
steps_pass passes i [] none j order listed = absurd cc
steps_pass passes i (first ∷ later) none j order listed = step (passes i first) refl none (steps_pass passes (i + 1) later) j order listed
  where
    step : (b : Bool) → passes i first ≡ b → (if b then first_step passes (i + 1) later else Some i) ≡ None →
        (first_step passes (i + 1) later ≡ None → (j : ℕ) (order : Order) → slice_get later j ≡ Some order → passes (i + 1 + j) order ≡ true) →
        (j : ℕ) (order : Order) → slice_get (first ∷ later) j ≡ Some order → passes (i + j) order ≡ true
    step false is none rest j order listed = absurd cc
    step true is none rest zero order listed =
        let same : first ≡ order = let e : Some first ≡ Some order = listed in cc in
        let here : i + 0 ≡ i = omega arith in
        ap (λ n. passes n order) here ∙ (ap (passes i) (sym same) ∙ is)
    step true is none rest (suc j) order listed =
        let there : i + suc j ≡ i + 1 + j = omega arith in
        ap (λ n. passes n order) there ∙ rest none j order listed

pub record FailsFirst (passes : ℕ → Order → Bool) (i : ℕ) (orders : List Order) (n : ℕ) : Type 0 where
  pub at : ℕ
  pub is : n ≡ i + at
  pub order : Order
  pub listed : slice_get orders at ≡ Some order
  pub fails : passes n order ≡ false
  pub before : (j : ℕ) (other : Order) → j < at → slice_get orders j ≡ Some other → passes (i + j) other ≡ true

pub step_fails : (passes : ℕ → Order → Bool) (i : ℕ) (orders : List Order) (n : ℕ) → first_step passes i orders ≡ Some n → FailsFirst passes i orders n
step_fails passes i [] n some = absurd cc
step_fails passes i (first ∷ later) n some = step (passes i first) refl some (step_fails passes (i + 1) later n)
  where
    step : (b : Bool) → passes i first ≡ b → (if b then first_step passes (i + 1) later else Some i) ≡ Some n →
        (first_step passes (i + 1) later ≡ Some n → FailsFirst passes (i + 1) later n) → FailsFirst passes i (first ∷ later) n
    step false is some rest =
        let same : i ≡ n = cc in
        record {
          at = zero;
          is = omega (arith, same);
          order = first;
          listed = refl;
          fails = ap (λ m. passes m first) (sym same) ∙ is;
          before = λ j other low. absurd (omega (arith, low));
        }
    step true is some rest =
        let f = rest some in
        let at = f.is in
        record { at = suc f.at; is = omega (arith, at); order = f.order; listed = f.listed; fails = f.fails; before = earlier f }
      where
        earlier : (f : FailsFirst passes (i + 1) later n) (j : ℕ) (other : Order) → j < suc f.at → slice_get (first ∷ later) j ≡ Some other → passes (i + j) other ≡ true
        earlier f zero other low listed =
            let same : first ≡ other = let e : Some first ≡ Some other = listed in cc in
            let here : i + 0 ≡ i = omega arith in
            ap (λ m. passes m other) here ∙ (ap (passes i) (sym same) ∙ is)
        earlier f (suc j) other low listed =
            let there : i + suc j ≡ i + 1 + j = omega arith in
            ap (λ m. passes m other) there ∙ f.before j other (omega (arith, low)) listed

-- ---- sends

pub sends_pass : (passes : SendSpan → Bool) (spans : List SendSpan) → first_send passes spans ≡ None → (j : ℕ) (span : SendSpan) → slice_get spans j ≡ Some span → passes span ≡ true
sends_pass passes [] none j span listed = absurd cc
sends_pass passes (first ∷ later) none j span listed = step (passes first) refl none (sends_pass passes later) j span listed
  where
    step : (b : Bool) → passes first ≡ b → (if b then first_send passes later else Some first.index) ≡ None →
        (first_send passes later ≡ None → (j : ℕ) (span : SendSpan) → slice_get later j ≡ Some span → passes span ≡ true) →
        (j : ℕ) (span : SendSpan) → slice_get (first ∷ later) j ≡ Some span → passes span ≡ true
    step false is none rest j span listed = absurd cc
    step true is none rest zero span listed =
        let same : first ≡ span = let e : Some first ≡ Some span = listed in cc in
        ap passes (sym same) ∙ is
    step true is none rest (suc j) span listed = rest none j span listed

pub record SendFails (passes : SendSpan → Bool) (spans : List SendSpan) (n : ℕ) : Type 0 where
  pub at : ℕ
  pub span : SendSpan
  pub listed : slice_get spans at ≡ Some span
  pub index : span.index ≡ n
  pub fails : passes span ≡ false
  pub before : (j : ℕ) (other : SendSpan) → j < at → slice_get spans j ≡ Some other → passes other ≡ true

pub send_fails : (passes : SendSpan → Bool) (spans : List SendSpan) (n : ℕ) → first_send passes spans ≡ Some n → SendFails passes spans n
send_fails passes [] n some = absurd cc
send_fails passes (span ∷ later) n some = step (passes span) refl some (send_fails passes later n)
  where
    step : (b : Bool) → passes span ≡ b → (if b then first_send passes later else Some span.index) ≡ Some n →
        (first_send passes later ≡ Some n → SendFails passes later n) → SendFails passes (span ∷ later) n
    step false is some rest =
        let same : span.index ≡ n = cc in
        record { at = zero; span = span; listed = refl; index = same; fails = is; before = λ j other low. absurd (omega (arith, low)) }
    step true is some rest =
        let f = rest some in
        record { at = suc f.at; span = f.span; listed = f.listed; index = f.index; fails = f.fails; before = earlier f }
      where
        earlier : (f : SendFails passes later n) (j : ℕ) (other : SendSpan) → j < suc f.at → slice_get (span ∷ later) j ≡ Some other → passes other ≡ true
        earlier f zero other low listed =
            let same : span ≡ other = let e : Some span ≡ Some other = listed in cc in
            ap passes (sym same) ∙ is
        earlier f (suc j) other low listed = f.before j other (omega (arith, low)) listed
