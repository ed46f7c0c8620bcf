-- The first step, or the first send, that fails a test.
use Rattle.std.specs.Prelude.{ℕ, ◌+◌, Bool, if◌then◌else◌, List, [], ◌∷◌, Option, Some, None}
use Rattle.hsr_scenario.specs.declared.steps.Order.{Order}
use Rattle.hsr_plays.specs.declared.span.SendSpan.{SendSpan}

-- the index of the first step that fails, of steps from an index on; a test looks at the step and at its index
abbrev pub first_step : (ℕ → Order → Bool) → ℕ → List Order → Option ℕ
first_step passes i [] = None
first_step passes i (order ∷ later) = if passes i order then first_step passes (i + 1) later else Some i

-- the index of the step of the first send that fails
abbrev pub first_send : (SendSpan → Bool) → List SendSpan → Option ℕ
first_send passes [] = None
first_send passes (span ∷ later) = if passes span then first_send passes later else Some span.index
