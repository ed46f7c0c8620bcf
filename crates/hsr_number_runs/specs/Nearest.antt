-- What is told of senders, by the numbers in front of a place.
use Rattle.std.specs.Prelude.{ℕ, ◌≡◌, ◌-◌, ◌<◌, ◌==◌, if◌then◌else◌, List, length, slice_get, Option, Some, None, IfSome}
use Rattle.hsr_number_runs.specs.declared.elsewhere.Nearest.{Nearest}
use Rattle.hsr_number_runs.specs.declared.elsewhere.Told.{Told}
use Rattle.hsr_number_runs.specs.declared.run.InRun.{InRun}
use Rattle.hsr_number_runs.specs.Elsewhere.{behind_own, elsewhere_in}

-- how many numbers stand between a sender's nearest number and a place, if that number is of a run
abbrev pub told_behind : ℕ → ℕ → Option Nearest → Option ℕ
told_behind place run None = None
told_behind place run (Some own) = if own.run == run then Some (place - own.place - 1) else None

-- what is told of a sender
pub record IsTold (before : List InRun) (place sender : ℕ) (told : Told) : Type 0 where
  pub count : told.count ≡ elsewhere_in sender before
  pub nearest : (run : ℕ) → behind_own sender run before ≡ told_behind place run told.nearest
  pub below : IfSome told.nearest (λ own. own.place < place)
  pub long : length before ≡ place

abbrev pub AreTold : List InRun → ℕ → List Told → Type 0
AreTold before place told = (sender : ℕ) (own : Told) → slice_get told sender ≡ Some own → IsTold before place sender own
