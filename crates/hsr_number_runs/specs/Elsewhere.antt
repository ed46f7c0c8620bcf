-- Numbers of a run that others of its group had: they stand between two of a sender, where numbers are in the order of runs, and of
-- extended numbers in each. What stands in front of a number is a list, the nearest first.
use Rattle.std.specs.Prelude.{ℕ, ◌+◌, ◌==◌, if◌then◌else◌, List, [], ◌∷◌, Option, Some, None, unwrap_or, option_map}
use Rattle.hsr_number_runs.specs.declared.run.InRun.{InRun}

-- how many numbers stand behind the nearest one of a sender, if that is of this run
abbrev pub behind_own : ℕ → ℕ → List InRun → Option ℕ
behind_own sender run [] = None
behind_own sender run (p ∷ before) =
    if p.sender == sender then (if p.run == run then Some 0 else None) else option_map (λ n. n + 1) (behind_own sender run before)

-- of all numbers of a sender, how many numbers stand between one and the one before it in its run
abbrev pub elsewhere_in : ℕ → List InRun → ℕ
elsewhere_in sender [] = 0
elsewhere_in sender (p ∷ before) =
    if p.sender == sender then elsewhere_in sender before + unwrap_or (behind_own sender p.run before) 0 else elsewhere_in sender before
