-- The keys that a table may have, and the times that plans alone have.
use Rattle.std.specs.Prelude.{ℕ, ◌^◌, ⊤, List, Option, Some, None, Result, Ok, Err}
use Rattle.toml.specs.Data.{Data, Members}
use Rattle.hsr_toml.specs.Tables.{between, other_key}
use Rattle.hsr_plan_text.specs.Fault.{faults}
use Rattle.hsr_plan_text.specs.declared.fault.Key.{Key}
use Rattle.hsr_plan_text.specs.declared.fault.What.{What}
use Rattle.hsr_plan_text.specs.declared.fault.What.TheVariants.{Unknown}

abbrev pub known : Option (List ℕ) → Result ⊤ What
known None = Ok tt
known (Some other) = Err (Unknown other)

-- no key of the table but these; else the fault names the first
abbrev pub only : List Key → Members → Result ⊤ What
only keys ms = known (other_key faults keys ms)

-- a moment in microseconds, up to some twelve days
abbrev pub moment : Key → Data → Result ℕ What
moment key d = between faults 0 (2 ^ 40) key d

-- a time between moments, not 0
abbrev pub gap : Key → Data → Result ℕ What
gap key d = between faults 1 (2 ^ 40) key d

-- a time from a copy's put to its judgement
abbrev pub hop : Key → Data → Result ℕ What
hop key d = between faults 1 1000000 key d
