-- The keys that a table may have, and the values that scenarios alone have.
use Rattle.std.specs.Prelude.{ℕ, ℤ, pos, negsuc, ⊤, List, [], ◌∷◌, Option, Some, None, Result, Ok, Err, ok_or}
use Rattle.std.specs.Option.{option_and_then}
use Rattle.toml.specs.Data.{Data, Members}
use Rattle.hsr_text.specs.Moments.{moment_in}
use Rattle.hsr_text.specs.declared.time_unit.TimeUnit.{TimeUnit}
use Rattle.hsr_toml.specs.Fallible.{◌>>=◌}
use Rattle.hsr_toml.specs.Tables.{in_front, integer, other_key}
use Rattle.hsr_scenario.specs.Fault.{faults}
use Rattle.hsr_scenario.specs.declared.fault.Key.{Key}
use Rattle.hsr_scenario.specs.declared.fault.What.{What}
use Rattle.hsr_scenario.specs.declared.fault.What.TheVariants.{Unknown, BadValue}

abbrev pub known : Option (List ℕ) → Result ⊤ What
known None = Ok tt
known (Some other) = Err Unknown

-- each key of the table is one of these
abbrev pub only : List Key → Members → Result ⊤ What
only keys ms = known (other_key faults keys ms)

-- what each of a list is, if each is something
abbrev pub each_of : {A B : Type 0} → (A → Option B) → List A → Option (List B)
each_of f [] = Some []
each_of f (x ∷ xs) = in_front (f x) (each_of f xs)

-- a number that is not below 0
abbrev pub natural : ℤ → Option ℕ
natural (pos n) = Some n
natural (negsuc n) = None

-- a moment in microseconds
abbrev pub moment : TimeUnit → Key → Data → Result ℕ What
moment unit key d = integer faults key d >>= λ z. ok_or (option_and_then (moment_in unit) (natural z)) (BadValue key)
