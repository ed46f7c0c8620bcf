-- Cases that are tried in order.
use Rattle.std.specs.Prelude.{Bool, List, [], ◌∷◌, if◌then◌else◌, Option, Some, None, Result, Ok, Err}

-- of the cases that are tried downwards the first that fits, or else the last
abbrev pub first_of : {X : Type 0} → List (Bool × X) → X → X
first_of [] other = other
first_of (row ∷ rows) other = if row.0 then row.1 else first_of rows other

-- a value, unless there is a fault
abbrev pub unless : {A E : Type 0} → Option E → A → Result A E
unless None x = Ok x
unless (Some e) x = Err e
