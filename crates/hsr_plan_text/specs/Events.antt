-- What the table of an event says.
use Rattle.std.specs.Prelude.{ℕ, List, [], ◌∷◌, Option, Some, None, Result, Ok, Err, ok_or}
use Rattle.toml.specs.Data.{Data, Members}
use Rattle.hsr_text.specs.Words.{cut}
use Rattle.hsr_toml.specs.Fallible.{◌>>=◌, each_item}
use Rattle.hsr_plan_text.specs.Network.{name, named}
use Rattle.hsr_toml.specs.Tables.{at_key, items, needed, text}
use Rattle.hsr_plan_text.specs.Fault.{faults}
use Rattle.hsr_plan_text.specs.Tables.{moment, only}
use Rattle.hsr_plan_text.specs.Words.{letter_of}
use Rattle.hsr_plan_text.specs.declared.fault.Key.{Key}
use Rattle.hsr_plan_text.specs.declared.fault.Key.TheVariants as key
use Rattle.hsr_plan_text.specs.declared.fault.What.{What}
use Rattle.hsr_plan_text.specs.declared.fault.What.TheVariants.{BadValue, Missing}
use Rattle.hsr_plan_text.specs.declared.plan.Deed.{Deed}
use Rattle.hsr_plan_text.specs.declared.plan.Deed.TheVariants.{Cut, Mend, Off, On}
use Rattle.hsr_plan_text.specs.declared.plan.Event.{Event}
use Rattle.hsr_plan_text.specs.declared.plan.LinkEnd.{LinkEnd}

-- a name, or a name and a letter with a dot between them
abbrev pub end_in : Key → List ℕ → Result LinkEnd What
end_in key s = named key (cut 46 s).0 >>= λ n. ok_or (letter_of (cut 46 s).1) (BadValue key) >>= λ l. Ok (record { name = n; letter = l })

abbrev pub end : Key → Data → Result LinkEnd What
end key d = text faults key d >>= end_in key

abbrev pub ends : Key → Data → Result (List LinkEnd) What
ends key d = items faults key d >>= each_item (end key) []

abbrev pub two_of : Key → List LinkEnd → Result (LinkEnd × LinkEnd) What
two_of key (a ∷ b ∷ []) = Ok (a, b)
two_of key _ = Err (BadValue key)

abbrev pub two_ends : Key → Data → Result (LinkEnd × LinkEnd) What
two_ends key d = ends key d >>= two_of key

-- what happens to the link between two ends
abbrev pub between_ends : (LinkEnd → LinkEnd → Deed) → Key → Data → Result Deed What
between_ends deed key d = two_ends key d >>= λ e. Ok (deed e.0 e.1)

abbrev pub at_node : (List ℕ → Deed) → Key → Data → Result Deed What
at_node deed key d = name key d >>= λ n. Ok (deed n)

-- the event has its moment, this key and no other
abbrev pub alone : Key → (Key → Data → Result Deed What) → Data → Members → Result Deed What
alone k read d ms = only (key.At ∷ k ∷ []) ms >>= λ _. read k d

abbrev pub nothing : Members → Result Deed What
nothing ms = only (key.At ∷ []) ms >>= λ _. Err (Missing key.Cut)

abbrev pub deed_on : Members → Option Data → Result Deed What
deed_on ms (Some d) = alone key.On (at_node On) d ms
deed_on ms None = nothing ms

abbrev pub deed_off : Members → Option Data → Result Deed What
deed_off ms (Some d) = alone key.Off (at_node Off) d ms
deed_off ms None = deed_on ms (at_key faults key.On ms)

abbrev pub deed_mend : Members → Option Data → Result Deed What
deed_mend ms (Some d) = alone key.Mend (between_ends Mend) d ms
deed_mend ms None = deed_off ms (at_key faults key.Off ms)

abbrev pub deed_cut : Members → Option Data → Result Deed What
deed_cut ms (Some d) = alone key.Cut (between_ends Cut) d ms
deed_cut ms None = deed_mend ms (at_key faults key.Mend ms)

-- one of `cut`, `mend`, `off` and `on`
abbrev pub deed_in : Members → Result Deed What
deed_in ms = deed_cut ms (at_key faults key.Cut ms)

unfoldable pub event_in : Members → Result Event What
event_in ms = do
  deed ← deed_in ms
  at ← needed faults key.At moment ms
  Ok (record { at = at; deed = deed })
