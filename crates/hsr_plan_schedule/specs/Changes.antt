-- Events that change something.
use Rattle.std.specs.Prelude.{ℕ, ◌+◌, ◌==◌, ◌&&◌, ◌||◌, nat_lt, nat_le, Bool, true, false, ⊤, List, [], ◌∷◌, take, drop, Option, Some, None, Result, Ok, if◌then◌else◌}
use Rattle.hsr_toml.specs.Fallible.{◌>>=◌}
use Rattle.hsr_plan_text.specs.Fallible.{at_spot}
use Rattle.hsr_plan_text.specs.declared.fault.Key.{Key}
use Rattle.hsr_plan_text.specs.declared.fault.Key.TheVariants as key
use Rattle.hsr_plan_text.specs.declared.fault.PlanFault.{PlanFault}
use Rattle.hsr_plan_text.specs.declared.fault.Refusal.TheVariants.{Idle}
use Rattle.hsr_plan_text.specs.declared.fault.Spot.TheVariants as spot
use Rattle.hsr_plan_network.specs.Checks.{unless_held}
use Rattle.hsr_plan_schedule.specs.declared.changes.Last.{Last}
use Rattle.hsr_plan_schedule.specs.declared.occasion.Happening.{Happening}
use Rattle.hsr_plan_schedule.specs.declared.occasion.Happening.TheVariants.{Cut, Mend, Off, On}
use Rattle.hsr_plan_schedule.specs.declared.occasion.Occasion.{Occasion}

-- ---- what was done last to what is mended or set on

-- of the link that is mended, or the node that is set on: whether it is down behind another event, if that is about it
abbrev pub done_to : Happening → Happening → Option Bool
done_to (Mend l) (Cut m) = if l == m then Some true else None
done_to (Mend l) (Mend m) = if l == m then Some false else None
done_to (On k) (Off m) = if k == m then Some true else None
done_to (On k) (On m) = if k == m then Some false else None
done_to _ _ = None

-- before a moment, or at it too
abbrev pub is_before : ℕ → Bool → ℕ → Bool
is_before now too at = nat_lt at now || (too && at == now)

abbrev pub is_no_earlier : Option Last → ℕ → Bool
is_no_earlier None at = true
is_no_earlier (Some last) at = nat_le last.at at

-- one more that was done, if it counts
abbrev pub later_if : Option Bool → Bool → Option Last → ℕ → Option Last
later_if None counts last at = last
later_if (Some down) counts last at = if counts then Some (record { at = at; is_down = down }) else last

abbrev pub later : ℕ → Bool → Happening → Option Last → Occasion → Option Last
later now too w last o = later_if (done_to w o.what) (is_before now too o.at && is_no_earlier last o.at) last o.at

-- the last of these by its moment, of one moment the last listed; or else the one before
abbrev pub last_of : ℕ → Bool → Happening → Option Last → List Occasion → Option Last
last_of now too w last [] = last
last_of now too w last (o ∷ os) = last_of now too w (later now too w last o) os

-- what comes last before an event: of those listed before it at its moment or earlier, and of those listed behind it that are earlier
abbrev pub last_before : List Occasion → ℕ → Occasion → Option Last
last_before all i e = last_of e.at false e.what (last_of e.at true e.what None (take i all)) (drop (i + 1) all)

-- ---- what changes something

abbrev pub is_down : Option Last → Bool
is_down None = false
is_down (Some last) = last.is_down

-- a link that was cut last is mended, a node that went off last is set on; cuts and nodes that go off are always allowed
abbrev pub is_felt : Happening → Option Last → Bool
is_felt (Mend l) last = is_down last
is_felt (On k) last = is_down last
is_felt _ last = true

abbrev pub idle_key : Happening → Key
idle_key (On k) = key.On
idle_key _ = key.Mend

-- each of the events that follow i others changes something
abbrev pub each_felt : List Occasion → ℕ → List Occasion → Result ⊤ PlanFault
each_felt all i [] = Ok tt
each_felt all i (e ∷ es) = at_spot (spot.Event i) (unless_held (is_felt e.what (last_before all i e)) (Idle (idle_key e.what))) >>= λ _. each_felt all (i + 1) es
