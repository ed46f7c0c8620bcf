-- Which rows of a finished run are wanted in a picture: those of some moments, whose copies are of one of some sends.
--     is_in         a moment is of a span
--     is_pictured   a row is wanted
use Rattle.std.specs.Prelude.{ℕ, nat_lt, ◌&&◌, ◌||◌, not, Bool, true, false, List, [], ◌∷◌, Option, Some, None}
use Rattle.hsr_node.specs.declared.event.Probe.{Probe}
use Rattle.hsr_run_laws.specs.Run.{Run}
use Rattle.hsr_timeline.specs.Choice.{has_send, is_wanted}
use Rattle.hsr_timeline.specs.declared.shown.Shown.{Shown}
use Rattle.hsr_diagram.specs.declared.span.Span.{Span}

-- ---- moments

abbrev pub is_since : Option ℕ → ℕ → Bool
is_since None moment = true
is_since (Some from) moment = not (nat_lt moment from)

abbrev pub is_until : Option ℕ → ℕ → Bool
is_until None moment = true
is_until (Some until) moment = not (nat_lt until moment)

abbrev pub is_in : Span → ℕ → Bool
is_in span moment = is_since span.from moment && is_until span.until moment

abbrev pub are_reversed : Option ℕ → Option ℕ → Bool
are_reversed (Some from) (Some until) = nat_lt until from
are_reversed _ _ = false

abbrev pub is_reversed : Span → Bool
is_reversed span = are_reversed span.from span.until

-- ---- sends

-- the run has all of these
abbrev pub has_all : Run → List Probe → Bool
has_all run [] = true
has_all run (send ∷ sends) = has_send run (Some send) && has_all run sends

-- a row's copy is of one of these
abbrev pub is_of_one : Run → List Probe → Shown → Bool
is_of_one run [] shown = false
is_of_one run (send ∷ sends) shown = is_wanted run (record { link = None; send = Some send }) shown || is_of_one run sends shown

-- no sends: all are wanted
abbrev pub is_of_any : Run → List Probe → Shown → Bool
is_of_any run [] shown = true
is_of_any run (send ∷ sends) shown = is_of_one run (send ∷ sends) shown

-- ---- rows

abbrev pub is_pictured : Run → List Probe → Span → Shown → Bool
is_pictured run sends span shown = is_in span shown.moment && is_of_any run sends shown
