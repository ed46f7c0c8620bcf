-- Numbers that a RedBox gives too late.
--     is_numbered_late   a frame gets its number, and its send was noted before
--     NothingLate        none does
--     LateDecides        just there each RedBox numbers first
use Rattle.std.specs.Prelude.{ℕ, ◌<◌, ◌≡◌, Bool, false, List, [], ◌∷◌, length, Option, Some}
use Rattle.std.specs.List.{list_any}
use Rattle.hsr_frame.specs.Egress.{up, a, b, c, d}
use Rattle.hsr_node.specs.Record.{Each, Owner, notes}
use Rattle.hsr_node.specs.declared.entry.Entry.{Entry}
use Rattle.hsr_node.specs.declared.event.Event.{Event}
use Rattle.hsr_node.specs.declared.event.Event.TheVariants.{Arrive}
use Rattle.hsr_node.specs.declared.event.Outcome.{Outcome}
use Rattle.hsr_node.specs.declared.event.Outcome.TheVariants.{Judged}
use Rattle.hsr_node.specs.declared.event.Probe.{Probe}
use Rattle.hsr_run_laws.specs.Closed.{IsClosed}
use Rattle.hsr_run_laws.specs.Premises.{NumberedFirst, is_note_of}
use Rattle.hsr_run_laws.specs.Run.{Run, owner_of, past_of}
use Rattle.hsr_network_laws.specs.Network.{IsNetwork}

-- a send was noted at some egress
abbrev pub was_noted : Owner → Option Probe → List Entry → Bool
was_noted owner send past = list_any (λ e. list_any (is_note_of send) (notes owner e past)) (up ∷ a ∷ b ∷ c ∷ d ∷ [])

-- what comes gets a number, and its send was noted before
abbrev pub is_numbered_late : Owner → List Entry → Event → Outcome → Bool
is_numbered_late owner past (Arrive port copy) (Judged up_too ports (Some seq) cause) = was_noted owner copy.probe past
is_numbered_late owner past event outcome = false

abbrev pub NothingLate : Run → Type 0
NothingLate run = (k : ℕ) → k < length run.places → Each (λ x past. is_numbered_late (owner_of run k) past x.event x.outcome ≡ false) (past_of run k)

-- In a closed run of a network each RedBox numbers first just where nothing gets its number late. A closed run may have such a
-- number: its records say in which order each node did what it did, but nothing of the order of two nodes. So a RedBox's record may
-- have a frame come back by the ring first and from its Station then, and both go up.
pub record IsDecidedByLate (run : Run) : Type 0 where
  pub first : NothingLate run → NumberedFirst run
  pub late : NumberedFirst run → NothingLate run

abbrev pub LateDecides : Type 0
LateDecides = (run : Run) → IsClosed run → IsNetwork run → IsDecidedByLate run
