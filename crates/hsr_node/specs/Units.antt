-- What a record is where its moments are told in a finer unit.
--     in_unit          each moment times a factor
--     SameInFinerUnit  the replay is the same
use Rattle.std.specs.Prelude.{ℕ, ◌*◌, ◌<◌, ◌≡◌, ◌↔◌, List, map}
use Rattle.hsr_node.specs.Record.{IsLegal, IsLegalBy, Owner, answer_by}
use Rattle.hsr_node.specs.Times.{Times, finer_times}
use Rattle.hsr_node.specs.declared.entry.Entry.{Entry}
use Rattle.hsr_node.specs.declared.event.Event.{Event}

-- an entry in a finer unit, `factor` of which are one of the old
abbrev pub entry_in_unit : ℕ → Entry → Entry
entry_in_unit factor x = record x { at = x.at * factor }

abbrev pub in_unit : ℕ → List Entry → List Entry
in_unit factor past = map (entry_in_unit factor) past

-- Where the forget times and all moments are multiplied alike, each past answers each event the same.
abbrev pub AnswersInFinerUnit : Type 0
AnswersInFinerUnit = (factor : ℕ) → 0 < factor → (times : Times) (capacity : ℕ) (owner : Owner) (past : List Entry) (at : ℕ) (event : Event)
    → answer_by (finer_times factor times) capacity owner (in_unit factor past) (at * factor) event ≡ answer_by times capacity owner past at event

-- So a record is legal in the one unit where it is in the other.
abbrev pub LegalInFinerUnit : Type 0
LegalInFinerUnit = (factor : ℕ) → 0 < factor → (times : Times) (capacity : ℕ) (owner : Owner) (past : List Entry)
    → IsLegalBy (finer_times factor times) capacity owner (in_unit factor past) ↔ IsLegalBy times capacity owner past

-- the times of the standard in milliseconds
abbrev pub in_milliseconds : Times
in_milliseconds = record { entry = 400; node = 60000 }

-- So what was legal in milliseconds is legal with each moment times 1000, and nothing else.
abbrev pub LegalFromMilliseconds : Type 0
LegalFromMilliseconds = (capacity : ℕ) (owner : Owner) (past : List Entry)
    → IsLegal capacity owner (in_unit 1000 past) ↔ IsLegalBy in_milliseconds capacity owner past
