-- What earlier releases wrote: their moments were milliseconds, and the first line of their texts was `hsr-bench 1`.
--     IsEarlier        a finished run of theirs
--     in_microseconds  that run with its moments in microseconds
--     earlier_text     the text that they wrote of it
--     IsEarlierText    such a text that can be read
use Rattle.std.specs.Prelude.{ℕ, ◌≡◌, ◌*◌, ◌<◌, ◌^◌, ◌⊎◌, List, [], ◌∷◌, length, map, drop, codes}
use Rattle.std.specs.List.{AllByRecursion}
use Rattle.hsr_text.specs.declared.time_unit.TimeUnit.TheVariants.{Microseconds}
use Rattle.hsr_node.specs.Flow.{arrivals}
use Rattle.hsr_node.specs.Record.{IsLegalBy}
use Rattle.hsr_node.specs.Times.{Times}
use Rattle.hsr_node.specs.Units.{in_milliseconds, in_unit}
use Rattle.hsr_link.specs.declared.row.Dir.{Dir}
use Rattle.hsr_duptable.specs.Table.{IsTableSize}
use Rattle.hsr_run_laws.specs.Closed.{HasLink, IsSettled, PutAgrees, TakenAgrees}
use Rattle.hsr_run_laws.specs.Run.{Run, owner_of, past_of, record_of, rows_of}
use Rattle.hsr_topology.specs.Wired.{IsWired}
use Rattle.hsr_finished_run.specs.Finished.{Finished, IsPlanned}
use Rattle.hsr_finished_run.specs.declared.planned.Planned.{Planned}
use Rattle.hsr_transcript_lines.specs.Lines.{text_of}
use Rattle.hsr_transcript.specs.Fits.{Fits}
use Rattle.hsr_transcript.specs.Transcript.{said_in, said_lines}
use Rattle.hsr_transcript.specs.Answers.{AreShort}

-- ---- runs

-- `IsClosed`, but that nodes forget frames and addresses after these times
pub record IsClosedBy (times : Times) (run : Run) : Type 0 where
  pub tables : IsTableSize run.capacity
  pub records : length run.records ≡ length run.places
  pub rows : length run.rows ≡ length run.links
  pub legal : (k : ℕ) → k < length run.places → IsLegalBy times run.capacity (owner_of run k) (past_of run k)
  pub put : (l : ℕ) (dir : Dir) → l < length run.links → PutAgrees run l dir
  pub taken : (l : ℕ) (dir : Dir) → l < length run.links → TakenAgrees run l dir
  pub settled : (l : ℕ) → l < length run.links → AllByRecursion (IsSettled run) (rows_of run l)
  pub linked : (k port : ℕ) → k < length run.places → HasLink run k port ⊎ (arrivals port (past_of run k) ≡ [])

-- `IsFinished`, but with the times of the standard and all moments in milliseconds
pub record IsEarlier (f : Finished) : Type 0 where
  pub wired : IsWired f.run.places f.run.links
  pub closed : IsClosedBy in_milliseconds f.run
  pub planned : IsPlanned f.run f.plan

-- ---- moments

-- in a unit of which `factor` are one of the old
abbrev pub planned_in_unit : ℕ → Planned → Planned
planned_in_unit factor p = record p { at = p.at * factor }

abbrev pub run_in_unit : ℕ → Run → Run
run_in_unit factor run = record run { records = map (in_unit factor) run.records }

-- each moment of records and plan times 1000, and all else as it is
abbrev pub in_microseconds : Finished → Finished
in_microseconds f = record { run = run_in_unit 1000 f.run; plan = map (planned_in_unit 1000) f.plan }

-- each moment is below 2^64 microseconds
abbrev pub IsInRange : Finished → Type 0
IsInRange f = (k : ℕ) → AllByRecursion (λ x. x.at * 1000 < 2 ^ 64) (record_of f.run k)

-- ---- texts

-- `hsr-bench 1`, and then what stands behind the first line today, with the moments as they are
abbrev pub earlier_lines : Finished → List (List ℕ)
earlier_lines f = codes "hsr-bench 1" ∷ drop 1 (said_lines f.run.capacity (said_in Microseconds f))

abbrev pub earlier_text : Finished → List ℕ
earlier_text f = text_of (earlier_lines f)

-- The text that an earlier release wrote of a run with tables of `capacity` entries, whose moments are below 2^64 microseconds, with
-- no line of more than 8192 octets.
pub record IsEarlierText (capacity : ℕ) (f : Finished) (text : List ℕ) : Type 0 where
  pub capacity_is : f.run.capacity ≡ capacity
  pub earlier : IsEarlier f
  pub fits : Fits f
  pub in_range : IsInRange f
  pub told : text ≡ earlier_text f
  pub short : AreShort (earlier_lines f)
