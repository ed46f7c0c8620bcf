-- How a run over a plan ends that shows the plan's run, what it wrote, and what it told.
use Rattle.std.specs.Prelude.{ℕ, ◌≡◌, ◌⊎◌, Bool, false, List, [], Option}
use Rattle.std.specs.Io.KnownBytes.{Appends, Keeps}
use Rattle.hsr_explanation.specs.Lines.{lines_of}
use Rattle.hsr_commands.specs.Ending.{IsCutOff, IsHalfWritten, IsWritten}
use Rattle.hsr_commands.specs.Shown.{KeepsAll, Outputs, text_if}
use Rattle.hsr_commands.specs.declared.fault.Fault.TheVariants.{Tables, Write, Memory}
use Rattle.hsr_commands.specs.declared.fault.Status.{Status}
use Rattle.hsr_commands.specs.declared.fault.Status.TheVariants.{Certified, Fault as Stopped, Doubt}
use Rattle.hsr_plan_scenario.specs.Ends.{TellsFault, TellsInput}
use Rattle.hsr_plan_scenario.specs.declared.planning.Ending.{Ending}
use Rattle.hsr_plan_scenario.specs.declared.planning.Ending.TheVariants.{Planned, Doubted, Refused, Failed, Unwritten}
use Rattle.hsr_plan_run.specs.Runs.{IsRunIn, IsUnrun}
use Rattle.hsr_plan_run.specs.declared.question.Question.{Question}

-- lines were told that explain what was found, where that is asked for
pub record TellsMore (explains : Bool) (told tells : Option (List ℕ)) : Type 0 where
  pub lines : List (List ℕ)
  pub silent : explains ≡ false → lines ≡ []
  pub told_so : Appends told tells (lines_of lines)

-- how it ended was told; what is delivered has no other end
abbrev pub TellsEnd : Bool → Status → Option (List ℕ) → Option (List ℕ) → Ending → Type 0
TellsEnd explains Certified told tells ending = (ending ≡ Planned) × TellsMore explains told tells
TellsEnd explains Doubt told tells ending = (ending ≡ Doubted) × TellsMore explains told tells
TellsEnd explains (Stopped Write) told tells ending = (ending ≡ Unwritten) × Keeps told tells
TellsEnd explains (Stopped Memory) told tells ending = (ending ≡ Failed) × TellsInput told tells
TellsEnd explains (Stopped Tables) told tells ending = ((ending ≡ Refused) × TellsFault told tells) ⊎ ((ending ≡ Failed) × TellsInput told tells)
TellsEnd explains status told tells ending = Unit {0}

-- The run is certified or doubted, as is told: its tables were put and its text was written, and where that is asked for, what was found is
-- explained. Or there is no run, and nothing was written, or not all of its tables could be put, and no text was written; and a fault told. Or the
-- text wasn't read, or an allocation failed, and that told. Of a failed write no more is said than that all tables were put, and that nothing was told.
abbrev pub RunEnds : ℕ → Question → List ℕ → Outputs → Outputs → Option (List ℕ) → Option (List ℕ) → Ending → Type 0
RunEnds capacity question octets before after told tells Planned =
    IsWritten (IsRunIn capacity question.showing (text_if question.folder) octets) (text_if question.folder) before after Certified × TellsMore question.explains told tells
RunEnds capacity question octets before after told tells Doubted =
    IsWritten (IsRunIn capacity question.showing (text_if question.folder) octets) (text_if question.folder) before after Doubt × TellsMore question.explains told tells
RunEnds capacity question octets before after told tells Refused =
    ((IsUnrun capacity octets × KeepsAll before after) ⊎ IsHalfWritten (IsRunIn capacity question.showing (text_if question.folder) octets) (text_if question.folder) before after)
    × TellsFault told tells
RunEnds capacity question octets before after told tells Failed =
    (KeepsAll before after ⊎ IsHalfWritten (IsRunIn capacity question.showing (text_if question.folder) octets) (text_if question.folder) before after) × TellsInput told tells
RunEnds capacity question octets before after told tells Unwritten =
    IsCutOff (IsRunIn capacity question.showing (text_if question.folder) octets) (text_if question.folder) before after × Keeps told tells
