-- What the planner's program does, over arguments, a text that is read, files, and two writers: standard output and standard error.
use Rattle.std.specs.Prelude.{ℕ, ◌≡◌, ◌⊎◌, Bool, [], List, codes, Option, option_map, Some, None, Result, Ok, Err}
use Rattle.std.specs.Io.KnownBytes.{Appends, Keeps}
use Rattle.clap.specs.Words.{Text}
use Rattle.hsr_files.specs.Files.{Puts}
use Rattle.hsr_table_size.specs.Sizes.{capacity_of}
use Rattle.hsr_cli.specs.Choices.{IsRefused, Says}
use Rattle.hsr_cli.specs.declared.task.Faults.{Faults}
use Rattle.hsr_cli.specs.declared.task.Faults.TheVariants as fault
use Rattle.hsr_cli.specs.declared.task.Part.{Part as PartWords}
use Rattle.hsr_cli.specs.declared.task.ReportWords.{ReportWords}
use Rattle.hsr_cli.specs.declared.task.SweepWords.{SweepWords}
use Rattle.hsr_cli.specs.declared.task.Task.{Task}
use Rattle.hsr_cli.specs.declared.task.Task.TheVariants.{Plan, Check, Run, Sweep, Certify, Report}
use Rattle.hsr_cli.specs.Refusal.{IsTurnedAway, TurnsAway}
use Rattle.hsr_cli.specs.declared.fault.OptionFault.{OptionFault}
use Rattle.hsr_commands.specs.Shown.{KeepsAll, Outputs}
use Rattle.hsr_plan_scenario.specs.Ends.{Checks, Ends, code_of}
use Rattle.hsr_plan_scenario.specs.declared.planning.Ending.{Ending}
use Rattle.hsr_plan_scenario.specs.declared.planning.Ending.TheVariants.{Planned, Doubted, Refused, Failed, Unwritten}
use Rattle.hsr_plan_run.specs.Ends.{RunEnds}
use Rattle.hsr_plan_report.specs.Report.{ReportEnds}
use Rattle.hsr_plan_report.specs.declared.asked.Asked.{Asked as ReportAsked}
use Rattle.hsr_plan_sweep.specs.Swept.{SweepEnds}
use Rattle.hsr_plan_sweep.specs.declared.asked.Asked.{Asked}
use Rattle.hsr_plan_sweep.specs.declared.asked.Part.{Part}
use Rattle.hsr_plan_certify.specs.Ends.{CertifyEnds}
use Rattle.hsr_plan_certify.specs.declared.question.Question.{Question}
use Rattle.hsr_plan_outages.specs.declared.outages.AtOnce.{AtOnce}
use Rattle.hsr_plan_outages.specs.declared.outages.AtOnce.TheVariants as at_once

-- how many links or nodes are off at once, where some are
abbrev pub off_by : Faults → Option AtOnce
off_by fault.None = None
off_by fault.One = Some at_once.One
off_by fault.Two = Some at_once.Two

abbrev pub question_of : Option ℕ → Faults → Question
question_of within faults = record { within = within; faults = off_by faults }

-- what a sweep is asked for by these words
abbrev pub part_of : PartWords → Part
part_of words = record { number = words.number; of = words.of }

abbrev pub asked_of : SweepWords → Asked
asked_of words = record { at = words.at; without_events = words.without_events; pairs = words.pairs; part = option_map part_of words.part; limit_load = words.limit_load; limit_latency = words.limit_latency }

-- what a page is asked for by these words
abbrev pub report_asked : ReportWords → ReportAsked
report_asked words = record { date = words.date; at = words.at; within = words.within; limit_load = words.limit_load; limit_latency = words.limit_latency }

-- what is said of the writers alone, while no file is put
abbrev pub Writes : (Option (List ℕ) → Option (List ℕ) → Type 0) → Outputs → Outputs → Type 0
Writes writes before after = writes before.written after.written × Puts before.put after.put []

-- a text is handled as was chosen: as a plan, for tables of some size; as a scenario, and nothing is written; or as a plan that is run, that
-- is swept, on which a verdict is asked for, or whose page is
abbrev pub Does : Task → List ℕ → Bool → Outputs → Outputs → Option (List ℕ) → Option (List ℕ) → Ending → Type 0
Does (Plan table) text shown before after told tells ending = Writes (λ held holds. Ends (capacity_of table) text held holds told tells ending) before after
Does Check text shown before after told tells ending = Writes (λ held holds. Checks text told tells ending × Keeps held holds) before after
Does (Run table showing folder explains) text shown before after told tells ending =
    RunEnds (capacity_of table) (record { showing = showing; folder = folder; explains = explains }) text before after told tells ending
Does (Sweep words) text shown before after told tells ending = Writes (λ held holds. SweepEnds text (asked_of words) shown held holds told tells ending) before after
Does (Certify table within faults) text shown before after told tells ending =
    Writes (λ held holds. CertifyEnds (capacity_of table) (question_of within faults) text held holds told tells ending) before after
Does (Report words) text shown before after told tells ending =
    Writes (λ held holds. ReportEnds text (report_asked words) shown held holds told tells ending) before after

-- of a failed write a line is told, of another end no more than was
abbrev pub TellsWrite : Ending → Option (List ℕ) → Option (List ℕ) → Type 0
TellsWrite Planned told tells = Keeps told tells
TellsWrite Doubted told tells = Keeps told tells
TellsWrite Refused told tells = Keeps told tells
TellsWrite Failed told tells = Keeps told tells
TellsWrite Unwritten told tells = Appends told tells (codes "fault: write\n")

-- what was chosen is done, a failed write is told, and the code is that of the end
pub record IsDone (task : Task) (text : List ℕ) (shown : Bool) (before after : Outputs) (told tells : Option (List ℕ)) (code : ℕ) : Type 0 where
  pub ending : Ending
  pub middle : Option (List ℕ)
  pub does : Does task text shown before after told middle ending
  pub ends : TellsWrite ending middle tells
  pub is_code : code ≡ code_of ending

-- What the arguments choose is done; or why they are refused is told, and nothing is written.
abbrev pub Answers : Result Task OptionFault → List ℕ → Bool → Outputs → Outputs → Option (List ℕ) → Option (List ℕ) → ℕ → Type 0
Answers (Ok task) text shown before after told tells code = IsDone task text shown before after told tells code
Answers (Err fault) text shown before after told tells code = TurnsAway fault told tells code × KeepsAll before after

-- the arguments say what is to be done, and it is done
pub record IsAnswered (words : List Text) (text : List ℕ) (shown : Bool) (before after : Outputs) (told tells : Option (List ℕ)) (code : ℕ) : Type 0 where
  pub task : Task
  pub says : Says words task
  pub done : IsDone task text shown before after told tells code

-- the arguments are refused, which is told; nothing is written, and no file is put
pub record IsRefusedSo (words : List Text) (before after : Outputs) (told tells : Option (List ℕ)) (code : ℕ) : Type 0 where
  pub turned_away : IsTurnedAway (IsRefused words) before.written after.written told tells code
  pub none_put : Puts before.put after.put []

abbrev pub Plans : List Text → List ℕ → Bool → Outputs → Outputs → Option (List ℕ) → Option (List ℕ) → ℕ → Type 0
Plans words text shown before after told tells code =
    IsAnswered words text shown before after told tells code ⊎ IsRefusedSo words before after told tells code
