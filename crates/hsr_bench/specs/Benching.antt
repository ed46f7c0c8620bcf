-- What the program does, over arguments, a text that is read, and two writers: standard output and standard error.
use Rattle.std.specs.Prelude.{ℕ, ◌≡◌, ◌⊎◌, Bool, false, List, [], ◌++◌, codes, Option, Result, Ok, Err}
use Rattle.std.specs.Io.KnownBytes.{Appends, Keeps}
use Rattle.hsr_files.specs.Files.{Puts}
use Rattle.hsr_commands.specs.Shown.{KeepsAll, Outputs, outputs}
use Rattle.clap.specs.Words.{Text}
use Rattle.hsr_commands.specs.Fault.{code_of, fault_line}
use Rattle.hsr_commands.specs.declared.fault.Fault.TheVariants.{Write}
use Rattle.hsr_commands.specs.declared.fault.Status.{Status}
use Rattle.hsr_commands.specs.declared.fault.Status.TheVariants.{Certified, Fault as Stopped, Doubt, Open}
use Rattle.hsr_explanation.specs.Lines.{lines_of}
use Rattle.hsr_options.specs.declared.chosen.Options.{Options}
use Rattle.hsr_options.specs.declared.chosen.Options.TheVariants.{Node, Run, Threads, Audit, Certify}
use Rattle.hsr_cli.specs.Options.{IsRefused, Says}
use Rattle.hsr_cli.specs.declared.fault.OptionFault.{OptionFault}
use Rattle.hsr_cli.specs.Refusal.{IsTurnedAway, TurnsAway}
use Rattle.hsr_bench.specs.Performing.{Performs}

-- the line of a fault, of no other end
abbrev pub line_of : Status → List ℕ
line_of Certified = []
line_of (Stopped fault) = fault_line fault ++ codes "\n"
line_of Doubt = []
line_of Open = []

-- more is said of how a run ends, where that is asked for
abbrev pub explains : Options → Bool
explains (Node node) = false
explains (Run table showing folder opens b) = b
explains (Threads table showing folder b) = b
explains (Audit table scope asked scenario folder b) = b
explains (Certify table within is_coarse) = false

-- lines of an explanation are written
abbrev pub AppendsLines : Option (List ℕ) → Option (List ℕ) → Type 0
AppendsLines told tells = (lines : List (List ℕ)) × Appends told tells (lines_of lines)

-- A run ends in a status: standard error has the line of a fault, and behind it, where that is asked for, what is explained. The code of
-- the process is that of the status.
pub record Tells (explains : Bool) (told tells : Option (List ℕ)) (status : Status) (code : ℕ) : Type 0 where
  pub is_code : code ≡ code_of status
  pub explained : List (List ℕ)
  pub silent : explains ≡ false → explained ≡ []
  pub line : Appends told tells (line_of status ++ lines_of explained)

-- what files hold, by their paths, where that is known
abbrev pub Files : Type 0
Files = List ℕ → Option (List ℕ)

-- The text is handled as was chosen. Then what was written leaves, or the writer fails at that, and this is told.
pub record IsDone (chosen : Options) (text : List ℕ) (files : Files) (before after : Outputs) (status : Status) : Type 0 where
  pub written : Option (List ℕ)
  pub ended : Status
  pub performs : Performs chosen text files before (outputs written after.put) ended
  pub left : Keeps written after.written
  pub is : (status ≡ ended) ⊎ (status ≡ Stopped Write)

-- What the arguments choose is done and told; or why they are refused is told, and nothing is written.
abbrev pub Answers : Result Options OptionFault → List ℕ → Files → Outputs → Outputs → Option (List ℕ) → Option (List ℕ) → ℕ → Type 0
Answers (Ok chosen) text files before after told tells code =
    (status : Status) × IsDone chosen text files before after status × Tells (explains chosen) told tells status code
Answers (Err fault) text files before after told tells code = TurnsAway fault told tells code × KeepsAll before after

-- the arguments say what is to be done, and it is done and told
pub record IsAnswered (words : List Text) (text : List ℕ) (files : Files) (before after : Outputs) (told tells : Option (List ℕ)) (code : ℕ) : Type 0 where
  pub chosen : Options
  pub status : Status
  pub says : Says words chosen
  pub done : IsDone chosen text files before after status
  pub ends : Tells (explains chosen) told tells status code

-- the arguments are refused, which is told; nothing is written, and no file is put
pub record IsRefusedSo (words : List Text) (before after : Outputs) (told tells : Option (List ℕ)) (code : ℕ) : Type 0 where
  pub turned_away : IsTurnedAway (IsRefused words) before.written after.written told tells code
  pub none_put : Puts before.put after.put []

abbrev pub Benches : List Text → List ℕ → Files → Outputs → Outputs → Option (List ℕ) → Option (List ℕ) → ℕ → Type 0
Benches words text files before after told tells code =
    IsAnswered words text files before after told tells code ⊎ IsRefusedSo words before after told tells code
