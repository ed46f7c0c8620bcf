-- How a run ends of which something is shown, and what it wrote.
use Rattle.std.specs.Prelude.{ℕ, ◌≡◌, ◌⊎◌, List, Option}
use Rattle.hsr_files.specs.Files.{Puts}
use Rattle.hsr_commands.specs.Shown.{IsHalf, IsWhole, KeepsAll, Outputs, files_if, status_of}
use Rattle.hsr_commands.specs.declared.fault.Fault.{Fault}
use Rattle.hsr_commands.specs.declared.fault.Fault.TheVariants.{Read, Write, Tables, Memory}
use Rattle.hsr_commands.specs.declared.fault.Status.{Status}
use Rattle.hsr_commands.specs.declared.fault.Status.TheVariants.{Certified, Fault as Stopped, Doubt, Open}
use Rattle.hsr_commands.specs.declared.shown.ShownRun.{ShownRun}

-- what was found is told by the status, and what is to be shown of it was written: its tables as files of the folder, and its text
pub record IsWritten (IsShown : ShownRun → Type 0) (folder : Option (List ℕ)) (before after : Outputs) (status : Status) : Type 0 where
  pub shown : ShownRun
  pub is_shown : IsShown shown
  pub tells : status ≡ status_of shown.finding
  pub whole : IsWhole folder before after shown

-- there was something to show; the first of its tables were put, not all, and its text wasn't written
pub record IsHalfWritten (IsShown : ShownRun → Type 0) (folder : Option (List ℕ)) (before after : Outputs) : Type 0 where
  pub shown : ShownRun
  pub is_shown : IsShown shown
  pub half : IsHalf folder before after shown

-- there was something to show, and all its tables were put; what there is of its text isn't told
pub record IsCutOff (IsShown : ShownRun → Type 0) (folder : Option (List ℕ)) (before after : Outputs) : Type 0 where
  pub shown : ShownRun
  pub is_shown : IsShown shown
  pub put : Puts before.put after.put (files_if folder shown.tables)

-- All is written that is to be shown, tables before the text; or nothing, since the run stopped for a reason that is there, or since
-- reading failed. Where a table can't be put, or there is no memory for that, no text is written. Of a failed write no more is said than
-- that there was something to write, and that its tables are there.
abbrev pub Ends : (ShownRun → Type 0) → (Fault → Type 0) → Option (List ℕ) → Outputs → Outputs → Status → Type 0
Ends IsShown IsStopped folder before after Certified = IsWritten IsShown folder before after Certified
Ends IsShown IsStopped folder before after Doubt = IsWritten IsShown folder before after Doubt
Ends IsShown IsStopped folder before after Open = ⊥
Ends IsShown IsStopped folder before after (Stopped Read) = KeepsAll before after
Ends IsShown IsStopped folder before after (Stopped Write) = IsCutOff IsShown folder before after
Ends IsShown IsStopped folder before after (Stopped Tables) = IsHalfWritten IsShown folder before after
Ends IsShown IsStopped folder before after (Stopped Memory) = (IsStopped Memory × KeepsAll before after) ⊎ IsHalfWritten IsShown folder before after
Ends IsShown IsStopped folder before after (Stopped fault) = IsStopped fault × KeepsAll before after
