-- What `audit` tells of a transcript.
use Rattle.std.specs.Prelude.{ℕ, ◌≡◌, List, Option, Ok, Err}
use Rattle.hsr_naming.specs.declared.naming.Naming.{Naming}
use Rattle.hsr_finished_run.specs.Finished.{Finished, IsFinished}
use Rattle.hsr_transcript.specs.Answers.{Disagreeing, IsBadAt, IsTextOf}
use Rattle.hsr_transcript.specs.Form.{form_of}
use Rattle.hsr_transcript.specs.Transcript.{Said}
use Rattle.hsr_transcript.specs.declared.fault.ReadFault.{ReadFault}
use Rattle.hsr_transcript.specs.declared.fault.ReadFault.TheVariants as read
use Rattle.hsr_commands.specs.Ending.{Ends}
use Rattle.hsr_report.specs.Found.{IsFound, IsReportOf}
use Rattle.hsr_given.specs.declared.unnamed.Unnamed.{Unnamed}
use Rattle.hsr_options.specs.declared.chosen.TableChoice.{TableChoice}
use Rattle.hsr_options.specs.declared.chosen.TableChoice.TheVariants.{Given, Told}
use Rattle.hsr_head.specs.Reads.{front}
use Rattle.hsr_head.specs.Told.{told_size}
use Rattle.hsr_table_size.specs.Sizes.{capacity_of}
use Rattle.hsr_commands.specs.Naming.{HasOther, IsNamedBy}
use Rattle.hsr_commands.specs.Shown.{AreTablesIf, Outputs, text_if}
use Rattle.hsr_commands.specs.declared.audit.AuditShowing.{AuditShowing}
use Rattle.hsr_commands.specs.declared.shown.ShownRun.{ShownRun}
use Rattle.hsr_commands.specs.declared.fault.Fault.{Fault}
use Rattle.hsr_commands.specs.declared.fault.Fault.TheVariants.{Transcript, Check, Names, Read, Memory}
use Rattle.hsr_commands.specs.declared.fault.Status.{Status}
use Rattle.hsr_commands.specs.declared.fault.TranscriptFault.TheVariants.{Version, Line, End}

-- how many entries tables have for a text: as many as are given, or as it tells by its front
abbrev pub entries_for : TableChoice → List ℕ → ℕ
entries_for (Given table) text = capacity_of table
entries_for Told text = capacity_of (told_size (front text))

-- what was found of a run, its report and its tables, all by one naming
pub record IsAuditOf (audit : AuditShowing) (f : Finished) (shown : ShownRun) : Type 0 where
  pub naming : Naming
  pub is_naming : IsNamedBy (text_if audit.scenario) f.run naming
  pub is_found : IsFound audit.scope f.run shown.finding
  pub is_report : IsReportOf naming audit.scope audit.asked f.run shown.finding shown.text.items
  pub are_tables : AreTablesIf (text_if audit.folder) naming audit.scope f.run shown.finding shown.tables

-- the text is that of a finished run, of which this is shown
pub record IsAudited (capacity : ℕ) (audit : AuditShowing) (text : List ℕ) (shown : ShownRun) : Type 0 where
  pub finished : Finished
  pub is_text : IsTextOf capacity finished text
  pub holds : IsFinished finished
  pub is_shown : IsAuditOf audit finished shown

-- the text is that of a finished run, of which the scenario that is given is none; what that is
pub record IsUncalled (capacity : ℕ) (audit : AuditShowing) (text : List ℕ) (instead : Unnamed) : Type 0 where
  pub finished : Finished
  pub is_text : IsTextOf capacity finished text
  pub other : HasOther (text_if audit.scenario) finished.run instead

-- the text is that of no run, for this cause; or that of a run, and names are asked for that it hasn't; or reading or memory failed
abbrev pub IsUnread : ℕ → AuditShowing → List ℕ → Fault → Type 0
IsUnread capacity audit text (Transcript Version) = form_of capacity text ≡ Err read.Version
IsUnread capacity audit text (Transcript (Line n)) = IsBadAt capacity text n
IsUnread capacity audit text (Transcript End) = form_of capacity text ≡ Err read.End
IsUnread capacity audit text (Check cause) = (t : Said) × (form_of capacity text ≡ Ok t) × Disagreeing capacity t cause
IsUnread capacity audit text (Names instead) = IsUncalled capacity audit text instead
IsUnread capacity audit text Read = Unit {0}
IsUnread capacity audit text Memory = Unit {0}
IsUnread capacity audit text _ = ⊥

-- why a text isn't read, as a fault of the run
abbrev pub transcript_fault : ReadFault → Fault
transcript_fault read.Version = Transcript Version
transcript_fault (read.BadLine n) = Transcript (Line n)
transcript_fault read.End = Transcript End
transcript_fault (read.Disagrees cause) = Check cause
transcript_fault read.Read = Read
transcript_fault read.NoMemory = Memory

-- How `audit` ends, and what it wrote: the report of the run whose text it read, and its tables where a folder is given; or nothing,
-- since the text is that of no run, or names were asked for that it hasn't, or reading or memory failed. Of a failed write no more is
-- said than that there was a report to write.
abbrev pub AuditEnds : ℕ → AuditShowing → List ℕ → Outputs → Outputs → Status → Type 0
AuditEnds capacity audit text = Ends (IsAudited capacity audit text) (IsUnread capacity audit text) (text_if audit.folder)
