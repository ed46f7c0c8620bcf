-- What is written of a finished run.
--     IsShown        its transcript or its report
--     AreTablesIf    its tables, if a folder is there for them
--     IsShownOf      all that is shown of it
--     status_of      how a run ends of which this was found
--     IsDelivered    tables were put and a text was written, and the status tells what was found
use Rattle.std.specs.Prelude.{ℕ, ◌≡◌, Bool, true, false, List, [], ◌∷◌, codes, Option, Some, None, option_map, is_some}
use Rattle.std.specs.Borrow.{Bor}
use Rattle.std.specs.Io.KnownBytes.{Appends, Keeps}
use Rattle.hsr_files.specs.Files.{File, Puts, PutsFront}
use Rattle.hsr_finished_run.specs.Finished.{Finished}
use Rattle.hsr_run_laws.specs.Run.{Run}
use Rattle.hsr_naming.specs.declared.naming.Naming.{Naming}
use Rattle.hsr_report.specs.Found.{IsFound, IsReportOf}
use Rattle.hsr_report.specs.declared.finding.Finding.{Finding}
use Rattle.hsr_report.specs.declared.finding.Finding.TheVariants as finding
use Rattle.hsr_run_tables.specs.Tables.{AreTables}
use Rattle.hsr_run_tables.specs.declared.tables.RunTables.{RunTables}
use Rattle.hsr_transcript.specs.Transcript.{run_text}
use Rattle.hsr_options.specs.declared.chosen.Form.{Form}
use Rattle.hsr_options.specs.declared.chosen.Form.TheVariants.{Transcript, Report}
use Rattle.hsr_options.specs.declared.chosen.Scope.{Scope}
use Rattle.hsr_options.specs.declared.chosen.Showing.{Showing}
use Rattle.hsr_commands.specs.Naming.{IsNaming, Named}
use Rattle.hsr_commands.specs.declared.fault.Fault.TheVariants.{Write, Tables, Memory}
use Rattle.hsr_commands.specs.declared.fault.Status.{Status}
use Rattle.hsr_commands.specs.declared.fault.Status.TheVariants.{Certified, Fault as Stopped, Doubt, Open}
use Rattle.hsr_commands.specs.declared.shown.ShownRun.{ShownRun}

-- ---- what is shown

-- a text that is given, if one is
abbrev pub text_if : Option (Bor (List ℕ)) → Option (List ℕ)
text_if given = option_map (λ text. text.now) given

-- the transcript, or the report of the chosen audit with the parts that are asked for
abbrev pub IsShown : Naming → Scope → Form → Finished → Finding → List ℕ → Type 0
IsShown naming scope Transcript f found text = text ≡ run_text f
IsShown naming scope (Report asked) f found text = IsReportOf naming scope asked f.run found text

-- the tables, where a folder is given
abbrev pub AreTablesIf : Option (List ℕ) → Naming → Scope → Run → Finding → Option RunTables → Type 0
AreTablesIf None naming scope run found tables = tables ≡ None
AreTablesIf (Some folder) naming scope run found None = ⊥
AreTablesIf (Some folder) naming scope run found (Some tables) = AreTables naming run scope found tables

-- what the chosen audit found of a run, its text and its tables, all by one naming; the run is of a scenario with these names
pub record IsShownOf (showing : Showing) (named : Named) (folder : Option (List ℕ)) (f : Finished) (shown : ShownRun) : Type 0 where
  pub naming : Naming
  pub is_naming : IsNaming showing.names named f.run naming
  pub is_found : IsFound showing.scope f.run shown.finding
  pub is_text : IsShown naming showing.scope showing.form f shown.finding shown.text.items
  pub are_tables : AreTablesIf folder naming showing.scope f.run shown.finding shown.tables

-- ---- how it is written

-- what is known to have been written: octets by a writer, and files that were put
pub record Outputs : Type 0 where
  pub written : Option (List ℕ)
  pub put : Option (List File)

abbrev pub outputs : Option (List ℕ) → Option (List File) → Outputs
outputs written put = record { written = written; put = put }

-- nothing was written
pub record KeepsAll (before after : Outputs) : Type 0 where
  pub kept : Keeps before.written after.written
  pub none_put : Puts before.put after.put []

abbrev pub file : List ℕ → List ℕ → List ℕ → File
file folder name octets = record { folder = folder; name = name; octets = octets }

-- the file of each table
abbrev pub table_files : List ℕ → RunTables → List File
table_files folder tables =
    file folder (codes "nodes.csv") tables.nodes.items ∷ file folder (codes "links.csv") tables.links.items ∷ file folder (codes "sends.csv") tables.sends.items
    ∷ file folder (codes "load.csv") tables.load.items ∷ file folder (codes "latency.csv") tables.latency.items ∷ file folder (codes "doubt.csv") tables.doubt.items
    ∷ []

abbrev pub files_if : Option (List ℕ) → Option RunTables → List File
files_if (Some folder) (Some tables) = table_files folder tables
files_if folder tables = []

abbrev pub status_of : Finding → Status
status_of (finding.Certified sends) = Certified
status_of (finding.Doubt doubt) = Doubt

-- all tables were put, and the text was written
pub record IsWhole (folder : Option (List ℕ)) (before after : Outputs) (shown : ShownRun) : Type 0 where
  pub put : Puts before.put after.put (files_if folder shown.tables)
  pub written : Appends before.written after.written shown.text.items

-- the first of the tables were put, not all of them; and no text was written
pub record IsHalf (folder : Option (List ℕ)) (before after : Outputs) (shown : ShownRun) : Type 0 where
  pub put : PutsFront before.put after.put (files_if folder shown.tables)
  pub kept : Keeps before.written after.written

-- Tables were put, then a text was written, and the status tells what was found; or a table wasn't put, or there was no memory for it; or
-- the writer failed, when all tables were put.
abbrev pub IsDelivered : Option (List ℕ) → Outputs → Outputs → ShownRun → Status → Type 0
IsDelivered folder before after shown Certified = (Certified ≡ status_of shown.finding) × IsWhole folder before after shown
IsDelivered folder before after shown Doubt = (Doubt ≡ status_of shown.finding) × IsWhole folder before after shown
IsDelivered folder before after shown Open = ⊥
IsDelivered folder before after shown (Stopped Tables) = IsHalf folder before after shown
IsDelivered folder before after shown (Stopped Memory) = IsHalf folder before after shown
IsDelivered folder before after shown (Stopped Write) = Puts before.put after.put (files_if folder shown.tables)
IsDelivered folder before after shown (Stopped fault) = ⊥
