-- What is done of what the arguments choose.
use Rattle.std.specs.Prelude.{ℕ, ◌≡◌, ◌⊎◌, ◌^◌, List, [], Option, Some, None, IfSome}
use Rattle.std.specs.Borrow.{Bor}
use Rattle.hsr_files.specs.Files.{Puts}
use Rattle.std.specs.Str.{IsUtf8}
use Rattle.hsr_text.specs.Lines.{lines_of}
use Rattle.hsr_text.specs.Whole.{IsWhole}
use Rattle.hsr_given.specs.Unnamed.{no_text}
use Rattle.hsr_given.specs.declared.unnamed.Unnamed.TheVariants.{NoFile}
use Rattle.hsr_certifying.specs.Certifying.{CertifyEnds}
use Rattle.hsr_commands.specs.AuditRun.{AuditEnds, entries_for}
use Rattle.hsr_commands.specs.Naming.{names_in}
use Rattle.hsr_commands.specs.Output.{Ended, chosen_output}
use Rattle.hsr_table_size.specs.Sizes.{capacity_of}
use Rattle.hsr_commands.specs.Reading.{scenario_of}
use Rattle.hsr_commands.specs.OpenRun.{RunEnds}
use Rattle.hsr_commands.specs.Shown.{KeepsAll, Outputs, text_if}
use Rattle.hsr_commands.specs.ThreadsRun.{ThreadsEnds}
use Rattle.hsr_commands.specs.declared.audit.AuditShowing.{AuditShowing}
use Rattle.hsr_options.specs.declared.chosen.Options.{Options}
use Rattle.hsr_options.specs.declared.chosen.Options.TheVariants.{Node, Run, Threads, Audit, Certify}
use Rattle.hsr_commands.specs.declared.fault.Fault.{Fault}
use Rattle.hsr_commands.specs.declared.fault.Fault.TheVariants.{Names, Memory}
use Rattle.hsr_commands.specs.declared.fault.Status.{Status}
use Rattle.hsr_commands.specs.declared.fault.Status.TheVariants.{Fault as Stopped}

-- ---- the scenario of an audit

-- octets are what a file holds, or a front of it that is too long for a scenario
abbrev pub IsFrontAt : Option (List ℕ) → List ℕ → Type 0
IsFrontAt file octets = IfSome file (λ all. IsWhole (2 ^ 24) all octets)

-- octets are no text
abbrev pub IsNoText : List ℕ → Fault → Type 0
IsNoText octets fault = (¬ IsUtf8 octets) × (fault ≡ Names (no_text octets))

-- the scenario isn't read: there is no file, or it is no text, or there was no memory
abbrev pub IsUnreadAt : Option (List ℕ) → Fault → Type 0
IsUnreadAt file fault = ((fault ≡ Names NoFile) ⊎ (fault ≡ Memory)) ⊎ ((octets : List ℕ) × IsFrontAt file octets × IsNoText octets fault)

abbrev pub with_scenario : AuditShowing → Bor (List ℕ) → AuditShowing
with_scenario audit scenario = record audit { scenario = Some scenario }

-- the transcript is audited, with the names of the scenario that the file holds
pub record EndsCalled (capacity : ℕ) (audit : AuditShowing) (text : List ℕ) (file : Option (List ℕ)) (before after : Outputs) (status : Status) : Type 0 where
  pub scenario : Bor (List ℕ)
  pub is_front : IsFrontAt file scenario.now
  pub ends : AuditEnds capacity (with_scenario audit scenario) text before after status

-- the scenario isn't read, and nothing was written
pub record EndsUnread (file : Option (List ℕ)) (before after : Outputs) (status : Status) : Type 0 where
  pub fault : Fault
  pub unread : IsUnreadAt file fault
  pub stopped : status ≡ Stopped fault
  pub kept : KeepsAll before after

abbrev pub EndsNamed : ℕ → AuditShowing → List ℕ → Option (List ℕ) → Outputs → Outputs → Status → Type 0
EndsNamed capacity audit text file before after status =
    EndsCalled capacity audit text file before after status ⊎ EndsUnread file before after status

-- with the names of the scenario at a path, where one is given; by what files hold
abbrev pub AuditEndsAt : ℕ → AuditShowing → List ℕ → (List ℕ → Option (List ℕ)) → Option (Bor (List ℕ)) → Outputs → Outputs → Status → Type 0
AuditEndsAt capacity audit text files None before after status = AuditEnds capacity audit text before after status
AuditEndsAt capacity audit text files (Some path) before after status = EndsNamed capacity audit text (files path.now) before after status

-- the lines of a text are answered, or it is run as a scenario, alone or in threads, or audited as a transcript, or a scenario is judged in
-- any order; each with tables of the chosen size, an audit perhaps of the one that its text tells
abbrev pub Performs : Options → List ℕ → (List ℕ → Option (List ℕ)) → Outputs → Outputs → Status → Type 0
Performs (Node node) text files before after status = Ended before.written after.written (chosen_output node (lines_of text)) status × Puts before.put after.put []
Performs (Run table showing folder shows_open explains) text files before after status =
    RunEnds (capacity_of table) shows_open showing (text_if folder) (scenario_of text) (names_in text) before after status
Performs (Threads table showing folder explains) text files before after status =
    ThreadsEnds (capacity_of table) showing (text_if folder) (scenario_of text) (names_in text) before after status
Performs (Audit table scope asked scenario folder explains) text files before after status =
    AuditEndsAt (entries_for table text) (record { scope = scope; asked = asked; scenario = None; folder = folder }) text files scenario before after status
Performs (Certify table within is_coarse) text files before after status =
    CertifyEnds (record { table = table; within = within; is_coarse = is_coarse }) (scenario_of text) before.written after.written status × Puts before.put after.put []
