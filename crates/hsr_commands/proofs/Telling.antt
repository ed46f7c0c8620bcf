-- How `run`, `threads` and `audit` end, by what was shown and by what was read.
use Rattle.std.proofs.Common.{ℕ, ◌≡◌, ◌≢◌, ◌⊎◌, ◌^◌, inl, inr, List, ◌++◌, Option, Some, None, Result, Ok, Err, refl, subst, sym, IfSome}
use Rattle.std.specs.Prelude.{IfErr, IfOk}
use Rattle.std.specs.Io.KnownBytes.{Keeps}
use Rattle.hsr_files.specs.Files.{File}
use Rattle.hsr_files.proofs.Puts.{none_put}
use Rattle.hsr_head.proofs.Heads.{of_text}
use Rattle.hsr_head.specs.Reads.{ReadsHead, front}
use Rattle.hsr_head.specs.Told.{told_size}
use Rattle.hsr_table_size.specs.Sizes.{capacity_of}
use Rattle.hsr_table_size.specs.declared.size.TableSize.{TableSize}
use Rattle.hsr_finished_run.specs.Finished.{Finished, IsFinished}
use Rattle.hsr_transcript.specs.Answers.{Answers, IsTextOf}
use Rattle.hsr_transcript.specs.declared.fault.ReadFault.{ReadFault}
use Rattle.hsr_transcript.specs.declared.fault.ReadFault.TheVariants as read
use Rattle.hsr_commands.specs.AuditRun.{AuditEnds, IsAuditOf, IsAudited, IsUnread, entries_for, transcript_fault}
use Rattle.hsr_text.specs.Whole.{IsWhole}
use Rattle.hsr_options.specs.declared.chosen.TableChoice.{TableChoice}
use Rattle.hsr_commands.specs.Naming.{IsMisnamed, Named, names_in}
use Rattle.hsr_commands.specs.Shown.{IsDelivered, KeepsAll, Outputs, outputs, text_if}
use Rattle.hsr_commands.specs.declared.audit.AuditShowing.{AuditShowing}
use Rattle.hsr_commands.specs.declared.shown.ShownRun.{ShownRun}
use Rattle.hsr_commands.specs.Ending.{Ends}
use Rattle.hsr_commands.specs.Reading.{Said, scenario_of}
use Rattle.hsr_commands.specs.ThreadsRun.{IsRunShown, IsUnrun, ThreadsEnds}
use Rattle.hsr_commands.specs.ScenarioRun.{IsReported, IsUnreported, ScenarioEnds}
use Rattle.hsr_options.specs.declared.chosen.Showing.{Showing}
use Rattle.hsr_commands.specs.declared.fault.Fault.{Fault}
use Rattle.hsr_commands.specs.declared.fault.Fault.TheVariants.{Line, Scenario, Step, Fine, Transcript, Check, Names, Tables, Read, Write, Memory, Thread, Gate}
use Rattle.hsr_commands.specs.declared.fault.Status.{Status}
use Rattle.hsr_commands.specs.declared.fault.Status.TheVariants.{Certified, Fault as Stopped, Doubt, Open}
use Rattle.hsr_commands.proofs.Said.{as_read, names_as_read}

keeps_same : (held : Option (List ℕ)) → Keeps held held
keeps_same None = tt
keeps_same (Some xs) = refl

pub nothing_written : (before : Outputs) → KeepsAll before before
nothing_written before = record { kept = keeps_same before.written; none_put = none_put before.put }

-- what was delivered ends a run of which it is shown
module _ (IsShown : ShownRun → Type 0) (IsStopped : Fault → Type 0) (folder : Option (List ℕ)) where
  delivered_ends : (before after : Outputs) (shown : ShownRun) (status : Status) → IsShown shown → IsDelivered folder before after shown status
      → Ends IsShown IsStopped folder before after status
  delivered_ends before after shown Certified r d = record { shown = shown; is_shown = r; tells = d.0; whole = d.1 }
  delivered_ends before after shown Doubt r d = record { shown = shown; is_shown = r; tells = d.0; whole = d.1 }
  delivered_ends before after shown Open r d = absurd d
  delivered_ends before after shown (Stopped (Line n)) r d = absurd d
  delivered_ends before after shown (Stopped (Scenario f)) r d = absurd d
  delivered_ends before after shown (Stopped (Step n f)) r d = absurd d
  delivered_ends before after shown (Stopped (Fine n)) r d = absurd d
  delivered_ends before after shown (Stopped (Transcript f)) r d = absurd d
  delivered_ends before after shown (Stopped (Check f)) r d = absurd d
  delivered_ends before after shown (Stopped (Names f)) r d = absurd d
  delivered_ends before after shown (Stopped Tables) r d = record { shown = shown; is_shown = r; half = d }
  delivered_ends before after shown (Stopped Read) r d = absurd d
  delivered_ends before after shown (Stopped Write) r d = record { shown = shown; is_shown = r; put = d }
  delivered_ends before after shown (Stopped Memory) r d = inr (record { shown = shown; is_shown = r; half = d })
  delivered_ends before after shown (Stopped Thread) r d = absurd d
  delivered_ends before after shown (Stopped Gate) r d = absurd d

  -- a reason that is there, but no writer's and no folder's, ends a run of which nothing was written
  stopped : (before : Outputs) (fault : Fault) → ¬ IsStopped Write → ¬ IsStopped Tables → IsStopped fault → Ends IsShown IsStopped folder before before (Stopped fault)
  stopped before (Line n) never nor u = (u, nothing_written before)
  stopped before (Scenario f) never nor u = (u, nothing_written before)
  stopped before (Step n f) never nor u = (u, nothing_written before)
  stopped before (Fine n) never nor u = (u, nothing_written before)
  stopped before (Transcript f) never nor u = (u, nothing_written before)
  stopped before (Check f) never nor u = (u, nothing_written before)
  stopped before (Names f) never nor u = (u, nothing_written before)
  stopped before Tables never nor u = absurd (nor u)
  stopped before Read never nor u = nothing_written before
  stopped before Write never nor u = absurd (never u)
  stopped before Memory never nor u = inl (u, nothing_written before)
  stopped before Thread never nor u = (u, nothing_written before)
  stopped before Gate never nor u = (u, nothing_written before)

module _ (capacity : ℕ) (showing : Showing) (folder : Option (List ℕ)) (said : Said) (named : Named) where
  pub told_report : (before after : Outputs) (shown : ShownRun) (status : Status) → IsReported capacity showing folder said named shown
      → IsDelivered folder before after shown status → ScenarioEnds capacity showing folder said named before after status
  told_report = delivered_ends (IsReported capacity showing folder said named) (IsUnreported capacity said) folder

  pub told_fault : (before : Outputs) (fault : Fault) → IsUnreported capacity said fault → ScenarioEnds capacity showing folder said named before before (Stopped fault)
  told_fault before fault u = stopped (IsReported capacity showing folder said named) (IsUnreported capacity said) folder before fault (λ h. h) (λ h. h) u

pub delivered_told : (folder : Option (List ℕ)) (before after : Outputs) (shown : ShownRun) (status : Status) → IsDelivered folder before after shown status → status ≢ Stopped Read
delivered_told folder before after shown status d is = subst (λ s. IsDelivered folder before after shown s) is d

-- ---- threads

module _ (capacity : ℕ) (showing : Showing) (folder : Option (List ℕ)) (said : Said) (named : Named) where
  pub told_run : (before after : Outputs) (shown : ShownRun) (status : Status) → IsRunShown capacity showing folder said named shown
      → IsDelivered folder before after shown status → ThreadsEnds capacity showing folder said named before after status
  told_run = delivered_ends (IsRunShown capacity showing folder said named) (IsUnrun capacity said) folder

  pub told_unrun : (written : Option (List ℕ)) (put : Option (List File)) (fault : Fault) → IsUnrun capacity said fault
      → ThreadsEnds capacity showing folder said named (outputs written put) (outputs written put) (Stopped fault)
  told_unrun written put fault u = stopped (IsRunShown capacity showing folder said named) (IsUnrun capacity said) folder (outputs written put) fault (λ h. h) (λ h. h) u

-- what is told of what was read is told of the text
pub run_text_told : (capacity : ℕ) (showing : Showing) (folder : Option (List ℕ)) (all : Option (List ℕ)) (read : List ℕ) (before after : Outputs) (status : Status)
    → IfSome all (λ text. IsWhole (2 ^ 24) text read) → ThreadsEnds capacity showing folder (scenario_of read) (names_in read) before after status
    → IfSome all (λ text. ThreadsEnds capacity showing folder (scenario_of text) (names_in text) before after status)
run_text_told capacity showing folder None read before after status whole told = tt
run_text_told capacity showing folder (Some text) read before after status whole told =
    subst (λ (named : Named). ThreadsEnds capacity showing folder (scenario_of text) named before after status) (names_as_read text read whole)
    (subst (λ (said : Said). ThreadsEnds capacity showing folder said (names_in read) before after status) (as_read text read whole) told)

-- what is told of octets is no fault of a reader
pub unrun_told : (capacity : ℕ) (said : Said) (fault : Fault) → IsUnrun capacity said fault → Stopped fault ≢ Stopped Read
unrun_told capacity said fault u is = let same : fault ≡ Read = cc in subst (λ f. IsUnrun capacity said f) same u

-- ---- a transcript

-- what is told with tables of the size that a head tells, is told of the text
module _ (audit : AuditShowing) (old new : Option (List ℕ)) (head one : List ℕ) (table : TableSize) (read : ReadsHead old new head) (same : one ≡ head) (size : table ≡ told_size (front one)) where
  pub audited_head : (r : Result ShownRun Fault) → IfOk r (λ x. IfSome new (λ rest. IsAudited (capacity_of table) audit (one ++ rest) x))
      → IfOk r (λ x. IfSome old (λ text. IsAudited (capacity_of (told_size (front text))) audit text x))
  audited_head (Err fault) holds = tt
  audited_head (Ok x) holds =
      let P : List ℕ → List ℕ → Type 0 = λ f text. IsAudited (capacity_of (told_size f)) audit text x in
      let Q : List ℕ → Type 0 = λ h. IfSome new (λ rest. P (front h) (h ++ rest)) in
      let S : TableSize → Type 0 = λ t. IfSome new (λ rest. IsAudited (capacity_of t) audit (one ++ rest) x) in
      of_text P old new head read (subst Q same (subst S size holds))

  pub unread_head : (r : Result ShownRun Fault) → IfErr r (λ f. IfSome new (λ rest. IsUnread (capacity_of table) audit (one ++ rest) f))
      → IfErr r (λ f. IfSome old (λ text. IsUnread (capacity_of (told_size (front text))) audit text f))
  unread_head (Ok x) holds = tt
  unread_head (Err fault) holds =
      let P : List ℕ → List ℕ → Type 0 = λ f text. IsUnread (capacity_of (told_size f)) audit text fault in
      let Q : List ℕ → Type 0 = λ h. IfSome new (λ rest. P (front h) (h ++ rest)) in
      let S : TableSize → Type 0 = λ t. IfSome new (λ rest. IsUnread (capacity_of t) audit (one ++ rest) fault) in
      of_text P old new head read (subst Q same (subst S size holds))

-- a head that isn't read is told of each text
pub head_unread : (audit : AuditShowing) (all : Option (List ℕ)) (fault : Fault) → (fault ≡ Read) ⊎ (fault ≡ Memory)
    → IfSome all (λ text. IsUnread (capacity_of (told_size (front text))) audit text fault)
head_unread audit None fault why = tt
head_unread audit (Some text) fault (inl is) = subst (λ (f : Fault). IsUnread (capacity_of (told_size (front text))) audit text f) (sym is) tt
head_unread audit (Some text) fault (inr is) = subst (λ (f : Fault). IsUnread (capacity_of (told_size (front text))) audit text f) (sym is) tt

-- what an audit of a text ends in, with as many entries as are chosen for it
pub audited_known : (choice : TableChoice) (audit : AuditShowing) (all : Option (List ℕ)) (before after : Outputs) (shown : ShownRun) (status : Status)
    → IfSome all (λ text. IsAudited (entries_for choice text) audit text shown)
    → IsDelivered (text_if audit.folder) before after shown status → IfSome all (λ text. AuditEnds (entries_for choice text) audit text before after status)
audited_known choice audit None before after shown status r d = tt
audited_known choice audit (Some text) before after shown status r d =
    delivered_ends (IsAudited (entries_for choice text) audit text) (IsUnread (entries_for choice text) audit text) (text_if audit.folder) before after shown status r d

pub unread_known : (choice : TableChoice) (audit : AuditShowing) (all written : Option (List ℕ)) (put : Option (List File)) (fault : Fault)
    → IfSome all (λ text. IsUnread (entries_for choice text) audit text fault)
    → IfSome all (λ text. AuditEnds (entries_for choice text) audit text (outputs written put) (outputs written put) (Stopped fault))
unread_known choice audit None written put fault u = tt
unread_known choice audit (Some text) written put fault u =
    stopped (IsAudited (entries_for choice text) audit text) (IsUnread (entries_for choice text) audit text) (text_if audit.folder) (outputs written put) fault (λ h. h) (λ h. h) u

pub audited_run : (capacity : ℕ) (audit : AuditShowing) (all : Option (List ℕ)) (f : Finished) (shown : ShownRun) → IfSome all (λ text. IsTextOf capacity f text) → IsFinished f
    → IsAuditOf audit f shown → IfSome all (λ text. IsAudited capacity audit text shown)
audited_run capacity audit None f shown is_text holds is_shown = tt
audited_run capacity audit (Some text) f shown is_text holds is_shown = record { finished = f; is_text = is_text; holds = holds; is_shown = is_shown }

-- names that a run hasn't are told of its text
pub uncalled : (capacity : ℕ) (audit : AuditShowing) (all : Option (List ℕ)) (f : Finished) (fault : Fault) → IfSome all (λ text. IsTextOf capacity f text)
    → IsMisnamed (text_if audit.scenario) f.run fault → IfSome all (λ text. IsUnread capacity audit text fault)
uncalled capacity audit None f fault is_text why = tt
uncalled capacity audit (Some text) f (Line n) is_text why = absurd why
uncalled capacity audit (Some text) f (Scenario g) is_text why = absurd why
uncalled capacity audit (Some text) f (Step n g) is_text why = absurd why
uncalled capacity audit (Some text) f (Fine n) is_text why = absurd why
uncalled capacity audit (Some text) f (Transcript g) is_text why = absurd why
uncalled capacity audit (Some text) f (Check g) is_text why = absurd why
uncalled capacity audit (Some text) f (Names instead) is_text why = record { finished = f; is_text = is_text; other = why }
uncalled capacity audit (Some text) f Tables is_text why = absurd why
uncalled capacity audit (Some text) f Read is_text why = absurd why
uncalled capacity audit (Some text) f Write is_text why = absurd why
uncalled capacity audit (Some text) f Memory is_text why = tt
uncalled capacity audit (Some text) f Thread is_text why = absurd why
uncalled capacity audit (Some text) f Gate is_text why = absurd why

pub unread_as : (capacity : ℕ) (audit : AuditShowing) (all : Option (List ℕ)) (fault : ReadFault) → IfSome all (Answers capacity (Err fault))
    → IfSome all (λ text. IsUnread capacity audit text (transcript_fault fault))
unread_as capacity audit None fault h = tt
unread_as capacity audit (Some text) read.Version h = h
unread_as capacity audit (Some text) (read.BadLine n) h = h
unread_as capacity audit (Some text) read.End h = h
unread_as capacity audit (Some text) (read.Disagrees cause) h = h
unread_as capacity audit (Some text) read.Read h = tt
unread_as capacity audit (Some text) read.NoMemory h = tt
