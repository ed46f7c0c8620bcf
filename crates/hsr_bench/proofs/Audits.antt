-- How an audit ends for which the scenario of the run is given.
use Rattle.std.proofs.Common.{ℕ, ◌≡◌, ◌⊎◌, inl, inr, List, Option, Some, None, IfSome}
use Rattle.std.specs.Borrow.{Bor}
use Rattle.hsr_files.specs.Files.{File}
use Rattle.hsr_commands.proofs.Telling.{nothing_written}
use Rattle.hsr_commands.specs.AuditRun.{AuditEnds, entries_for}
use Rattle.hsr_commands.specs.Shown.{Outputs, outputs}
use Rattle.hsr_commands.specs.declared.audit.AuditShowing.{AuditShowing}
use Rattle.hsr_commands.specs.declared.fault.Fault.{Fault}
use Rattle.hsr_commands.specs.declared.fault.Fault.TheVariants.{Names, Memory}
use Rattle.hsr_commands.specs.declared.fault.Status.{Status}
use Rattle.hsr_commands.specs.declared.fault.Status.TheVariants.{Fault as Stopped}
use Rattle.hsr_given.specs.declared.unnamed.Unnamed.TheVariants.{NoFile}
use Rattle.hsr_options.specs.declared.chosen.TableChoice.{TableChoice}
use Rattle.hsr_bench.specs.Performing.{EndsNamed, IsFrontAt, IsNoText, with_scenario}

pub named_so : (choice : TableChoice) (audit : AuditShowing) (all file : Option (List ℕ)) (scenario : Bor (List ℕ)) (before after : Outputs) (status : Status)
    → IsFrontAt file scenario.now → IfSome all (λ text. AuditEnds (entries_for choice text) (with_scenario audit scenario) text before after status)
    → IfSome all (λ text. EndsNamed (entries_for choice text) audit text file before after status)
named_so choice audit None file scenario before after status is ends = tt
named_so choice audit (Some text) file scenario before after status is ends = inl (record { scenario = scenario; is_front = is; ends = ends })

pub unread_so : (choice : TableChoice) (audit : AuditShowing) (all file written : Option (List ℕ)) (put : Option (List File)) (fault : Fault) (status : Status)
    → (fault ≡ Names NoFile) ⊎ (fault ≡ Memory) → status ≡ Stopped fault
    → IfSome all (λ text. EndsNamed (entries_for choice text) audit text file (outputs written put) (outputs written put) status)
unread_so choice audit None file written put fault status why is = tt
unread_so choice audit (Some text) file written put fault status why is =
    inr (record { fault = fault; unread = inl why; stopped = is; kept = nothing_written (outputs written put) })

pub no_text_so : (choice : TableChoice) (audit : AuditShowing) (all file written : Option (List ℕ)) (put : Option (List File)) (octets : List ℕ) (fault : Fault) (status : Status)
    → IsFrontAt file octets → IsNoText octets fault → status ≡ Stopped fault
    → IfSome all (λ text. EndsNamed (entries_for choice text) audit text file (outputs written put) (outputs written put) status)
no_text_so choice audit None file written put octets fault status front why is = tt
no_text_so choice audit (Some text) file written put octets fault status front why is =
    inr (record { fault = fault; unread = inr (octets, front, why); stopped = is; kept = nothing_written (outputs written put) })
