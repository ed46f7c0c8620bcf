-- The status of a run, the line of a fault, and refusals as faults of a run.
use Rattle.std.specs.Prelude.{ℕ, List, ◌++◌, codes}
use Rattle.std.specs.Fmt.{decimal}
use Rattle.hsr_commands.specs.declared.fault.Fault.{Fault}
use Rattle.hsr_finished_run.specs.Disagree.{disagree_code}
use Rattle.hsr_finished_run.specs.declared.disagree.CheckFault.{CheckFault}
use Rattle.hsr_finished_run.specs.declared.disagree.CheckFault.TheVariants as check
use Rattle.hsr_scenario.specs.Fault.{fault_text}
use Rattle.hsr_world_steps.specs.Refusal.{drain_word}
use Rattle.hsr_world_steps.specs.declared.step.DrainFault.{DrainFault}
use Rattle.hsr_world_steps.specs.declared.step.DrainFault.TheVariants as drain
use Rattle.hsr_world_steps.specs.declared.step.WorldFault.TheVariants as world
use Rattle.hsr_commands.specs.declared.fault.Fault.TheVariants.{Line, Scenario, Step, Fine, Transcript, Check, Names, Tables, Read, Write, Memory, Thread, Gate}
use Rattle.hsr_commands.specs.declared.fault.Status.{Status}
use Rattle.hsr_commands.specs.declared.fault.Status.TheVariants.{Certified, Fault as Stopped, Doubt, Open}
use Rattle.hsr_commands.specs.declared.fault.TranscriptFault.{TranscriptFault}
use Rattle.hsr_commands.specs.declared.fault.TranscriptFault.TheVariants as transcript

abbrev pub code_of : Status → ℕ
code_of Certified = 0
code_of (Stopped fault) = 1
code_of Doubt = 2
code_of Open = 2

-- why a text isn't read as a transcript
abbrev pub transcript_text : TranscriptFault → List ℕ
transcript_text transcript.Version = codes "version"
transcript_text (transcript.Line n) = codes "line " ++ decimal n
transcript_text transcript.End = codes "end"

abbrev pub fault_line : Fault → List ℕ
fault_line (Line n) = codes "fault: line " ++ decimal n
fault_line (Scenario fault) = codes "fault: scenario " ++ fault_text fault
fault_line (Step step fault) = codes "fault: step " ++ (decimal step ++ (codes " " ++ drain_word fault))
fault_line (Fine step) = codes "fault: step " ++ (decimal step ++ codes " fine")
fault_line (Transcript fault) = codes "fault: transcript " ++ transcript_text fault
fault_line (Check disagree) = codes "fault: check " ++ decimal (disagree_code disagree)
fault_line (Names instead) = codes "fault: names, and --names takes the scenario of the run: hsr_plan writes that of a plan"
fault_line Tables = codes "fault: tables"
fault_line Read = codes "fault: read"
fault_line Write = codes "fault: write"
fault_line Memory = codes "fault: memory"
fault_line Thread = codes "fault: thread"
fault_line Gate = codes "fault: gate"

-- a step that is refused for memory is a fault of memory
abbrev pub step_fault : ℕ → DrainFault → Fault
step_fault step (drain.World world.NoMemory) = Memory
step_fault step fault = Step step fault

-- a check that is refused for memory is a fault of memory
abbrev pub check_fault : CheckFault → Fault
check_fault (check.Disagree disagree) = Check disagree
check_fault check.NoMemory = Memory
