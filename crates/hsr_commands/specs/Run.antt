-- A run of `node` on its way, from line to line.
use Rattle.std.specs.Prelude.{◌≡◌, ℕ, ◌+◌, List, [], Option, None, Some, Result, Ok, Err, IfSome, Bool, true, false}
use Rattle.std.specs.Io.KnownBytes.{Appends, Keeps}
use Rattle.hsr_text.specs.Lines.{lines_of}
use Rattle.hsr_node.specs.Step.{counters_of}
use Rattle.hsr_node.specs.declared.node.Node.{Node}
use Rattle.hsr_node_text.specs.Reply.{answer_of, counter_line}
use Rattle.hsr_node_text.specs.declared.request.Setting.{Setting}
use Rattle.hsr_commands.specs.Output.{Ended, Output, output, put, whole_output}
use Rattle.hsr_commands.specs.declared.fault.Fault.{Fault}
use Rattle.hsr_commands.specs.declared.fault.Fault.TheVariants.{Line, Write, Memory}
use Rattle.hsr_commands.specs.declared.fault.Status.TheVariants.{Certified, Fault as Stopped}

-- what is known of a run that goes on: the whole output is what was written, and then the output for what is left
abbrev pub OnTheWay : (capacity : ℕ) → Setting → Output → Option (List ℕ) → Option (List ℕ) → Option (List ℕ) → Node capacity → ℕ → Type 0
OnTheWay capacity setting whole left held holds node n =
    (text : List ℕ) × (left ≡ Some text) × (front : List ℕ) × (whole ≡ put front (output capacity setting node n (lines_of text))) × Appends held holds front

-- what one line did: it was answered, or is bad, or isn't and the writer failed, or memory failed
abbrev pub Served : (capacity : ℕ) → Setting → Node capacity → Node capacity → ℕ → List ℕ → Option (List ℕ) → Option (List ℕ) → Result Unit Fault → Type 0
Served capacity setting old new n line held holds (Ok _) = (text : List ℕ) × (answer_of capacity setting old line ≡ Some (text, new)) × Appends held holds text
Served capacity setting old new n line held holds (Err (Line k)) = (k ≡ n) × (answer_of capacity setting old line ≡ None) × Keeps held holds
Served capacity setting old new n line held holds (Err Write) = (text : List ℕ) × (answer_of capacity setting old line ≡ Some (text, new))
Served capacity setting old new n line held holds (Err Memory) = Keeps held holds
Served capacity setting old new n line held holds (Err _) = ⊥

-- what one turn did, from the output for what was left to that for what is left now; `false` is the last turn
abbrev pub Turned : (capacity : ℕ) → Setting → Option (List ℕ) → Option (List ℕ) → Option (List ℕ) → Option (List ℕ) → Node capacity → Node capacity → ℕ → Result Bool Fault → Type 0
Turned capacity setting left rest held holds old new n (Ok true) = IfSome left (λ text. OnTheWay capacity setting (output capacity setting old n (lines_of text)) rest held holds new (n + 1))
Turned capacity setting left rest held holds old new n (Ok false) = IfSome left (λ text. (front : List ℕ) × (output capacity setting old n (lines_of text) ≡ put front (output capacity setting new 0 [])) × Appends held holds front)
Turned capacity setting left rest held holds old new n (Err fault) = IfSome left (λ text. Ended held holds (output capacity setting old n (lines_of text)) (Stopped fault))

-- the end of a run
abbrev pub Finished : (capacity : ℕ) → Node capacity → Option (List ℕ) → Option (List ℕ) → Result Unit Fault → Type 0
Finished capacity node held holds (Ok _) = Appends held holds (counter_line (counters_of capacity node))
Finished capacity node held holds (Err Write) = Unit {0}
Finished capacity node held holds (Err Memory) = Keeps held holds
Finished capacity node held holds (Err _) = ⊥

-- a whole run
abbrev pub Ran : ℕ → Setting → Option (List ℕ) → Option (List ℕ) → Option (List ℕ) → Result Unit Fault → Type 0
Ran capacity setting text held holds (Ok _) = IfSome text (λ known. Ended held holds (whole_output capacity setting (lines_of known)) Certified)
Ran capacity setting text held holds (Err fault) = IfSome text (λ known. Ended held holds (whole_output capacity setting (lines_of known)) (Stopped fault))
