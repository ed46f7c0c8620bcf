-- What `node` writes for the lines that it reads.
use Rattle.std.specs.Prelude.{◌≡◌, ◌<◌, ℕ, ◌+◌, nat_lt, List, [], ◌∷◌, ◌++◌, length, Option, Some, None, if◌then◌else◌}
use Rattle.std.specs.Io.KnownBytes.{Appends}
use Rattle.hsr_frame.specs.declared.node.Mode.{Mode}
use Rattle.hsr_node.specs.Step.{counters_of, new_node}
use Rattle.hsr_node.specs.declared.node.Node.{Node}
use Rattle.hsr_node.specs.declared.place.Place.{Place}
use Rattle.hsr_node.specs.declared.place.Place.TheVariants as kind
use Rattle.hsr_node_text.specs.Reply.{answer_of, counter_line}
use Rattle.hsr_node_text.specs.declared.request.Setting.{Setting}
use Rattle.hsr_options.specs.declared.chosen.NodeOptions.{NodeOptions}
use Rattle.hsr_options.specs.declared.role.NodeRole.{NodeRole}
use Rattle.hsr_options.specs.declared.role.NodeRole.TheVariants.{Danh, RedBox, QuadBox}
use Rattle.hsr_table_size.specs.Sizes.{capacity_of}
use Rattle.hsr_commands.specs.declared.fault.Fault.TheVariants.{Line, Read, Write, Memory}
use Rattle.hsr_commands.specs.declared.fault.Status.{Status}
use Rattle.hsr_commands.specs.declared.fault.Status.TheVariants.{Certified, Fault as Stopped, Doubt, Open}

-- what is written, and the number of the bad line at which it ends
pub record Output : Type 0 where
  pub text : List ℕ
  pub bad_line : Option ℕ

abbrev pub put : List ℕ → Output → Output
put front output = record { text = front ++ output.text; bad_line = output.bad_line }

-- the answer to a line and the node after it, if the line is good and has at most 4096 octets
abbrev pub answer_in : (capacity : ℕ) → Setting → Node capacity → List ℕ → Option (List ℕ × Node capacity)
answer_in capacity setting node line = if nat_lt 4096 (length line) then None else answer_of capacity setting node line

-- the output that a line begins, with that for the lines behind it
abbrev pub with_line : (capacity : ℕ) → ℕ → Option (List ℕ × Node capacity) → (Node capacity → Output) → Output
with_line capacity n None more = record { text = []; bad_line = Some n }
with_line capacity n (Some answer) more = put answer.0 (more answer.1)

-- the output for lines that are counted from n on, by a node whose tables have `capacity` entries
abbrev pub output : (capacity : ℕ) → Setting → Node capacity → ℕ → List (List ℕ) → Output
output capacity setting node n [] = record { text = counter_line (counters_of capacity node); bad_line = None }
output capacity setting node n (line ∷ lines) =
    with_line capacity n (answer_in capacity setting node line) (λ next. output capacity setting next (n + 1) lines)

-- a place of this kind: a QuadBox has neither address nor mode
abbrev pub place_by : NodeRole → List ℕ → Mode → Place
place_by Danh mac mode = kind.Danh mac mode
place_by RedBox mac mode = kind.RedBox mac mode
place_by QuadBox mac mode = kind.QuadBox

-- the kind of node that is chosen, with its address
abbrev pub place_of : NodeOptions → Place
place_of chosen = place_by chosen.role chosen.mac chosen.mode

-- the whole output for the lines of a text, by a node that has done nothing
abbrev pub whole_output : ℕ → Setting → List (List ℕ) → Output
whole_output capacity setting lines = output capacity setting (new_node capacity setting.place) 1 lines

-- the same, by the node that is chosen
abbrev pub chosen_output : NodeOptions → List (List ℕ) → Output
chosen_output chosen lines = whole_output (capacity_of chosen.table) (record { place = place_of chosen; unit = chosen.unit }) lines

-- a front of a text was written
abbrev pub IsFront : Option (List ℕ) → Option (List ℕ) → List ℕ → Type 0
IsFront held holds text = (front : List ℕ) × (rest : List ℕ) × (text ≡ front ++ rest) × Appends held holds front

-- How a run ended, and what stands on the writer: all of the output, and its bad line if it has one; a front
-- of it where reading or memory failed. Of a failed write no more is said than that there was something to write.
abbrev pub Ended : Option (List ℕ) → Option (List ℕ) → Output → Status → Type 0
Ended held holds output Certified = (output.bad_line ≡ None) × Appends held holds output.text
Ended held holds output (Stopped (Line n)) = (output.bad_line ≡ Some n) × Appends held holds output.text
Ended held holds output (Stopped Write) = 0 < length output.text
Ended held holds output (Stopped Read) = IsFront held holds output.text
Ended held holds output (Stopped Memory) = IsFront held holds output.text
Ended held holds output (Stopped _) = ⊥
Ended held holds output Doubt = ⊥
Ended held holds output Open = ⊥
