-- The lines that answer what a line asks for, and the line of counters.
use Rattle.std.specs.Prelude.{ℕ, Bool, true, false, List, [], ◌∷◌, ◌++◌, codes, Option, Some, None, option_map, Result, Ok, Err, if◌then◌else◌}
use Rattle.std.specs.Fmt.{decimal}
use Rattle.hex.specs.Hex.{encode_upper}
use Rattle.hsr_frame.specs.Counters.{dropped}
use Rattle.hsr_frame.specs.Fault.{send_fault_code}
use Rattle.hsr_frame.specs.Words.{cause_text}
use Rattle.hsr_frame.specs.declared.counters.Counters.{Counters}
use Rattle.hsr_node.specs.Copies.{copy_octets, up_octets}
use Rattle.hsr_node.specs.Record.{has_port}
use Rattle.hsr_node.specs.Step.{node_step}
use Rattle.hsr_node.specs.Words.{letter}
use Rattle.hsr_node.specs.declared.event.Event.{Event}
use Rattle.hsr_node.specs.declared.event.Outcome.{Outcome}
use Rattle.hsr_node.specs.declared.event.Outcome.TheVariants.{Sent, Life, Judged, Aged}
use Rattle.hsr_node.specs.declared.event.StepFault.{StepFault}
use Rattle.hsr_node.specs.declared.event.StepFault.TheVariants as refused
use Rattle.hsr_node.specs.declared.node.Node.{Node}
use Rattle.hsr_node.specs.declared.place.Place.{Place}
use Rattle.hsr_node.specs.declared.place.Place.TheVariants.{Danh}
use Rattle.hsr_node_text.specs.Request.{request_of}
use Rattle.hsr_node_text.specs.declared.request.Request.{Request}
use Rattle.hsr_node_text.specs.declared.request.Setting.{Setting}

-- ---- octets that leave

-- an egress and the octets that leave by it, if some do
abbrev pub leaving_text : List ℕ → Option (List ℕ) → List ℕ
leaving_text egress None = []
leaving_text egress (Some octets) = egress ++ codes " " ++ encode_upper octets ++ codes "\n"

abbrev pub copy_text : Place → Event → Outcome → ℕ → List ℕ
copy_text place event outcome port = leaving_text (letter place port ∷ []) (copy_octets place event outcome port)

-- what leaves by the ports, in the order of their numbers
abbrev pub copies_text : Place → Event → Outcome → List ℕ
copies_text place event outcome =
    copy_text place event outcome 0 ++ copy_text place event outcome 1 ++ copy_text place event outcome 2 ++ copy_text place event outcome 3

-- a DANH passes what came on as it came, so its octets aren't told again
abbrev pub is_told_again : Place → Outcome → Bool
is_told_again (Danh mac mode) (Judged up ports seq cause) = false
is_told_again place outcome = true

-- ---- the first line

abbrev pub word_if : Bool → List ℕ → List ℕ
word_if said word = if said then word else []

-- the number of a frame; a hyphen for one that got none
abbrev pub number_text : Option ℕ → List ℕ
number_text None = codes "-"
number_text (Some seq) = decimal seq

-- a space and its letter, for a port by which something leaves
abbrev pub port_text : Place → List Bool → ℕ → List ℕ
port_text place ports port = word_if (has_port ports port) (32 ∷ letter place port ∷ [])

-- the egresses of an arrival stand in the order up, then the ports by their numbers
abbrev pub verdict_text : Place → Bool → List Bool → List ℕ
verdict_text place up ports =
    word_if up (codes " up") ++ port_text place ports 0 ++ port_text place ports 1 ++ port_text place ports 2 ++ port_text place ports 3 ++ codes "\n"

abbrev pub outcome_line : Place → Outcome → List ℕ
outcome_line place (Sent seq ports) = codes "sent " ++ number_text seq ++ codes "\n"
outcome_line place (Life seq life ports) = codes "life " ++ decimal seq ++ codes " " ++ decimal life ++ codes "\n"
outcome_line place (Judged up ports seq cause) = cause_text (codes " ") cause ++ verdict_text place up ports
outcome_line place Aged = codes "aged\n"

-- ---- a line

-- what a node answers to an event that it accepts
unfoldable pub outcome_text : Place → Event → Outcome → List ℕ
outcome_text place event outcome =
    outcome_line place outcome ++ leaving_text (codes "up") (up_octets event outcome)
    ++ (if is_told_again place outcome then copies_text place event outcome else [])

-- The number of a reason why an event is refused. An event that doesn't fit the kind of node has none: its line is bad. A node that
-- keeps no record needs no memory for an event.
abbrev pub refusal_code : StepFault → Option ℕ
refusal_code refused.WrongEvent = None
refusal_code (refused.Send fault) = Some (send_fault_code fault)
refusal_code refused.NotProxied = Some 5
refusal_code refused.Spent = Some 3
refusal_code refused.NoMemory = None

abbrev pub refused_text : ℕ → List ℕ
refused_text code = codes "refused " ++ decimal code ++ codes "\n"

-- the lines that answer an event; none where it doesn't fit the kind of node
abbrev pub reply : Place → Event → Result Outcome StepFault → Option (List ℕ)
reply place event (Ok outcome) = Some (outcome_text place event outcome)
reply place event (Err fault) = option_map refused_text (refusal_code fault)

-- and the node after it
abbrev pub replied : {M : Type 0} → Place → Event → Result Outcome StepFault × M → Option (List ℕ × M)
replied place event after = option_map (λ text. (text, after.1)) (reply place event after.0)

-- the lines that answer what is asked for, and the node after it: its step
abbrev pub answer_to : (capacity : ℕ) → Place → Node capacity → Option Request → Option (List ℕ × Node capacity)
answer_to capacity place node None = None
answer_to capacity place node (Some r) = replied place r.event (node_step capacity node r.at r.event)

-- the lines that answer a line, and the node after it; none for a bad line
unfoldable pub answer_of : (capacity : ℕ) → Setting → Node capacity → List ℕ → Option (List ℕ × Node capacity)
answer_of capacity setting node line = answer_to capacity setting.place node (request_of setting line)

-- ---- the last line

-- how often a node sent, and what of what came it passed
abbrev pub passed_text : Counters → List ℕ
passed_text c =
    codes "sent " ++ decimal c.sent ++ codes " life " ++ decimal c.life ++ codes " up " ++ decimal c.up ++ codes " forwarded " ++ decimal c.forwarded

-- what of what came a node didn't pass
abbrev pub stopped_text : Counters → List ℕ
stopped_text c =
    codes " duplicate " ++ decimal c.duplicate ++ codes " returned " ++ decimal c.returned ++ codes " dropped " ++ decimal (dropped c) ++ codes "\n"

-- the last line
unfoldable pub counter_line : Counters → List ℕ
counter_line c = passed_text c ++ stopped_text c
