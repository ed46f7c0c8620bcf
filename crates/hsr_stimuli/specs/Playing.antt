-- What the reference node answers to stimuli, and how often it has each cause.
use Rattle.std.specs.Prelude.{ℕ, zero, suc, ◌==◌, ◌&&◌, Bool, true, false, List, [], ◌∷◌, count_by, Option, Some, None, unwrap_or, Result, Ok, Err, not}
use Rattle.hsr_frame.specs.Fault.{frame_fault_code}
use Rattle.hsr_frame.specs.declared.fault.FrameFault.{FrameFault}
use Rattle.hsr_frame.specs.declared.node.Cause.{Cause}
use Rattle.hsr_frame.specs.declared.node.Cause.TheVariants.{Passed, Duplicate, Returned, Foreign, Local, Untagged, Tagged, Malformed}
use Rattle.hsr_frame.specs.declared.node.Mode.{Mode}
use Rattle.hsr_frame.specs.declared.node.Mode.TheVariants.{H}
use Rattle.hsr_node.specs.Step.{new_node, node_step}
use Rattle.hsr_node.specs.declared.event.Event.{Event}
use Rattle.hsr_node.specs.declared.event.Event.TheVariants.{Send, Arrive}
use Rattle.hsr_node.specs.declared.event.Outcome.{Outcome}
use Rattle.hsr_node.specs.declared.event.Outcome.TheVariants.{Judged}
use Rattle.hsr_node.specs.declared.event.StepFault.{StepFault}
use Rattle.hsr_node.specs.declared.node.Node.{Node}
use Rattle.hsr_node.specs.declared.place.Place.{Place}
use Rattle.hsr_node.specs.declared.place.Place.TheVariants.{Danh, RedBox, QuadBox, Station}
use Rattle.hsr_stimuli.specs.Rules.{awaited}
use Rattle.hsr_stimuli.specs.Scene.{experimental, group_address}
use Rattle.hsr_stimuli.specs.Shapes.{octets_of}
use Rattle.hsr_stimuli.specs.declared.playing.Tried.{Tried}
use Rattle.hsr_stimuli.specs.declared.scene.Stimulus.{Stimulus}

-- ---- answers

abbrev pub event_of : Stimulus → Event
event_of s = Arrive s.port (record { probe = None; octets = octets_of s.shape })

-- a stimulus and its answer, and the node behind it
abbrev pub tried_by : (capacity : ℕ) → Node capacity → Stimulus → Tried
tried_by capacity node s = record { stimulus = s; answer = (node_step capacity node s.at (event_of s)).0 }

abbrev pub after_try : (capacity : ℕ) → Node capacity → Stimulus → Node capacity
after_try capacity node s = (node_step capacity node s.at (event_of s)).1

-- the answers of a node that has done this much, one stimulus after the other
abbrev pub tried_from : (capacity : ℕ) → Node capacity → List Stimulus → List Tried
tried_from capacity node [] = []
tried_from capacity node (s ∷ ss) = tried_by capacity node s ∷ tried_from capacity (after_try capacity node s) ss

abbrev pub some_send : Event
some_send = Send 0 group_address None experimental []

-- a node that sent so many frames before
abbrev pub after_sends : (capacity : ℕ) → Node capacity → ℕ → Node capacity
after_sends capacity node zero = node
after_sends capacity node (suc n) = (node_step capacity (after_sends capacity node n) 0 some_send).1

-- the answers of a node whose next number is the device's first
abbrev pub tried : ℕ → Place → Option ℕ → List Stimulus → List Tried
tried capacity place start list = tried_from capacity (after_sends capacity (new_node capacity place) (unwrap_or start 0)) list

-- ---- causes

-- a number for each, so that causes can be told apart
abbrev pub cause_number : Cause → ℕ
cause_number Passed = 0
cause_number Duplicate = 7
cause_number Returned = 8
cause_number Foreign = 9
cause_number Local = 10
cause_number Untagged = 11
cause_number Tagged = 12
cause_number (Malformed fault) = frame_fault_code fault

abbrev pub is_by : Cause → Result Outcome StepFault → Bool
is_by cause (Ok (Judged up ports seq said)) = cause_number said == cause_number cause
is_by cause _ = false

abbrev pub has_cause : Cause → Tried → Bool
has_cause cause t = is_by cause t.answer

abbrev pub reached : Cause → List Tried → ℕ
reached cause list = count_by (has_cause cause) list

-- a QuadBox has no mode
abbrev pub mode_of : Place → Mode
mode_of (Danh mac mode) = mode
mode_of (RedBox mac mode) = mode
mode_of QuadBox = H
mode_of (Station macs) = H

unfoldable pub is_unlike : Place → Tried → Bool
is_unlike place t = not (has_cause (awaited t.stimulus.rule (mode_of place)) t)

-- how many answers have another cause than the rule's
abbrev pub unlike : Place → List Tried → ℕ
unlike place list = count_by (is_unlike place) list
