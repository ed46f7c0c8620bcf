-- The list of stimuli: a line for each, and how often each cause was reached.
use Rattle.std.specs.Prelude.{ℕ, ◌+◌, Bool, List, [], ◌∷◌, ◌++◌, codes, Option, Some, None, Result, Ok, Err, if◌then◌else◌}
use Rattle.std.specs.Fmt.{decimal}
use Rattle.std.specs.List.{flat_map}
use Rattle.hsr_frame.specs.Fault.{frame_fault_code}
use Rattle.hsr_frame.specs.Words.{cause_word}
use Rattle.hsr_frame.specs.declared.fault.FrameFault.TheVariants as fault
use Rattle.hsr_frame.specs.declared.node.Cause.{Cause}
use Rattle.hsr_frame.specs.declared.node.Cause.TheVariants.{Passed, Duplicate, Returned, Foreign, Local, Untagged, Tagged, Malformed}
use Rattle.hsr_node.specs.Refusal.{node_word}
use Rattle.hsr_node.specs.Words.{letter}
use Rattle.hsr_node.specs.declared.event.Outcome.{Outcome}
use Rattle.hsr_node.specs.declared.event.Outcome.TheVariants.{Judged}
use Rattle.hsr_node.specs.declared.event.StepFault.{StepFault}
use Rattle.hsr_node.specs.declared.place.Place.{Place}
use Rattle.hsr_node.specs.declared.place.Place.TheVariants.{RedBox}
use Rattle.hsr_stimuli.specs.Playing.{reached, unlike}
use Rattle.hsr_stimuli.specs.Rules.{rule_word}
use Rattle.hsr_stimuli.specs.Scenes.{can_fill}
use Rattle.hsr_stimuli.specs.declared.playing.Tried.{Tried}

-- ---- answers

-- octets that are no frame have the number of their fault
abbrev pub cause_text : Cause → List ℕ
cause_text (Malformed fault) = codes "malformed-" ++ decimal (frame_fault_code fault)
cause_text cause = cause_word cause

-- up, and the ports by which a copy leaves
abbrev pub port_text : Place → ℕ → Bool → List ℕ
port_text place port leaves = if leaves then codes " " ++ letter place port ∷ [] else []

abbrev pub ports_text : Place → ℕ → List Bool → List ℕ
ports_text place n [] = []
ports_text place n (leaves ∷ more) = port_text place n leaves ++ ports_text place (n + 1) more

abbrev pub number_text : Option ℕ → List ℕ
number_text None = []
number_text (Some seq) = codes " number " ++ decimal seq

-- the cause, where it went, and the number that it got
unfoldable pub judged_text : Place → Bool → List Bool → Option ℕ → Cause → List ℕ
judged_text place up ports seq cause = cause_text cause ++ (if up then codes " up" else []) ++ ports_text place 0 ports ++ number_text seq

abbrev pub answer_text : Place → Result Outcome StepFault → List ℕ
answer_text place (Ok (Judged up ports seq cause)) = judged_text place up ports seq cause
answer_text place _ = codes "refused"

-- ---- lines

-- which stimulus it is, from 1 on, and when and where it comes
unfoldable pub head_text : Place → ℕ → Tried → List ℕ
head_text place n t =
    codes "packet " ++ decimal n ++ codes " at " ++ decimal t.stimulus.at ++ codes " " ++ letter place t.stimulus.port ∷ codes " "

-- the rule that it tries, and the answer
unfoldable pub line : Place → ℕ → Tried → List ℕ
line place n t = head_text place n t ++ rule_word t.stimulus.rule ++ codes " " ++ answer_text place t.answer ++ codes "\n"

abbrev pub lines_from : Place → ℕ → List Tried → List ℕ
lines_from place n [] = []
lines_from place n (t ∷ ts) = line place n t ++ lines_from place (n + 1) ts

-- ---- what isn't tried

abbrev pub untried_table : ℕ → List ℕ
untried_table entries = if can_fill entries then [] else codes "not-tried table " ++ decimal entries ++ codes "\n"

-- without a RedBox's first number
abbrev pub untried_start : Place → Option ℕ → List ℕ
untried_start (RedBox mac mode) None = codes "not-tried came-back start\n"
untried_start place start = []

-- ---- what is reached

unfoldable pub all_causes : List Cause
all_causes =
    Passed ∷ Duplicate ∷ Returned ∷ Foreign ∷ Local ∷ Untagged ∷ Tagged ∷ Malformed fault.Short ∷ Malformed fault.Long ∷ Malformed fault.GroupSource
    ∷ Malformed fault.DoubleVlan ∷ Malformed fault.ShortTag ∷ Malformed fault.NestedTag ∷ []

abbrev pub reached_text : List Tried → Cause → List ℕ
reached_text list cause = codes " " ++ cause_text cause ++ codes " " ++ decimal (reached cause list)

unfoldable pub reached_line : Place → List Tried → List ℕ
reached_line place list = codes "reached" ++ flat_map (reached_text list) all_causes ++ codes " unlike " ++ decimal (unlike place list) ++ codes "\n"

-- ---- the whole

unfoldable pub list_text : Place → ℕ → Option ℕ → List Tried → List ℕ
list_text place entries start list = lines_from place 1 list ++ untried_table entries ++ untried_start place start ++ reached_line place list
