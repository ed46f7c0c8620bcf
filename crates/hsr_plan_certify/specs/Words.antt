-- A verdict in words, by names of the plan.
--     origin_text    where an order comes from: mu1@29250us/sv1, or mu1@0us/life
--     word_of        the word of a doubt
--     names_text     what a doubt names
--     verdict_text   the line of a verdict
use Rattle.std.specs.Prelude.{ℕ, List, [], ◌∷◌, ◌++◌, codes, slice_get, unwrap_or, Option, Some, None}
use Rattle.std.specs.Fmt.{decimal}
use Rattle.hsr_node.specs.Words.{letter}
use Rattle.hsr_topology.specs.declared.end.End.{End}
use Rattle.hsr_certify.specs.declared.doubt.Doubt.{Doubt}
use Rattle.hsr_certify.specs.declared.doubt.Doubt.TheVariants.{Empty, Fine, Open, Mode, SameAddress, Side, Refused, Back, Late, Crowded, Wrapped, Uncovered, Queue, CutOff}
use Rattle.hsr_certify_text.specs.Words.{verdict_line}
use Rattle.hsr_certify_text.specs.declared.verdict.Verdict.{Verdict}
use Rattle.hsr_certify_text.specs.declared.verdict.Verdict.TheVariants.{Certified, Doubted}
use Rattle.hsr_plan_network.specs.Nodes.{Node}
use Rattle.hsr_plan_schedule.specs.Meaning.{Meaning}
use Rattle.hsr_plan_certify.specs.Origins.{origin_of}
use Rattle.hsr_plan_certify.specs.Parts.{first_still, node_name}
use Rattle.hsr_plan_certify.specs.declared.origin.Cause.{Cause}
use Rattle.hsr_plan_certify.specs.declared.origin.Cause.TheVariants.{Stream, Life}
use Rattle.hsr_plan_certify.specs.declared.origin.Origin.{Origin}

-- ---- names

abbrev pub cause_text : List (List ℕ) → Cause → List ℕ
cause_text streams (Stream i) = unwrap_or (slice_get streams i) []
cause_text streams Life = codes "life"

-- the node, its moment in microseconds, and the stream or supervision
unfoldable pub origin_text : Meaning → Origin → List ℕ
origin_text m o = node_name m.nodes o.node ++ codes "@" ++ decimal o.at ++ codes "us/" ++ cause_text m.streams o.cause

abbrev pub step_if : Meaning → Option Origin → List ℕ
step_if m None = []
step_if m (Some origin) = codes " " ++ origin_text m origin

abbrev pub step_text : Meaning → ℕ → List ℕ
step_text m i = step_if m (origin_of m i)

abbrev pub letter_if : Option Node → ℕ → ℕ
letter_if None port = 63
letter_if (Some node) port = letter node.place port

unfoldable pub end_text : List Node → End → List ℕ
end_text nodes end = node_name nodes end.node ++ codes "." ++ letter_if (slice_get nodes end.node) end.port ∷ []

abbrev pub ends_text : List Node → List End → List ℕ
ends_text nodes (a ∷ b ∷ []) = codes " " ++ end_text nodes a ++ codes "-" ++ end_text nodes b
ends_text nodes _ = []

abbrev pub link_if : List Node → Option (List End) → List ℕ
link_if nodes None = []
link_if nodes (Some link) = ends_text nodes link

abbrev pub link_text : List Node → List (List End) → ℕ → List ℕ
link_text nodes links l = link_if nodes (slice_get links l)

abbrev pub mode_text : List Node → Option ℕ → List ℕ
mode_text nodes None = []
mode_text nodes (Some k) = codes " " ++ node_name nodes k

-- a send, and the node that it doesn't come to
abbrev pub cut_text : Meaning → ℕ → ℕ → List ℕ
cut_text m i k = step_text m i ++ codes " " ++ node_name m.nodes k

-- ---- doubts

abbrev pub word_of : Doubt → List ℕ
word_of Empty = codes "empty"
word_of (Fine i) = codes "fine"
word_of (Open i) = codes "open"
word_of Mode = codes "mode"
word_of SameAddress = codes "same-address"
word_of (Side l) = codes "side"
word_of (Refused i) = codes "refused"
word_of (Back i) = codes "back"
word_of (Late i) = codes "late"
word_of (Crowded i) = codes "crowded"
word_of (Wrapped i) = codes "wrapped"
word_of (Uncovered i) = codes "uncovered"
word_of (Queue i) = codes "queue"
word_of (CutOff i k) = codes "cut-off"

-- each behind a space
abbrev pub names_text : Meaning → Doubt → List ℕ
names_text m Empty = []
names_text m (Fine i) = step_text m i
names_text m (Open i) = step_text m i
names_text m Mode = mode_text m.nodes (first_still m.nodes)
names_text m SameAddress = []
names_text m (Side l) = link_text m.nodes m.topology.links l
names_text m (Refused i) = step_text m i
names_text m (Back i) = step_text m i
names_text m (Late i) = step_text m i
names_text m (Crowded i) = step_text m i
names_text m (Wrapped i) = step_text m i
names_text m (Uncovered i) = step_text m i
names_text m (Queue i) = step_text m i
names_text m (CutOff i k) = cut_text m i k

abbrev pub line_text : Option ℕ → List ℕ
line_text None = []
line_text (Some line) = codes " line " ++ decimal line

unfoldable pub doubt_text : Meaning → Doubt → Option ℕ → List ℕ
doubt_text m doubt line = codes "doubt " ++ word_of doubt ++ names_text m doubt ++ line_text line ++ codes "\n"

-- a certificate names nothing
abbrev pub verdict_text : Meaning → Verdict → Option ℕ → List ℕ
verdict_text m (Certified certified) line = verdict_line (Certified certified)
verdict_text m (Doubted doubt) line = doubt_text m doubt line
