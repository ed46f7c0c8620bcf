-- The part of a plan that a doubt is about.
--     node_name     the name of a node
--     first_still   the first node in mode N
--     part_of       a stream, a node or its mode
use Rattle.std.specs.Prelude.{ℕ, not, List, [], ◌∷◌, slice_get, position, Option, Some, None, option_map}
use Rattle.hsr_topology.specs.declared.end.End.{End}
use Rattle.hsr_network_laws.specs.Network.{is_in_h_or_u}
use Rattle.hsr_certify.specs.declared.doubt.Doubt.{Doubt}
use Rattle.hsr_certify.specs.declared.doubt.Doubt.TheVariants.{Empty, Fine, Open, SameAddress, Side, Refused, Back, Late, Crowded, Wrapped, Uncovered, Queue, CutOff}
use Rattle.hsr_certify.specs.declared.doubt.Doubt.TheVariants as doubt
use Rattle.hsr_plan_network.specs.Nodes.{Node as PlanNode}
use Rattle.hsr_plan_schedule.specs.Meaning.{Meaning}
use Rattle.hsr_plan_certify.specs.Origins.{origin_of}
use Rattle.hsr_plan_certify.specs.declared.origin.Cause.{Cause}
use Rattle.hsr_plan_certify.specs.declared.origin.Cause.TheVariants as cause
use Rattle.hsr_plan_certify.specs.declared.origin.Origin.{Origin}
use Rattle.hsr_plan_certify.specs.declared.part.Part.{Part}
use Rattle.hsr_plan_certify.specs.declared.part.Part.TheVariants.{Stream, Node, Mode}

abbrev pub name_if : Option PlanNode → List ℕ
name_if None = []
name_if (Some node) = node.name

abbrev pub node_name : List PlanNode → ℕ → List ℕ
node_name nodes k = name_if (slice_get nodes k)

-- the first node that is neither in mode H nor U
abbrev pub first_still : List PlanNode → Option ℕ
first_still nodes = position (λ node. not (is_in_h_or_u node.place)) nodes

-- what is sent comes from its stream, and supervision from its node
abbrev pub part_for : ℕ → Cause → Part
part_for node (cause.Stream stream) = Stream stream
part_for node cause.Life = Node node

abbrev pub part_by : Origin → Part
part_by origin = part_for origin.node origin.cause

abbrev pub part_of_step : Meaning → ℕ → Option Part
part_of_step m i = option_map part_by (origin_of m i)

-- the node at the first end of a link
abbrev pub first_end : List End → Option Part
first_end (a ∷ b ∷ []) = Some (Node a.node)
first_end _ = None

abbrev pub part_if : Option (List End) → Option Part
part_if None = None
part_if (Some link) = first_end link

abbrev pub part_of_link : List (List End) → ℕ → Option Part
part_of_link links l = part_if (slice_get links l)

abbrev pub part_of : Meaning → Doubt → Option Part
part_of m Empty = None
part_of m (Fine i) = part_of_step m i
part_of m (Open i) = part_of_step m i
part_of m doubt.Mode = option_map Mode (first_still m.nodes)
part_of m SameAddress = None
part_of m (Side l) = part_of_link m.topology.links l
part_of m (Refused i) = part_of_step m i
part_of m (Back i) = part_of_step m i
part_of m (Late i) = part_of_step m i
part_of m (Crowded i) = part_of_step m i
part_of m (Wrapped i) = part_of_step m i
part_of m (Uncovered i) = part_of_step m i
part_of m (Queue i) = part_of_step m i
part_of m (CutOff i k) = part_of_step m i
