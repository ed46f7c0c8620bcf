-- A plan in which a link or a node is off from a moment on: what goes off stands behind the plan's own events.
use Rattle.std.specs.Prelude.{ℕ, Bool, true, false, List, [], ◌∷◌, ◌++◌, slice_get, Option, Some, None, Result, Ok, Err}
use Rattle.hsr_node.specs.Words.{letter}
use Rattle.hsr_topology.specs.declared.end.End.{End}
use Rattle.hsr_faults.specs.declared.fault.Fault.TheVariants.{One, Two}
use Rattle.hsr_faults.specs.declared.fault.Off.{Off as Piece}
use Rattle.hsr_faults.specs.declared.fault.Off.TheVariants as piece
use Rattle.hsr_plan_text.specs.Meaning.{plan_of}
use Rattle.hsr_plan_text.specs.Plan.{Plan}
use Rattle.hsr_plan_text.specs.declared.plan.Deed.{Deed}
use Rattle.hsr_plan_text.specs.declared.plan.Deed.TheVariants.{Cut, Off}
use Rattle.hsr_plan_text.specs.declared.fault.PlanFault.{PlanFault}
use Rattle.hsr_plan_text.specs.declared.plan.LinkEnd.{LinkEnd}
use Rattle.hsr_plan_network.specs.Nodes.{Node}
use Rattle.hsr_plan_sweep.specs.declared.cases.Case.{Case}
use Rattle.hsr_plan_sweep.specs.declared.cases.Case.TheVariants as case

-- from which moment on something is off, and the nodes and links among which that is
pub record Ground : Type 0 where
  pub at : ℕ
  pub nodes : List Node
  pub links : List (List End)

-- a plan's text, whether its own events are left out, and among what something is off
pub record Swept : Type 0 where
  pub text : List ℕ
  pub without_events : Bool
  pub ground : Ground

-- a plan, without its own events where they are left out
abbrev pub bared : Bool → Plan → Plan
bared false plan = plan
bared true plan = record plan { events = [] }

abbrev pub bared_if : Bool → Result Plan PlanFault → Result Plan PlanFault
bared_if bare (Ok plan) = Ok (bared bare plan)
bared_if bare (Err fault) = Err fault

-- what a text says as a plan, so
abbrev pub plan_in : Bool → List ℕ → Result Plan PlanFault
plan_in bare text = bared_if bare (plan_of text)

abbrev pub end_if : Option Node → ℕ → LinkEnd
end_if None port = record { name = []; letter = None }
end_if (Some node) port = record { name = node.name; letter = Some (letter node.place port) }

-- an end by the name of its node and the letter of its port
abbrev pub named_end : List Node → End → LinkEnd
named_end nodes end = end_if (slice_get nodes end.node) end.port

abbrev pub off_if : Option Node → Deed
off_if None = Off []
off_if (Some node) = Off node.name

-- the link between two ends is cut
abbrev pub cut_of : List Node → List End → Deed
cut_of nodes (a ∷ b ∷ []) = Cut (named_end nodes a) (named_end nodes b)
cut_of nodes _ = off_if None

abbrev pub cut_if : List Node → Option (List End) → Deed
cut_if nodes None = off_if None
cut_if nodes (Some link) = cut_of nodes link

abbrev pub deed_of : Ground → Piece → Deed
deed_of g (piece.Link l) = cut_if g.nodes (slice_get g.links l)
deed_of g (piece.Node k) = off_if (slice_get g.nodes k)

abbrev pub with_deed : ℕ → Deed → Plan → Plan
with_deed at deed plan = record plan { events = plan.events ++ record { at = at; deed = deed } ∷ [] }

abbrev pub with_off : Ground → Piece → Plan → Plan
with_off g off plan = with_deed g.at (deed_of g off) plan

abbrev pub varied : Ground → Case → Plan → Plan
varied g case.Undisturbed plan = plan
varied g (case.Off (One a)) plan = with_off g a plan
varied g (case.Off (Two a b)) plan = with_off g b (with_off g a plan)
