-- The links of a world, with what their ports have still to put and what they hold.
use Rattle.std.specs.Prelude.{ℕ, ◌+◌, ◌==◌, if◌then◌else◌, List, [], ◌∷◌, ◌++◌, Option, Some, None, option_to_list}
use Rattle.hsr_topology.specs.Links.{is_same_end}
use Rattle.hsr_topology.specs.declared.end.End.{End}
use Rattle.hsr_link.specs.Link.{Link}
use Rattle.hsr_link.specs.declared.row.Dir.{Dir}
use Rattle.hsr_link.specs.declared.row.Dir.TheVariants.{Forth, Back}
use Rattle.hsr_node.specs.Flow.{pass_of}
use Rattle.hsr_node.specs.Record.{Owner}
use Rattle.hsr_node.specs.declared.entry.Entry.{Entry}
use Rattle.hsr_node.specs.declared.event.Carried.{Carried}

-- one direction of a link: what its sending port has still to put, the oldest first, and what its receiving port holds
pub record Lane : Type 0 where
  pub from : End
  pub to : End
  pub outbox : List Carried
  pub hand : Option Carried

-- a link, and its two directions
pub record Span : Type 0 where
  pub link : Link
  pub forth : Lane
  pub back : Lane

abbrev pub lane_of : Dir → Span → Lane
lane_of Forth span = span.forth
lane_of Back span = span.back

abbrev pub with_lane : Dir → Lane → Span → Span
with_lane Forth lane span = record span { forth = lane }
with_lane Back lane span = record span { back = lane }

abbrev pub with_link : Link → Span → Span
with_link link span = record span { link = link }

abbrev pub lanes_of : List Span → List Lane
lanes_of [] = []
lanes_of (span ∷ spans) = span.forth ∷ span.back ∷ lanes_of spans

abbrev pub on_lanes : (Lane → Lane) → Span → Span
on_lanes f span = record span { forth = f span.forth; back = f span.back }

-- what the receiving port at an end holds
abbrev pub held_in : End → List Lane → Option Carried
held_in end [] = None
held_in end (lane ∷ lanes) = if is_same_end lane.to end then lane.hand else held_in end lanes

abbrev pub emptied : End → Lane → Lane
emptied end lane = record lane { hand = if is_same_end lane.to end then None else lane.hand }

-- the copy of an entry, new on this past, that joins the outbox of a lane
abbrev pub gift : Owner → Entry → List Entry → Lane → List Carried
gift owner x past lane = if lane.from.node == owner.number then option_to_list (pass_of owner lane.from.port x past) else []

abbrev pub spread : Owner → Entry → List Entry → Lane → Lane
spread owner x past lane = record lane { outbox = lane.outbox ++ gift owner x past lane }

-- a direction of a link, by the number of the link
pub record Spot : Type 0 where
  pub link : ℕ
  pub dir : Dir

-- the direction in which the port at an end sends, among the spans from the k-th on
abbrev pub spot_from : End → ℕ → List Span → Option Spot
spot_from end k [] = None
spot_from end k (span ∷ spans) =
    if is_same_end span.forth.from end then Some (record { link = k; dir = Forth })
    else (if is_same_end span.back.from end then Some (record { link = k; dir = Back }) else spot_from end (k + 1) spans)
