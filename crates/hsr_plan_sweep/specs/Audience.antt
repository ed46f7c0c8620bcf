-- At whom a send is due: those whom its stream is for, as far as they are on when it is sent.
use Rattle.std.specs.Prelude.{ℕ, ◌&&◌, ◌||◌, ◌==◌, nat_le, not, Bool, true, false, if◌then◌else◌, List, [], ◌∷◌, find, length, slice_get, Option, Some, None}
use Rattle.std.specs.List.{list_any}
use Rattle.std.specs.Str.{bytes_eq}
use Rattle.hsr_plan_text.specs.Plan.{Stream}
use Rattle.hsr_plan_text.specs.declared.plan.Deed.{Deed}
use Rattle.hsr_plan_text.specs.declared.plan.Deed.TheVariants.{Cut, Mend, Off, On}
use Rattle.hsr_plan_text.specs.declared.plan.Event.{Event}
use Rattle.hsr_plan_network.specs.Names.{is_in}
use Rattle.hsr_plan_network.specs.Nodes.{Node}
use Rattle.hsr_plan_sweep.specs.declared.audience.Turn.{Turn}

-- the nodes of a plan, its streams, and its events
pub record Audience : Type 0 where
  pub nodes : List Node
  pub streams : List Stream
  pub events : List Event

-- ---- who is on

-- the node of a name is off behind an event, if that is about it
abbrev pub turn_by : List ℕ → Deed → Option Bool
turn_by name (Cut a b) = None
turn_by name (Mend a b) = None
turn_by name (Off n) = if bytes_eq n name then Some true else None
turn_by name (On n) = if bytes_eq n name then Some false else None

abbrev pub comes_next : Option Turn → ℕ → Bool
comes_next None at = true
comes_next (Some last) at = nat_le last.at at

abbrev pub turned : ℕ → Option Turn → ℕ → Option Bool → Option Turn
turned now last at None = last
turned now last at (Some is_off) = if nat_le at now && comes_next last at then Some (record { at = at; is_off = is_off }) else last

abbrev pub next_turn : ℕ → List ℕ → Option Turn → Event → Option Turn
next_turn now name last e = turned now last e.at (turn_by name e.deed)

-- of the events up to a moment that are about a node the last by its moment; of those at one moment the one that is listed last
abbrev pub last_turn : ℕ → List ℕ → Option Turn → List Event → Option Turn
last_turn now name last [] = last
last_turn now name last (e ∷ es) = last_turn now name (next_turn now name last e) es

abbrev pub is_off_by : Option Turn → Bool
is_off_by None = false
is_off_by (Some last) = last.is_off

-- the node of a name is off at a moment, behind the events of that moment
abbrev pub is_off : ℕ → List ℕ → List Event → Bool
is_off now name events = is_off_by (last_turn now name None events)

-- ---- whom a stream is for

-- the name of a node, or of a station that it is
abbrev pub is_named : Node → List ℕ → Bool
is_named node n = bytes_eq node.name n || is_in n node.stations

abbrev pub is_one_of : List (List ℕ) → Node → Bool
is_one_of names node = list_any (λ n. is_named node n) names

-- nobody is named, or the node is
abbrev pub is_for : Stream → Node → Bool
is_for stream node = (length stream.receivers == 0) || is_one_of stream.receivers node

abbrev pub is_for_if : Option Stream → Node → Bool
is_for_if None node = true
is_for_if (Some stream) node = is_for stream node

-- what is of no stream is for all
abbrev pub is_for_stream : Audience → Option ℕ → Node → Bool
is_for_stream a None node = true
is_for_stream a (Some i) node = is_for_if (slice_get a.streams i) node

abbrev pub needs_if : Audience → Option ℕ → ℕ → Option Node → Bool
needs_if a stream at None = true
needs_if a stream at (Some node) = is_for_stream a stream node && not (is_off at node.name a.events)

-- a node needs what is sent at a moment: its stream is for it, and it is on
abbrev pub needs : Audience → Option ℕ → ℕ → ℕ → Bool
needs a stream at k = needs_if a stream at (slice_get a.nodes k)

-- the first of these
abbrev pub first_in_need : Audience → Option ℕ → ℕ → List ℕ → Option ℕ
first_in_need a stream at ks = find (needs a stream at) ks

abbrev pub one_needs : Audience → Option ℕ → ℕ → List ℕ → Bool
one_needs a stream at ks = list_any (needs a stream at) ks
