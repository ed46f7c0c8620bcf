-- A world with something else in the hand of a port.
use Rattle.std.specs.Prelude.{Option, Some}
use Rattle.hsr_node.specs.declared.event.Carried.{Carried}
use Rattle.hsr_node.specs.declared.event.Event.{Event}
use Rattle.hsr_node.specs.declared.event.Event.TheVariants.{Arrive}
use Rattle.hsr_world_links.specs.Hands.{with_hand}
use Rattle.hsr_world_laws.specs.Spans.{Spot}
use Rattle.hsr_world_laws.specs.World.{World}

abbrev pub in_hand : Option Carried → World → Option Spot → World
in_hand hand w spot = record w { spans = with_hand hand w.spans spot }

-- what came in an event is held again
abbrev pub given_back : Event → World → Option Spot → World
given_back (Arrive port copy) w spot = in_hand (Some copy) w spot
given_back event w spot = w
