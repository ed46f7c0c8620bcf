-- All that happens in a plan, moment by moment.
use Rattle.std.specs.Prelude.{ℕ, ◌+◌, ◌-◌, ◌^◌, nat_le, ⊤, List, [], ◌∷◌, ◌++◌, length, Option, Result, Ok, Err, if◌then◌else◌}
use Rattle.hsr_toml.specs.Fallible.{◌>>=◌}
use Rattle.hsr_plan_text.specs.Fallible.{at_spot}
use Rattle.hsr_plan_text.specs.Plan.{Plan, Stream}
use Rattle.hsr_plan_text.specs.declared.fault.Key.TheVariants as key
use Rattle.hsr_plan_text.specs.declared.fault.PlanFault.{PlanFault}
use Rattle.hsr_plan_text.specs.declared.fault.Refusal.TheVariants.{TooMany}
use Rattle.hsr_plan_text.specs.declared.fault.Spot.TheVariants as spot
use Rattle.hsr_plan_text.specs.declared.fault.What.TheVariants.{Refused}
use Rattle.hsr_plan_text.specs.declared.plan.Event.{Event}
use Rattle.hsr_plan_text.specs.declared.fault.What.{What}
use Rattle.hsr_plan_network.specs.Checks.{unless_held}
use Rattle.hsr_plan_network.specs.Nodes.{Node}
use Rattle.hsr_plan_schedule.specs.Changes.{each_felt}
use Rattle.hsr_plan_schedule.specs.Events.{event}
use Rattle.hsr_plan_schedule.specs.Moments.{lives, sends}
use Rattle.hsr_plan_schedule.specs.declared.occasion.Occasion.{Occasion}
use Rattle.hsr_topology.specs.declared.end.End.{End}

-- events that follow others, as they are listed
abbrev pub events_from : Option ℕ → List Node → List (List End) → List Occasion → List Event → Result (List Occasion) PlanFault
events_from until nodes links seen [] = Ok seen
events_from until nodes links seen (e ∷ es) = at_spot (spot.Event (length seen)) (event until nodes links e) >>= λ o. events_from until nodes links (seen ++ o ∷ []) es

-- each event is compared with all, so there are at most 16384
abbrev pub few_events : List Event → Result ⊤ What
few_events events = unless_held (nat_le (length events) 16384) (TooMany key.Event)

-- the events of a plan, each of which changes something
abbrev pub events_in : Plan → List Node → List (List End) → Result (List Occasion) PlanFault
events_in plan nodes links =
    at_spot spot.Top (few_events plan.events) >>= λ _. events_from plan.outline.until nodes links [] plan.events
    >>= λ events. each_felt events 0 events >>= λ _. Ok events

-- how many more occasions there may be
abbrev pub room_behind : List Occasion → ℕ
room_behind seen = 2 ^ 20 - length seen

-- the frames of streams that follow i others, as many as there may be
abbrev pub sends_from : List Node → Option ℕ → List Occasion → ℕ → List Stream → Result (List Occasion) PlanFault
sends_from nodes until seen i [] = Ok seen
sends_from nodes until seen i (s ∷ ss) = at_spot (spot.Stream i) (sends nodes until (room_behind seen) i s) >>= λ os. sends_from nodes until (seen ++ os) (i + 1) ss

abbrev pub events_and_lives : Plan → List Node → List (List End) → Result (List Occasion) PlanFault
events_and_lives plan nodes links =
    events_in plan nodes links >>= λ events. at_spot spot.Top (lives plan.outline nodes) >>= λ lives. Ok (events ++ lives)

abbrev pub not_too_many : List Occasion → Result (List Occasion) PlanFault
not_too_many all = if nat_le (length all) (2 ^ 20) then Ok all else Err (record { spot = spot.Top; what = Refused (TooMany key.Stream) })

-- events, supervision, streams: in this order they come at one moment; at most 2^20 of all
abbrev pub occasions : Plan → List Node → List (List End) → Result (List Occasion) PlanFault
occasions plan nodes links =
    events_and_lives plan nodes links >>= not_too_many >>= λ first. sends_from nodes plan.outline.until first 0 plan.streams
