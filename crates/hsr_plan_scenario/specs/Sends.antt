-- When a scenario's orders send, and from which streams.
use Rattle.std.specs.Prelude.{ℕ, max, Bool, true, false, List, [], ◌∷◌, ◌++◌, drop, slice_get, unwrap_or, if◌then◌else◌}
use Rattle.hsr_world_steps.specs.declared.step.Step.TheVariants.{Clock, Send, Supervise}
use Rattle.hsr_scenario.specs.declared.steps.Order.{Order}
use Rattle.hsr_scenario.specs.declared.steps.Order.TheVariants.{Step}
use Rattle.hsr_scenario.specs.Streams.{Sending}

-- an order sends a frame, or a supervision frame
abbrev pub is_sending : Order → Bool
is_sending (Step (Send k from dst vlan ethertype payload)) = true
is_sending (Step (Supervise k about)) = true
is_sending order = false

-- the moment behind an order, in microseconds: a clock that is set back takes none away
abbrev pub moment_behind : ℕ → Order → ℕ
moment_behind now (Step (Clock at)) = max now at
moment_behind now order = now

-- the moments of the sends of orders, before which it was so late
abbrev pub send_moments : ℕ → List Order → List ℕ
send_moments now [] = []
send_moments now (order ∷ orders) = (if is_sending order then now ∷ [] else []) ++ send_moments (moment_behind now order) orders

-- ---- streams

-- the name of the stream from which the next frame is, where the streams have these names, and the frames are from streams of these numbers
abbrev pub next_stream : List (List ℕ) → List ℕ → List ℕ
next_stream streams [] = []
next_stream streams (i ∷ sends) = unwrap_or (slice_get streams i) []

-- the streams of the frames behind an order
abbrev pub sends_behind : Order → List ℕ → List ℕ
sends_behind (Step (Send k from dst vlan ethertype payload)) sends = drop 1 sends
sends_behind order sends = sends

-- what an order sends, where the next frame is from the stream of this name: supervision is from none
abbrev pub sent_by : List ℕ → Order → List Sending
sent_by name (Step (Send k from dst vlan ethertype payload)) = record { node = k; stream = name } ∷ []
sent_by name (Step (Supervise k about)) = record { node = k; stream = [] } ∷ []
sent_by name order = []

-- what orders send
abbrev pub sent_by_all : List (List ℕ) → List ℕ → List Order → List Sending
sent_by_all streams sends [] = []
sent_by_all streams sends (order ∷ orders) = sent_by (next_stream streams sends) order ++ sent_by_all streams (sends_behind order sends) orders
