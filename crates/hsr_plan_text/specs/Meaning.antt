-- What a document says as a plan, or its first fault.
use Rattle.std.specs.Prelude.{ℕ, ◌*◌, ◌^◌, List, [], ◌∷◌, Option, Some, None, Result, Ok, Err}
use Rattle.toml.specs.Data.{Data, Members}
use Rattle.hsr_toml.specs.Documents.{document_of}
use Rattle.hsr_toml.specs.declared.document.NoDocument.{NoDocument}
use Rattle.hsr_toml.specs.declared.document.NoDocument.TheVariants.{NoToml, NoMemory as NoRoom}
use Rattle.hsr_toml.specs.Fallible.{◌>>=◌}
use Rattle.hsr_plan_text.specs.Fallible.{at_spot, each}
use Rattle.hsr_plan_text.specs.Moves.{moves_in}
use Rattle.hsr_plan_text.specs.Network.{network_in}
use Rattle.hsr_plan_text.specs.Streams.{stream_in}
use Rattle.hsr_plan_text.specs.Events.{event_in}
use Rattle.hsr_plan_text.specs.Plan.{Outline, Plan, Stream}
use Rattle.hsr_toml.specs.Tables.{between, optional, perhaps, tables, word}
use Rattle.hsr_plan_text.specs.Fault.{faults}
use Rattle.hsr_plan_text.specs.Tables.{moment, only}
use Rattle.hsr_plan_text.specs.Words.{title_of}
use Rattle.hsr_plan_text.specs.declared.fault.Key.{Key}
use Rattle.hsr_plan_text.specs.declared.fault.Key.TheVariants as key
use Rattle.hsr_plan_text.specs.declared.fault.Spot.TheVariants as spot
use Rattle.hsr_plan_text.specs.declared.fault.What.{What}
use Rattle.hsr_plan_text.specs.declared.fault.What.TheVariants.{Text, NoMemory}
use Rattle.hsr_plan_text.specs.declared.fault.PlanFault.{PlanFault}
use Rattle.hsr_plan_text.specs.declared.plan.Event.{Event}

-- milliseconds as microseconds
abbrev pub milliseconds : Key → Data → Result ℕ What
milliseconds key d = between faults 0 (2 ^ 30) key d >>= λ n. Ok (n * 1000)

abbrev pub top_keys : List Key
top_keys = key.Title ∷ key.Ring ∷ key.Rings ∷ key.RedBox ∷ key.Address ∷ key.Mode ∷ key.Capacity ∷ key.Life ∷ key.Until ∷ key.Epoch ∷ key.Moves ∷ key.Hop ∷ key.Rate ∷ key.Residence ∷ key.Switching ∷ key.Stream ∷ key.Event ∷ []

-- ---- the document

-- the plan's own values and its network
unfoldable pub outline : Members → Result Outline What
outline ms = do
  _ ← only top_keys ms
  title ← optional faults key.Title None (perhaps (word faults title_of)) ms
  capacity ← optional faults key.Capacity None (perhaps (between faults 1 4096)) ms
  life ← optional faults key.Life 2000000 milliseconds ms
  until ← optional faults key.Until None (perhaps moment) ms
  epoch ← optional faults key.Epoch 0 (between faults 0 4294967295) ms
  moves ← moves_in ms
  network ← network_in ms
  Ok (record { title = title; capacity = capacity; life = life; until = until; epoch = epoch; moves = moves; network = network })

abbrev pub streams_in : Members → Result (List Stream) PlanFault
streams_in ms = at_spot spot.Top (optional faults key.Stream [] (tables faults) ms) >>= each spot.Stream stream_in []

abbrev pub events_in : Members → Result (List Event) PlanFault
events_in ms = at_spot spot.Top (optional faults key.Event [] (tables faults) ms) >>= each spot.Event event_in []

-- the values and the network, then streams, then events
unfoldable pub document : Members → Result Plan PlanFault
document ms = do
  outline ← at_spot spot.Top (outline ms)
  streams ← streams_in ms
  events ← events_in ms
  Ok (record { outline = outline; streams = streams; events = events })

-- why a text is no document, as a fault of the plan
abbrev pub text_fault : NoDocument → PlanFault
text_fault NoToml = record { spot = spot.Top; what = Text }
text_fault NoRoom = record { spot = spot.Top; what = NoMemory }

abbrev pub document_if : Option Members → Result Plan PlanFault
document_if None = Err (text_fault NoToml)
document_if (Some ms) = document ms

abbrev pub plan_of : List ℕ → Result Plan PlanFault
plan_of text = document_if (document_of text)
