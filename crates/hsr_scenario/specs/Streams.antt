-- From which streams the sends of a scenario are, node by node.
--     sent_in       what the table of a step sends
--     streams_of    of each node the streams of its sends, in their order
use Rattle.std.specs.Prelude.{ℕ, ◌==◌, Bool, true, false, List, [], ◌∷◌, map, Result, Ok, Err, if◌then◌else◌}
use Rattle.std.specs.List.{flat_map, range_with_len}
use Rattle.toml.specs.Data.{Members}
use Rattle.hsr_toml.specs.Fallible.{◌>>=◌}
use Rattle.hsr_toml.specs.Tables.{needed, optional, tables, word}
use Rattle.hsr_scenario.specs.Fault.{faults}
use Rattle.hsr_scenario.specs.Links.{used_name}
use Rattle.hsr_scenario.specs.Steps.{stream}
use Rattle.hsr_scenario.specs.Words.{deed_of}
use Rattle.hsr_scenario.specs.declared.fault.Key.TheVariants as key
use Rattle.hsr_scenario.specs.declared.fault.What.{What}
use Rattle.hsr_scenario.specs.declared.nodes.Named.{Named}
use Rattle.hsr_scenario.specs.declared.words.Deed.{Deed}
use Rattle.hsr_scenario.specs.declared.words.Deed.TheVariants as deed

-- a node sends a frame, which is from a stream of that name; from none, where that is empty
pub record Sending : Type 0 where
  pub node : ℕ
  pub stream : List ℕ

-- ---- tables of steps

-- a frame, or a supervision frame
abbrev pub is_sending : Deed → Bool
is_sending deed.Send = true
is_sending deed.Life = true
is_sending _ = false

abbrev pub sending : List Named → Members → Result (List Sending) What
sending nodes ms = needed faults key.Node (used_name nodes) ms >>= λ node. stream ms >>= λ name. Ok (record { node = node; stream = name } ∷ [])

abbrev pub sent_by : List Named → Members → Deed → Result (List Sending) What
sent_by nodes ms deed = if is_sending deed then sending nodes ms else Ok []

-- what a step sends, or its fault
abbrev pub sent_if : List Named → Members → Result (List Sending) What
sent_if nodes ms = needed faults key.Do (word faults deed_of) ms >>= sent_by nodes ms

-- what is read; nothing, where it can't be
abbrev pub or_none : {A : Type 0} → Result (List A) What → List A
or_none (Ok xs) = xs
or_none (Err what) = []

-- what the table of a step sends: nothing, where it is no send or life at a node that is there
unfoldable pub sent_in : List Named → Members → List Sending
sent_in nodes ms = or_none (sent_if nodes ms)

-- the tables of a document's steps; none, where these are no tables
abbrev pub step_tables : Members → List Members
step_tables ms = or_none (optional faults key.Step [] (tables faults) ms)

-- ---- nodes

abbrev pub stream_at : ℕ → Sending → List (List ℕ)
stream_at k send = if send.node == k then send.stream ∷ [] else []

-- the streams of what a node sends, one for each
abbrev pub streams_at : List Sending → ℕ → List (List ℕ)
streams_at sends k = flat_map (stream_at k) sends

-- of each of so many nodes
abbrev pub streams_of : ℕ → List Sending → List (List (List ℕ))
streams_of nodes sends = map (streams_at sends) (range_with_len 0 nodes)
