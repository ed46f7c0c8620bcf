-- What a new entry gives to the lanes of the code, and the room that it needs.
use Rattle.std.specs.Prelude.{ℕ, ◌==◌, ◌≡◌, ◌<◌, ◌≤◌, true, Option, List, [], ◌∷◌, ◌++◌, if◌then◌else◌, option_map, option_to_list, vec_capacity, length, slice_index_or}
use Rattle.std.specs.VecDeque.{deque_len, deque_capacity}
use Rattle.hsr_frame.specs.Layout.{max_frame}
use Rattle.hsr_topology.specs.declared.end.End.{End}
use Rattle.hsr_node.specs.Copies.{copy_octets}
use Rattle.hsr_node.specs.Record.{probe_handled}
use Rattle.hsr_node.specs.declared.entry.Receipt.{Receipt}
use Rattle.hsr_node.specs.declared.entry.Entry.{Entry}
use Rattle.hsr_node.specs.declared.event.Carried.{Carried}
use Rattle.hsr_node.specs.declared.event.Probe.{Probe}
use Rattle.hsr_node.specs.declared.place.Place.{Place}
use Rattle.hsr_world_laws.specs.Spans.{Lane, Span, emptied, on_lanes}
use Rattle.hsr_world_links.specs.Views.{span_view}
use Rattle.hsr_world_links.specs.declared.span.Span as code
use Rattle.hsr_world_links.specs.declared.lane.Lane as code-lane

-- an entry, and where it stands
abbrev pub receipt_of : Probe → Entry → Receipt
receipt_of here entry = record { node = here.node; place = here.place; entry = entry }

-- the copy of an entry that joins the outbox of a lane
abbrev pub given : Place → Receipt → Lane → List Carried
given place receipt lane =
    if lane.from.node == receipt.node
    then option_to_list (option_map (λ octets. record { probe = probe_handled (record { node = receipt.node; place = receipt.place }) receipt.entry.event; octets = octets })
    (copy_octets place receipt.entry.event receipt.entry.outcome lane.from.port))
    else []

-- a copy behind those of an outbox
abbrev pub with_copy : Option Probe → List ℕ → Lane → Lane
with_copy probe octets lane = record lane { outbox = lane.outbox ++ record { probe = probe; octets = octets } ∷ [] }

abbrev pub given_lane : Place → Receipt → Lane → Lane
given_lane place receipt lane = record lane { outbox = lane.outbox ++ given place receipt lane }

abbrev pub given_span : Place → Receipt → code.Span → Span
given_span place receipt span = on_lanes (given_lane place receipt) (span_view span)

-- room for one more copy in an outbox, and for the octets of the longest
pub record HasRoom (lane : code-lane.Lane) : Type 0 where
  pub outbox : deque_len lane.outbox < deque_capacity lane.outbox
  pub octets : max_frame ≤ vec_capacity lane.room

-- a node has room where it sends
abbrev pub IsReady : ℕ → code-lane.Lane → Type 0
IsReady node lane = (lane.from.node == node) ≡ true → HasRoom lane

pub record IsSpanReady (node : ℕ) (span : code.Span) : Type 0 where
  pub forth : IsReady node span.forth
  pub back : IsReady node span.back

-- so has it at each of these links
abbrev pub IsReadyAt : ℕ → List ℕ → List code.Span → ℕ → Type 0
IsReadyAt node links spans j = (d : code.Span) → IsSpanReady node (slice_index_or spans (slice_index_or links j 0) d)

abbrev pub AreReady : ℕ → List ℕ → List code.Span → Type 0
AreReady node links spans = (j : ℕ) → j < length links → IsReadyAt node links spans j

-- what a port holds leaves its hand
abbrev pub emptied_span : End → code.Span → Span
emptied_span end span = on_lanes (emptied end) (span_view span)
