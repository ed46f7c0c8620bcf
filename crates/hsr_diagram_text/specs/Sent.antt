-- Sends as they are listed.
--     sent_words   who sent it, to whom, and whether it is complete
use Rattle.std.specs.Prelude.{ℕ, Bool, true, false, if◌then◌else◌, List, [], ◌++◌, codes, slice_get, Option, Some, None}
use Rattle.hsr_frame.specs.Address.{is_group}
use Rattle.hsr_node.specs.declared.entry.Entry.{Entry}
use Rattle.hsr_node.specs.declared.event.Event.{Event}
use Rattle.hsr_node.specs.declared.event.Event.TheVariants.{Supervise}
use Rattle.hsr_node.specs.declared.event.Probe.{Probe}
use Rattle.hsr_run_laws.specs.Run.{Run, record_of}
use Rattle.hsr_deliveries.specs.Delivered.{Delivery, is_complete, is_none}
use Rattle.hsr_diagram_text.specs.Sends.{nodes_text, send_text}
use Rattle.hsr_text.specs.Words.{mac_text}

abbrev pub event_is_supervision : Event → Bool
event_is_supervision (Supervise about) = true
event_is_supervision event = false

abbrev pub entry_is_supervision : Option Entry → Bool
entry_is_supervision None = false
entry_is_supervision (Some x) = event_is_supervision x.event

-- a send is a supervision frame
abbrev pub is_supervision : Run → Probe → Bool
is_supervision run send = entry_is_supervision (slice_get (record_of run send.node) send.place)

-- to the nodes that a frame is due at, where it goes to no group and is due at one; else to an address
abbrev pub address_words : List (List ℕ) → List ℕ → List ℕ → List ℕ
address_words names dst due = if is_group dst then codes " to " ++ mac_text dst else (if is_none due then codes " to " ++ mac_text dst else nodes_text names (codes " to ") due)

abbrev pub target_text : List (List ℕ) → Run → Delivery → List ℕ
target_text names run d = if is_supervision run d.send then codes " supervision" else address_words names d.dst d.due

abbrev pub complete_if : Bool → List ℕ
complete_if true = []
complete_if false = codes " (incomplete)"

unfoldable pub sent_words : List (List ℕ) → Run → Delivery → List ℕ
sent_words names run d = send_text names d.send ++ target_text names run d ++ complete_if (is_complete d)
