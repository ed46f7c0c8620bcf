-- How the sends of a ring of DANHs are listed, by their destinations.
use Rattle.std.specs.Prelude.{ℕ, ◌==◌, not, Bool, if◌then◌else◌, List, [], filter, reverse, take, Option, None, option_map}
use Rattle.std.specs.List.{cons_option, range_with_len}
use Rattle.hsr_frame.specs.Address.{is_group, is_same_address}
use Rattle.hsr_frame.specs.Grammar.{Fields}
use Rattle.hsr_node.specs.Flow.{sent_by}
use Rattle.hsr_node.specs.declared.sending.Sending.{Sending}
use Rattle.hsr_node.specs.declared.entry.Entry.{Entry}
use Rattle.hsr_node.specs.declared.event.Probe.{Probe}
use Rattle.hsr_node.specs.declared.place.Place.{Place}
use Rattle.hsr_audit.specs.Certificate.{Certified, certified_in, receivers}
use Rattle.hsr_run_laws.specs.Once.{is_addressed}

-- a frame of which the destination alone counts
abbrev pub frame_to : List ℕ → Fields
frame_to dst = record { dst = dst; src = []; vlan = None; kind = 0; rest = [] }

abbrev pub dst_of : Sending → List ℕ
dst_of sending = sending.frame.dst

-- a frame to this destination is for the node with this number and address
abbrev pub is_for : List ℕ → List ℕ → ℕ → ℕ → Bool
is_for mac dst sender k = if is_group dst then not (k == sender) else is_same_address mac dst

-- where the frame goes that an entry of a node sends, if it is a send
unfoldable pub sent_to : Place → Entry → Option (List ℕ)
sent_to place x = option_map dst_of (sent_by place x.event x.outcome)

-- the nodes below one that a frame is for
abbrev pub receivers_below : List (List ℕ) → ℕ → List ℕ → ℕ → List ℕ
receivers_below macs sender dst n = filter (is_addressed macs sender (frame_to dst)) (range_with_len 0 n)

abbrev pub certified_to : List (List ℕ) → Probe → List ℕ → Certified
certified_to macs send dst = record { probe = send; receivers = receivers macs send.node (frame_to dst) }

-- what an entry adds to the list
unfoldable pub listed_by : List (List ℕ) → Probe → Place → Entry → List Certified
listed_by macs send place x = cons_option (option_map (certified_to macs send) (sent_to place x)) []

-- the sends of the first entries of a record
abbrev pub listed_at : List (List ℕ) → ℕ → Place → List Entry → ℕ → List Certified
listed_at macs number place xs i = certified_in macs (record { number = number; place = place }) (reverse (take i xs))
