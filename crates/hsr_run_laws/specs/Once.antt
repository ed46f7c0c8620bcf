-- What a ring promises of each frame.
--     is_addressed   addressed: whom a frame is for
--     ExactlyOnce    each node that a frame is for took it up once, and nothing else went up
--     IsCalm         no direction of a link carried two copies of one send, where nothing was forgotten
--     NoStorm        a closed run is calm
use Rattle.std.specs.Prelude.{ℕ, ◌<◌, ◌≤◌, ◌≡◌, ◌==◌, ◌&&◌, not, Bool, true, false, List, length, count_by, Option, Some, if◌then◌else◌}
use Rattle.hsr_frame.specs.Address.{is_group, is_same_address}
use Rattle.hsr_frame.specs.Egress.{up}
use Rattle.hsr_frame.specs.Grammar.{Fields, spelling}
use Rattle.hsr_node.specs.Copies.{up_octets}
use Rattle.hsr_node.specs.declared.sending.Sending.{Sending}
use Rattle.hsr_node.specs.Record.{Each, leaves}
use Rattle.hsr_node.specs.declared.entry.Entry.{Entry}
use Rattle.hsr_node.specs.declared.event.Carried.{Carried}
use Rattle.hsr_node.specs.declared.event.Event.{Event}
use Rattle.hsr_node.specs.declared.event.Event.TheVariants.{Arrive}
use Rattle.hsr_node.specs.declared.event.Outcome.{Outcome}
use Rattle.hsr_node.specs.declared.event.Probe.{Probe}
use Rattle.hsr_link.specs.Rows.{put_copies}
use Rattle.hsr_link.specs.declared.row.Dir.{Dir}
use Rattle.hsr_run_laws.specs.Closed.{IsClosed, IsOfSend, IsSend}
use Rattle.hsr_run_laws.specs.Premises.{IsRing, NothingForgotten, NothingMistaken, NumberedFirst, OneLossyLink, mac_at}
use Rattle.hsr_run_laws.specs.Run.{Run, ends_of, from_end, is_of, past_of, record_of, rows_of}

-- a frame to a group is for each node but the sender, any other for the node with its address
abbrev pub is_addressed : List (List ℕ) → ℕ → Fields → ℕ → Bool
is_addressed macs sender frame k = if is_group frame.dst then not (k == sender) else is_same_address (mac_at macs k) frame.dst

-- an arrival of this send went up
abbrev pub delivers_by : Probe → Event → Outcome → Bool
delivers_by send (Arrive port copy) outcome = is_of send copy.probe && leaves outcome up
delivers_by send event outcome = false

abbrev pub delivers : Probe → Entry → Bool
delivers send x = delivers_by send x.event x.outcome

-- what goes up is the plain frame of a send
pub record IsFrameOfSend (run : Run) (copy : Carried) (octets : Option (List ℕ)) : Type 0 where
  pub of_send : IsOfSend run copy
  pub plain : octets ≡ Some (spelling of_send.sending.frame)

abbrev pub GoesUp : Run → Event → Outcome → Type 0
GoesUp run (Arrive port copy) outcome = leaves outcome up ≡ true → IsFrameOfSend run copy (up_octets (Arrive port copy) outcome)
GoesUp run event outcome = Unit {0}

-- At each node that a send is for one arrival of it went up, at no other node did one, and all that went up anywhere
-- was the frame of a send.
pub record IsExactlyOnce (run : Run) (macs : List (List ℕ)) : Type 0 where
  pub once : (send : Probe) (sending : Sending) (k : ℕ) → IsSend run send sending → k < length macs →
      is_addressed macs send.node sending.frame k ≡ true → count_by (delivers send) (record_of run k) ≡ 1
  pub none : (send : Probe) (sending : Sending) (k : ℕ) → IsSend run send sending → k < length macs →
      is_addressed macs send.node sending.frame k ≡ false → count_by (delivers send) (record_of run k) ≡ 0
  pub nothing_else : (k : ℕ) → k < length macs → Each (λ x past. GoesUp run x.event x.outcome) (past_of run k)

-- In a closed run of a ring, with losses on at most one link, nothing forgotten and nothing mistaken, each node that a
-- frame is for took it up once, and nothing else went up.
abbrev pub ExactlyOnce : Type 0
ExactlyOnce = (run : Run) (macs : List (List ℕ)) → IsClosed run → IsRing run macs → OneLossyLink run →
    NothingForgotten run → NothingMistaken run → IsExactlyOnce run macs

-- each link ends at nodes that there are
abbrev pub HasNodes : Run → Type 0
HasNodes run = (l : ℕ) (dir : Dir) → l < length run.links → (from_end dir (ends_of run l)).node < length run.places

-- a row's copy that a node put, of this send
abbrev pub is_copy : Probe → Carried → Bool
is_copy send copy = is_of send copy.probe

-- Where nothing was forgotten, no direction of a link carried two copies of one send.
unfoldable pub IsCalm : Run → Type 0
IsCalm run = NothingForgotten run → (l : ℕ) (dir : Dir) (send : Probe) → l < length run.links → count_by (is_copy send) (put_copies dir (rows_of run l)) ≤ 1

-- So it is in a closed run in which each RedBox numbers a Station's frame first.
abbrev pub NoStorm : Type 0
NoStorm = (run : Run) → HasNodes run → IsClosed run → NumberedFirst run → IsCalm run
