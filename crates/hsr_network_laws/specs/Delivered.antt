-- What a network promises of each frame.
--     is_meant        whom a frame is for
--     is_covered      which frames come to all that they reach
--     OnceInNetwork   each node that a frame is for and reaches took it up once, and nothing else went up
use Rattle.std.specs.Prelude.{ℕ, ◌<◌, ◌≤◌, ◌≡◌, ◌==◌, ◌&&◌, ◌||◌, not, Bool, true, false, List, length, count_by, if◌then◌else◌}
use Rattle.std.specs.List.{list_any}
use Rattle.hsr_frame.specs.Address.{is_among, is_group, is_same_address}
use Rattle.hsr_frame.specs.Grammar.{Fields}
use Rattle.hsr_node.specs.Record.{Each}
use Rattle.hsr_node.specs.declared.event.Probe.{Probe}
use Rattle.hsr_node.specs.declared.place.Place.{Place}
use Rattle.hsr_node.specs.declared.place.Place.TheVariants.{Danh, RedBox, QuadBox, Station}
use Rattle.hsr_node.specs.declared.sending.Sending.{Sending}
use Rattle.hsr_run_laws.specs.Closed.{IsClosed, IsSend}
use Rattle.hsr_run_laws.specs.Once.{GoesUp, delivers}
use Rattle.hsr_run_laws.specs.Premises.{NothingForgotten, NothingMistaken, NumberedFirst}
use Rattle.hsr_run_laws.specs.Run.{Run, past_of, place_of, record_of}
use Rattle.hsr_network_laws.specs.Network.{IsNetwork, is_station_with}
use Rattle.hsr_network_laws.specs.Channels.{IsReached}

-- a frame to a group is for each node but its sender and QuadBoxes, any other for the node with its address
abbrev pub is_meant : ℕ → Fields → ℕ → Place → Bool
is_meant sender frame k (Danh mac mode) = if is_group frame.dst then not (k == sender) else is_same_address mac frame.dst
is_meant sender frame k (RedBox mac mode) = not (k == sender) && (is_group frame.dst || is_same_address mac frame.dst)
is_meant sender frame k QuadBox = false
is_meant sender frame k (Station macs) = not (k == sender) && (is_group frame.dst || is_among macs.items frame.dst)

-- a frame to a group, or to an address that no Station has
abbrev pub is_covered : List Place → Fields → Bool
is_covered places frame = is_group frame.dst || not (list_any (is_station_with frame.dst) places)

-- all sends are covered, and they reach all nodes that they are for
abbrev pub AllCovered : Run → Type 0
AllCovered run = (send : Probe) (sending : Sending) → IsSend run send sending → is_covered run.places sending.frame ≡ true

abbrev pub AllReached : Run → Type 0
AllReached run = (send : Probe) (sending : Sending) (k : ℕ) → IsSend run send sending → k < length run.places →
    is_meant send.node sending.frame k (place_of run k) ≡ true → IsReached run send sending.frame k

-- At each node that a covered send is for and reaches one arrival of it went up, at no node that a send is for more than one, at
-- none that it isn't for, and all that went up anywhere was the frame of a send.
pub record IsOnceInNetwork (run : Run) : Type 0 where
  pub once : (send : Probe) (sending : Sending) (k : ℕ) → IsSend run send sending → is_covered run.places sending.frame ≡ true → k < length run.places →
      is_meant send.node sending.frame k (place_of run k) ≡ true → IsReached run send sending.frame k → count_by (delivers send) (record_of run k) ≡ 1
  pub most : (send : Probe) (sending : Sending) (k : ℕ) → IsSend run send sending → k < length run.places →
      is_meant send.node sending.frame k (place_of run k) ≡ true → count_by (delivers send) (record_of run k) ≤ 1
  pub none : (send : Probe) (sending : Sending) (k : ℕ) → IsSend run send sending → k < length run.places →
      is_meant send.node sending.frame k (place_of run k) ≡ false → count_by (delivers send) (record_of run k) ≡ 0
  pub nothing_else : (k : ℕ) → k < length run.places → Each (λ x past. GoesUp run x.event x.outcome) (past_of run k)

-- In a closed run of a network, with nothing forgotten and nothing mistaken, and where each RedBox numbers a frame of its
-- Station first, each node that a covered frame is for and reaches took it up once, and nothing else went up.
abbrev pub OnceInNetwork : Type 0
OnceInNetwork = (run : Run) → IsClosed run → IsNetwork run → NumberedFirst run → NothingForgotten run → NothingMistaken run → IsOnceInNetwork run
