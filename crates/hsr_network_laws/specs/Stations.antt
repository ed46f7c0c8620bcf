-- What a network promises of a single frame to a Station: its RedBox passes it down while it knows the Station.
--     FindsEach        a RedBox knew the destination of a send each time
--     IsReachedBelow   a send comes to a Station by the node that it is joined with
--     OnceToStation    so the Station takes it up once
use Rattle.std.specs.Prelude.{ℕ, ◌<◌, ◌≡◌, ◌⊎◌, ◌||◌, not, Bool, true, false, List, ◌∷◌, length, count_by}
use Rattle.hsr_frame.specs.Address.{is_group}
use Rattle.hsr_frame.specs.Grammar.{Fields}
use Rattle.hsr_node.specs.Record.{Each, Owner, knows, now, probe_handled}
use Rattle.hsr_node.specs.declared.entry.Entry.{Entry}
use Rattle.hsr_node.specs.declared.event.Probe.{Probe}
use Rattle.hsr_node.specs.declared.sending.Sending.{Sending}
use Rattle.hsr_run_laws.specs.Closed.{IsClosed, IsSend}
use Rattle.hsr_run_laws.specs.Once.{delivers}
use Rattle.hsr_run_laws.specs.Premises.{NothingForgotten, NothingMistaken, NumberedFirst, is_redbox}
use Rattle.hsr_run_laws.specs.Run.{Run, is_of, owner_of, past_of, place_of, record_of}
use Rattle.hsr_network_laws.specs.Delivered.{is_meant}
use Rattle.hsr_network_laws.specs.Network.{IsNetwork, Channel, is_station, start_of, stop_of}
use Rattle.hsr_network_laws.specs.Channels.{Carries, IsReached}

-- if an entry handles a send, its destination is known then
abbrev pub finds : Owner → Probe → List ℕ → Entry → List Entry → Bool
finds owner send dst x past = not (is_of send (probe_handled (record { node = owner.number; place = length past }) x.event)) || knows owner.place past (now (x ∷ past)) x.event dst

abbrev pub FindsEach : Run → Probe → List ℕ → ℕ → Type 0
FindsEach run send dst k = Each (λ x past. finds (owner_of run k) send dst x past ≡ true) (past_of run k)

-- The last channel ends at the Station. It starts at the sender, or at a RedBox that the send reaches; and a RedBox there
-- knew the destination each time.
pub record IsReachedBelow (run : Run) (send : Probe) (frame : Fields) (k : ℕ) : Type 0 where
  pub last : Channel
  pub carries : Carries run send last
  pub here : (stop_of run last).node ≡ k
  pub comes : ((start_of run last).node ≡ send.node) ⊎ ((is_redbox (place_of run (start_of run last).node) ≡ true) × IsReached run send frame (start_of run last).node)
  pub found : is_redbox (place_of run (start_of run last).node) ≡ true → FindsEach run send frame.dst (start_of run last).node

-- In a closed run of a network, with nothing forgotten and nothing mistaken, and where each RedBox numbers a frame of its Station
-- first, each Station took a single frame to it up once if it came so.
abbrev pub OnceToStation : Type 0
OnceToStation = (run : Run) → IsClosed run → IsNetwork run → NumberedFirst run → NothingForgotten run → NothingMistaken run → (send : Probe) (sending : Sending) (k : ℕ) →
    IsSend run send sending → is_group sending.frame.dst ≡ false → k < length run.places → is_station (place_of run k) ≡ true →
    is_meant send.node sending.frame k (place_of run k) ≡ true → IsReachedBelow run send sending.frame k → count_by (delivers send) (record_of run k) ≡ 1
