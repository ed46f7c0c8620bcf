-- The channels of a frame through a network.
--     passes_on, lets_out   which nodes pass it on, and by which ports, where no Station has its destination
--     Carries               no copy of a send was lost on a channel
--     ComesOver             a send comes to the end of a channel, over channels that carry it
--     IsReached             and to a node
use Rattle.std.specs.Prelude.{ℕ, ◌<◌, ◌≡◌, ◌==◌, ◌&&◌, ◌||◌, not, Bool, true, false, length}
use Rattle.std.specs.List.{list_any}
use Rattle.hsr_frame.specs.Address.{is_group, is_same_address}
use Rattle.hsr_frame.specs.Egress.{is_supervision}
use Rattle.hsr_frame.specs.Grammar.{Fields}
use Rattle.hsr_frame.specs.declared.node.Mode.{Mode}
use Rattle.hsr_frame.specs.declared.node.Mode.TheVariants.{H, N, U}
use Rattle.hsr_node.specs.declared.event.Probe.{Probe}
use Rattle.hsr_node.specs.declared.place.Place.{Place}
use Rattle.hsr_node.specs.declared.place.Place.TheVariants.{Danh, RedBox, QuadBox, Station}
use Rattle.hsr_link.specs.Rows.{goes, is_lost}
use Rattle.hsr_link.specs.declared.row.Dir.{Dir}
use Rattle.hsr_link.specs.declared.row.Row.{Row}
use Rattle.hsr_run_laws.specs.Once.{is_copy}
use Rattle.hsr_run_laws.specs.Run.{Run, place_of, rows_of}
use Rattle.hsr_network_laws.specs.Network.{Channel, start_of, stop_of}

-- ---- nodes

-- in mode U a node passes on what it alone is to have
abbrev pub keeps_own : Mode → Bool
keeps_own H = true
keeps_own N = true
keeps_own U = false

-- A QuadBox passes each frame on. A DANH or a RedBox passes on what it didn't send; but what it alone is to have it passes on in
-- mode U only, and a RedBox never from its interlink. The last number is the port of arrival.
abbrev pub passes_on : ℕ → Fields → ℕ → Place → ℕ → Bool
passes_on sender frame k (Danh mac mode) port = not (k == sender) && not (keeps_own mode && is_same_address mac frame.dst)
passes_on sender frame k (RedBox mac mode) port = not (k == sender) && not ((keeps_own mode || port == 2) && is_same_address mac frame.dst)
passes_on sender frame k QuadBox port = true
passes_on sender frame k (Station macs) port = false

-- by each port but that of arrival; but by an interlink only what is to a group, and no supervision frame
abbrev pub lets_out : Fields → Place → ℕ → Bool
lets_out frame (Danh mac mode) port = true
lets_out frame (RedBox mac mode) port = not (port == 2) || (is_group frame.dst && not (is_supervision frame.dst frame.kind))
lets_out frame QuadBox port = true
lets_out frame (Station macs) port = true

-- ---- loss

-- a row of a direction, with a copy of a send that was lost
abbrev pub is_loss : Probe → Dir → Row → Bool
is_loss send dir row = goes dir row && is_copy send row.carried && is_lost row.fate

-- no copy of a send was lost on a channel
pub record Carries (run : Run) (send : Probe) (channel : Channel) : Type 0 where
  pub below : channel.link < length run.links
  pub kept : list_any (is_loss send channel.dir) (rows_of run channel.link) ≡ false

-- ---- channels

-- from the sender
pub record IsFirstChannel (run : Run) (send : Probe) (frame : Fields) (channel : Channel) : Type 0 where
  pub node : (start_of run channel).node ≡ send.node
  pub out : lets_out frame (place_of run (start_of run channel).node) (start_of run channel).port ≡ true

-- from the end of a channel by another port of that node, unless back to the sender
pub record IsNextChannel (run : Run) (send : Probe) (frame : Fields) (channel next : Channel) : Type 0 where
  pub node : (start_of run next).node ≡ (stop_of run channel).node
  pub port : (start_of run next).port ≡ (stop_of run channel).port → ⊥
  pub passes : passes_on send.node frame (stop_of run channel).node (place_of run (stop_of run channel).node) (stop_of run channel).port ≡ true
  pub out : lets_out frame (place_of run (start_of run next).node) (start_of run next).port ≡ true
  pub away : (stop_of run next).node ≡ send.node → ⊥

-- to the end of a channel
pub data ComesOver (run : Run) (send : Probe) (frame : Fields) : Channel → Type 0 where
  sent : (channel : Channel) → Carries run send channel → IsFirstChannel run send frame channel → ComesOver run send frame channel
  on : (channel next : Channel) → ComesOver run send frame channel → Carries run send next → IsNextChannel run send frame channel next → ComesOver run send frame next

-- to a node
pub record IsReached (run : Run) (send : Probe) (frame : Fields) (k : ℕ) : Type 0 where
  pub channel : Channel
  pub comes : ComesOver run send frame channel
  pub here : (stop_of run channel).node ≡ k
