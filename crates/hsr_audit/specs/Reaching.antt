-- Whom a send comes to, by what is found of it, and which node that it is due at it doesn't come to first.
use Rattle.std.specs.Prelude.{ℕ, ◌<◌, ◌≡◌, ◌↔◌, ◌==◌, ◌&&◌, ◌||◌, not, Bool, true, List, length, Option, Some, None}
use Rattle.std.specs.List.{list_any}
use Rattle.hsr_frame.specs.Grammar.{Fields}
use Rattle.hsr_node.specs.declared.event.Probe.{Probe}
use Rattle.hsr_deliveries.specs.Delivered.{is_due}
use Rattle.hsr_run_laws.specs.Premises.{is_redbox}
use Rattle.hsr_run_laws.specs.Run.{Run, place_of, rows_of}
use Rattle.hsr_network_laws.specs.Network.{Channel, start_of, stop_of}
use Rattle.hsr_network_laws.specs.Channels.{IsReached, is_loss}
use Rattle.hsr_bitset.specs.Numbers.{has}
use Rattle.hsr_table_flaws.specs.Flaws.{IsFirstNot}
use Rattle.hsr_routes.specs.Numbered.{number_of}
use Rattle.hsr_audit.specs.Coming.{Comes}
use Rattle.hsr_audit.specs.Sends.{IsCutOff, IsServedAt}
use Rattle.hsr_audit.specs.Placed.{HoldsBelow, HoldsIn, IsFirstOf}
use Rattle.hsr_audit.specs.declared.cutoff.Cut.{Cut}
use Rattle.hsr_audit.specs.declared.cutoff.Spread.{Spread}

-- a set has just the channels on which a copy of a send was lost
abbrev pub IsLossOf : Run → Probe → List ℕ → Type 0
IsLossOf run send set = (channel : Channel) → channel.link < length run.links → has set (number_of channel) ≡ list_any (is_loss send channel.dir) (rows_of run channel.link)

abbrev pub AreReached : Run → Probe → Fields → List ℕ → Type 0
AreReached run send frame nodes = (k : ℕ) → k < length run.places → (has nodes k ≡ true) ↔ IsReached run send frame k

-- the nodes that a send reaches, and the channels on which copies of it were lost
pub record IsSpreadOf (run : Run) (send : Probe) (frame : Fields) (spread : Spread) : Type 0 where
  pub nodes : AreReached run send frame spread.nodes
  pub lossy : IsLossOf run send spread.lossy

-- by these a channel ends at a node, lost no copy of a send, and starts at its sender or at a RedBox that it reaches
abbrev pub is_last_in : Run → ℕ → Spread → ℕ → Channel → Bool
is_last_in run sender spread k channel =
    (((stop_of run channel).node == k) && not (has spread.lossy (number_of channel))) && (((start_of run channel).node == sender) || (is_redbox (place_of run (start_of run channel).node) && has spread.nodes (start_of run channel).node))

-- ---- one send

-- a send comes to those of the nodes below one that it is due at
abbrev pub ServedBelow : Run → Probe → Fields → ℕ → Type 0
ServedBelow run send frame n = (k : ℕ) → k < n → is_due run send.node frame.dst frame.kind k ≡ true → Comes run send frame k

-- the lowest node that a send is due at and doesn't come to
pub record IsUnserved (run : Run) (send : Probe) (frame : Fields) (n : ℕ) : Type 0 where
  pub below : n < length run.places
  pub due : is_due run send.node frame.dst frame.kind n ≡ true
  pub missing : ¬ Comes run send frame n
  pub before : ServedBelow run send frame n

abbrev pub IsFirstUnserved : Run → Probe → Fields → Option ℕ → Type 0
IsFirstUnserved run send frame None = ServedBelow run send frame (length run.places)
IsFirstUnserved run send frame (Some n) = IsUnserved run send frame n

abbrev pub IsCutAt : Run → ℕ → ℕ → Option ℕ → Type 0
IsCutAt run k i None = IsServedAt run k i
IsCutAt run k i (Some n) = IsCutOff run k i n

-- ---- all sends

abbrev pub IsCutIn : Run → ℕ → ℕ → Option (ℕ × ℕ) → Type 0
IsCutIn run k n None = HoldsBelow (IsServedAt run) k n
IsCutIn run k n (Some at) = IsFirstOf (IsServedAt run) k n at.0 × IsCutOff run k at.0 at.1

abbrev pub IsFirstCut : Run → Option Cut → Type 0
IsFirstCut run None = HoldsIn run (IsServedAt run) (length run.places)
IsFirstCut run (Some cut) = IsFirstNot run (IsServedAt run) cut.node cut.place × IsCutOff run cut.node cut.place cut.receiver
