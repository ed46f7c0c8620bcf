-- A ring with losses on at most one link is a network that its frames cross.
--     IsCrossed       a network, each send of which reaches all nodes that it is for
--     RingIsCrossed   a ring is one
use Rattle.std.specs.Prelude.{ℕ, List}
use Rattle.hsr_run_laws.specs.Closed.{IsClosed}
use Rattle.hsr_run_laws.specs.Premises.{IsRing, OneLossyLink}
use Rattle.hsr_run_laws.specs.Run.{Run}
use Rattle.hsr_network_laws.specs.Delivered.{AllCovered, AllReached}
use Rattle.hsr_network_laws.specs.Late.{NothingLate}
use Rattle.hsr_network_laws.specs.Network.{IsNetwork}

-- a network in which nothing gets its number late, and each send is covered and reaches all nodes that it is for
pub record IsCrossed (run : Run) : Type 0 where
  pub network : IsNetwork run
  pub in_time : NothingLate run
  pub covered : AllCovered run
  pub reached : AllReached run

-- So is each closed run of a ring with losses on at most one link.
abbrev pub RingIsCrossed : Type 0
RingIsCrossed = (run : Run) (macs : List (List ℕ)) → IsClosed run → IsRing run macs → OneLossyLink run → IsCrossed run
