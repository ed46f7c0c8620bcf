-- Interfaces, packets, and what was lost, without where they lie in memory.
use Rattle.std.specs.Prelude.{ℕ, zero, suc, ◌+◌, ◌-◌, ◌^◌, min, max, List, Option, Some, None, unwrap_or}
use Rattle.hsr_capture_reader.specs.declared.clock.Clock.{Clock}
use Rattle.hsr_capture_reader.specs.declared.fields.Losses.{Losses}
use Rattle.hsr_capture_reader.specs.declared.fields.Way.{Way}
use Rattle.hsr_capture_reader.specs.declared.fields.Way.TheVariants as the_way

-- an interface that packets were captured at
pub record InterfaceFields : Type 0 where
  pub name : List ℕ
  pub link : ℕ
  pub snap : ℕ
  pub clock : Clock
  pub fcs : ℕ

-- a packet that was captured: its octets and its length are without its frame check sequence
pub record PacketFields : Type 0 where
  pub moment : ℕ
  pub octets : List ℕ
  pub length : ℕ
  pub number : ℕ
  pub interface : ℕ
  pub way : Option Way

-- the direction with a number
abbrev pub way_by : ℕ → Option Way
way_by zero = None
way_by (suc zero) = Some the_way.In
way_by (suc (suc n)) = Some the_way.Out

-- ---- what was lost

-- a sum of 64 bits at most
abbrev pub capped_sum : ℕ → ℕ → ℕ
capped_sum a b = min (a + b) (2 ^ 64 - 1)

abbrev pub greater_of : Option ℕ → Option ℕ → Option ℕ
greater_of None b = b
greater_of (Some a) None = Some a
greater_of (Some a) (Some b) = Some (max a b)

-- the greater of what packets and what statistics say
abbrev pub dropped : Losses → Option ℕ
dropped losses = greater_of losses.by_packets losses.by_statistics

-- with what was lost before a packet (epb_dropcount)
abbrev pub add_dropped : Losses → Option ℕ → Losses
add_dropped losses None = losses
add_dropped losses (Some n) = record losses { by_packets = Some (capped_sum (unwrap_or losses.by_packets 0) n) }

-- with what statistics say, if they say it
abbrev pub set_dropped : Losses → Option ℕ → Losses
set_dropped losses None = losses
set_dropped losses (Some n) = record losses { by_statistics = Some n }
