-- How much came at an interface, in bits on the wire.
--     wire_bits     a packet with its preamble, its frame check sequence and the gap behind it, of the least frame or more
--     load_of       of all packets of an interface
--     peak_of       the greatest sum in a time of so many nanoseconds that begins with a packet
use Rattle.std.specs.Prelude.{ℕ, ◌≡◌, ◌+◌, ◌-◌, ◌*◌, ◌<◌, ◌≤◌, ◌^◌, ◌==◌, max, min, nat_lt, Bool, true, false, List, [], ◌∷◌, filter, length, map, slice_get, Option, Some, None}
use Rattle.std.specs.List.{sum_by}
use Rattle.hsr_capture_reader.specs.Fields.{PacketFields}
use Rattle.hsr_taps.specs.Tallies.{is_at}
use Rattle.hsr_health.specs.declared.load.Load.{Load}
use Rattle.hsr_health.specs.declared.load.Weighed.{Weighed}

-- IEEE 802.3 clause 4: 60 octets at least; 8 of preamble, 4 of the frame check sequence, 12 of the gap. A number of 64 bits at most.
abbrev pub wire_bits : PacketFields → ℕ
wire_bits p = min ((max p.length 60 + 24) * 8) (2 ^ 64 - 1)

-- a packet's moment, and its bits
abbrev pub weighed : PacketFields → Weighed
weighed p = record { at = p.moment; bits = wire_bits p }

-- the packets of an interface
abbrev pub own_packets : ℕ → List PacketFields → List Weighed
own_packets interface packets = map weighed (filter (λ p. p.interface == interface) packets)

abbrev pub load_of : List Weighed → ℕ
load_of packets = sum_by (λ w. w.bits) packets

-- of packets in the order of time, those less than a time after the first
abbrev pub sum_from : ℕ → Weighed → List Weighed → ℕ
sum_from width first packets = load_of (filter (λ w. nat_lt (w.at - first.at) width) packets)

abbrev pub peak_of : ℕ → List Weighed → ℕ
peak_of width [] = 0
peak_of width (w ∷ packets) = max (sum_from width w (w ∷ packets)) (peak_of width packets)

-- a number of 64 bits at most
abbrev pub capped : ℕ → ℕ
capped n = min n (2 ^ 64 - 1)

-- of the whole time, and the most in a millisecond and in a second
abbrev pub load_by : List Weighed → Load
load_by packets = record { all = capped (load_of packets); in_1ms = capped (peak_of 1000000 packets); in_1s = capped (peak_of 1000000000 packets) }

-- nothing of an interface that isn't looked at
abbrev pub load_if : Bool → List Weighed → Load
load_if true packets = load_by packets
load_if false packets = record { all = 0; in_1ms = 0; in_1s = 0 }

-- of each interface
abbrev pub AreLoads : List Bool → List PacketFields → List Load → Type 0
AreLoads looked packets loads = (i : ℕ) (own : Load) → slice_get loads i ≡ Some own → own ≡ load_if (is_at looked i) (own_packets i packets)

-- ---- how it is computed

abbrev pub weighed_or : Option PacketFields → Weighed
weighed_or None = record { at = 0; bits = 0 }
weighed_or (Some p) = weighed p

-- the packet with an index, as it weighs
abbrev pub weighed_at : List PacketFields → ℕ → Weighed
weighed_at packets k = weighed_or (slice_get packets k)

-- no packet comes before one that stands in front of it
abbrev pub Rise : List Weighed → Type 0
Rise packets = (j k : ℕ) (v w : Weighed) → j ≤ k → slice_get packets j ≡ Some v → slice_get packets k ≡ Some w → v.at ≤ w.at

-- the first packet from an index on that came a time after a moment, or later
pub record IsEndFrom (packets : List Weighed) (from at width found : ℕ) : Type 0 where
  pub behind : from ≤ found
  pub within : found ≤ length packets
  pub near : (k : ℕ) (w : Weighed) → from ≤ k → k < found → slice_get packets k ≡ Some w → w.at - at < width
  pub far : (w : Weighed) → slice_get packets found ≡ Some w → width ≤ w.at - at
