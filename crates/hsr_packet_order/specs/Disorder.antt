-- The order of time, and how far a file is out of it.
use Rattle.std.specs.Prelude.{ℕ, ◌+◌, ◌-◌, max, nat_lt, if◌then◌else◌, List, [], ◌∷◌}
use Rattle.hsr_capture_reader.specs.Fields.{PacketFields}
use Rattle.hsr_packet_order.specs.declared.disorder.Disorder.{Disorder}

abbrev pub moment_of : PacketFields → ℕ
moment_of p = p.moment

-- with a packet that is so far behind one before it
abbrev pub with_one : Disorder → ℕ → Disorder
with_one d back = record { packets = if nat_lt 0 back then d.packets + 1 else d.packets; most = max d.most back }

-- the packets with an earlier stamp than one before them, and by how much at most, behind packets of which this is the latest stamp
abbrev pub disorder_from : Disorder → ℕ → List PacketFields → Disorder
disorder_from d latest [] = d
disorder_from d latest (p ∷ packets) = disorder_from (with_one d (latest - p.moment)) (max latest p.moment) packets

abbrev pub disorder_of : List PacketFields → Disorder
disorder_of packets = disorder_from (record { packets = 0; most = 0 }) 0 packets
