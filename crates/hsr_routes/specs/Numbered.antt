-- Channels by their numbers, as a set has them.
--     number_of   the number of a channel
--     channel_at  the channel with a number
--     is_found    a channel is among those of a set
--     is_in       a set, as a test of channels
use Rattle.std.specs.Prelude.{ℕ, ◌+◌, ◌*◌, ◌/◌, ◌%◌, ◌==◌, nat_lt, ◌&&◌, Bool, if◌then◌else◌, List, length}
use Rattle.hsr_link.specs.declared.row.Dir.{Dir}
use Rattle.hsr_link.specs.declared.row.Dir.TheVariants.{Forth, Back}
use Rattle.hsr_run_laws.specs.Run.{Run}
use Rattle.hsr_network_laws.specs.Network.{Channel}
use Rattle.hsr_bitset.specs.Numbers.{has}

abbrev pub dir_number : Dir → ℕ
dir_number Forth = 0
dir_number Back = 1

abbrev pub number_of : Channel → ℕ
number_of channel = 2 * channel.link + dir_number channel.dir

abbrev pub dir_at : ℕ → Dir
dir_at n = if n % 2 == 0 then Forth else Back

abbrev pub channel_at : ℕ → Channel
channel_at n = record { link = n / 2; dir = dir_at n }

-- a channel that is there is among those of a set
abbrev pub is_found : Run → List ℕ → Channel → Bool
is_found run set channel = nat_lt channel.link (length run.links) && has set (number_of channel)

-- a set, as a test of channels
abbrev pub is_in : List ℕ → Channel → Bool
is_in set channel = has set (number_of channel)
