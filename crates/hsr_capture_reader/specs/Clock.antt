-- The stamps of an interface, as moments (draft-ietf-opsawg-pcapng, sections 4.2 and 4.3): nanoseconds since 1970.
use Rattle.std.specs.Prelude.{ℕ, ◌+◌, ◌-◌, ◌*◌, ◌/◌, ◌^◌, min, nat_lt, if◌then◌else◌}
use Rattle.hsr_capture_reader.specs.declared.clock.Clock.{Clock}

-- how many ticks of a resolution a second has
abbrev pub ticks_per_second : ℕ → ℕ
ticks_per_second resolution = if nat_lt resolution 128 then 10 ^ resolution else 2 ^ (resolution - 128)

abbrev pub nanoseconds : ℕ → ℕ → ℕ
nanoseconds resolution ticks = ticks * 10 ^ 9 / ticks_per_second resolution

-- so many nanoseconds, with an offset in seconds, which is negative from 2^63 on; nothing comes before 1970
abbrev pub moved_by : ℕ → ℕ → ℕ
moved_by offset n = if nat_lt offset (2 ^ 63) then n + offset * 10 ^ 9 else n - (2 ^ 64 - offset) * 10 ^ 9

-- the moment of a stamp, of 64 bits at most
unfoldable pub moment_of : Clock → ℕ → ℕ
moment_of clock ticks = min (2 ^ 64 - 1) (moved_by clock.offset (nanoseconds clock.resolution ticks))
