-- How long octets take on a wire.
--     bits_of   eight an octet
--     time_of   microseconds at a rate in Mbit/s, rounded up
use Rattle.std.specs.Prelude.{ℕ, ◌+◌, ◌*◌, ◌-◌, ◌/◌, ◌%◌, ◌^◌, min}

-- no more are told than a number of 64 bits
abbrev pub bits_of : ℕ → ℕ
bits_of octets = min (octets * 8) (2 ^ 64 - 1)

-- as many bits a microsecond as the rate says; one more microsecond for what is left of them
abbrev pub time_of : ℕ → ℕ → ℕ
time_of rate octets = bits_of octets / rate + min 1 (bits_of octets % rate)
