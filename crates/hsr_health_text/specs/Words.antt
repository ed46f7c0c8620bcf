-- Numbers, names, addresses, moments, loads, times of day.
use Rattle.std.specs.Prelude.{ℕ, ◌+◌, ◌-◌, ◌*◌, ◌/◌, ◌%◌, ◌^◌, ◌==◌, nat_le, nat_lt, ◌&&◌, min, if◌then◌else◌, List, [], ◌∷◌, ◌++◌, codes, Option, Some, None}
use Rattle.std.specs.Fmt.{decimal}
use Rattle.std.specs.Int.{to_be_bytes, w16}
use Rattle.std.specs.List.{flat_map}
use Rattle.hex.specs.Hex.{encode_upper}
use Rattle.hsr_text.specs.Words.{mac_text}
use Rattle.hsr_spread.specs.declared.spread.Spread.{Spread}

-- a word and a number
unfoldable pub pair_text : List ℕ → ℕ → List ℕ
pair_text word n = codes " " ++ word ++ codes " " ++ decimal n

-- the same, or a dash
unfoldable pub maybe_text : List ℕ → Option ℕ → List ℕ
maybe_text word (Some n) = pair_text word n
maybe_text word None = codes " " ++ word ++ codes " -"

unfoldable pub three : ℕ → List ℕ
three n = decimal (n / 100 % 10) ++ decimal (n / 10 % 10) ++ decimal (n % 10)

unfoldable pub two : ℕ → List ℕ
two n = decimal (n / 10 % 10) ++ decimal (n % 10)

unfoldable pub four : ℕ → List ℕ
four n = decimal (n / 1000 % 10) ++ three (n % 1000)

-- so many bits in so many microseconds, in thousands a second
unfoldable pub kbits : ℕ → ℕ → ℕ
kbits bits us = if us == 0 then 0 else min (bits * 1000 / us) (2 ^ 64 - 1)

-- in Mbit/s with three decimals, rounded down
unfoldable pub rate_text : ℕ → ℕ → List ℕ
rate_text bits us = decimal (kbits bits us / 1000) ++ codes "." ++ three (kbits bits us % 1000)

-- Each character of a name that isn't printable ASCII is a question mark, and of one of several octets only the first counts.
abbrev pub printed : ℕ → List ℕ
printed octet =
    if nat_le 32 octet && nat_le octet 126 then octet ∷ [] else (if nat_le 128 octet && nat_le octet 191 then [] else 63 ∷ [])

-- a dash where nothing is left
abbrev pub or_dash : List ℕ → List ℕ
or_dash [] = codes "-"
or_dash (octet ∷ text) = octet ∷ text

unfoldable pub name_text : List ℕ → List ℕ
name_text name = or_dash (flat_map printed name)

-- addresses, parted by commas
abbrev pub comma_text : List ℕ → List ℕ
comma_text mac = codes "," ++ mac_text mac

unfoldable pub macs_text : List (List ℕ) → List ℕ
macs_text [] = codes "-"
macs_text (mac ∷ macs) = mac_text mac ++ flat_map comma_text macs

unfoldable pub mac_or_dash : Option (List ℕ) → List ℕ
mac_or_dash (Some mac) = mac_text mac
mac_or_dash None = codes "-"

unfoldable pub spread_text : Option Spread → List ℕ
spread_text (Some spread) = pair_text (codes "min") spread.min ++ pair_text (codes "mid") spread.mid ++ pair_text (codes "max") spread.max
spread_text None = codes " min - mid - max -"

-- the microseconds from a moment to another
abbrev pub us_since : ℕ → ℕ → ℕ
us_since start at = (at - start) / 1000

-- a number of 16 bits in four digits, in upper case
unfoldable pub hex_text : ℕ → List ℕ
hex_text n = encode_upper (to_be_bytes w16 n)

-- ---- times of day

-- Days of the Gregorian calendar, since 1970-01-01. Years are counted from March on, so that the day of a leap year is the last; 400 of
-- them, an era, have 146097 days, and the first began 719468 days before.
abbrev pub era_of : ℕ → ℕ
era_of days = (days + 719468) / 146097

abbrev pub day_of_era : ℕ → ℕ
day_of_era days = (days + 719468) % 146097

-- the year of an era that a day of it is in: one in 4 is a leap year, but of those that end a century only one in 4
unfoldable pub year_of_era : ℕ → ℕ
year_of_era day = (day - day / 1460 + day / 36524 - day / 146096) / 365

-- the day of that year, from March on
unfoldable pub day_of_year : ℕ → ℕ → ℕ
day_of_year year day = day - (365 * year + year / 4 - year / 100)

-- of a day of a year the month, from March on: five months have 153 days
abbrev pub from_march : ℕ → ℕ
from_march day = (5 * day + 2) / 153

abbrev pub month_of : ℕ → ℕ
month_of from = if nat_lt from 10 then from + 3 else from - 9

abbrev pub day_of_month : ℕ → ℕ → ℕ
day_of_month from day = day - (153 * from + 2) / 5 + 1

abbrev pub year_of : ℕ → ℕ → ℕ → ℕ
year_of era year month = year + 400 * era + (if nat_le month 2 then 1 else 0)

-- the day of a year that is so many days after 1970-01-01
abbrev pub day_in_year : ℕ → ℕ
day_in_year days = day_of_year (year_of_era (day_of_era days)) (day_of_era days)

unfoldable pub date_text : ℕ → List ℕ
date_text days =
    four (year_of (era_of days) (year_of_era (day_of_era days)) (month_of (from_march (day_in_year days)))) ++ codes "-"
    ++ two (month_of (from_march (day_in_year days))) ++ codes "-" ++ two (day_of_month (from_march (day_in_year days)) (day_in_year days))

-- a time of day, in seconds
unfoldable pub clock_text : ℕ → List ℕ
clock_text seconds = two (seconds / 3600) ++ codes ":" ++ two (seconds % 3600 / 60) ++ codes ":" ++ two (seconds % 60)

-- microseconds, of a second
unfoldable pub micros_text : ℕ → List ℕ
micros_text us = codes "." ++ three (us / 1000) ++ three (us % 1000)

-- a moment in nanoseconds since 1970, as a day and a time of day with microseconds, rounded down
unfoldable pub time_text : ℕ → List ℕ
time_text at =
    date_text (at / 1000000000 / 86400) ++ codes "T" ++ clock_text (at / 1000000000 % 86400) ++ micros_text (at / 1000 % 1000000) ++ codes "Z"
