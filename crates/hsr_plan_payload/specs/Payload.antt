-- The payload of a frame.
use Rattle.std.specs.Prelude.{ℕ, zero, suc, ◌+◌, ◌-◌, ◌*◌, ◌/◌, ◌%◌, nat_le, List, [], ◌∷◌, ◌++◌, length, take, replicate, Option, Some, None, unwrap_or, if◌then◌else◌}
use Rattle.hsr_plan_payload.specs.Ber.{four, integer, pair, tagged, three}
use Rattle.hsr_plan_payload.specs.Publishing.{Publisher, block_reference, id_of, set_reference}
use Rattle.hsr_plan_payload.specs.declared.frames.GooseFrame.{GooseFrame}
use Rattle.hsr_plan_payload.specs.declared.frames.SampledFrame.{SampledFrame}

-- behind an APPID, the length and two reserved fields
abbrev pub framed : ℕ → List ℕ → List ℕ
framed appid pdu = pair appid ++ (pair (length pdu + 8) ++ (replicate 4 0 ++ pdu))

-- ---- GOOSE (IEC 61850-8-1), the fields of its PDU, the last with as many octets more than it needs as a size asks for

-- a moment since 1970 in microseconds: its seconds, the fraction in 2^-24 seconds, rounded down, and that ten bits of that are right
abbrev pub utc_time : ℕ → List ℕ
utc_time us = four (us / 1000000) ++ (three (us % 1000000 * 16777216 / 1000000) ++ 10 ∷ [])

abbrev pub goose_names : Publisher → ℕ → List ℕ
goose_names p live =
    tagged 0x80 (block_reference p) ++ (tagged 0x81 (integer live) ++ (tagged 0x82 (set_reference p) ++ tagged 0x83 (id_of p)))

-- t is the moment since which the state is there; stNum counts from 1, sqNum from 0
abbrev pub goose_counts : GooseFrame → List ℕ
goose_counts f = tagged 0x84 (utc_time f.since) ++ (tagged 0x85 (integer (f.state + 1)) ++ tagged 0x86 (integer f.count))

-- neither simulated nor in need of commissioning; confRev 1, and two entries
abbrev pub goose_flags : List ℕ
goose_flags = tagged 0x87 (0 ∷ []) ++ (tagged 0x88 (1 ∷ []) ++ (tagged 0x89 (0 ∷ []) ++ tagged 0x8A (2 ∷ [])))

abbrev pub goose_data : ℕ → ℕ → List ℕ
goose_data state spare = tagged 0xAB (tagged 0x83 ((state % 2) ∷ []) ++ tagged 0x89 (replicate spare 0))

abbrev pub goose_pdu : Publisher → GooseFrame → ℕ → List ℕ
goose_pdu p f spare = tagged 0x61 (goose_names p f.live ++ (goose_counts f ++ (goose_flags ++ goose_data f.state spare)))

unfoldable pub goose : Publisher → GooseFrame → ℕ → List ℕ
goose p f spare = framed p.appid (goose_pdu p f spare)

-- ---- sampled values (IEC 61850-9-2), each sample with 64 octets of data, and a number of times 8 more

-- smpCnt begins anew each second; 4000 samples are one where no rate is said
abbrev pub sample_count : Option ℕ → ℕ → ℕ
sample_count rate n = n % unwrap_or rate 4000

abbrev pub sampled_head : Publisher → ℕ → List ℕ
sampled_head p count = tagged 0x80 (id_of p) ++ (tagged 0x81 (set_reference p) ++ (tagged 0x82 (pair count) ++ tagged 0x83 (four 1)))

-- synchronized to a global clock
abbrev pub sampled_data : ℕ → List ℕ
sampled_data spare = tagged 0x85 (2 ∷ []) ++ tagged 0x87 (replicate (64 + 8 * spare) 0)

-- the n-th sample since the start
abbrev pub sampled_asdu : Publisher → Option ℕ → ℕ → ℕ → List ℕ
sampled_asdu p rate n spare = tagged 0x30 (sampled_head p (sample_count rate n) ++ sampled_data spare)

-- n samples, before which there are `first` since the start
abbrev pub sampled_asdus : Publisher → Option ℕ → ℕ → ℕ → ℕ → List ℕ
sampled_asdus p rate first spare zero = []
sampled_asdus p rate first spare (suc n) = sampled_asdus p rate first spare n ++ sampled_asdu p rate (first + n) spare

abbrev pub sampled_pdu : Publisher → SampledFrame → ℕ → List ℕ
sampled_pdu p f spare = tagged 0x60 (tagged 0x80 (integer f.asdus) ++ tagged 0xA2 (sampled_asdus p f.rate (f.count * f.asdus) spare f.asdus))

unfoldable pub sampled : Publisher → SampledFrame → ℕ → List ℕ
sampled p f spare = framed p.appid (sampled_pdu p f spare)

-- ---- the longest that fits

-- of those with at most n spare: the longest of at most this size, or the shortest of all
abbrev pub longest : (ℕ → List ℕ) → ℕ → ℕ → List ℕ
longest make size zero = make 0
longest make size (suc n) = if nat_le (length (make (suc n))) size then make (suc n) else longest make size n

-- ---- all kinds

abbrev pub goose_payload : Publisher → GooseFrame → ℕ → List ℕ
goose_payload p f size = longest (goose p f) size (size - length (goose p f 0))

abbrev pub sampled_payload : Publisher → SampledFrame → ℕ → List ℕ
sampled_payload p f size = longest (sampled p f) size ((size - length (sampled p f 0)) / (8 * f.asdus))

-- a count in four octets, and zeros
abbrev pub counted : ℕ → ℕ → List ℕ
counted size k = take size (four k) ++ replicate (size - 4) 0
