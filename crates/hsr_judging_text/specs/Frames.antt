-- Frames in words, and octets.
use Rattle.std.specs.Prelude.{ℕ, ◌==◌, ◌||◌, nat_le, Bool, if◌then◌else◌, List, ◌++◌, codes, length, take, drop, Option, Some, None, Result, Ok, Err}
use Rattle.std.specs.Fmt.{decimal}
use Rattle.hex.specs.Hex.{encode_upper}
use Rattle.hsr_frame.specs.Fault.{frame_fault_code}
use Rattle.hsr_frame.specs.declared.fault.FrameFault.{FrameFault}
use Rattle.hsr_tag.specs.Seen.{classified}
use Rattle.hsr_tag.specs.declared.seen.Seen.{Seen}
use Rattle.hsr_tag.specs.declared.seen.Seen.TheVariants.{Plain, Tagged}
use Rattle.hsr_text.specs.Words.{mac_text}
use Rattle.hsr_judging_text.specs.Words.{four_text, perhaps_text}

-- octets in hexadecimal digits, or a hyphen for none
abbrev pub hex_text : List ℕ → List ℕ
hex_text octets = if length octets == 0 then codes "-" else encode_upper octets

-- of more than 32 octets the first and how many there are
unfoldable pub front_octets : List ℕ → List ℕ
front_octets octets = encode_upper (take 32 octets) ++ codes ".." ++ decimal (length octets)

-- the same, unless all are asked for
abbrev pub octets_text : Bool → List ℕ → List ℕ
octets_text all octets = if all || nat_le (length octets) 32 then hex_text octets else front_octets octets

-- source, destination, number and type
unfoldable pub head_text : List ℕ → List ℕ → Option ℕ → ℕ → List ℕ
head_text src dst number kind =
    codes " from " ++ mac_text src ++ codes " to " ++ mac_text dst ++ codes " number " ++ perhaps_text number ++ codes " type " ++ four_text kind

-- of an untagged frame the number is one that is told beside it
abbrev pub seen_text : Option ℕ → Result Seen FrameFault → List ℕ
seen_text number (Ok (Plain f)) = head_text f.src f.dst number f.kind
seen_text number (Ok (Tagged f)) = head_text f.src f.dst (Some f.seq) f.kind
seen_text number (Err fault) = codes " malformed " ++ decimal (frame_fault_code fault)

-- a frame, and its octets
unfoldable pub frame_text : List ℕ → Option ℕ → Bool → List ℕ
frame_text octets number all = seen_text number (classified octets) ++ codes " octets " ++ octets_text all octets

-- ---- a payload

abbrev pub payload_in : Result Seen FrameFault → Option (List ℕ)
payload_in (Ok (Plain f)) = Some f.rest
payload_in (Ok (Tagged f)) = Some f.payload
payload_in (Err fault) = None

abbrev pub stretch_in : ℕ → Option (List ℕ) → List ℕ
stretch_in at None = codes "-"
stretch_in at (Some payload) = hex_text (take 8 (drop at payload))

-- eight octets of the payload from a place on, behind a colon
unfoldable pub stretch_text : List ℕ → ℕ → List ℕ
stretch_text octets at = codes ":" ++ stretch_in at (payload_in (classified octets))
