-- Supervision payloads: which octets say what, what is wrong with octets that say nothing, and the octets of what is said.
use Rattle.std.specs.Prelude.{◌==◌, ◌<◌, ◌+◌, ◌-◌, ◌*◌, ◌/◌, ◌%◌, ◌^◌, ◌&&◌, ◌≡◌, IfSome, ℕ, suc, zero, Bool, not, nat_lt, if◌then◌else◌, List, [], ◌∷◌, ◌++◌, length, slice_index, take, drop, find, replicate, Result, Ok, Err, Option, Some, None, is_none, option_map, unwrap_or}
use Rattle.hsr_frame.specs.Cases.{first_of}
use Rattle.hsr_frame.specs.Grammar.{pair, number_at}
use Rattle.hsr_supervision.specs.declared.payload.SupFault.{SupFault}
use Rattle.hsr_supervision.specs.declared.payload.SupFault.TheVariants.{Truncated, FirstKind, FirstLength, RedBoxLength}
use Rattle.hsr_supervision.specs.declared.payload.SupKind.{SupKind}
use Rattle.hsr_supervision.specs.declared.payload.SupKind.TheVariants.{PrpDiscard, PrpAccept, Hsr}

-- the octets of the shortest payload
abbrev pub min_payload : ℕ
min_payload = 46

-- those up to the end of TLV1
abbrev pub first_len : ℕ
first_len = 12

-- the types of the TLV that ends a payload and of the one that names a RedBox
abbrev pub end_type : ℕ
end_type = 0

abbrev pub redbox_type : ℕ
redbox_type = 30

-- the value of a TLV that names a node is an address
abbrev pub name_len : ℕ
name_len = 6

-- what a payload says
pub record Fields : Type 0 where
  pub path : ℕ
  pub version : ℕ
  pub seq : ℕ
  pub kind : SupKind
  pub about : List ℕ
  pub redbox : Option (List ℕ)

-- what can be said
pub record IsSaid (s : Fields) : Type 0 where
  pub path : s.path < 16
  pub version : s.version < 4096
  pub seq : s.seq < 2 ^ 16
  pub about : length s.about ≡ 6
  pub redbox : IfSome s.redbox (λ mac. length mac ≡ 6)

-- a TLV is its type, the length of its value, and its value
pub record Tlv : Type 0 where
  pub kind : ℕ
  pub value : List ℕ

-- ---- octets that are read

-- the type of TLV1
abbrev pub kind_of : ℕ → Option SupKind
kind_of n = if n == 20 then Some PrpDiscard else (if n == 21 then Some PrpAccept else (if n == 23 then Some Hsr else None))

-- the value of a RedBox TLV is an address
abbrev pub lacks_address : ℕ → ℕ → Bool
lacks_address kind len = kind == redbox_type && not (len == name_len)

-- what was read, made into something else
abbrev pub result_map : {A B : Type 0} → (A → B) → Result A SupFault → Result B SupFault
result_map f (Ok x) = Ok (f x)
result_map f (Err fault) = Err fault

-- a TLV put before others
abbrev pub onto : ℕ → List ℕ → Result (List Tlv) SupFault → Result (List Tlv) SupFault
onto kind value others = result_map (λ tlvs. record { kind = kind; value = value } ∷ tlvs) others

-- The TLVs up to the one that ends the payload, or else to the last octet. The octets of a value,
-- which its TLV has taken, are stepped over first: here is how many they are.
abbrev pub tlvs_past : ℕ → List ℕ → Result (List Tlv) SupFault
tlvs_past zero [] = Ok []
tlvs_past zero (kind ∷ []) = Err Truncated
tlvs_past zero (kind ∷ len ∷ octets) =
    if kind == end_type then Ok [] else
    (if lacks_address kind len then Err RedBoxLength else
    onto kind (take len octets) (tlvs_past len octets))
tlvs_past (suc n) [] = Err Truncated
tlvs_past (suc n) (octet ∷ octets) = tlvs_past n octets

-- the RedBox, which the first RedBox TLV names
abbrev pub redbox_among : List Tlv → Option (List ℕ)
redbox_among tlvs = option_map (λ t. t.value) (find (λ t. t.kind == redbox_type) tlvs)

-- the fields by their places
abbrev pub fields_with : List ℕ → List Tlv → Fields
fields_with octets tlvs = record {
  path = number_at 0 octets / 4096;
  version = number_at 0 octets % 4096;
  seq = number_at 2 octets;
  kind = unwrap_or (kind_of (slice_index octets 4)) Hsr;
  about = take 6 (drop 6 octets);
  redbox = redbox_among tlvs;
}

-- what octets say, or the first fault: of TLV1, then of those behind it
abbrev pub read_of : List ℕ → Result Fields SupFault
read_of octets = first_of
    ((nat_lt (length octets) 6, Err Truncated)
    ∷ (is_none (kind_of (slice_index octets 4)), Err FirstKind)
    ∷ (not (slice_index octets 5 == name_len), Err FirstLength)
    ∷ (nat_lt (length octets) first_len, Err Truncated)
    ∷ [])
    (result_map (fields_with octets) (tlvs_past 0 (drop first_len octets)))

-- ---- octets that are written

abbrev pub kind_code : SupKind → ℕ
kind_code PrpDiscard = 20
kind_code PrpAccept = 21
kind_code Hsr = 23

-- the RedBox TLV of 8 octets, if there is one, the end TLV, and zeros up to the shortest payload
abbrev pub tail : Option (List ℕ) → List ℕ
tail None = replicate (min_payload - first_len) 0
tail (Some mac) = redbox_type ∷ name_len ∷ mac ++ replicate (min_payload - first_len - 8) 0

-- the octets of what is said
abbrev pub spelling : Fields → List ℕ
spelling s = pair (s.path * 4096 + s.version) ++ pair s.seq ++ kind_code s.kind ∷ name_len ∷ s.about ++ tail s.redbox
