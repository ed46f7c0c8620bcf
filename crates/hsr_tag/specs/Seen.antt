-- What octets are: a plain frame, a tagged one, or the first of their faults.
use Rattle.std.specs.Prelude.{◌≡◌, ◌==◌, ◌/◌, ◌%◌, ℕ, nat_lt, if◌then◌else◌, List, [], ◌∷◌, length, drop, Option, Some, None, Result, ◌⊎◌, ◌&&◌, not, Bool, false, Ok, Err}
use Rattle.std.specs.Option.{option_or}
use Rattle.hsr_frame.specs.Address.{is_same_address}
use Rattle.hsr_frame.specs.Egress.{is_supervision}
use Rattle.hsr_frame.specs.declared.fault.FrameFault.{FrameFault}
use Rattle.hsr_frame.specs.declared.fault.FrameFault.TheVariants.{Long, ShortTag, NestedTag, DoubleVlan}
use Rattle.hsr_frame.specs.Cases.{first_of, unless}
use Rattle.hsr_frame.specs.Grammar.{Fields, spelling, number_at, raw_fault, fields_of}
use Rattle.hsr_frame.specs.Layout.{ethertype_hsr, ethertype_vlan, max_payload, tag_len}
use Rattle.hsr_tag.specs.Tag.{TaggedFields, IsPlain, IsTagged, tagged_spelling, with_tag}
use Rattle.hsr_tag.specs.declared.seen.Seen.{Seen}
use Rattle.hsr_tag.specs.declared.seen.Seen.TheVariants.{Plain, Tagged}

-- what is wrong from the type on, the first that applies
abbrev pub tag_fault : Fields → Option FrameFault
tag_fault f =
    if f.kind == ethertype_hsr
    then first_of
    ((nat_lt (length f.rest) tag_len, Some ShortTag)
    ∷ (number_at 4 f.rest == ethertype_hsr, Some NestedTag)
    ∷ (number_at 4 f.rest == ethertype_vlan, Some DoubleVlan)
    ∷ [])
    None
    else first_of ((nat_lt max_payload (length f.rest), Some Long) ∷ []) None

-- what is wrong with octets, the first that applies
abbrev pub frame_fault : List ℕ → Option FrameFault
frame_fault octets = option_or (raw_fault octets) (tag_fault (fields_of octets))

-- the tagged frame by its places after the type of an HSR tag
abbrev pub tagged_of : Fields → TaggedFields
tagged_of f = record {
  dst = f.dst;
  src = f.src;
  vlan = f.vlan;
  path = number_at 0 f.rest / 4096;
  size = number_at 0 f.rest % 4096;
  seq = number_at 2 f.rest;
  kind = number_at 4 f.rest;
  payload = drop tag_len f.rest;
}

abbrev pub seen_in : Fields → Seen
seen_in f = if f.kind == ethertype_hsr then Tagged (tagged_of f) else Plain f

-- what octets are: a frame, tagged or not, or the first fault
unfoldable pub classified : List ℕ → Result Seen FrameFault
classified octets = unless (frame_fault octets) (seen_in (fields_of octets))

-- a tagged supervision frame of another node
abbrev pub is_told : List ℕ → Result Seen FrameFault → Bool
is_told own (Err fault) = false
is_told own (Ok (Plain frame)) = false
is_told own (Ok (Tagged frame)) = is_supervision frame.dst frame.kind && not (is_same_address frame.src own)

-- the payload of a tagged frame, and no octets of what is none
abbrev pub payload_in : Result Seen FrameFault → List ℕ
payload_in (Err fault) = []
payload_in (Ok (Plain frame)) = []
payload_in (Ok (Tagged frame)) = frame.payload

-- what was seen is the frame with these fields
abbrev pub Sees : Fields → Seen → Type 0
Sees f (Plain g) = IsPlain g × (g ≡ f)
Sees f (Tagged t) = IsTagged t × (with_tag t ≡ f)

-- the octets spell what was seen
abbrev pub Spells : List ℕ → Seen → Type 0
Spells octets (Plain f) = IsPlain f × (octets ≡ spelling f)
Spells octets (Tagged t) = IsTagged t × (octets ≡ tagged_spelling t)

-- ---- one way to read

abbrev pub IsPlainText : List ℕ → Type 0
IsPlainText octets = (f : Fields) × IsPlain f × (octets ≡ spelling f)

abbrev pub IsTaggedText : List ℕ → Type 0
IsTaggedText octets = (t : TaggedFields) × IsTagged t × (octets ≡ tagged_spelling t)

abbrev pub IsFaultyText : List ℕ → Type 0
IsFaultyText octets = (e : FrameFault) × (frame_fault octets ≡ Some e)

-- octets spell a plain frame, or a tagged one, or have a fault, and never two of these
pub record IsReadOneWay (octets : List ℕ) : Type 0 where
  pub some_way : IsPlainText octets ⊎ IsTaggedText octets ⊎ IsFaultyText octets
  pub plain_alone : IsPlainText octets → ¬ IsTaggedText octets × ¬ IsFaultyText octets
  pub tagged_alone : IsTaggedText octets → ¬ IsFaultyText octets
