-- Frames with an HSR tag: which octets are which of them, and how a tag is added to a frame.
use Rattle.std.specs.Prelude.{◌≡◌, ◌≢◌, ◌≤◌, ◌<◌, ◌+◌, ◌*◌, ◌^◌, ℕ, List, ◌++◌, length, Option, IfSome}
use Rattle.hsr_frame.specs.Address.{IsGroup}
use Rattle.hsr_frame.specs.Grammar.{Fields, pair, spelling, IsRaw}
use Rattle.hsr_frame.specs.Layout.{ethertype_hsr, ethertype_vlan, max_payload, tag_len}

-- a frame with no tag: what stands after its type is its payload
pub record IsPlain (f : Fields) : Type 0 where
  pub raw : IsRaw f
  pub no_tag : f.kind ≢ ethertype_hsr
  pub payload : length f.rest ≤ max_payload

-- a frame with an HSR tag
pub record TaggedFields : Type 0 where
  pub dst : List ℕ
  pub src : List ℕ
  pub vlan : Option ℕ
  pub path : ℕ
  pub size : ℕ
  pub seq : ℕ
  pub kind : ℕ
  pub payload : List ℕ

-- the octets after the type of an HSR tag: path and size, sequence number, the frame's own type, payload
abbrev pub tag_octets : TaggedFields → List ℕ
tag_octets t = pair (t.path * 4096 + t.size) ++ pair t.seq ++ pair t.kind ++ t.payload

-- a tagged frame is a frame of that type
abbrev pub with_tag : TaggedFields → Fields
with_tag t = record { dst = t.dst; src = t.src; vlan = t.vlan; kind = ethertype_hsr; rest = tag_octets t }

-- the one spelling of a tagged frame
abbrev pub tagged_spelling : TaggedFields → List ℕ
tagged_spelling t = spelling (with_tag t)

-- what a tagged frame may hold
pub record IsTagged (t : TaggedFields) : Type 0 where
  pub dst : length t.dst ≡ 6
  pub src : length t.src ≡ 6
  pub vlan : IfSome t.vlan (λ control. control < 2 ^ 16)
  pub path : t.path < 16
  pub size : t.size < 4096
  pub seq : t.seq < 2 ^ 16
  pub kind : t.kind < 2 ^ 16
  pub payload : length t.payload ≤ max_payload
  pub station : ¬ IsGroup t.src
  pub one_vlan : t.kind ≢ ethertype_vlan
  pub one_tag : t.kind ≢ ethertype_hsr

-- the frame with this path and number; its size counts the tag's own octets
abbrev pub tag_of : Fields → ℕ → ℕ → TaggedFields
tag_of f path seq = record { dst = f.dst; src = f.src; vlan = f.vlan; path = path; size = length f.rest + tag_len; seq = seq; kind = f.kind; payload = f.rest }

-- the frame without path, size and number
abbrev pub untag_of : TaggedFields → Fields
untag_of t = record { dst = t.dst; src = t.src; vlan = t.vlan; kind = t.kind; rest = t.payload }
