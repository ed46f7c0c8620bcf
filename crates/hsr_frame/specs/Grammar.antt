-- Frames before any HSR tag is looked for: which octets are which frame, and what is wrong with octets that are none.
use Rattle.std.specs.Prelude.{◌≡◌, ◌≢◌, ◌==◌, ◌≤◌, ◌<◌, ◌+◌, ◌*◌, ◌%◌, ◌^◌, ◌&&◌, ◌||◌, ℕ, Bool, nat_lt, if◌then◌else◌, List, [], ◌∷◌, ◌++◌, length, slice_index, take, drop, ◌-◌, Result, Option, Some, None, IfSome}
use Rattle.std.specs.Int.{w16, to_be_bytes}
use Rattle.hsr_frame.specs.declared.fault.FrameFault.{FrameFault}
use Rattle.hsr_frame.specs.declared.fault.FrameFault.TheVariants.{Short, Long, GroupSource, DoubleVlan}
use Rattle.hsr_frame.specs.Address.{IsGroup}
use Rattle.hsr_frame.specs.Cases.{first_of, unless}
use Rattle.hsr_frame.specs.Layout.{control_at, ethertype_vlan, max_rest, plain_head, source_at, type_at, vlan_head}

-- a frame, without where it lies in memory
pub record Fields : Type 0 where
  pub dst : List ℕ
  pub src : List ℕ
  pub vlan : Option ℕ
  pub kind : ℕ
  pub rest : List ℕ

-- a number of 16 bits, the high octet first
abbrev pub pair : ℕ → List ℕ
pair n = to_be_bytes w16 n

abbrev pub vlan_tag : Option ℕ → List ℕ
vlan_tag None = []
vlan_tag (Some control) = pair ethertype_vlan ++ pair control

-- the one spelling of a frame
abbrev pub spelling : Fields → List ℕ
spelling f = f.dst ++ f.src ++ vlan_tag f.vlan ++ pair f.kind ++ f.rest

-- what has a spelling: no group sends it, and there is one VLAN tag at most
pub record IsRaw (f : Fields) : Type 0 where
  pub dst : length f.dst ≡ 6
  pub src : length f.src ≡ 6
  pub vlan : IfSome f.vlan (λ control. control < 2 ^ 16)
  pub kind : f.kind < 2 ^ 16
  pub rest : length f.rest ≤ max_rest
  pub station : ¬ IsGroup f.src
  pub one_tag : f.kind ≢ ethertype_vlan

-- the number of 16 bits at a place
abbrev pub number_at : ℕ → List ℕ → ℕ
number_at i octets = slice_index octets i * 256 + slice_index octets (i + 1)

abbrev pub has_vlan : List ℕ → Bool
has_vlan octets = number_at type_at octets == ethertype_vlan

-- how many octets there are up to the (last) type, with it
abbrev pub head_len : List ℕ → ℕ
head_len octets = if has_vlan octets then vlan_head else plain_head

-- what is wrong, the first that applies
abbrev pub raw_fault : List ℕ → Option FrameFault
raw_fault octets = first_of
    ((nat_lt (length octets) plain_head || (has_vlan octets && nat_lt (length octets) vlan_head), Some Short)
    ∷ (nat_lt (head_len octets + max_rest) (length octets), Some Long)
    ∷ (slice_index octets source_at % 2 == 1, Some GroupSource)
    ∷ (has_vlan octets && (number_at (vlan_head - 2) octets == ethertype_vlan), Some DoubleVlan)
    ∷ [])
    None

-- the fields by their places
abbrev pub fields_of : List ℕ → Fields
fields_of octets = record {
  dst = take 6 octets;
  src = take 6 (drop source_at octets);
  vlan = if has_vlan octets then Some (number_at control_at octets) else None;
  kind = number_at (head_len octets - 2) octets;
  rest = drop (head_len octets) octets;
}

-- what octets are: a frame, or the first fault
abbrev pub raw_of : List ℕ → Result Fields FrameFault
raw_of octets = unless (raw_fault octets) (fields_of octets)
