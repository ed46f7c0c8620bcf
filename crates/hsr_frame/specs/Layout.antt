-- Where the parts of a frame stand, how long they are, and the types that tell frames apart. Lengths are in octets.
use Rattle.std.specs.Prelude.{ℕ}

-- ---- places, and what stands up to the last type, with it

abbrev pub source_at : ℕ
source_at = 6

abbrev pub type_at : ℕ
type_at = 12

-- the control information of a VLAN tag
abbrev pub control_at : ℕ
control_at = 14

abbrev pub plain_head : ℕ
plain_head = 14

abbrev pub vlan_head : ℕ
vlan_head = 18

-- ---- lengths

-- what an HSR tag has behind its type
abbrev pub tag_len : ℕ
tag_len = 6

abbrev pub max_payload : ℕ
max_payload = 1500

-- the rest of an HSR tag, and a payload
abbrev pub max_rest : ℕ
max_rest = 1506

-- with a VLAN tag, an HSR tag, and the longest payload
abbrev pub max_frame : ℕ
max_frame = 1524

-- ---- types

abbrev pub ethertype_vlan : ℕ
ethertype_vlan = 0x8100

abbrev pub ethertype_hsr : ℕ
ethertype_hsr = 0x892F

abbrev pub ethertype_supervision : ℕ
ethertype_supervision = 0x88FB
