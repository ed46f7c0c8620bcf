-- What a stimulus looks like, and its octets.
use Rattle.std.specs.Prelude.{ℕ, List, [], ◌∷◌, ◌++◌, replicate}
use Rattle.hsr_frame.specs.Grammar.{pair}
use Rattle.hsr_frame.specs.Layout.{ethertype_hsr, ethertype_vlan}
use Rattle.hsr_stimuli.specs.declared.shape.Form.{Form}
use Rattle.hsr_stimuli.specs.declared.shape.Form.TheVariants.{Plain, InVlan, Tagged, TaggedInVlan, CutVlan, TwoVlans, VlanBehind, CutTag, TwoTags}
use Rattle.hsr_stimuli.specs.declared.shape.Load.{Load}
use Rattle.hsr_stimuli.specs.declared.shape.Load.TheVariants.{Filled, Supervision}
use Rattle.hsr_stimuli.specs.declared.shape.Shape.{Shape}
use Rattle.hsr_stimuli.specs.declared.shape.Tag.{Tag}
use Rattle.hsr_stimuli.specs.declared.shape.Tlv.{Tlv}
use Rattle.hsr_stimuli.specs.declared.shape.Told.{Told}

-- ---- tags

abbrev pub vlan_octets : ℕ → List ℕ
vlan_octets control = pair ethertype_vlan ++ pair control

abbrev pub tag_octets : Tag → List ℕ
tag_octets tag = pair ethertype_hsr ++ pair tag.first ++ pair tag.number

-- what stands between the source and the payload
abbrev pub form_octets : Form → ℕ → List ℕ
form_octets Plain kind = pair kind
form_octets (InVlan control) kind = vlan_octets control ++ pair kind
form_octets (Tagged tag) kind = tag_octets tag ++ pair kind
form_octets (TaggedInVlan control tag) kind = vlan_octets control ++ tag_octets tag ++ pair kind
form_octets (CutVlan control) kind = vlan_octets control
form_octets (TwoVlans control) kind = vlan_octets control ++ vlan_octets control ++ pair kind
form_octets (VlanBehind tag control) kind = tag_octets tag ++ vlan_octets control ++ pair kind
form_octets (CutTag tag) kind = tag_octets tag
form_octets (TwoTags tag) kind = tag_octets tag ++ tag_octets tag ++ pair kind

-- ---- payloads

abbrev pub tlv_octets : Tlv → List ℕ
tlv_octets tlv = tlv.kind ∷ tlv.len ∷ tlv.mac

-- path 0 and version 1, the number, two TLVs, and zeros up to 46 octets
unfoldable pub life_octets : Told → List ℕ
life_octets told = pair 1 ++ pair told.number ++ tlv_octets told.first ++ tlv_octets told.second ++ replicate 26 0

-- so many octets 5A
abbrev pub filled : ℕ → List ℕ
filled len = replicate len 0x5A

abbrev pub load_octets : Load → List ℕ
load_octets (Filled len) = filled len
load_octets (Supervision told) = life_octets told

-- ---- the whole

unfoldable pub octets_of : Shape → List ℕ
octets_of shape = shape.dst ++ shape.src ++ form_octets shape.form shape.kind ++ load_octets shape.load
