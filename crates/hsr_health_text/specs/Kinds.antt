-- Other packets, VLANs, tables.
use Rattle.std.specs.Prelude.{ℕ, ◌/◌, ◌%◌, ◌==◌, Bool, if◌then◌else◌, List, ◌++◌, codes, Option, Some, None}
use Rattle.std.specs.Fmt.{decimal}
use Rattle.std.specs.List.{flat_map}
use Rattle.hsr_health.specs.declared.health.Health.{Health}
use Rattle.hsr_health.specs.declared.kinds.MalformedKind.{MalformedKind}
use Rattle.hsr_health.specs.declared.kinds.UntaggedKind.{UntaggedKind}
use Rattle.hsr_health.specs.declared.kinds.VlanKind.{VlanKind}
use Rattle.hsr_health_text.specs.Words.{hex_text, pair_text}

-- the VLAN and the priority that a tag's control field says (IEEE 802.1Q clause 9)
unfoldable pub vlan_text : Option ℕ → List ℕ
vlan_text None = codes "vlan - priority -"
vlan_text (Some control) = codes "vlan " ++ decimal (control % 4096) ++ pair_text (codes "priority") (control / 8192)

unfoldable pub vlan_line : VlanKind → List ℕ
vlan_line kind = vlan_text kind.control ++ pair_text (codes "frames") kind.frames ++ codes "\n"

abbrev pub local_text : Bool → List ℕ
local_text is_link_local = if is_link_local then codes " link-local\n" else codes "\n"

unfoldable pub untagged_line : UntaggedKind → List ℕ
untagged_line kind =
    codes "untagged " ++ decimal kind.interface ++ codes " type " ++ hex_text kind.ethertype ++ pair_text (codes "packets") kind.packets
    ++ local_text kind.is_link_local

-- what a fault is called, by its rank among the words
abbrev pub rank_word : ℕ → List ℕ
rank_word rank =
    if rank == 0 then codes "group-source" else (if rank == 1 then codes "long" else (if rank == 2 then codes "nested-tag"
    else (if rank == 3 then codes "short" else (if rank == 4 then codes "short-tag" else codes "vlan"))))

unfoldable pub malformed_line : MalformedKind → List ℕ
malformed_line kind =
    codes "malformed " ++ decimal kind.interface ++ codes " " ++ rank_word kind.rank ++ pair_text (codes "packets") kind.packets ++ codes "\n"

unfoldable pub kinds_text : Health → List ℕ
kinds_text health =
    flat_map vlan_line health.vlans.items ++ flat_map untagged_line health.untagged.items ++ flat_map malformed_line health.malformed.items

-- what a table would need, and the fullest 400 ms
unfoldable pub table_line : Health → ℕ → List ℕ
table_line health table =
    codes "table" ++ pair_text (codes "needed") health.needed ++ pair_text (codes "crowd") health.crowd.frames ++ pair_text (codes "of") table
    ++ codes "\n"
