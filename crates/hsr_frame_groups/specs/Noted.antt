-- What a copy says, where its payload isn't held.
use Rattle.std.specs.Prelude.{ℕ, Bool, List, Option, Some, None, if◌then◌else◌}
use Rattle.hsr_frame_copies.specs.Contents.{CopyFields, copy_at}

-- what octets are that are a copy, whose payload has so many octets
abbrev pub long_copy : List ℕ → ℕ → CopyFields
long_copy octets length = record (copy_at octets 0) { length = length }

-- the control information of a VLAN tag, if there is one
abbrev pub vlan_if : Bool → ℕ → Option ℕ
vlan_if has_vlan control = if has_vlan then Some control else None
