-- Which copies begin sends of the device that no interface shows.
use Rattle.std.specs.Prelude.{ℕ, ◌-◌, ◌&&◌, not, nat_lt, nat_le, Bool, false, if◌then◌else◌, List, [], ◌∷◌, ◌++◌, length, drop, Option, Some, None, slice_get}
use Rattle.std.specs.List.{list_any}
use Rattle.std.specs.Str.{bytes_eq}
use Rattle.hsr_frame.specs.Address.{is_same_address}
use Rattle.hsr_frame.specs.Egress.{is_supervision}
use Rattle.hsr_frame_copies.specs.Contents.{CopyFields}
use Rattle.hsr_node.specs.Copies.{plain_octets}
use Rattle.hsr_node_lines.specs.declared.own.Handed.{Handed}
use Rattle.hsr_node_lines.specs.declared.own.Danh.{Danh}

-- a number was begun less than 800 ms before, by when each was begun last
abbrev pub is_recent : ℕ → Option (Option ℕ) → Bool
is_recent at (Some (Some before)) = nat_lt (at - before) 800000
is_recent at _ = false

abbrev pub was_begun : List (Option ℕ) → ℕ → ℕ → Bool
was_begun begun number at = is_recent at (slice_get begun number)

-- what is remembered of the supervision frames that the host handed down: the last 64
abbrev pub handed_with : List Handed → Handed → List Handed
handed_with handed one = (if nat_lt (length handed) 64 then handed else drop 1 handed) ++ one ∷ []

abbrev pub is_octets : Option (List ℕ) → List ℕ → Bool
is_octets None octets = false
is_octets (Some plain) octets = bytes_eq plain octets

-- the host handed down the frame of a copy so short before it
abbrev pub is_handed : ℕ → ℕ → Option (List ℕ) → Handed → Bool
is_handed within at plain one = nat_le (at - one.at) within && is_octets plain one.octets

abbrev pub was_handed : ℕ → ℕ → Option (List ℕ) → List Handed → Bool
was_handed within at plain handed = list_any (λ one. is_handed within at plain one) handed

-- A copy from the device's own address begins a send, unless its number was begun less than 800 ms before. Where all that the host
-- sends is in the capture only supervision does, and none that the host handed down shortly before.
abbrev pub begins_send : Danh → List (Option ℕ) → List Handed → ℕ → CopyFields → List ℕ → Bool
begins_send danh begun handed at copy octets =
    is_same_address copy.src danh.mac && not (was_begun begun copy.seq at)
    && (if is_supervision copy.dst copy.kind then not (was_handed danh.within at (plain_octets octets) handed) else not danh.has_host)
