-- What a packet is: a copy of a frame with an HSR tag, or none.
--     needed     how many octets must have been captured so that a frame's type and tag can be read
--     filled     a packet's octets, with zeros for those that weren't captured
--     copy_of    what a packet is
--     copy_at    what octets are that are a copy, by their places
use Rattle.std.specs.Prelude.{ℕ, ◌≡◌, ◌+◌, ◌-◌, ◌/◌, ◌%◌, ◌==◌, ◌≤◌, nat_lt, max, if◌then◌else◌, List, [], ◌∷◌, ◌++◌, length, take, drop, replicate, Option, Some, None, Result, Ok, Err}
use Rattle.hsr_frame.specs.Cases.{first_of}
use Rattle.hsr_frame.specs.Grammar.{has_vlan, head_len, number_at}
use Rattle.hsr_frame.specs.Layout.{control_at, ethertype_hsr, max_frame, plain_head, source_at, tag_len, vlan_head}
use Rattle.hsr_frame.specs.declared.fault.FrameFault.{FrameFault}
use Rattle.hsr_tag.specs.Seen.{classified}
use Rattle.hsr_tag.specs.declared.seen.Seen.{Seen}
use Rattle.hsr_tag.specs.declared.seen.Seen.TheVariants.{Plain, Tagged}
use Rattle.hsr_capture_reader.specs.Fields.{PacketFields}
use Rattle.hsr_frame_copies.specs.declared.contents.NoCopy.{NoCopy}
use Rattle.hsr_frame_copies.specs.declared.contents.NoCopy.TheVariants.{Unread, Malformed, Untagged}

-- a copy of a tagged frame, with the octets of its payload that were captured, and how many the payload has
pub record CopyFields : Type 0 where
  pub dst : List ℕ
  pub src : List ℕ
  pub vlan : Option ℕ
  pub path : ℕ
  pub size : ℕ
  pub seq : ℕ
  pub kind : ℕ
  pub payload : List ℕ
  pub length : ℕ

-- the octets up to the last type and its tag
abbrev pub needed : List ℕ → ℕ
needed octets = first_of
    ((nat_lt (length octets) plain_head, plain_head)
    ∷ (nat_lt (length octets) (head_len octets), head_len octets)
    ∷ (number_at (head_len octets - 2) octets == ethertype_hsr, head_len octets + tag_len)
    ∷ [])
    (head_len octets)

abbrev pub filled : PacketFields → List ℕ
filled p = p.octets ++ replicate (p.length - length p.octets) 0

-- what stands up to the payload of a tagged frame
abbrev pub tagged_head : Option ℕ → ℕ
tagged_head None = plain_head + tag_len
tagged_head (Some control) = vlan_head + tag_len

-- what octets are that were seen so
abbrev pub copy_in : List ℕ → Result Seen FrameFault → Result CopyFields NoCopy
copy_in octets (Err fault) = Err (Malformed fault)
copy_in octets (Ok (Plain f)) = Err (Untagged (record { dst = f.dst; src = f.src; kind = f.kind }))
copy_in octets (Ok (Tagged t)) = Ok (record {
  dst = t.dst;
  src = t.src;
  vlan = t.vlan;
  path = t.path;
  size = t.size;
  seq = t.seq;
  kind = t.kind;
  payload = drop (tagged_head t.vlan) octets;
  length = length t.payload;
})

-- a packet is read with zeros for what wasn't captured, if its type and its tag were
abbrev pub copy_of : PacketFields → Result CopyFields NoCopy
copy_of p =
    if nat_lt (length p.octets) p.length
    then (if nat_lt (length p.octets) (needed p.octets) then Err Unread else copy_in p.octets (classified (filled p)))
    else copy_in p.octets (classified p.octets)

-- ---- by places

-- where the payload of a tagged frame stands
abbrev pub payload_at : List ℕ → ℕ
payload_at octets = head_len octets + tag_len

-- how many octets a packet had: as many as were captured at least
abbrev pub size_of : PacketFields → ℕ
size_of p = max (length p.octets) p.length

-- a copy of so many octets, by its places
abbrev pub copy_at : List ℕ → ℕ → CopyFields
copy_at octets size = record {
  dst = take 6 octets;
  src = take 6 (drop source_at octets);
  vlan = if has_vlan octets then Some (number_at control_at octets) else None;
  path = number_at (head_len octets) octets / 4096;
  size = number_at (head_len octets) octets % 4096;
  seq = number_at (head_len octets + 2) octets;
  kind = number_at (head_len octets + 4) octets;
  payload = drop (payload_at octets) octets;
  length = size - payload_at octets;
}

-- A packet that is a copy is no longer than a frame, was captured up to its payload, and what stands there is at its places.
pub record IsAtPlaces (p : PacketFields) (copy : CopyFields) : Type 0 where
  pub room : size_of p ≤ max_frame
  pub head : payload_at p.octets ≤ length p.octets
  pub places : copy ≡ copy_at p.octets (size_of p)
