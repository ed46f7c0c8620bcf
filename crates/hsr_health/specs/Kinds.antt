-- Packets that are no copies, by kind, and frames by VLAN: each kind once, in order, with how many there are.
use Rattle.std.specs.Prelude.{ℕ, ◌≡◌, ◌+◌, ◌-◌, ◌*◌, ◌/◌, ◌%◌, ◌<◌, ◌==◌, ◌&&◌, nat_lt, Bool, true, false, if◌then◌else◌, List, count_by, slice_get, slice_index, Contains, Option, Some, None}
use Rattle.hsr_frame.specs.declared.fault.FrameFault.{FrameFault}
use Rattle.hsr_frame.specs.declared.fault.FrameFault.TheVariants as the_fault
use Rattle.hsr_frame_copies.specs.declared.contents.NoCopy.{NoCopy}
use Rattle.hsr_frame_copies.specs.declared.contents.NoCopy.TheVariants.{Unread, Malformed, Untagged}
use Rattle.hsr_frame_groups.specs.Frames.{CaughtFields, past_of}
use Rattle.hsr_sightings.specs.Copies.{count_copies}
use Rattle.hsr_sightings.specs.Frames.{begins}
use Rattle.hsr_health.specs.declared.by_key.KeyCount.{KeyCount}
use Rattle.hsr_health.specs.declared.kinds.MalformedKind.{MalformedKind}
use Rattle.hsr_health.specs.declared.kinds.UntaggedKind.{UntaggedKind}
use Rattle.hsr_health.specs.declared.kinds.VlanKind.{VlanKind}
use Rattle.hsr_taps.specs.declared.tapping.Stray.{Stray}

-- 01-80-C2-00-00-00 to 0F
abbrev pub is_link_local : List ℕ → Bool
is_link_local dst =
    (slice_index dst 0 == 1) && (slice_index dst 1 == 128) && (slice_index dst 2 == 194) && (slice_index dst 3 == 0) && (slice_index dst 4 == 0) && nat_lt (slice_index dst 5) 16

-- the rank of a fault's word among all in the order of their letters
abbrev pub rank_of : FrameFault → ℕ
rank_of the_fault.GroupSource = 0
rank_of the_fault.Long = 1
rank_of the_fault.NestedTag = 2
rank_of the_fault.Short = 3
rank_of the_fault.ShortTag = 4
rank_of the_fault.DoubleVlan = 5

abbrev pub same : Bool → Bool → Bool
same true b = b
same false true = false
same false false = true

abbrev pub is_untagged_as : UntaggedKind → Stray → Bool
is_untagged_as kind stray = (stray.interface == kind.interface) && by_what stray.what
  where
    by_what : NoCopy → Bool
    by_what (Untagged frame) = (frame.kind == kind.ethertype) && same (is_link_local frame.dst) kind.is_link_local
    by_what (Malformed fault) = false
    by_what Unread = false

abbrev pub is_malformed_as : MalformedKind → Stray → Bool
is_malformed_as kind stray = (stray.interface == kind.interface) && by_what stray.what
  where
    by_what : NoCopy → Bool
    by_what (Malformed fault) = rank_of fault == kind.rank
    by_what (Untagged frame) = false
    by_what Unread = false

abbrev pub has_vlan : Option ℕ → CaughtFields → Bool
has_vlan control c = by_both control c.copy.vlan
  where
    by_both : Option ℕ → Option ℕ → Bool
    by_both None None = true
    by_both None (Some n) = false
    by_both (Some m) None = false
    by_both (Some m) (Some n) = m == n

-- those without a tag before all others
abbrev pub vlan_rank : Option ℕ → ℕ
vlan_rank None = 0
vlan_rank (Some control) = control + 1

abbrev pub local_rank : Bool → ℕ
local_rank false = 0
local_rank true = 1

abbrev pub untagged_rank : UntaggedKind → ℕ
untagged_rank kind = (kind.interface * 65536 + kind.ethertype) * 2 + local_rank kind.is_link_local

abbrev pub malformed_rank : MalformedKind → ℕ
malformed_rank kind = kind.interface * 8 + kind.rank

-- a packet of such a kind has its kind among them
abbrev pub IsUntaggedAmong : List UntaggedKind → NoCopy → Stray → Type 0
IsUntaggedAmong kinds (Untagged frame) stray = (k : ℕ) × (kind : UntaggedKind) × (slice_get kinds k ≡ Some kind) × (is_untagged_as kind stray ≡ true)
IsUntaggedAmong kinds (Malformed fault) stray = Unit {0}
IsUntaggedAmong kinds Unread stray = Unit {0}

abbrev pub IsMalformedAmong : List MalformedKind → NoCopy → Stray → Type 0
IsMalformedAmong kinds (Malformed fault) stray = (k : ℕ) × (kind : MalformedKind) × (slice_get kinds k ≡ Some kind) × (is_malformed_as kind stray ≡ true)
IsMalformedAmong kinds (Untagged frame) stray = Unit {0}
IsMalformedAmong kinds Unread stray = Unit {0}

-- each kind with how many there are, at least one
pub record AreUntagged (strays : List Stray) (kinds : List UntaggedKind) : Type 0 where
  pub counted : (k : ℕ) (kind : UntaggedKind) → slice_get kinds k ≡ Some kind → (kind.packets ≡ count_by (is_untagged_as kind) strays) × (0 < kind.packets)
  pub once : (j k : ℕ) (kind other : UntaggedKind) → j < k → slice_get kinds j ≡ Some kind → slice_get kinds k ≡ Some other → untagged_rank kind < untagged_rank other
  pub all : (i : ℕ) (stray : Stray) → slice_get strays i ≡ Some stray → IsUntaggedAmong kinds stray.what stray

pub record AreMalformed (strays : List Stray) (kinds : List MalformedKind) : Type 0 where
  pub counted : (k : ℕ) (kind : MalformedKind) → slice_get kinds k ≡ Some kind → (kind.packets ≡ count_by (is_malformed_as kind) strays) × (0 < kind.packets)
  pub once : (j k : ℕ) (kind other : MalformedKind) → j < k → slice_get kinds j ≡ Some kind → slice_get kinds k ≡ Some other → malformed_rank kind < malformed_rank other
  pub all : (i : ℕ) (stray : Stray) → slice_get strays i ≡ Some stray → IsMalformedAmong kinds stray.what stray

-- frames by their VLAN tags, those without one first
pub record AreVlans (past : List CaughtFields) (kinds : List VlanKind) : Type 0 where
  pub counted : (k : ℕ) (kind : VlanKind) → slice_get kinds k ≡ Some kind → (kind.frames ≡ count_copies (λ before c. begins before c && has_vlan kind.control c) past) × (0 < kind.frames)
  pub once : (j k : ℕ) (kind other : VlanKind) → j < k → slice_get kinds j ≡ Some kind → slice_get kinds k ≡ Some other → vlan_rank kind.control < vlan_rank other.control
  pub all : (control : Option ℕ) → 0 < count_copies (λ before c. begins before c && has_vlan control c) past → (k : ℕ) × (kind : VlanKind) × (slice_get kinds k ≡ Some kind) × (kind.control ≡ control)

-- ---- how they are counted: by number

-- interfaces of packets are below 64
abbrev pub HaveInterfaces : List Stray → Type 0
HaveInterfaces strays = (i : ℕ) (stray : Stray) → slice_get strays i ≡ Some stray → stray.interface < 64

-- the number of a packet's kind, which is the rank of that, and the kind of a number
abbrev pub untagged_number : ℕ → ℕ → Bool → ℕ
untagged_number interface ethertype is_local = (interface * 65536 + ethertype) * 2 + local_rank is_local

abbrev pub untagged_key : ℕ → NoCopy → Option ℕ
untagged_key interface (Untagged frame) = Some (untagged_number interface frame.kind (is_link_local frame.dst))
untagged_key interface (Malformed fault) = None
untagged_key interface Unread = None

abbrev pub untagged_of : Stray → Option ℕ
untagged_of stray = untagged_key stray.interface stray.what

abbrev pub untagged_by : KeyCount → UntaggedKind
untagged_by own = record { interface = own.key / 131072; ethertype = own.key / 2 % 65536; is_link_local = own.key % 2 == 1; packets = own.count }

abbrev pub malformed_key : ℕ → NoCopy → Option ℕ
malformed_key interface (Malformed fault) = Some (interface * 8 + rank_of fault)
malformed_key interface (Untagged frame) = None
malformed_key interface Unread = None

abbrev pub malformed_of : Stray → Option ℕ
malformed_of stray = malformed_key stray.interface stray.what

abbrev pub malformed_by : KeyCount → MalformedKind
malformed_by own = record { interface = own.key / 8; rank = own.key % 8; packets = own.count }

-- an EtherType is a number of 16 bits
abbrev pub IsSmall : NoCopy → Type 0
IsSmall (Untagged frame) = frame.kind < 65536
IsSmall (Malformed fault) = Unit {0}
IsSmall Unread = Unit {0}

abbrev pub AreSmall : List Stray → Type 0
AreSmall strays = (i : ℕ) (stray : Stray) → slice_get strays i ≡ Some stray → IsSmall stray.what

-- the number of a VLAN tag is its rank
abbrev pub control_by : ℕ → Option ℕ
control_by key = if key == 0 then None else Some ((key - 1) % 65536)

abbrev pub vlan_by : KeyCount → VlanKind
vlan_by own = record { control = control_by own.key; frames = own.count }

abbrev pub vlan_if : Bool → CaughtFields → Option ℕ
vlan_if begins c = if begins then Some (vlan_rank c.copy.vlan) else None

-- those of the copies before a place that begin frames
pub record AreVlanKeys (copies : List CaughtFields) (i : ℕ) (keys : List ℕ) : Type 0 where
  pub counted : (key : ℕ) → count_by (λ n. n == key) keys ≡ count_copies (λ before c. begins before c && (vlan_rank c.copy.vlan == key)) (past_of copies i)
  pub small : (n : ℕ) → Contains keys n → n < 65537
