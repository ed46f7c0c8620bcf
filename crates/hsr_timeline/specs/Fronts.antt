-- Stamps as far as they are known: of each record a front.
use Rattle.std.specs.Prelude.{ℕ, ◌≡◌, ◌<◌, List, [], length, map, slice_index_or, Option, Some, None, Vec}
use Rattle.std.specs.Global.{Global}
use Rattle.hsr_timeline.specs.declared.origin.Origin.{Origin}
use Rattle.hsr_timeline.specs.declared.origin.Spot.{Spot}
use Rattle.hsr_timeline.specs.declared.stamp.Stamp.{Stamp}
use Rattle.hsr_timeline.specs.declared.timing.OrderFault.{OrderFault}
use Rattle.hsr_timeline.specs.declared.timing.OrderFault.TheVariants.{Circle, NoMemory}
use Rattle.hsr_timeline.specs.Stamps.{at_spot, stamp_of}

-- lists in memory, as lists
abbrev pub items_of : {X : Type 0} → Vec X Global → List X
items_of v = v.items

abbrev pub lists_of : {X : Type 0} → List (Vec X Global) → List (List X)
lists_of vs = map items_of vs

-- how long a list of lists is at a node
abbrev pub length_at : {X : Type 0} → List (List X) → ℕ → ℕ
length_at rows node = length (slice_index_or rows node [])

-- a node's next entry
abbrev pub next_spot : List (List Stamp) → ℕ → Spot
next_spot stamps node = record { node = node; place = length_at stamps node }

-- its stamp, if the stamps of its causes are known
abbrev pub next_of : List (List Origin) → List (List Stamp) → ℕ → Option Stamp
next_of records stamps node = stamp_of records (at_spot stamps) (next_spot stamps node)

-- each stamp that is known is right
pub record IsFront (records : List (List Origin)) (stamps : List (List Stamp)) : Type 0 where
  pub nodes : length stamps ≡ length records
  pub each : (spot : Spot) (t : Stamp) → at_spot stamps spot ≡ Some t → stamp_of records (at_spot stamps) spot ≡ Some t

-- none of the first nodes' next entries has a stamp yet
abbrev pub AreBlocked : List (List Origin) → List (List Stamp) → ℕ → Type 0
AreBlocked records stamps n = (k : ℕ) → k < n → next_of records stamps k ≡ None

-- the stamps of all entries are known
abbrev pub AreAllKnown : List (List Origin) → List (List Stamp) → Type 0
AreAllKnown records stamps = (k : ℕ) → k < length records → length_at stamps k ≡ length_at records k

-- why there are no stamps: a circle says so
abbrev pub IfCircle : Type 0 → OrderFault → Type 0
IfCircle P Circle = P
IfCircle P NoMemory = Unit {0}
