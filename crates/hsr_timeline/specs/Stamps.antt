-- When entries took place. An entry follows the one before it in its record, the main worker's entry before it if it is the
-- main worker's, and the entry that passed the copy with which it came.
--     at_spot       what stands for an entry, in lists by node and place
--     stamp_by      the latest of an entry's own moment and of one step after each that it follows
--     AreStamps     each entry has that stamp
--     CausesFirst   an entry comes after each that it follows
use Rattle.std.specs.Prelude.{◌≡◌, ◌+◌, ◌-◌, ◌==◌, ◌&&◌, ◌||◌, nat_lt, Bool, true, List, [], slice_get, slice_index_or, if◌then◌else◌, Option, Some, None, option_map, IsSome}
use Rattle.std.specs.Option.{option_and_then}
use Rattle.hsr_timeline.specs.declared.origin.Origin.{Origin}
use Rattle.hsr_timeline.specs.declared.origin.Spot.{Spot}
use Rattle.hsr_timeline.specs.declared.stamp.Stamp.{Stamp}

-- what stands for an entry
abbrev pub at_spot : {X : Type 0} → List (List X) → Spot → Option X
at_spot rows spot = slice_get (slice_index_or rows spot.node []) spot.place

-- ---- stamps

abbrev pub is_earlier : Stamp → Stamp → Bool
is_earlier x y = nat_lt x.moment y.moment || (x.moment == y.moment && nat_lt x.step y.step)

abbrev pub later : Stamp → Stamp → Stamp
later x y = if is_earlier x y then y else x

-- one step after a stamp
abbrev pub next : Stamp → Stamp
next t = record { moment = t.moment; step = t.step + 1 }

-- ---- what an entry follows

-- the entry before it in its record
abbrev pub before : Spot → Option Spot
before spot = if spot.place == 0 then None else Some (record { node = spot.node; place = spot.place - 1 })

-- a stamp, or one step after that of a cause, if that is later; the cause has a stamp
abbrev pub after : (Spot → Option Stamp) → Option Spot → Stamp → Option Stamp
after stamp None t = Some t
after stamp (Some cause) t = option_map (λ c. later t (next c)) (stamp cause)

-- the latest of an entry's own moment and of one step after each that it follows
abbrev pub stamp_by : (Spot → Option Stamp) → Spot → Origin → Option Stamp
stamp_by stamp spot x =
    option_and_then (after stamp x.passed) (option_and_then (after stamp x.planned) (after stamp (before spot) (record { moment = x.at; step = 0 })))

abbrev pub stamp_of : List (List Origin) → (Spot → Option Stamp) → Spot → Option Stamp
stamp_of records stamp spot = option_and_then (stamp_by stamp spot) (at_spot records spot)

-- each entry has the stamp that those before it give, and nothing else has one
pub record AreStamps (records : List (List Origin)) (stamp : Spot → Option Stamp) : Type 0 where
  pub each : (spot : Spot) → stamp spot ≡ stamp_of records stamp spot
  pub known : (spot : Spot) (x : Origin) → at_spot records spot ≡ Some x → IsSome (stamp spot)

-- entries that have no stamps: they follow one another in a circle
abbrev pub HasNoStamps : List (List Origin) → Type 0
HasNoStamps records = (stamp : Spot → Option Stamp) → AreStamps records stamp → ⊥

-- ---- the law

-- a cause's stamp is before the entry's
abbrev pub IsAfter : (Spot → Option Stamp) → Option Spot → Stamp → Type 0
IsAfter stamp None t = Unit {0}
IsAfter stamp (Some cause) t = (c : Stamp) × (stamp cause ≡ Some c) × (is_earlier c t ≡ true)

pub record FollowsAll (stamp : Spot → Option Stamp) (spot : Spot) (x : Origin) (t : Stamp) : Type 0 where
  pub recorded : IsAfter stamp (before spot) t
  pub planned : IsAfter stamp x.planned t
  pub passed : IsAfter stamp x.passed t

-- Each entry's stamp is after those of all that it follows.
abbrev pub CausesFirst : Type 0
CausesFirst = (records : List (List Origin)) (stamp : Spot → Option Stamp) → AreStamps records stamp → (spot : Spot) (x : Origin) (t : Stamp) → at_spot records spot ≡ Some x → stamp spot ≡ Some t → FollowsAll stamp spot x t
