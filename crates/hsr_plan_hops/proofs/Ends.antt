-- When a copy comes to its end at the latest, and how soon one may that is put now.
use Rattle.std.proofs.Common.{◌≡◌, ℕ, ◌+◌, ◌*◌, ◌-◌, ◌/◌, ◌%◌, ◌^◌, ◌<◌, ◌≤◌, ◌&&◌, max, min, Bool, true, false, refl, arith}
use Rattle.std.specs.Prelude.{if◌then◌else◌}
use Rattle.std.proofs.lemmas.Nat.{div-add-mod', le-div}
use Rattle.hsr_wire.specs.Octets.{wire_octets}
use Rattle.hsr_link.specs.declared.row.Dir.{Dir}
use Rattle.hsr_link.specs.declared.row.Row.{Row}
use Rattle.hsr_plan_text.specs.declared.plan.Switching.{Switching}
use Rattle.hsr_plan_text.specs.declared.plan.Switching.TheVariants as switching
use Rattle.hsr_plan_text.specs.declared.plan.Transfer.{Transfer}
use Rattle.hsr_plan_text.specs.declared.plan.Transfer.TheVariants as transfer
use Rattle.hsr_plan_text.specs.declared.plan.Wire.{Wire}
use Rattle.hsr_plan_hops.specs.Flights.{Sight, arrives_at, arrives_by, end_at, flight_of, head_at, head_octets, is_cut_through, is_to_come, later, time_on}
use Rattle.hsr_plan_hops.specs.Refusing.{IsBadPace}
use Rattle.hsr_plan_hops.specs.declared.flights.Arrival.{Arrival}
use Rattle.hsr_plan_hops.specs.declared.flights.Flight.{Flight}

-- the last moment
abbrev pub last : ℕ
last = 2 ^ 64 - 1

-- when a copy comes to its end, unless a node cuts it through
abbrev pub end_of : Transfer → Flight → ℕ
end_of (transfer.Hop us) f = later f.begins us
end_of (transfer.Wire wire) f = end_at wire f

-- no copy comes to its end sooner that is put now, where its channel is free from a moment on
abbrev pub least : Transfer → ℕ → ℕ → ℕ
least (transfer.Hop us) now free = later now us
least (transfer.Wire wire) now free = later (later (max now free) 1) wire.residence

-- the first moment that is to come
abbrev pub soonest : ℕ → Bool → ℕ
soonest now begun = min (if begun then now + 1 else now) last

-- a copy comes to its end at a moment or later
abbrev pub IsFrom : ℕ → Arrival → Type 0
IsFrom at a = at ≤ a.at

-- it comes to its end at a moment that is to come, or at the last one
abbrev pub IsToCome : ℕ → Bool → Arrival → Type 0
IsToCome now begun a = (soonest now begun ≤ a.at) × (a.at ≤ last)

-- ---- time on a wire

rounded_up : (r a b : ℕ) → 0 < r → a ≤ b → a / r + min 1 (a % r) ≤ b / r + min 1 (b % r)
rounded_up r a b pos h =
    let whole : a / r * r + a % r ≡ a = div-add-mod' a r in
    let more : b / r * r + b % r ≡ b = div-add-mod' b r in
    let below : a / r * r ≤ b = omega arith in
    let quotient : a / r ≤ b / r = le-div (a / r) b r pos below in
    grind arith

rounded_up_some : (r a : ℕ) → 0 < a → 0 < a / r + min 1 (a % r)
rounded_up_some r a pos =
    let whole : a / r * r + a % r ≡ a = div-add-mod' a r in
    grind arith

pub takes_time : (wire : Wire) (octets : ℕ) → 0 < octets → 0 < time_on wire octets
takes_time wire octets pos = rounded_up_some (max 1 wire.rate) (min (octets * 8) last) (omega arith)

pub takes_longer : (wire : Wire) (less more : ℕ) → less ≤ more → time_on wire less ≤ time_on wire more
takes_longer wire less more h = rounded_up (max 1 wire.rate) (min (less * 8) last) (min (more * 8) last) (omega arith) (omega arith)

-- ---- a copy that is put now

pub least_is_to_come : (transfer : Transfer) (now free : ℕ) (begun : Bool) → ¬ IsBadPace transfer → soonest now begun ≤ least transfer now free
least_is_to_come (transfer.Hop us) now free true good = omega (arith, good)
least_is_to_come (transfer.Hop us) now free false good = omega arith
least_is_to_come (transfer.Wire wire) now free true good = omega arith
least_is_to_come (transfer.Wire wire) now free false good = omega arith

pub least_rises : (transfer : Transfer) (now moment free freed : ℕ) → now ≤ moment → free ≤ freed → least transfer now free ≤ least transfer moment freed
least_rises (transfer.Hop us) now moment free freed h k = omega arith
least_rises (transfer.Wire wire) now moment free freed h k = omega arith

module _ (now turn l : ℕ) (dir : Dir) (number free : ℕ) (row : Row) where
  abbrev put : Transfer → Flight
  put transfer = flight_of transfer now turn l dir number free row

  pub least_of_put : (transfer : Transfer) → least transfer now free ≤ end_of transfer (put transfer)
  least_of_put (transfer.Hop us) = omega arith
  least_of_put (transfer.Wire wire) = omega (arith, takes_time wire (wire_octets row.carried.octets) (omega arith))

  pub least_behind_put : (transfer : Transfer) → end_of transfer (put transfer) ≤ least transfer now (put transfer).ends
  least_behind_put (transfer.Hop us) = omega arith
  least_behind_put (transfer.Wire wire) = omega arith

  -- the first octets are there before all are
  pub head_of_put : (transfer : Transfer) (v : Sight) → arrives_at transfer v (put transfer) ≤ end_of transfer (put transfer)
  head_of_put (transfer.Hop us) v = omega arith
  head_of_put (transfer.Wire wire) v = by_case wire.switching
    where
      by_case : (s : Switching) → arrives_by v wire s (put (transfer.Wire wire)) ≤ end_at wire (put (transfer.Wire wire))
      by_case switching.Store = omega arith
      by_case switching.Cut = elim (is_cut_through v wire (put (transfer.Wire wire))) as (λ b. (if b then head_at wire (put (transfer.Wire wire)) else end_at wire (put (transfer.Wire wire))) ≤ end_at wire (put (transfer.Wire wire))) [
        | true ↦ omega (arith, takes_longer wire head_octets (wire_octets row.carried.octets) (omega arith))
        | false ↦ omega arith
      ]

-- ---- a copy on its way

pub come_by : (now : ℕ) (begun : Bool) (at : ℕ) → is_to_come now begun at ≡ true → soonest now begun ≤ at
come_by now true at h = grind arith
come_by now false at h = grind arith

pub gone_by : (now : ℕ) (begun : Bool) (at : ℕ) → is_to_come now begun at ≡ false → soonest now begun ≤ at → at ≤ last → at ≡ last
gone_by now true at h k m = grind arith
gone_by now false at h k m = grind arith

-- it is cut through only where that is to come
pub comes_in_time : (transfer : Transfer) (v : Sight) (f : Flight) → soonest v.now v.begun ≤ end_of transfer f → soonest v.now v.begun ≤ arrives_at transfer v f
comes_in_time (transfer.Hop us) v f h = h
comes_in_time (transfer.Wire wire) v f h = by_case wire.switching
  where
    through : (a b : Bool) → (a ≡ true → soonest v.now v.begun ≤ head_at wire f) → soonest v.now v.begun ≤ (if a && b then head_at wire f else end_at wire f)
    through true true k = k refl
    through true false k = h
    through false b k = h

    by_case : (s : Switching) → soonest v.now v.begun ≤ arrives_by v wire s f
    by_case switching.Store = h
    by_case switching.Cut = through (is_to_come v.now v.begun (head_at wire f)) _ (come_by v.now v.begun (head_at wire f))

pub none_beyond : (transfer : Transfer) (v : Sight) (f : Flight) → arrives_at transfer v f ≤ last
none_beyond (transfer.Hop us) v f = omega arith
none_beyond (transfer.Wire wire) v f = by_case wire.switching
  where
    by_case : (s : Switching) → arrives_by v wire s f ≤ last
    by_case switching.Store = omega arith
    by_case switching.Cut = elim (is_cut_through v wire f) as (λ b. (if b then head_at wire f else end_at wire f) ≤ last) [ true ↦ omega arith | false ↦ omega arith ]
