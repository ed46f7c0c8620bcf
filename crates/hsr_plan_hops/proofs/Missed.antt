-- No copy is missed, but at the last moment that there is.
use Rattle.std.proofs.Common.{◌≡◌, ◌⊎◌, inl, inr, ℕ, zero, suc, ◌-◌, ◌^◌, ◌≤◌, nat_lt, Bool, true, false, List, [], ◌∷◌, length, replicate, Option, Some, None, Ok, refl, subst, arith}
use Rattle.std.specs.Prelude.{fold, if◌then◌else◌, slice_index_or, slice_set}
use Rattle.std.specs.Option.{IfSome}
use Rattle.std.proofs.lemmas.Option.{IfSome_then}
use Rattle.hsr_topology.specs.Links.{link_from}
use Rattle.hsr_topology.specs.declared.end.End.{End}
use Rattle.hsr_link.specs.declared.row.Dir.{Dir}
use Rattle.hsr_link.specs.declared.row.Dir.TheVariants.{Forth, Back}
use Rattle.hsr_scenario.specs.declared.steps.Order.{Order}
use Rattle.hsr_world_steps.specs.declared.step.Step.TheVariants.{Clock, Put, Take, Judge, Cut}
use Rattle.hsr_world_steps.specs.declared.step.Step as steps
use Rattle.hsr_plan_schedule.specs.Meaning.{Meaning}
use Rattle.hsr_plan_text.specs.declared.plan.Transfer.{Transfer}
use Rattle.hsr_plan_text.specs.declared.plan.Transfer.TheVariants as transfer
use Rattle.hsr_world_laws.specs.World.{World, tried}
use Rattle.hsr_plan_hops.specs.Beginning.{Begins, IsNext, Stage, at_first, behind, done, left_out, next_copy, seen_at}
use Rattle.hsr_plan_hops.specs.Flights.{Channel, Channels, Sight, arrival_on, channels_behind, dir_from, is_before_end, is_sooner, is_to_come, is_up_to_end, kept_at, is_on_time, kept_in, next_of, no_channel, put_at, put_by, put_in, sooner, sooner_on, with_channel}
use Rattle.hsr_plan_hops.specs.Moving.{world_of}
use Rattle.hsr_plan_hops.specs.Refusing.{IsBadPace, IsUnmovable, comes_first}
use Rattle.hsr_plan_hops.specs.Turns.{begun_behind, is_first, moment_behind}
use Rattle.hsr_plan_hops.specs.Weaving.{arriving, arriving_if}
use Rattle.hsr_plan_hops.specs.declared.flights.Arrival.{Arrival}
use Rattle.hsr_plan_hops.proofs.Ends.{IsFrom, IsToCome, gone_by, soonest}
use Rattle.hsr_plan_hops.proofs.Queues.{IsInTime, at_moment, first_arrival, in_world, kept_in_time, none_put, put_in_time}
use Rattle.hsr_plan_hops.proofs.Rows.{AreGrown, grown_by}

-- ---- the soonest arrival

of_sooner : (P : Arrival → Type 0) (a b : Option Arrival) → IfSome a P → IfSome b P → IfSome (sooner a b) P
of_sooner P None b h k = k
of_sooner P (Some a) None h k = h
of_sooner P (Some a) (Some b) h k = elim (is_sooner b a) as (λ x. IfSome (if x then Some b else Some a) P) [ true ↦ k | false ↦ h ]

from_sooner : (at : ℕ) (a b : Option Arrival) → IfSome (sooner a b) (IsFrom at) → IfSome a (IsFrom at) × IfSome b (IsFrom at)
from_sooner at None b h = (tt, h)
from_sooner at (Some a) None h = (h, tt)
from_sooner at (Some a) (Some b) h = by_case (is_sooner b a) refl h
  where
    by_case : (x : Bool) → is_sooner b a ≡ x → IfSome (if x then Some b else Some a) (IsFrom at) → (at ≤ a.at) × (at ≤ b.at)
    by_case true e k = (grind arith, k)
    by_case false e k = (k, grind arith)

module _ (transfer : Transfer) (v : Sight) where
  of_channels : (P : Arrival → Type 0) (a : Option Arrival) (cs : List Channel) → IfSome a P → ((l : ℕ) → IfSome (arrival_on transfer v (slice_index_or cs l no_channel)) P) → IfSome (fold (sooner_on transfer v) a cs) P
  of_channels P a [] h k = h
  of_channels P a (c ∷ cs) h k = of_channels P (sooner_on transfer v a c) cs (of_sooner P a (arrival_on transfer v c) h (k 0)) (λ l. k (suc l))

  from_channels : (at : ℕ) (a : Option Arrival) (cs : List Channel) → IfSome (fold (sooner_on transfer v) a cs) (IsFrom at)
      → IfSome a (IsFrom at) × ((l : ℕ) → IfSome (arrival_on transfer v (slice_index_or cs l no_channel)) (IsFrom at))
  from_channels at a [] h = (h, λ l. tt)
  from_channels at a (c ∷ cs) h =
      let rest = from_channels at (sooner_on transfer v a c) cs h in
      let here = from_sooner at a (arrival_on transfer v c) rest.0 in
      (here.0, λ l. elim l as (λ k. IfSome (arrival_on transfer v (slice_index_or (c ∷ cs) k no_channel)) (IsFrom at)) [ zero ↦ here.1 | suc k ↦ rest.1 k ])

-- ---- all channels

abbrev at_link : List Channel → ℕ → Channel
at_link cs l = slice_index_or cs l no_channel

-- each channel of a direction
abbrev EachChannel : (ℕ → Channel → Type 0) → List Channel → Type 0
EachChannel P cs = (l : ℕ) → P l (at_link cs l)

none_yet : (P : ℕ → Channel → Type 0) → ((l : ℕ) → P l no_channel) → (n : ℕ) → EachChannel P (replicate n no_channel)
none_yet P h zero l = h l
none_yet P h (suc n) zero = h zero
none_yet P h (suc n) (suc l) = none_yet (λ k. P (suc k)) (λ k. h (suc k)) n l

set_one : (P : ℕ → Channel → Type 0) (cs : List Channel) (l : ℕ) (c : Channel) → P l c → EachChannel P cs → EachChannel P (slice_set cs l c)
set_one P [] l c h all k = all k
set_one P (x ∷ cs) zero c h all zero = h
set_one P (x ∷ cs) zero c h all (suc k) = all (suc k)
set_one P (x ∷ cs) (suc l) c h all zero = all zero
set_one P (x ∷ cs) (suc l) c h all (suc k) = set_one (λ n. P (suc n)) cs l c h (λ n. all (suc n)) k

with_one : (P : ℕ → Channel → Type 0) (cs : List Channel) (l : ℕ) (c : Channel) → P l c → EachChannel P cs → EachChannel P (with_channel cs l c)
with_one P cs l c h all = elim (nat_lt l (length cs)) as (λ b. EachChannel P (if b then slice_set cs l c else cs)) [ true ↦ set_one P cs l c h all | false ↦ all ]

-- the copies of all channels come to their ends at moments that are to come
record AreInTime (transfer : Transfer) (now : ℕ) (begun : Bool) (w : World) (cs : Channels) : Type 0 where
  forth : EachChannel (IsInTime transfer now begun w) cs.forth
  back : EachChannel (IsInTime transfer now begun w) cs.back

next_in_time : (transfer : Transfer) (v : Sight) → AreInTime transfer v.now v.begun v.world v.channels → IfSome (next_of transfer v) (IsToCome v.now v.begun)
next_in_time transfer v h =
    let forth = of_channels transfer v (IsToCome v.now v.begun) None v.channels.forth tt (λ l. first_arrival transfer v l (at_link v.channels.forth l) (h.forth l)) in
    of_channels transfer v (IsToCome v.now v.begun) _ v.channels.back forth (λ l. first_arrival transfer v l (at_link v.channels.back l) (h.back l))

all_at_moment : (transfer : Transfer) (v : Sight) (moment : ℕ) (begun : Bool) → ¬ IsBadPace transfer → v.now ≤ moment → IfSome (next_of transfer v) (IsFrom (soonest moment begun))
    → AreInTime transfer v.now v.begun v.world v.channels → AreInTime transfer moment begun v.world v.channels
all_at_moment transfer v moment begun good later soon h =
    let back = from_channels transfer v (soonest moment begun) _ v.channels.back soon in
    let forth = from_channels transfer v (soonest moment begun) None v.channels.forth back.0 in
    record {
      forth = λ l. at_moment transfer v moment begun l (at_link v.channels.forth l) good later (forth.1 l) (h.forth l);
      back = λ l. at_moment transfer v moment begun l (at_link v.channels.back l) good later (back.1 l) (h.back l);
    }

all_in_world : (transfer : Transfer) (now : ℕ) (begun : Bool) (w after : World) (cs : Channels) → ¬ IsBadPace transfer → AreGrown w after → AreInTime transfer now begun w cs → AreInTime transfer now begun after cs
all_in_world transfer now begun w after cs good grown h = record {
  forth = λ l. in_world transfer now begun w after l (at_link cs.forth l) good grown (h.forth l);
  back = λ l. in_world transfer now begun w after l (at_link cs.back l) good grown (h.back l);
}

module _ (transfer : Transfer) (now : ℕ) (begun : Bool) (w : World) where
  abbrev Each : List Channel → Type 0
  Each = EachChannel (IsInTime transfer now begun w)

  abbrev All : Channels → Type 0
  All = AreInTime transfer now begun w

  kept_at_link : (l : ℕ) (cs : List Channel) → Each cs → Each (kept_at l w cs)
  kept_at_link l cs h = with_one (IsInTime transfer now begun w) cs l _ (kept_in_time transfer now begun w l (at_link cs l) (h l)) h

  all_kept : (l : ℕ) (dir : Dir) (cs : Channels) → All cs → All (kept_in l dir w cs)
  all_kept l Forth cs h = record { forth = kept_at_link l cs.forth h.forth; back = h.back }
  all_kept l Back cs h = record { forth = h.forth; back = kept_at_link l cs.back h.back }

  put_at_link : (turn l : ℕ) (dir : Dir) (cs : List Channel) → Each cs → Each (put_at transfer now turn l dir w cs)
  put_at_link turn l dir cs h = with_one (IsInTime transfer now begun w) cs l _ (put_in_time transfer now begun w turn l dir (at_link cs l) (h l)) h

  all_put : (turn l : ℕ) (dir : Dir) (cs : Channels) → All cs → All (put_in transfer now turn l dir w cs)
  all_put turn l Forth cs h = record { forth = put_at_link turn l Forth cs.forth h.forth; back = h.back }
  all_put turn l Back cs h = record { forth = h.forth; back = put_at_link turn l Back cs.back h.back }

  put_by_port : (turn : ℕ) (at : Option (ℕ × Bool)) (cs : Channels) → All cs → All (put_by transfer now turn w cs at)
  put_by_port turn None cs h = h
  put_by_port turn (Some at) cs h = all_put turn at.0 (dir_from at.1) cs h

-- ---- a step

up_to_end : (at : ℕ) (next : Option Arrival) → is_up_to_end at next ≡ true → IfSome next (IsFrom (soonest at false))
up_to_end at None h = tt
up_to_end at (Some a) h = grind arith

before_end : (now : ℕ) (next : Option Arrival) → is_before_end now next ≡ true → IfSome next (IsFrom (soonest now true))
before_end now None h = tt
before_end now (Some a) h = grind arith

-- the next copy comes to its end at a moment that is to come behind a step too
still_to_come : (now : ℕ) (begun : Bool) (next : Option Arrival) (step : steps.Step) → is_on_time now next step ≡ true → IfSome next (IsFrom (soonest now begun))
    → IfSome next (IsFrom (soonest (moment_behind now step) (begun_behind begun step)))
still_to_come now begun next (Clock at) h k = up_to_end at next h
still_to_come now begun next (Put n port) h k = k
still_to_come now begun next (Take l dir) h k = k
still_to_come now begun next (Judge n port) h k = k
still_to_come now begun next _ h k = before_end now next h

no_sooner : (now : ℕ) (begun : Bool) (step : steps.Step) → is_first now begun step ≡ true → now ≤ moment_behind now step
no_sooner now begun (Clock at) h = grind arith
no_sooner now begun _ h = omega arith

all_behind : (transfer : Transfer) (links : List (List End)) (now turn : ℕ) (begun : Bool) (step : steps.Step) (w : World) (cs : Channels) → AreInTime transfer (moment_behind now step) begun w cs
    → AreInTime transfer (moment_behind now step) begun w (channels_behind transfer links now turn step w cs)
all_behind transfer links now turn begun (Put n port) w cs h = put_by_port transfer now begun w turn (link_from 0 links (record { node = n; port = port })) cs h
all_behind transfer links now turn begun (Take l dir) w cs h = all_kept transfer now begun w l dir cs h
all_behind transfer links now turn begun (Cut l) w cs h = all_kept transfer now begun w l Back (kept_in l Forth w cs) (all_kept transfer now begun w l Forth cs h)
all_behind transfer links now turn begun _ w cs h = h

abbrev IsInTimeAt : Transfer → Stage → Type 0
IsInTimeAt transfer s = AreInTime transfer s.moment s.begun s.world s.channels

step_in_time : (capacity : ℕ) (transfer : Transfer) (links : List (List End)) (s : Stage) (step : steps.Step) (more : List Order) (after : World) → ¬ IsBadPace transfer
    → IsNext capacity transfer links s step more → tried capacity s.world step ≡ Ok after → IsInTimeAt transfer s → IsInTimeAt transfer (behind transfer links s step more after)
step_in_time capacity transfer links s step more after good next is h =
    let v : Sight = seen_at links s in
    let soon = IfSome_then (next_of transfer v) (next_in_time transfer v h) (λ a k. k.0) in
    let moved = all_at_moment transfer v (moment_behind s.moment step) (begun_behind s.begun step) good (no_sooner s.moment s.begun step next.first) (still_to_come s.moment s.begun _ step next.on_time soon) h in
    let grown = all_in_world transfer _ _ s.world after s.channels good (grown_by capacity s.world after step is) moved in
    all_behind transfer links s.moment s.turn (begun_behind s.begun step) step after s.channels grown

-- ---- why a plan isn't moved

pace : (transfer : Transfer) → IsBadPace transfer ⊎ (¬ IsBadPace transfer)
pace (transfer.Hop zero) = inl refl
pace (transfer.Hop (suc us)) = inr (λ e. omega (arith, e))
pace (transfer.Wire wire) = inr (λ e. e)

is_next : (now : ℕ) (told : List Order) (next : Option Arrival) (a : Arrival) → arriving_if now told next ≡ Some a → next ≡ Some a
is_next now told None a h = h
is_next now told (Some b) a h = by_case (comes_first now told b) h
  where
    by_case : (x : Bool) → (if x then Some b else None) ≡ Some a → Some b ≡ Some a
    by_case true e = e
    by_case false e = absurd (cc)

-- ---- all steps

module _ (capacity : ℕ) (transfer : Transfer) (told : Meaning) where
  always_in_time : (orders : List Order) (s : Stage) → ¬ IsBadPace transfer → Begins capacity transfer told orders s → IsInTimeAt transfer s
  always_in_time orders s good at_first =
      let none = none_yet (IsInTime transfer 0 false (world_of told)) (λ l. none_put transfer 0 false (world_of told) l good) (length told.topology.links) in
      record { forth = none; back = none }
  always_in_time orders s good (done first t step more between begins next is) = step_in_time capacity transfer told.topology.links t step more between good next is (always_in_time first t good begins)
  always_in_time orders s good (left_out first t step more begins next unknown) = always_in_time first t good begins

  -- only at the last moment a copy may come to its end at one that isn't to come any more
  missed_at_last : (orders : List Order) (s : Stage) (a : Arrival) → ¬ IsBadPace transfer → Begins capacity transfer told orders s → next_copy transfer told.topology.links s ≡ Some a
      → is_to_come s.moment s.begun a.at ≡ false → a.at ≡ 2 ^ 64 - 1
  missed_at_last orders s a good begins next missed =
      let P : Option Arrival → Type 0 = λ o. IfSome o (IsToCome s.moment s.begun) in
      let known = subst P next (next_in_time transfer (seen_at told.topology.links s) (always_in_time orders s good begins)) in
      gone_by s.moment s.begun a.at missed known.0 known.1

  -- so a plan isn't moved where a copy does that is the next before what is told
  pub unmoved_at_last : (orders : List Order) (s : Stage) (a : Arrival) → Begins capacity transfer told orders s → arriving transfer told.topology.links s ≡ Some a
      → is_to_come s.moment s.begun a.at ≡ false → IsUnmovable capacity transfer told
  unmoved_at_last orders s a begins first missed =
      let next = is_next s.moment s.told (next_copy transfer told.topology.links s) a first in
      elim (pace transfer) as (λ x. IsUnmovable capacity transfer told) [
        | inl bad ↦ inl bad
        | inr good ↦ inr (inr (inl (record {
          orders = orders;
          stage = s;
          begins = begins;
          stuck = inr (inr (inl (record { copy = a; next = next; last = missed_at_last orders s a good begins next missed; missed = missed })));
        })))
      ]
