-- The list of a finished run's rows in the order of time.
--     HasEachOnce        each row stands in it just once, where its copy was judged or else passed, and nothing else does
--     ComesBefore        an entry comes before another: in their node's record; in the main order; or it passed a copy that the
--                        other judged
--     KeepsOrder         where an entry comes before another, the rows at it stand before those at the other
--     StampsRise         each entry is earlier than all that it comes before
--     StoryKeepsOrder    the list has each row once, and keeps that order
--     ChosenKeepOrder    so do those of its rows that are wanted
use Rattle.std.specs.Prelude.{ℕ, ◌≡◌, ◌<◌, ◌==◌, ◌&&◌, ◌⊎◌, Bool, true, List, count_by, filter, slice_get, Contains, Option, Some, IsSome}
use Rattle.hsr_link.specs.declared.row.Row.{Row}
use Rattle.hsr_run_laws.specs.Run.{Run, record_of, rows_of}
use Rattle.hsr_finished_run.specs.Finished.{Finished, IsFinished}
use Rattle.hsr_finished_run.specs.declared.planned.Planned.{Planned}
use Rattle.hsr_timeline.specs.Stamps.{AreStamps, is_earlier}
use Rattle.hsr_timeline.specs.declared.origin.Spot.{Spot}
use Rattle.hsr_timeline.specs.declared.stamp.Stamp.{Stamp}
use Rattle.hsr_timeline.specs.declared.hop.Hop.{Hop}
use Rattle.hsr_timeline.specs.Hops.{hop_of, hops}
use Rattle.hsr_timeline.specs.Causes.{main_at, origins}
use Rattle.hsr_timeline.specs.Choice.{is_copy_of, is_on, is_wanted}
use Rattle.hsr_timeline.specs.Story.{IsStory, shown_where}
use Rattle.hsr_timeline.specs.declared.choice.Choice.{Choice}
use Rattle.hsr_timeline.specs.declared.shown.Shown.{Shown}

-- ---- each row once

-- it is the row of this number on this link
abbrev pub is_row : ℕ → ℕ → Shown → Bool
is_row link number x = x.link == link && x.number == number

-- the entry at which a row stands
abbrev pub entry_of : Shown → Spot
entry_of x = record { node = x.node; place = x.place }

pub record HasEachOnce (run : Run) (list : List Shown) : Type 0 where
  -- each row of the run stands there just once
  pub once : (link number : ℕ) (row : Row) → slice_get (rows_of run link) number ≡ Some row → count_by (is_row link number) list ≡ 1
  -- what stands there is a row of the run, at the entry that judged its copy, or else at the one that passed it
  pub only : (x : Shown) → Contains list x → (row : Row) × (slice_get (rows_of run x.link) x.number ≡ Some row) × (shown_where (hop_of run x.link x.number row) ≡ Some (entry_of x))

-- the same of the rows that are wanted
pub record HasWantedOnce (run : Run) (choice : Choice) (list : List Shown) : Type 0 where
  pub once : (link number : ℕ) (row : Row) → slice_get (rows_of run link) number ≡ Some row → is_on choice.link link ≡ true → is_copy_of choice.send (Some row) ≡ true → count_by (is_row link number) list ≡ 1
  pub only : (x : Shown) → Contains list x → (row : Row) × (slice_get (rows_of run x.link) x.number ≡ Some row) × (shown_where (hop_of run x.link x.number row) ≡ Some (entry_of x)) × (is_wanted run choice x ≡ true)

-- ---- which entry comes before which

-- an entry, and a later one of the same record
abbrev pub IsRecordedBefore : Spot → Spot → Type 0
IsRecordedBefore p q = (p.node ≡ q.node) × (p.place < q.place)

-- an entry of the main worker, and a later one of it, of whichever nodes
abbrev pub IsMainBefore : Run → List Planned → Spot → Spot → Type 0
IsMainBefore run plan p q = (i : ℕ) × (j : ℕ) × (i < j) × (main_at run plan i ≡ Some p) × (main_at run plan j ≡ Some q)

-- the entry that passed a copy, and the one that judged it
abbrev pub IsPassedTo : Run → Spot → Spot → Type 0
IsPassedTo run p q = (hop : Hop) × Contains (hops run) hop × (hop.passed ≡ Some p) × (hop.judged ≡ Some q)

abbrev pub ComesBefore : Finished → Spot → Spot → Type 0
ComesBefore f p q = IsRecordedBefore p q ⊎ (IsMainBefore f.run f.plan p q ⊎ IsPassedTo f.run p q)

-- ---- the laws

-- the place holds an entry
abbrev pub IsEntry : Run → Spot → Type 0
IsEntry run spot = IsSome (slice_get (record_of run spot.node) spot.place)

-- both have stamps, and the one's is earlier
abbrev pub IsEarlierBy : (Spot → Option Stamp) → Spot → Spot → Type 0
IsEarlierBy stamp p q = (t : Stamp) × (u : Stamp) × (stamp p ≡ Some t) × (stamp q ≡ Some u) × (is_earlier t u ≡ true)

-- where an entry comes before another, the rows at it stand before those at the other
abbrev pub KeepsOrder : Finished → List Shown → Type 0
KeepsOrder f list = (i j : ℕ) (x y : Shown) → slice_get list i ≡ Some x → slice_get list j ≡ Some y → ComesBefore f (entry_of x) (entry_of y) → i < j

abbrev pub StampsRise : Type 0
StampsRise = (f : Finished) → IsFinished f → (stamp : Spot → Option Stamp) → AreStamps (origins f.run f.plan) stamp → (p q : Spot) → IsEntry f.run q → ComesBefore f p q → IsEarlierBy stamp p q

abbrev pub StoryKeepsOrder : Type 0
StoryKeepsOrder = (f : Finished) → IsFinished f → (story : List Shown) → IsStory f.run f.plan story → HasEachOnce f.run story × KeepsOrder f story

abbrev pub ChosenKeepOrder : Type 0
ChosenKeepOrder = (f : Finished) → IsFinished f → (story : List Shown) → IsStory f.run f.plan story → (choice : Choice) →
    HasWantedOnce f.run choice (filter (is_wanted f.run choice) story) × KeepsOrder f (filter (is_wanted f.run choice) story)
