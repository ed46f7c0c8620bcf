-- The rows of a finished run in the order of time: by moment, the greatest that leads there; within it by step, the longest chain of
-- causes; then by node and place. A row stands at the entry that judged its copy; where the copy was lost, at the entry that
-- passed it, behind the copy with which that came.
--     shown_at     where a row stands
--     IsOrdered    each row once, in that order
--     IsStory      that of a run
use Rattle.std.specs.Prelude.{◌≡◌, ◌⊎◌, not, List, map, Option, Some, option_map, is_some, IsPermutation}
use Rattle.std.specs.List.Sorted.{IsSorted}
use Rattle.std.specs.Option.{option_and_then, option_or}
use Rattle.std.specs.Ordering.{bool_cmp, nat_cmp, ordering_then}
use Rattle.std.specs.declared.cmp.Ordering.{Ordering}
use Rattle.hsr_run_laws.specs.Run.{Run}
use Rattle.hsr_finished_run.specs.declared.planned.Planned.{Planned}
use Rattle.hsr_timeline.specs.Stamps.{AreStamps, HasNoStamps}
use Rattle.hsr_timeline.specs.declared.origin.Origin.{Origin}
use Rattle.hsr_timeline.specs.declared.origin.Spot.{Spot}
use Rattle.hsr_timeline.specs.declared.stamp.Stamp.{Stamp}
use Rattle.hsr_timeline.specs.declared.hop.Hop.{Hop}
use Rattle.hsr_timeline.specs.Hops.{hops}
use Rattle.hsr_timeline.specs.declared.shown.Shown.{Shown}
use Rattle.hsr_timeline.specs.declared.telling.StoryFault.{StoryFault}
use Rattle.hsr_timeline.specs.declared.telling.StoryFault.TheVariants.{Circle, NoMemory}
use Rattle.hsr_timeline.specs.Causes.{origins}

-- the entry at which a hop is shown: the one that judged the copy, or else the one that passed it
abbrev pub shown_where : Hop → Option Spot
shown_where hop = option_or hop.judged hop.passed

abbrev pub shown_by : Hop → Spot → Stamp → Shown
shown_by hop spot t = record {
  moment = t.moment;
  step = t.step;
  node = spot.node;
  place = spot.place;
  is_lost = not (is_some hop.judged);
  link = hop.link;
  number = hop.number;
}

abbrev pub shown_then : (Spot → Option Stamp) → Hop → Spot → Option Shown
shown_then stamp hop spot = option_map (shown_by hop spot) (stamp spot)

abbrev pub shown_at : (Spot → Option Stamp) → Hop → Option Shown
shown_at stamp hop = option_and_then (shown_then stamp hop) (shown_where hop)

-- each hop has its row
abbrev pub AreShown : (Spot → Option Stamp) → List Hop → List Shown → Type 0
AreShown stamp list rows = map (shown_at stamp) list ≡ map (λ row. Some row) rows

-- ---- the order

abbrev pub shown_cmp : Shown → Shown → Ordering
shown_cmp x y =
    ordering_then (nat_cmp x.moment y.moment) (ordering_then (nat_cmp x.step y.step) (ordering_then (nat_cmp x.node y.node)
    (ordering_then (nat_cmp x.place y.place) (ordering_then (bool_cmp x.is_lost y.is_lost) (ordering_then (nat_cmp x.link y.link) (nat_cmp x.number y.number))))))

-- by what entries follow, each row of these hops once, in the order of time
pub record IsOrdered (records : List (List Origin)) (list : List Hop) (story : List Shown) : Type 0 where
  pub stamp : Spot → Option Stamp
  pub stamps : AreStamps records stamp
  pub rows : List Shown
  pub shown : AreShown stamp list rows
  pub once : IsPermutation rows story
  pub sorted : IsSorted shown_cmp story

-- entries follow one another in a circle; or a row stands at none that has a stamp
abbrev pub HasNoOrder : List (List Origin) → List Hop → Type 0
HasNoOrder records list = HasNoStamps records ⊎ ((stamp : Spot → Option Stamp) × AreStamps records stamp × ((rows : List Shown) → AreShown stamp list rows → ⊥))

-- each row of a run once, in the order of time
abbrev pub IsStory : Run → List Planned → List Shown → Type 0
IsStory run plan story = IsOrdered (origins run plan) (hops run) story

abbrev pub HasNoStory : Run → List Planned → Type 0
HasNoStory run plan = HasNoOrder (origins run plan) (hops run)

-- `Circle` says that this holds
abbrev pub IfCircle : Type 0 → StoryFault → Type 0
IfCircle P Circle = P
IfCircle P NoMemory = Unit {0}
