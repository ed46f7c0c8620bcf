-- Rows of a finished run and stamps.
--     EachRowStands   where entries have stamps, each row stands at an entry that has one
--     OnlyCircles     rows have no order of time only where entries have no stamps
use Rattle.std.specs.Prelude.{List, Option}
use Rattle.hsr_finished_run.specs.Finished.{Finished, IsFinished}
use Rattle.hsr_timeline.specs.Stamps.{AreStamps, HasNoStamps}
use Rattle.hsr_timeline.specs.declared.origin.Spot.{Spot}
use Rattle.hsr_timeline.specs.declared.stamp.Stamp.{Stamp}
use Rattle.hsr_timeline.specs.Hops.{hops}
use Rattle.hsr_timeline.specs.Causes.{origins}
use Rattle.hsr_timeline.specs.Story.{AreShown, HasNoStory}
use Rattle.hsr_timeline.specs.declared.shown.Shown.{Shown}

abbrev pub EachRowStands : Type 0
EachRowStands = (f : Finished) → IsFinished f → (stamp : Spot → Option Stamp) → AreStamps (origins f.run f.plan) stamp → (rows : List Shown) × AreShown stamp (hops f.run) rows

abbrev pub OnlyCircles : Type 0
OnlyCircles = (f : Finished) → IsFinished f → HasNoStory f.run f.plan → HasNoStamps (origins f.run f.plan)
