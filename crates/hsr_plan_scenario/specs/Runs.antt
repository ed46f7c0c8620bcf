-- Why a plan has no run.
--     HasNoRun    what is meant has none
--     IsUnrunOf   a plan has none
use Rattle.std.specs.Prelude.{ℕ, ◌⊎◌, ⊤}
use Rattle.hsr_ring.specs.Finishing.{IsUnfinishedBy}
use Rattle.hsr_ring.specs.declared.finishing.Unfinished.{Unfinished}
use Rattle.hsr_ring.specs.declared.finishing.Unfinished.TheVariants.{Memory}
use Rattle.hsr_plan_text.specs.Plan.{Plan}
use Rattle.hsr_plan_schedule.specs.Meaning.{Meaning}
use Rattle.hsr_plan_hops.specs.Moving.{MeansMoved}
use Rattle.hsr_plan_hops.specs.Refusing.{IsImmovable}
use Rattle.hsr_plan_scenario.specs.Refusals.{MeansNothing}

-- it isn't that an allocation failed
abbrev pub IsKnownRun : Unfinished → Type 0
IsKnownRun Memory = ⊥
IsKnownRun fault = ⊤

-- with tables of `capacity` entries an order is refused, or a drain doesn't end, or the world that all orders lead to isn't closed
abbrev pub HasNoRun : ℕ → Meaning → Type 0
HasNoRun capacity m = (fault : Unfinished) × IsKnownRun fault × IsUnfinishedBy capacity m.topology m.capacity m.orders fault

-- a plan means nothing; or what it means can't be moved by hops or wires; or what it means has no finished run
abbrev pub IsUnrunOf : ℕ → Plan → Type 0
IsUnrunOf capacity plan = MeansNothing plan ⊎ (IsImmovable capacity plan ⊎ ((m : Meaning) × MeansMoved capacity plan m × HasNoRun capacity m))
