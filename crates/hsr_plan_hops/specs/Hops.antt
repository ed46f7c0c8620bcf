-- How long the copies of a finished run were on their way.
use Rattle.std.specs.Prelude.{ℕ, ◌+◌, ◌==◌, Bool, true, false, Option, Some, None, slice_get}
use Rattle.std.specs.List.{list_all}
use Rattle.hsr_node.specs.declared.entry.Entry.{Entry}
use Rattle.hsr_run_laws.specs.Run.{Run, record_of}
use Rattle.hsr_timeline.specs.declared.origin.Spot.{Spot}
use Rattle.hsr_timeline.specs.Hops.{hops}
use Rattle.hsr_timeline.specs.declared.hop.Hop.{Hop}

abbrev pub moment_if : Option Entry → Option ℕ
moment_if None = None
moment_if (Some x) = Some x.at

-- the moment of an entry of a run
abbrev pub moment_at : Run → Option Spot → Option ℕ
moment_at run None = None
moment_at run (Some spot) = moment_if (slice_get (record_of run spot.node) spot.place)

-- one moment is so much later than another
abbrev pub is_later_by : ℕ → Option ℕ → Option ℕ → Bool
is_later_by us (Some from) (Some to) = from + us == to
is_later_by us _ _ = false

abbrev pub is_in_time_if : ℕ → Run → Hop → Option Spot → Bool
is_in_time_if us run hop None = true
is_in_time_if us run hop (Some judged) = is_later_by us (moment_at run hop.passed) (moment_at run (Some judged))

-- a copy was lost, or judged `us` microseconds after it was passed
abbrev pub is_in_time : ℕ → Run → Hop → Bool
is_in_time us run hop = is_in_time_if us run hop hop.judged

-- each copy of a run that wasn't lost was judged `us` microseconds after it was passed
abbrev pub are_by_hops : ℕ → Run → Bool
are_by_hops us run = list_all (is_in_time us run) (hops run)
