-- How the copies of a finished run went over their wires. In each direction of a link one frame goes at a time, in the order in which they were
-- put.
--     begins_on    when a copy began to go: as it was passed, or when the direction was free
--     ends_on      when the direction was free behind it
--     is_judged    it was judged then, and its node kept it for its time; or so it was with its first octets
--     follows      what is known of a link behind one copy more
use Rattle.std.specs.Prelude.{ℕ, ◌==◌, max, Bool, true, false, ◌&&◌, ◌||◌, Option, Some, None, slice_get, fold, if◌then◌else◌}
use Rattle.hsr_link.specs.declared.row.Dir.{Dir}
use Rattle.hsr_link.specs.declared.row.Dir.TheVariants.{Forth, Back}
use Rattle.hsr_link.specs.declared.row.Fate.{Fate}
use Rattle.hsr_link.specs.declared.row.Fate.TheVariants.{Queued, Taken, LostDown, LostCut, LostOverrun}
use Rattle.hsr_link.specs.declared.row.Row.{Row}
use Rattle.hsr_run_laws.specs.Run.{Run, rows_of}
use Rattle.hsr_timeline.specs.Hops.{hops}
use Rattle.hsr_timeline.specs.declared.hop.Hop.{Hop}
use Rattle.hsr_wire.specs.Octets.{wire_octets}
use Rattle.hsr_plan_text.specs.declared.plan.Switching.{Switching}
use Rattle.hsr_plan_text.specs.declared.plan.Switching.TheVariants as switching
use Rattle.hsr_plan_text.specs.declared.plan.Wire.{Wire}
use Rattle.hsr_plan_hops.specs.Flights.{head_octets, later, time_on}
use Rattle.hsr_plan_hops.specs.Hops.{moment_at}
use Rattle.hsr_plan_hops.specs.declared.wires.Course.{Course}

-- ---- one copy

-- of these octets, passed at a moment, where its direction was free from another on
abbrev pub begins_on : ℕ → Option ℕ → ℕ
begins_on free None = free
begins_on free (Some passed) = max passed free

abbrev pub ends_on : Wire → ℕ → Row → ℕ
ends_on wire begins row = later begins (time_on wire (wire_octets row.carried.octets))

abbrev pub judged_whole : Wire → ℕ → ℕ
judged_whole wire ends = later ends wire.residence

abbrev pub judged_early : Wire → ℕ → ℕ
judged_early wire begins = later (later begins (time_on wire head_octets)) wire.residence

abbrev pub is_judged_at : Wire → Switching → ℕ → ℕ → ℕ → Bool
is_judged_at wire switching.Store begins ends at = at == judged_whole wire ends
is_judged_at wire switching.Cut begins ends at = at == judged_whole wire ends || at == judged_early wire begins

abbrev pub is_judged : Wire → ℕ → ℕ → Option ℕ → Bool
is_judged wire begins ends None = false
is_judged wire begins ends (Some at) = is_judged_at wire wire.switching begins ends at

-- ---- one after another

abbrev pub free_of : Dir → Course → ℕ
free_of Forth c = c.forth
free_of Back c = c.back

abbrev pub freed : Dir → ℕ → Course → Course
freed Forth free c = record c { forth = free }
freed Back free c = record c { back = free }

-- a link over which nothing went yet
abbrev pub on_link : ℕ → Course → Course
on_link l c = if l == c.link then c else record { link = l; forth = 0; back = 0; fits = c.fits }

-- a copy was taken, and has to be judged in time
abbrev pub taken_on : Wire → Run → Hop → Row → Course → ℕ → Course
taken_on wire run hop row c begins =
    record (freed row.dir (ends_on wire begins row) c) { fits = c.fits && is_judged wire begins (ends_on wire begins row) (moment_at run hop.judged) }

-- what a cut took leaves its direction free; what was lost as it was put never went
abbrev pub went : Wire → Run → Hop → Row → Fate → Course → Course
went wire run hop row Queued c = c
went wire run hop row Taken c = taken_on wire run hop row c (begins_on (free_of row.dir c) (moment_at run hop.passed))
went wire run hop row LostDown c = c
went wire run hop row LostCut c = freed row.dir 0 c
went wire run hop row LostOverrun c = c

abbrev pub went_if : Wire → Run → Hop → Option Row → Course → Course
went_if wire run hop None c = c
went_if wire run hop (Some row) c = went wire run hop row row.fate c

abbrev pub follows : Wire → Run → Course → Hop → Course
follows wire run c hop = went_if wire run hop (slice_get (rows_of run hop.link) hop.number) (on_link hop.link c)

-- ---- all

abbrev pub at_first : Course
at_first = record { link = 0; forth = 0; back = 0; fits = true }

-- each copy of a run that was taken was judged in time
abbrev pub are_by_wires : Wire → Run → Bool
are_by_wires wire run = (fold (follows wire run) at_first (hops run)).fits
