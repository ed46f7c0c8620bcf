-- Whether something is in doubt, the single points of failure, and what is enough for all runs.
use Rattle.std.specs.Prelude.{ℕ, ◌==◌, ◌&&◌, ◌||◌, nat_lt, max, not, Bool, true, false, if◌then◌else◌, List, [], fold, Option, Some, None}
use Rattle.std.specs.List.{cons_option, flat_map, list_any}
use Rattle.hsr_faults.specs.declared.fault.Fault.TheVariants.{One, Two}
use Rattle.hsr_faults.specs.declared.fault.Off.{Off as Piece}
use Rattle.hsr_report.specs.declared.spending.Spending.{Spending}
use Rattle.hsr_report.specs.declared.spending.Spending.TheVariants.{Within, Late, Crowded}
use Rattle.hsr_plan_sweep.specs.declared.asked.Asked.{Asked}
use Rattle.hsr_plan_sweep.specs.declared.cases.Case.{Case}
use Rattle.hsr_plan_sweep.specs.declared.cases.Case.TheVariants.{Undisturbed, Off}
use Rattle.hsr_plan_sweep.specs.declared.counting.Count.{Count}
use Rattle.hsr_plan_sweep.specs.declared.playing.Played.{Played}

-- ---- doubts

-- all sends are complete
abbrev pub is_whole : Count → Bool
is_whole count = count.complete == count.sends

abbrev pub is_over : Option ℕ → ℕ → Bool
is_over None n = false
is_over (Some limit) n = nat_lt limit n

-- a limit is passed
abbrev pub is_past : Asked → Count → Bool
is_past asked count = is_over asked.limit_latency count.latency || is_over asked.limit_load count.load

-- one link or node is off at most
abbrev pub is_alone : Case → Bool
is_alone Undisturbed = true
is_alone (Off (One a)) = true
is_alone (Off (Two a b)) = false

abbrev pub is_doubtful : Asked → Played → Bool
is_doubtful asked played = is_past asked played.count || (is_alone played.case && not (is_whole played.count))

abbrev pub is_in_doubt : Asked → List Played → Bool
is_in_doubt asked plays = list_any (is_doubtful asked) plays

-- ---- single points of failure

-- what alone is off
abbrev pub point_in : Case → Option Piece
point_in Undisturbed = None
point_in (Off (One a)) = Some a
point_in (Off (Two a b)) = None

-- it alone is off, and a send isn't complete
abbrev pub point_of : Played → Option Piece
point_of played = if is_whole played.count then None else point_in played.case

abbrev pub points_by : Played → List Piece
points_by played = cons_option (point_of played) []

abbrev pub points : List Played → List Piece
points plays = flat_map points_by plays

-- ---- what is enough for all

abbrev pub needed_with : ℕ → Played → ℕ
needed_with most played = max most played.count.needed

abbrev pub most_needed : List Played → ℕ
most_needed plays = fold needed_with 0 plays

-- the first of two that isn't within budget, or else the greater
abbrev pub worse : Spending → Spending → Spending
worse (Within a) (Within b) = Within (max a b)
worse (Within a) (Late k place) = Late k place
worse (Within a) (Crowded moment) = Crowded moment
worse (Late k place) other = Late k place
worse (Crowded moment) other = Crowded moment

abbrev pub spent_with : Spending → Played → Spending
spent_with most played = worse most played.count.spending

abbrev pub worst_spent : List Played → Spending
worst_spent plays = fold spent_with (Within 0) plays
