-- The lines of a sweep.
use Rattle.std.specs.Prelude.{ℕ, if◌then◌else◌, nat_lt, List, [], ◌∷◌, ◌++◌, codes, slice_get, Option, Some, None}
use Rattle.std.specs.Fmt.{decimal}
use Rattle.std.specs.List.{flat_map}
use Rattle.hsr_topology.specs.declared.end.End.{End}
use Rattle.hsr_faults.specs.declared.fault.Off.{Off as Piece}
use Rattle.hsr_faults.specs.declared.fault.Off.TheVariants as piece
use Rattle.hsr_naming.specs.declared.naming.Naming.{Naming}
use Rattle.hsr_plan_network.specs.Nodes.{Node}
use Rattle.hsr_plan_outages.specs.Lines.{fault_text}
use Rattle.hsr_plan_outages.specs.Names.{end_text, node_name}
use Rattle.hsr_audit.specs.declared.doubt.Doubt.TheVariants.{CutOff}
use Rattle.hsr_report.specs.Report.{finding_line, spending_text}
use Rattle.hsr_report.specs.declared.finding.Finding.{Finding}
use Rattle.hsr_report.specs.declared.finding.Finding.TheVariants as finding
use Rattle.hsr_plan_sweep.specs.Verdict.{most_needed, points, worst_spent}
use Rattle.hsr_plan_sweep.specs.declared.asked.Asked.{Asked}
use Rattle.hsr_plan_sweep.specs.declared.asked.Part.{Part}
use Rattle.hsr_plan_sweep.specs.declared.cases.Case.{Case}
use Rattle.hsr_plan_sweep.specs.declared.cases.Case.TheVariants.{Undisturbed, Off}
use Rattle.hsr_plan_sweep.specs.declared.counting.Count.{Count}
use Rattle.hsr_plan_sweep.specs.declared.counting.Miss.{Miss}
use Rattle.hsr_plan_sweep.specs.declared.playing.Played.{Played}

-- what lines call things by, and the limits that were asked for
pub record Words : Type 0 where
  pub nodes : List Node
  pub links : List (List End)
  pub naming : Naming
  pub asked : Asked

-- ---- a run

-- what was off
abbrev pub case_text : Words → Case → List ℕ
case_text w Undisturbed = codes "undisturbed"
case_text w (Off fault) = fault_text w.nodes w.links fault

-- how many sends it had, and what became of them
unfoldable pub sends_text : Count → List ℕ
sends_text count =
    codes " sends " ++ decimal count.sends ++ codes " complete " ++ decimal count.complete ++ codes " missed " ++ decimal count.missed
    ++ codes " twice " ++ decimal count.twice

-- how many entries it needed, and what it spent of its tables
unfoldable pub tables_text : Words → Count → List ℕ
tables_text w count = codes " needed " ++ decimal count.needed ++ codes " budget " ++ spending_text w.naming count.spending

-- the limit that a number is over, if it is
abbrev pub over_text : Option ℕ → ℕ → List ℕ
over_text None n = []
over_text (Some limit) n = if nat_lt limit n then codes " over " ++ decimal limit else []

abbrev pub limited_text : List ℕ → Option ℕ → ℕ → List ℕ
limited_text name limit n = name ++ decimal n ++ over_text limit n

unfoldable pub limits_text : Words → Count → List ℕ
limits_text w count = limited_text (codes " latency ") w.asked.limit_latency count.latency ++ limited_text (codes " load ") w.asked.limit_load count.load

-- the first send that was missed, as a doubt
abbrev pub first_text : Naming → Option Miss → List ℕ
first_text naming None = codes "none missed\n"
first_text naming (Some miss) = finding_line naming (finding.Doubt (CutOff miss.send.node miss.send.place miss.node))

-- The audit of networks asks for nodes that are off too, and for those whom no stream is for. Where it finds that a send doesn't come to one
-- of all these, the first is told that was missed by one that needs it.
abbrev pub found_if : Naming → Option Miss → Finding → List ℕ
found_if naming first (finding.Doubt (CutOff k place receiver)) = first_text naming first
found_if naming first found = finding_line naming found

abbrev pub found_text : Naming → Count → List ℕ
found_text naming count = found_if naming count.first count.finding

-- and what was found, in the words of a report
unfoldable pub play_text : Words → Count → List ℕ
play_text w count = sends_text count ++ tables_text w count ++ limits_text w count ++ codes " " ++ found_text w.naming count

abbrev pub play_line : Words → Played → List ℕ
play_line w played = case_text w played.case ++ play_text w played.count

-- ---- single points of failure

-- a link by its ends: qb1.C-bcu3.A
abbrev pub dashed : List Node → List End → List ℕ
dashed nodes (a ∷ b ∷ []) = end_text nodes a ++ codes "-" ++ end_text nodes b
dashed nodes _ = []

abbrev pub dashed_if : List Node → Option (List End) → List ℕ
dashed_if nodes None = []
dashed_if nodes (Some link) = dashed nodes link

abbrev pub point_text : Words → Piece → List ℕ
point_text w (piece.Link l) = dashed_if w.nodes (slice_get w.links l)
point_text w (piece.Node k) = node_name w.nodes k

abbrev pub next_point : Words → Piece → List ℕ
next_point w off = codes ", " ++ point_text w off

unfoldable pub some_points : Words → Piece → List Piece → List ℕ
some_points w first others = codes "single points of failure: " ++ point_text w first ++ flat_map (next_point w) others ++ codes "\n"

abbrev pub points_text : Words → List Piece → List ℕ
points_text w [] = codes "no single point of failure\n"
points_text w (first ∷ others) = some_points w first others

-- ---- all

-- how many entries are enough for all runs, and the worst that one spent of its tables
unfoldable pub enough_text : Words → List Played → List ℕ
enough_text w plays = codes "needed " ++ decimal (most_needed plays) ++ codes "\nbudget " ++ spending_text w.naming (worst_spent plays) ++ codes "\n"

abbrev pub all_text : Words → List Played → List ℕ
all_text w plays = points_text w (points plays) ++ enough_text w plays

-- only a whole sweep tells what holds of all
abbrev pub last_if : Option Part → Words → List Played → List ℕ
last_if None w plays = all_text w plays
last_if (Some part) w plays = []

abbrev pub last_text : Words → List Played → List ℕ
last_text w plays = last_if w.asked.part w plays

abbrev pub sweep_text : Words → List Played → List ℕ
sweep_text w plays = flat_map (play_line w) plays ++ last_text w plays
