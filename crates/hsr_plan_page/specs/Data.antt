-- The numbers of a plan's page, as JSON. A list ends with a 0, so that each of its rows ends with a comma.
--     tally_row     sends, complete, entries needed, longest latency, most load
--     stream_row    sends, complete, the longest if one was taken up, the nodes that missed one
--     load_row      node and port from which and to which copies go, frames, octets, mean, worst millisecond, when it begins
--     latency_row   node, frames, longest, node and place of the send that took longest
--     outage_row    sends that are cut off, and of these those from each node
--     case_row      sends, complete, missed, twice, entries needed, longest latency, most load
--     data_text     all of it
use Rattle.std.specs.Prelude.{ℕ, List, [], ◌∷◌, ◌++◌, codes, chars, encode_utf8_all, option_to_list}
use Rattle.std.specs.Fmt.{decimal}
use Rattle.std.specs.List.{flat_map}
use Rattle.hsr_latency.specs.declared.latency.NodeLatency.{NodeLatency}
use Rattle.hsr_load.specs.declared.load.ChannelLoad.{ChannelLoad}
use Rattle.hsr_page.specs.Hidden.{seen}
use Rattle.hsr_page.specs.Lists.{numbers_text}
use Rattle.hsr_page.specs.Spelling.{json_string}
use Rattle.hsr_plan_page.specs.declared.facts.CaseRow.{CaseRow}
use Rattle.hsr_plan_page.specs.declared.facts.Facts.{Facts}
use Rattle.hsr_plan_page.specs.declared.facts.OutageRow.{OutageRow}
use Rattle.hsr_plan_page.specs.declared.facts.StreamRow.{StreamRow}
use Rattle.hsr_plan_page.specs.declared.facts.Tally.{Tally}

-- the sum of the plan's text, the lines of both verdicts and of the budget, and the numbers of the run and of the sweeps
pub record Numbers : Type 0 where
  pub sum : List ℕ
  pub any_order : List ℕ
  pub run : List ℕ
  pub budget : List ℕ
  pub tally : Tally
  pub streams : List StreamRow
  pub loads : List ChannelLoad
  pub latencies : List NodeLatency
  pub outages : List OutageRow
  pub cases : List CaseRow
  pub bare_cases : List CaseRow

abbrev pub numbers_of : Facts → Numbers
numbers_of facts = record { sum = facts.sum.now; any_order = facts.in_any_order.line.now; run = facts.in_run.line.now; budget = facts.budget.now; tally = facts.tally; streams = facts.streams.now; loads = facts.loads.now; latencies = facts.latencies.now; outages = facts.outages.now; cases = facts.cases.now; bare_cases = facts.bare_cases.now }

-- ---- rows

abbrev pub row_text : List ℕ → List ℕ
row_text numbers = numbers_text numbers ++ codes ","

abbrev pub tally_row : Tally → List ℕ
tally_row tally = row_text (tally.sends ∷ tally.complete ∷ tally.needed ∷ tally.latency ∷ tally.load ∷ [])

unfoldable pub counts_text : StreamRow → List ℕ
counts_text row = codes "[" ++ (decimal row.sends ++ (codes "," ++ decimal row.complete))

unfoldable pub notes_text : StreamRow → List ℕ
notes_text row = codes "," ++ (numbers_text (option_to_list row.latency) ++ (codes "," ++ (numbers_text row.missing.items ++ codes "],")))

abbrev pub stream_row : StreamRow → List ℕ
stream_row row = counts_text row ++ notes_text row

abbrev pub load_row : ChannelLoad → List ℕ
load_row load = row_text (load.from.node ∷ load.from.port ∷ load.to.node ∷ load.to.port ∷ load.frames ∷ load.octets ∷ load.mean ∷ load.worst ∷ load.at ∷ [])

abbrev pub latency_row : NodeLatency → List ℕ
latency_row latency = row_text (latency.node ∷ latency.frames ∷ latency.worst.time ∷ latency.worst.send.node ∷ latency.worst.send.place ∷ [])

unfoldable pub outage_row : OutageRow → List ℕ
outage_row row = codes "[" ++ (decimal row.sends ++ (codes "," ++ (numbers_text row.missed.items ++ codes "],")))

abbrev pub case_row : CaseRow → List ℕ
case_row row = row_text (row.counts.tally.sends ∷ row.counts.tally.complete ∷ row.counts.missed ∷ row.counts.twice ∷ row.counts.tally.needed ∷ row.counts.tally.latency ∷ row.counts.tally.load ∷ [])

-- ---- all

-- a list under a key, behind a comma
unfoldable pub keyed : List ℕ → List ℕ → List ℕ
keyed key rows = (codes ",\"" ++ (key ++ codes "\":[")) ++ (rows ++ codes "0]")

-- a line as it is spelled in JSON
abbrev pub spelled : List ℕ → List ℕ
spelled line = encode_utf8_all (json_string (seen (chars line)))

unfoldable pub told : List ℕ → List ℕ → List ℕ
told key line = (codes ",\"" ++ (key ++ codes "\":")) ++ spelled line

unfoldable pub lines_text : Numbers → List ℕ
lines_text n = told (codes "sum") n.sum ++ (told (codes "any_order") n.any_order ++ (told (codes "run") n.run ++ told (codes "budget") n.budget))

unfoldable pub play_text : Numbers → List ℕ
play_text n =
    keyed (codes "tally") (tally_row n.tally) ++ (keyed (codes "streams") (flat_map stream_row n.streams)
    ++ (keyed (codes "loads") (flat_map load_row n.loads) ++ keyed (codes "latency") (flat_map latency_row n.latencies)))

unfoldable pub cases_text : Numbers → List ℕ
cases_text n =
    keyed (codes "outages") (flat_map outage_row n.outages) ++ (keyed (codes "cases") (flat_map case_row n.cases) ++ keyed (codes "bare_cases") (flat_map case_row n.bare_cases))

unfoldable pub data_text : Numbers → List ℕ
data_text n = codes "{\"v\":1" ++ (lines_text n ++ (play_text n ++ (cases_text n ++ codes "}")))
