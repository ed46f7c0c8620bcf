-- The data of a run's page, as JSON.
--     data_text   all of it: what is shown of a run, by node, by link, by send, and in the order of time
use Rattle.std.specs.Prelude.{ℕ, ◌+◌, ◌&&◌, Bool, true, false, if◌then◌else◌, List, [], ◌∷◌, ◌++◌, codes, slice_get, Option, Some, None, encode_utf8_all, chars}
use Rattle.std.specs.Str.Lossy.{utf8_lossy}
use Rattle.std.specs.Fmt.{decimal}
use Rattle.std.specs.List.{flat_map}
use Rattle.hsr_node.specs.declared.entry.Entry.{Entry}
use Rattle.hsr_node.specs.declared.event.Event.{Event}
use Rattle.hsr_node.specs.declared.event.Event.TheVariants.{Arrive}
use Rattle.hsr_node.specs.declared.event.Probe.{Probe}
use Rattle.hsr_node.specs.declared.place.Place.{Place}
use Rattle.hsr_link.specs.declared.row.Row.{Row}
use Rattle.hsr_run_laws.specs.Run.{Run, record_of, rows_of}
use Rattle.hsr_finished_run.specs.Finished.{Finished}
use Rattle.hsr_topology.specs.declared.end.End.{End}
use Rattle.hsr_timeline.specs.Names.{name_of}
use Rattle.hsr_deliveries.specs.Delivered.{Delivery}
use Rattle.hsr_diagram.specs.Pictures.{Picture}
use Rattle.hsr_diagram.specs.declared.arrow.Arrow.{Arrow}
use Rattle.hsr_diagram.specs.declared.sending.Sent.{Sent}
use Rattle.hsr_diagram.specs.declared.span.Span.{Span}
use Rattle.hsr_downs.specs.declared.downing.Down.{Down}
use Rattle.hsr_downs.specs.declared.draining.Drain.{Drain}
use Rattle.hsr_page.specs.Hidden.{seen}
use Rattle.hsr_page.specs.Spelling.{json_string}
use Rattle.hsr_run_page.specs.Entries.{is_wanted}
use Rattle.hsr_run_page.specs.Rows.{copy_row, down_row, drain_row, end_cells, entry_row, node_row, number_cell, send_row}
use Rattle.hsr_run_page.specs.declared.entries.Stamped.{Stamped}

-- a list under a key, with a comma behind it
unfoldable pub keyed : List ℕ → List ℕ → List ℕ
keyed key rows = codes "\"" ++ (key ++ (codes "\":[" ++ (rows ++ codes "0],")))

-- ---- the network

-- a name as it is spelled in JSON
abbrev pub spelled_name : List (List ℕ) → ℕ → List ℕ
spelled_name names node = encode_utf8_all (json_string (seen (chars (utf8_lossy (name_of names node)))))

-- the nodes from one on
abbrev pub node_rows_from : List (List ℕ) → ℕ → List Place → List ℕ
node_rows_from names node [] = []
node_rows_from names node (place ∷ places) = node_row (spelled_name names node) place ++ node_rows_from names (node + 1) places

abbrev pub node_rows : List (List ℕ) → List Place → List ℕ
node_rows names places = node_rows_from names 0 places

unfoldable pub ends_row : List Place → End → End → List ℕ
ends_row places one other = codes "[" ++ (end_cells (slice_get places one.node) one ++ (end_cells (slice_get places other.node) other ++ codes "0],"))

abbrev pub link_row : List Place → List End → List ℕ
link_row places (one ∷ other ∷ []) = ends_row places one other
link_row places _ = []

abbrev pub link_rows : List Place → List (List End) → List ℕ
link_rows places links = flat_map (link_row places) links

-- ---- the run

-- an entry, where it is there and wanted
abbrev pub entry_if : List Probe → Span → Stamped → Option Place → Option Entry → List ℕ
entry_if sends span s None x = []
entry_if sends span s (Some place) None = []
entry_if sends span s (Some place) (Some x) = if is_wanted sends span s x then entry_row place s x else []

abbrev pub entry_at : Run → List Probe → Span → Stamped → List ℕ
entry_at run sends span s = entry_if sends span s (slice_get run.places s.node) (slice_get (record_of run s.node) s.place)

abbrev pub entry_rows : Run → List Probe → Span → List Stamped → List ℕ
entry_rows run sends span entries = flat_map (entry_at run sends span) entries

-- an entry of the main worker: a send, supervision or an age
abbrev pub is_planned : Event → Bool
is_planned (Arrive port carried) = false
is_planned _ = true

abbrev pub is_planned_if : Option Entry → Bool
is_planned_if None = false
is_planned_if (Some x) = is_planned x.event

abbrev pub is_wanted_if : List Probe → Span → Stamped → Option Entry → Bool
is_wanted_if sends span s None = false
is_wanted_if sends span s (Some x) = is_wanted sends span s x

abbrev pub planned_if : List Probe → Span → Stamped → Option Entry → ℕ → List ℕ
planned_if sends span s x n = if is_planned_if x && is_wanted_if sends span s x then number_cell n else []

abbrev pub planned_at : Run → List Probe → Span → Stamped → ℕ → List ℕ
planned_at run sends span s n = planned_if sends span s (slice_get (record_of run s.node) s.place) n

-- how many were planned, with one more entry
abbrev pub number_behind : Run → Stamped → ℕ → ℕ
number_behind run s n = if is_planned_if (slice_get (record_of run s.node) s.place) then n + 1 else n

-- Of each entry that is wanted, and that the scenario planned, its number among all that it planned. The main worker's entries follow one
-- another, so the order of time has them in the order of the scenario.
abbrev pub planned_from : Run → List Probe → Span → ℕ → List Stamped → List ℕ
planned_from run sends span n [] = []
planned_from run sends span n (s ∷ more) = planned_at run sends span s n ++ planned_from run sends span (number_behind run s n) more

abbrev pub send_if : Run → Option Delivery → List ℕ
send_if run None = []
send_if run (Some d) = send_row (slice_get (record_of run d.send.node) d.send.place) d

abbrev pub send_at : Run → List Delivery → Sent → List ℕ
send_at run ds sent = send_if run (slice_get ds sent.number)

abbrev pub send_rows : Run → List Delivery → List Sent → List ℕ
send_rows run ds sends = flat_map (send_at run ds) sends

abbrev pub copy_if : Arrow → Option Row → List ℕ
copy_if arrow None = []
copy_if arrow (Some row) = copy_row arrow row

abbrev pub copy_at : Run → Arrow → List ℕ
copy_at run arrow = copy_if arrow (slice_get (rows_of run arrow.row.link) arrow.row.number)

-- each row that is shown, in the order of time
abbrev pub copy_rows : Run → List Arrow → List ℕ
copy_rows run arrows = flat_map (copy_at run) arrows

-- ---- all

unfoldable pub network_lists : List (List ℕ) → Finished → List ℕ
network_lists names f =
    keyed (codes "nodes") (node_rows names f.run.places) ++ keyed (codes "links") (link_rows f.run.places f.run.links)

unfoldable pub told_lists : List Down → List Drain → List ℕ
told_lists downs drains = keyed (codes "downs") (flat_map down_row downs) ++ keyed (codes "drains") (flat_map drain_row drains)

unfoldable pub run_lists : Run → List Probe → Span → List Stamped → Picture → List ℕ
run_lists run sends span entries picture =
    keyed (codes "entries") (entry_rows run sends span entries) ++ (keyed (codes "planned") (planned_from run sends span 0 entries)
    ++ (keyed (codes "sends") (send_rows run picture.deliveries picture.sends) ++ keyed (codes "copies") (copy_rows run picture.arrows)))

unfoldable pub data_text : List (List ℕ) → Finished → List Probe → Span → List Stamped → Picture → List Down → List Drain → List ℕ
data_text names f sends span entries picture downs drains =
    codes "{\"v\":1,\"table\":" ++ (decimal f.run.capacity ++ (codes "," ++ (network_lists names f ++ (run_lists f.run sends span entries picture ++ (told_lists downs drains ++ codes "\"end\":0}")))))
