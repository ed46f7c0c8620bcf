-- The tables of a finished run: nodes, links, sends, load, latency, and what the audit found.
--     node_table, link_table, send_table, latency_table, doubt_table   each by its text
--     IsLoadTable                                                      that of load
--     AreTables                                                        all of them
use Rattle.std.specs.Prelude.{ℕ, zero, suc, ◌≡◌, List, [], ◌∷◌, ◌++◌, length, map, codes}
use Rattle.hsr_options.specs.declared.chosen.Scope.{Scope}
use Rattle.hsr_run_laws.specs.Run.{Run}
use Rattle.hsr_naming.specs.declared.naming.Naming.{Naming}
use Rattle.hsr_deliveries.specs.Delivered.{deliveries}
use Rattle.hsr_load.specs.Loads.{AreLoadsOf}
use Rattle.hsr_load.specs.declared.load.ChannelLoad.{ChannelLoad}
use Rattle.hsr_latency.specs.Latencies.{latencies}
use Rattle.hsr_report.specs.declared.finding.Finding.{Finding}
use Rattle.hsr_run_tables.specs.Rows.{finding_row, latency_row, link_row, load_row, node_row, send_row}
use Rattle.hsr_run_tables.specs.Table.{table_text}
use Rattle.hsr_run_tables.specs.declared.tables.RunTables.{RunTables}

-- ---- nodes, by their numbers

abbrev pub node_head : List (List ℕ)
node_head =
    codes "node" ∷ codes "role" ∷ codes "sent" ∷ codes "life" ∷ codes "up" ∷ codes "forwarded" ∷ codes "duplicate" ∷ codes "returned" ∷ codes "dropped" ∷ []

-- the first ones
abbrev pub node_rows : Naming → Run → ℕ → List (List (List ℕ))
node_rows naming run zero = []
node_rows naming run (suc k) = node_rows naming run k ++ node_row naming run k ∷ []

abbrev pub node_table : Naming → Run → List ℕ
node_table naming run = table_text node_head (node_rows naming run (length run.places))

-- ---- links, by their numbers

abbrev pub link_head : List (List ℕ)
link_head =
    codes "link" ∷ codes "from" ∷ codes "to" ∷ codes "put" ∷ codes "taken" ∷ codes "lost" ∷ codes "lost_down" ∷ codes "lost_cut" ∷ codes "lost_overrun" ∷ []

-- the first ones
abbrev pub link_rows : Naming → Run → ℕ → List (List (List ℕ))
link_rows naming run zero = []
link_rows naming run (suc l) = link_rows naming run l ++ link_row naming run l ∷ []

abbrev pub link_table : Naming → Run → List ℕ
link_table naming run = table_text link_head (link_rows naming run (length run.links))

-- ---- sends, by node and place

abbrev pub send_head : List (List ℕ)
send_head =
    codes "send" ∷ codes "node" ∷ codes "place" ∷ codes "at_us" ∷ codes "to" ∷ codes "complete" ∷ codes "due" ∷ codes "missed" ∷ codes "twice"
    ∷ codes "strayed" ∷ codes "lost" ∷ []

abbrev pub send_table : Naming → Run → List ℕ
send_table naming run = table_text send_head (map (send_row naming) (deliveries run))

-- ---- load, by links, forth before back

abbrev pub load_head : List (List ℕ)
load_head =
    codes "from" ∷ codes "to" ∷ codes "frames" ∷ codes "octets" ∷ codes "mean_kbit_s" ∷ codes "worst_ms_kbit_s" ∷ codes "at_us" ∷ []

pub record IsLoadTable (naming : Naming) (run : Run) (text : List ℕ) : Type 0 where
  pub loads : List ChannelLoad
  pub are_loads : AreLoadsOf run loads
  pub rows : text ≡ table_text load_head (map (load_row naming run.places) loads)

-- ---- latency, by node

abbrev pub latency_head : List (List ℕ)
latency_head = codes "node" ∷ codes "frames" ∷ codes "worst_us" ∷ codes "worst_send" ∷ codes "second_us" ∷ codes "second_send" ∷ []

abbrev pub latency_table : Naming → Run → List ℕ
latency_table naming run = table_text latency_head (map (latency_row naming) (latencies run))

-- ---- what was found

abbrev pub doubt_head : List (List ℕ)
doubt_head =
    codes "audit" ∷ codes "verdict" ∷ codes "sends" ∷ codes "doubt" ∷ codes "entry" ∷ codes "node" ∷ codes "place" ∷ codes "receiver" ∷ codes "link" ∷ []

abbrev pub doubt_table : Naming → Scope → Finding → List ℕ
doubt_table naming scope found = table_text doubt_head (finding_row naming scope found ∷ [])

-- ---- all of them, of a run of which the chosen audit found this

pub record AreTables (naming : Naming) (run : Run) (scope : Scope) (found : Finding) (tables : RunTables) : Type 0 where
  pub nodes : tables.nodes.items ≡ node_table naming run
  pub links : tables.links.items ≡ link_table naming run
  pub sends : tables.sends.items ≡ send_table naming run
  pub load : IsLoadTable naming run tables.load.items
  pub latency : tables.latency.items ≡ latency_table naming run
  pub doubt : tables.doubt.items ≡ doubt_table naming scope found
