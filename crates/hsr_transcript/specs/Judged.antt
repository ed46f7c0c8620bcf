-- A text that is in form is judged: the topology, then the order of the main worker, then each entry.
--     IsRefused     the line that is named where one of them is refused
--     Stands        what a text that is accepted so far stands for
use Rattle.std.specs.Prelude.{ℕ, ◌≡◌, ◌+◌, ◌⊎◌, List, length, Result, Ok, Err}
use Rattle.hsr_node.specs.Kept.{Record}
use Rattle.hsr_topology.specs.Topology.{Topology}
use Rattle.hsr_topology.specs.Wired.{IsWired}
use Rattle.hsr_finished_run.specs.declared.planned.Planned.{Planned}
use Rattle.hsr_finished_run.specs.declared.records.Records.{Records}
use Rattle.hsr_link.specs.declared.row.Row.{Row}
use Rattle.hsr_transcript.specs.Order.{IsOrder}
use Rattle.hsr_transcript.specs.Replay.{AreLegal, IsFirstUnlike, records_from}
use Rattle.hsr_transcript.specs.Items.{rows_of}
use Rattle.hsr_transcript.specs.Transcript.{Said}
use Rattle.hsr_transcript.specs.declared.fault.ReadFault.{ReadFault}
use Rattle.hsr_transcript.specs.declared.fault.ReadFault.TheVariants.{BadLine, NoMemory}

-- the last line of the links, and the line that says how many entries the main worker has
abbrev pub links_end : Said → ℕ
links_end t = 4 + length t.nodes + length t.links

abbrev pub main_line : Said → ℕ
main_line t = links_end t + 1

-- the line on which the records begin
abbrev pub records_line : Said → ℕ
records_line t = main_line t + 1 + length t.main

-- the topology is refused; it stands, and no plan has the order; or both stand, and an entry is refused
abbrev pub IsRefused : ℕ → Said → ℕ → Type 0
IsRefused capacity t line =
    ((¬ IsWired t.nodes t.links) × (line ≡ links_end t))
    ⊎ (IsWired t.nodes t.links × ((plan : List Planned) → ¬ IsOrder t.main t.records plan) × (line ≡ main_line t))
    ⊎ (IsWired t.nodes t.links × ((plan : List Planned) × IsOrder t.main t.records plan)
    × IsFirstUnlike capacity t.nodes t.records (records_line t) line)

pub record Standing : Type 0 where
  pub topology : Topology
  pub plan : List Planned
  pub records : List Record
  pub rows : List (List Row)

-- as the program holds it
abbrev pub standing_of : (capacity : ℕ) → Records capacity → Standing
standing_of capacity r = record { topology = r.topology; plan = r.plan.items; records = r.kept.items; rows = rows_of r.rows }

pub record Stands (capacity : ℕ) (t : Said) (s : Standing) : Type 0 where
  pub topology : s.topology ≡ record { places = t.nodes; links = t.links }
  pub plan : IsOrder t.main t.records s.plan
  pub records : s.records ≡ records_from 0 t.nodes t.records
  pub legal : AreLegal capacity s.records
  pub rows : s.rows ≡ t.carried

abbrev pub Judged : ℕ → Said → Result Standing ReadFault → Type 0
Judged capacity t (Ok s) = Stands capacity t s
Judged capacity t (Err (BadLine line)) = IsRefused capacity t line
Judged capacity t (Err NoMemory) = Unit {0}
Judged capacity t (Err _) = ⊥
