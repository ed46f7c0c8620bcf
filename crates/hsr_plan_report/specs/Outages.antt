-- What each link and each node that is off cuts off, as rows of a page.
--     all_faults      each link and each node
--     AreOutageRows   the rows of the first faults
use Rattle.std.specs.Prelude.{ℕ, ◌<◌, ◌≡◌, ◌+◌, ◌-◌, ◌^◌, min, if◌then◌else◌, List, [], ◌∷◌, ◌++◌, length, map, slice_index_or}
use Rattle.std.specs.List.{range_with_len}
use Rattle.hsr_bitset.specs.Numbers.{has_bit}
use Rattle.hsr_run_laws.specs.Run.{Run}
use Rattle.hsr_faults.specs.CutOff.{IsOutage}
use Rattle.hsr_faults.specs.Fault.{faults_of_one}
use Rattle.hsr_faults.specs.Sweep.{Swept, sends_of}
use Rattle.hsr_faults.specs.declared.fault.Fault.{Fault}
use Rattle.hsr_faults.specs.declared.outage.Cut.{Cut}
use Rattle.hsr_faults.specs.declared.outage.Outage.{Outage}
use Rattle.hsr_plan_page.specs.declared.facts.OutageRow.{OutageRow}

abbrev pub all_faults : Run → List Fault
all_faults net = faults_of_one (length net.links) (length net.places)

-- how many sends are cut off from a node
abbrev pub sends_from : ℕ → List Cut → ℕ
sends_from k [] = 0
sends_from k (c ∷ cs) = (if has_bit c.nodes.bits k then c.sends else 0) + sends_from k cs

-- from each of so many nodes, as far as 64 bits say it
abbrev pub missed_of : ℕ → List Cut → List ℕ
missed_of nodes cuts = map (λ k. min (sends_from k cuts) (2 ^ 64 - 1)) (range_with_len 0 nodes)

-- a row tells how many sends a fault cuts off, and from each node
pub record IsOutageRow (swept : Swept) (fault : Fault) (row : OutageRow) : Type 0 where
  pub outage : Outage
  pub is : IsOutage swept.net swept.orders (sends_of swept) fault outage
  pub sends : row.sends ≡ outage.sends
  pub missed : row.missed.items ≡ missed_of (length swept.net.places) outage.cuts.items

-- one more row, that of a fault
abbrev pub AddsRow : Swept → Fault → List OutageRow → List OutageRow → Type 0
AddsRow swept fault before after = (row : OutageRow) × IsOutageRow swept fault row × (after ≡ before ++ row ∷ [])

-- those of the first faults
pub record AreOutageRows (swept : Swept) (faults : List Fault) (n : ℕ) (rows : List OutageRow) : Type 0 where
  pub many : length rows ≡ n
  pub each : (i : ℕ) (fault : Fault) (row : OutageRow) → i < n → IsOutageRow swept (slice_index_or faults i fault) (slice_index_or rows i row)
