-- What came of each stream, as rows of a page.
--     members         of which row each send is
--     AreStreamRows   there is a row for each stream, and each tells how many sends it had, how many of these are complete, which nodes missed
--                     one, and the longest; behind all one for supervision, where it sent something
use Rattle.std.specs.Prelude.{ℕ, ◌≡◌, ◌+◌, ◌==◌, if◌then◌else◌, min, List, [], ◌∷◌, length, slice_get, Option, Some, option_map}
use Rattle.hsr_bitset.specs.Numbers.{has}
use Rattle.hsr_run_laws.specs.Run.{Run}
use Rattle.hsr_deliveries.specs.Delivered.{Delivery, deliveries, nodes_below}
use Rattle.hsr_latency.specs.Taken.{AreLongest, group_of, longest, taken}
use Rattle.hsr_latency.specs.declared.delay.Delay.{Delay}
use Rattle.hsr_latency.specs.declared.grouped.Member.{Member}
use Rattle.hsr_plan_page.specs.declared.facts.StreamRow.{StreamRow}
use Rattle.hsr_plan_sweep.specs.Audience.{Audience}
use Rattle.hsr_plan_sweep.specs.Counting.{outcomes, stream_if}
use Rattle.hsr_plan_report.specs.Missing.{AreMissing, one_missed}
use Rattle.hsr_plan_report.specs.Streams.{AreSent, complete_at, row_of, sends_at}
use Rattle.hsr_plan_report.specs.declared.sent.Sent.{Sent}
use Rattle.hsr_plan_report.specs.declared.streams.Gathered.{Gathered}
use Rattle.hsr_plan_report.specs.declared.streams.Noted.{Noted}

-- a run, whom its sends are due at, and of which stream each is
pub record Sends : Type 0 where
  pub audience : Audience
  pub run : Run
  pub streams : List (Option ℕ)

-- of sends that follow i others the row at which each counts, where these are the streams of all
abbrev pub members : List (Option ℕ) → ℕ → ℕ → List Delivery → List Member
members streams last i [] = []
members streams last i (d ∷ ds) = record { send = d.send; group = row_of last (stream_if (slice_get streams i)) } ∷ members streams last (i + 1) ds

abbrev pub time_of : Delay → ℕ
time_of delay = delay.time

-- a row of a page; supervision has the last one
pub record IsStreamRow (s : Sends) (last k : ℕ) (row : StreamRow) : Type 0 where
  pub sends : row.sends ≡ sends_at s.streams last (outcomes s.audience s.streams 0 (deliveries s.run)) k
  pub complete : row.complete ≡ complete_at s.streams last (outcomes s.audience s.streams 0 (deliveries s.run)) k
  pub missing : row.missing.items ≡ nodes_below (min (length s.audience.nodes) 512) (λ node. one_missed s.audience s.streams last k node 0 (deliveries s.run))
  pub longest : row.latency ≡ option_map time_of (longest (group_of (members s.streams last 0 (deliveries s.run))) (taken s.run) k)

-- how many rows supervision has that sent so often
abbrev pub rows_for : ℕ → ℕ
rows_for sends = if sends == 0 then 0 else 1

-- the rows of so many streams, and behind them that of supervision, if it has one
pub record AreStreamRows (s : Sends) (last : ℕ) (rows : List StreamRow) : Type 0 where
  pub many : length rows ≡ last + rows_for (sends_at s.streams last (outcomes s.audience s.streams 0 (deliveries s.run)) last)
  pub each : (k : ℕ) (row : StreamRow) → slice_get rows k ≡ Some row → IsStreamRow s last k row

-- ---- how they are gathered

-- of all rows
pub record AreGathered (s : Sends) (last : ℕ) (all : Gathered) : Type 0 where
  pub long : length all.sent.items ≡ last + 1
  pub sent : AreSent s.streams last (outcomes s.audience s.streams 0 (deliveries s.run)) all.sent.items
  pub missing_long : length all.missing.items ≡ last + 1
  pub missing : AreMissing s.audience s.streams last (deliveries s.run) all.missing.items
  pub longest : AreLongest (group_of (members s.streams last 0 (deliveries s.run))) (taken s.run) (last + 1) all.longest.items

-- what was gathered of one, of so many nodes
pub record IsNoted (all : Gathered) (nodes k : ℕ) (noted : Noted) : Type 0 where
  pub sent : slice_get all.sent.items k ≡ Some noted.sent
  pub set : List ℕ
  pub is_set : slice_get all.missing.items k ≡ Some set
  pub missing : noted.missing.items ≡ nodes_below (min nodes 512) (has set)
  pub most : Option Delay
  pub is_most : slice_get all.longest.items k ≡ Some most
  pub latency : noted.latency ≡ option_map time_of most

-- a row with what was noted
pub record HasNoted (noted : Noted) (row : StreamRow) : Type 0 where
  pub sends : row.sends ≡ noted.sent.sends
  pub complete : row.complete ≡ noted.sent.complete
  pub missing : row.missing.items ≡ noted.missing.items
  pub latency : row.latency ≡ noted.latency

-- each row has what was noted of it
abbrev pub EachNoted : Gathered → ℕ → List StreamRow → Type 0
EachNoted all nodes rows = (k : ℕ) (row : StreamRow) → slice_get rows k ≡ Some row → (noted : Noted) × IsNoted all nodes k noted × HasNoted noted row

-- and these are all rows, of so many streams
pub record HaveNoted (all : Gathered) (nodes last : ℕ) (rows : List StreamRow) : Type 0 where
  pub many : (sent : Sent) → slice_get all.sent.items last ≡ Some sent → length rows ≡ last + rows_for sent.sends
  pub each : EachNoted all nodes rows
