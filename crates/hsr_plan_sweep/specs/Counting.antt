-- What is counted of a finished run.
use Rattle.std.specs.Prelude.{ℕ, ◌≡◌, ◌+◌, ◌||◌, not, Bool, List, [], ◌∷◌, length, count_by, slice_get, Option, Some, None}
use Rattle.std.specs.Option.{option_or}
use Rattle.hsr_deliveries.specs.Delivered.{Delivery, deliveries}
use Rattle.hsr_latency.specs.Latencies.{latencies, worst}
use Rattle.hsr_latency.specs.declared.latency.NodeLatency.{NodeLatency}
use Rattle.hsr_load.specs.Loads.{AreLoadsOf, most}
use Rattle.hsr_load.specs.declared.load.ChannelLoad.{ChannelLoad}
use Rattle.hsr_node.specs.declared.event.Probe.{Probe}
use Rattle.hsr_run_laws.specs.Run.{Run}
use Rattle.hsr_table_demand.specs.Needs.{IsJustEnough, IsMost}
use Rattle.hsr_table_demand.specs.declared.most.Needed.{Needed}
use Rattle.hsr_options.specs.declared.chosen.Scope.TheVariants.{Network}
use Rattle.hsr_report.specs.Found.{IsFound, IsSpending}
use Rattle.hsr_plan_sweep.specs.Audience.{Audience, first_in_need, one_needs}
use Rattle.hsr_plan_sweep.specs.declared.counting.Count.{Count}
use Rattle.hsr_plan_sweep.specs.declared.counting.Miss.{Miss}
use Rattle.hsr_plan_sweep.specs.declared.counting.Outcome.{Outcome}

-- ---- sends

-- of the nodes that missed a send, took it up twice, or took it up where it isn't due, one needs it
abbrev pub outcome_of : Audience → Option ℕ → Delivery → Outcome
outcome_of a stream d = record {
  missed = one_needs a stream d.at d.missed;
  twice = one_needs a stream d.at d.twice;
  strayed = one_needs a stream d.at d.strayed;
}

abbrev pub stream_if : Option (Option ℕ) → Option ℕ
stream_if None = None
stream_if (Some stream) = stream

-- of sends that follow i others, where these are the streams of all
abbrev pub outcomes : Audience → List (Option ℕ) → ℕ → List Delivery → List Outcome
outcomes a streams i [] = []
outcomes a streams i (d ∷ ds) = outcome_of a (stream_if (slice_get streams i)) d ∷ outcomes a streams (i + 1) ds

abbrev pub is_missed : Outcome → Bool
is_missed o = o.missed

abbrev pub is_twice : Outcome → Bool
is_twice o = o.twice

abbrev pub is_complete : Outcome → Bool
is_complete o = not (o.missed || (o.twice || o.strayed))

abbrev pub miss_if : Probe → Option ℕ → Option Miss
miss_if send None = None
miss_if send (Some k) = Some (record { send = send; node = k })

-- the first node that needs a send and missed it
abbrev pub miss_at : Audience → Option ℕ → Delivery → Option Miss
miss_at a stream d = miss_if d.send (first_in_need a stream d.at d.missed)

-- of sends that follow i others the first that was missed
abbrev pub first_missed : Audience → List (Option ℕ) → ℕ → List Delivery → Option Miss
first_missed a streams i [] = None
first_missed a streams i (d ∷ ds) = option_or (miss_at a (stream_if (slice_get streams i)) d) (first_missed a streams (i + 1) ds)

-- ---- numbers

-- no arrival of a run needed more entries, and some arrival needed as many, or none were needed
abbrev pub IsNeeded : Run → ℕ → Type 0
IsNeeded run n = (needed : Needed) × IsMost run needed × (n ≡ needed.entries)

-- the longest that a send took; 0 where nothing went up
abbrev pub time_if : Option NodeLatency → ℕ
time_if None = 0
time_if (Some latency) = latency.worst.time

-- the worst millisecond of a channel; 0 where none carried anything
abbrev pub worst_if : Option ChannelLoad → ℕ
worst_if None = 0
worst_if (Some load) = load.worst

-- no channel of a run has a greater worst millisecond than the one that has this
abbrev pub IsMostLoad : Run → ℕ → Type 0
IsMostLoad run n = (loads : List ChannelLoad) × AreLoadsOf run loads × (n ≡ worst_if (most loads))

-- ---- all

pub record IsCounted (a : Audience) (streams : List (Option ℕ)) (run : Run) (count : Count) : Type 0 where
  pub sends : count.sends ≡ length (deliveries run)
  pub complete : count.complete ≡ count_by is_complete (outcomes a streams 0 (deliveries run))
  pub missed : count.missed ≡ count_by is_missed (outcomes a streams 0 (deliveries run))
  pub twice : count.twice ≡ count_by is_twice (outcomes a streams 0 (deliveries run))
  pub needed : IsNeeded run count.needed
  pub enough : IsJustEnough run count.needed
  pub spent : IsSpending run count.spending
  pub latency : count.latency ≡ time_if (worst (latencies run))
  pub load : IsMostLoad run count.load
  pub found : IsFound Network run count.finding
  pub first : count.first ≡ first_missed a streams 0 (deliveries run)
