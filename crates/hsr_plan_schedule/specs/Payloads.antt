-- The payload of a frame of a stream.
use Rattle.std.specs.Prelude.{ℕ, ◌+◌, ◌*◌, List, slice_get, Option, Some, None, unwrap_or}
use Rattle.hsr_plan_text.specs.Plan.{Stream, Timing, per_second}
use Rattle.hsr_plan_text.specs.declared.plan.Kind.{Kind}
use Rattle.hsr_plan_text.specs.declared.plan.Kind.TheVariants.{Goose, SampledValues, Number}
use Rattle.hsr_plan_text.specs.declared.plan.Pace.{Pace}
use Rattle.hsr_plan_text.specs.declared.plan.Pace.TheVariants.{Gaps, Samples}
use Rattle.hsr_plan_payload.specs.Publishing.{Publisher}
use Rattle.hsr_plan_payload.specs.Payload.{counted, goose_payload, sampled_payload}
use Rattle.hsr_plan_payload.specs.declared.frames.GooseFrame.{GooseFrame}
use Rattle.hsr_plan_payload.specs.declared.frames.SampledFrame.{SampledFrame}
use Rattle.hsr_plan_schedule.specs.declared.publication.Publication.{Publication}
use Rattle.hsr_plan_schedule.specs.declared.publication.Turn.{Turn}

-- the sender of a name, at an index among those of a stream
abbrev pub publisher : Publication → ℕ → List ℕ → Publisher
publisher p j name = record { device = name; appid = p.first + j; control_block = p.control_block; data_set = p.data_set; id = p.id }

-- a start by its number; 0 where there is none
abbrev pub start_at : Timing → ℕ → ℕ
start_at timing state = unwrap_or (slice_get timing.starts state) 0

-- the state is there since its start, which the epoch comes before
abbrev pub goose_frame : ℕ → Publication → Timing → Turn → GooseFrame
goose_frame epoch p timing turn = record {
  live = p.live;
  since = epoch * 1000000 + start_at timing turn.state;
  state = turn.state;
  count = turn.count;
}

abbrev pub rate_of : Pace → Option ℕ
rate_of (Gaps every grow most) = None
rate_of (Samples rate) = Some (per_second rate)

abbrev pub sampled_frame : Timing → Turn → SampledFrame
sampled_frame timing turn = record { rate = rate_of timing.pace; asdus = timing.asdus; count = turn.count }

abbrev pub payload_by : Kind → ℕ → Publication → Timing → ℕ → List ℕ → Turn → List ℕ
payload_by Goose epoch p timing size name turn = goose_payload (publisher p turn.index name) (goose_frame epoch p timing turn) size
payload_by SampledValues epoch p timing size name turn = sampled_payload (publisher p turn.index name) (sampled_frame timing turn) size
payload_by (Number n) epoch p timing size name turn = counted size turn.count

-- of a size, or the longest that isn't longer, or the shortest
abbrev pub payload : ℕ → Publication → Stream → ℕ → List ℕ → Turn → List ℕ
payload epoch p s size name turn = payload_by s.framing.kind epoch p s.timing size name turn
