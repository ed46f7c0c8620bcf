-- How often each thing happened, by the record of a node.
use Rattle.std.specs.Prelude.{ℕ, ◌+◌, Bool, true, false, if◌then◌else◌, List, Option, Some, None, option_map, is_err, Result}
use Rattle.hsr_frame.specs.Cause.{is_duplicate, is_returned, is_foreign, is_local, is_untagged, is_tagged, is_malformed}
use Rattle.hsr_frame.specs.Counters.{bit}
use Rattle.hsr_frame.specs.declared.counters.Counters.{Counters}
use Rattle.hsr_frame.specs.declared.fault.FrameFault.{FrameFault}
use Rattle.hsr_frame.specs.declared.node.Cause.{Cause}
use Rattle.hsr_tag.specs.Seen.{classified, is_told, payload_in}
use Rattle.hsr_tag.specs.declared.seen.Seen.{Seen}
use Rattle.hsr_supervision.specs.Payload.{read_of}
use Rattle.hsr_redbox.specs.declared.call.BoxPort.{BoxPort}
use Rattle.hsr_redbox.specs.declared.call.BoxPort.TheVariants as box
use Rattle.hsr_node.specs.Record.{count_of, has_port, is_life, is_sent, sum_of}
use Rattle.hsr_node.specs.Step.{box_port, ring_port}
use Rattle.hsr_node.specs.declared.event.Event.{Event}
use Rattle.hsr_node.specs.declared.event.Event.TheVariants.{Arrive}
use Rattle.hsr_node.specs.declared.event.Outcome.{Outcome}
use Rattle.hsr_node.specs.declared.event.Outcome.TheVariants.{Judged}
use Rattle.hsr_node.specs.declared.entry.Entry.{Entry}
use Rattle.hsr_node.specs.declared.place.Place.{Place}
use Rattle.hsr_node.specs.declared.place.Place.TheVariants.{Danh, RedBox}

abbrev pub is_up : Outcome → Bool
is_up (Judged up_too ports seq cause) = up_too
is_up _ = false

abbrev pub is_cause : (Cause → Bool) → Outcome → Bool
is_cause p (Judged up_too ports seq cause) = p cause
is_cause p _ = false

-- the copies of an arrival that left by ports
abbrev pub copies : Outcome → ℕ
copies (Judged up_too ports seq cause) = bit (has_port ports 0) + bit (has_port ports 1) + bit (has_port ports 2) + bit (has_port ports 3)
copies _ = 0

abbrev pub is_some_ring : Option BoxPort → Bool
is_some_ring None = false
is_some_ring (Some box.I) = false
is_some_ring (Some x) = true

-- the address of a node that hears supervision frames at this port
abbrev pub hears_at : Place → ℕ → Option (List ℕ)
hears_at (Danh mac mode) port = option_map (λ x. mac) (ring_port port)
hears_at (RedBox mac mode) port = if is_some_ring (box_port port) then Some mac else None
hears_at _ port = None

abbrev pub is_unreadable_for : Option (List ℕ) → Result Seen FrameFault → Bool
is_unreadable_for None seen = false
is_unreadable_for (Some own) seen = if is_told own seen then is_err (read_of (payload_in seen)) else false

-- a tagged supervision frame of another node that can't be read
abbrev pub is_unreadable : Place → Event → Bool
is_unreadable place (Arrive port copy) = is_unreadable_for (hears_at place port) (classified copy.octets)
is_unreadable place event = false

abbrev pub counters : Place → List Entry → Counters
counters place past = record {
  sent = count_of (λ x. is_sent x.outcome) past;
  life = count_of (λ x. is_life x.outcome) past;
  up = count_of (λ x. is_up x.outcome) past;
  forwarded = sum_of (λ x. copies x.outcome) past;
  duplicate = count_of (λ x. is_cause is_duplicate x.outcome) past;
  returned = count_of (λ x. is_cause is_returned x.outcome) past;
  foreign = count_of (λ x. is_cause is_foreign x.outcome) past;
  local = count_of (λ x. is_cause is_local x.outcome) past;
  untagged = count_of (λ x. is_cause is_untagged x.outcome) past;
  tagged = count_of (λ x. is_cause is_tagged x.outcome) past;
  malformed = count_of (λ x. is_cause is_malformed x.outcome) past;
  bad_life = count_of (λ x. is_unreadable place x.event) past;
}
