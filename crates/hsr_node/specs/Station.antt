-- One step of a station: the answer to an event, and what the station holds after it.
use Rattle.std.specs.Prelude.{ℕ, ◌+◌, ◌^◌, ◌==◌, ◌||◌, max, Bool, true, false, List, [], ◌∷◌, length, slice_get, Option, Some, None, Result, Ok, Err, if◌then◌else◌}
use Rattle.hsr_frame.specs.Address.{is_among, is_group}
use Rattle.hsr_frame.specs.Cases.{first_of}
use Rattle.hsr_frame.specs.Counters.{counted, no_counts}
use Rattle.hsr_frame.specs.Grammar.{Fields}
use Rattle.hsr_frame.specs.Send.{send_refusal}
use Rattle.hsr_frame.specs.declared.counters.Counters.{Counters}
use Rattle.hsr_frame.specs.declared.fault.FrameFault.{FrameFault}
use Rattle.hsr_frame.specs.declared.fault.SendFault.{SendFault}
use Rattle.hsr_frame.specs.declared.node.Cause.{Cause}
use Rattle.hsr_frame.specs.declared.node.Cause.TheVariants.{Passed, Returned, Foreign, Malformed}
use Rattle.hsr_frame.specs.declared.node.Cause.TheVariants as cause
use Rattle.hsr_tag.specs.Seen.{classified}
use Rattle.hsr_tag.specs.declared.seen.Seen.{Seen}
use Rattle.hsr_tag.specs.declared.seen.Seen.TheVariants.{Plain, Tagged}
use Rattle.hsr_node.specs.declared.event.Event.{Event}
use Rattle.hsr_node.specs.declared.event.Event.TheVariants.{Send, Supervise, Arrive, Age}
use Rattle.hsr_node.specs.declared.event.Outcome.{Outcome}
use Rattle.hsr_node.specs.declared.event.Outcome.TheVariants.{Sent, Judged, Aged}
use Rattle.hsr_node.specs.declared.event.StepFault.{StepFault}
use Rattle.hsr_node.specs.declared.event.StepFault.TheVariants.{WrongEvent, Spent}
use Rattle.hsr_node.specs.declared.event.StepFault.TheVariants as refused

pub record Machine : Type 0 where
  pub macs : List (List ℕ)
  pub counters : Counters
  -- the greatest moment so far
  pub moment : ℕ
  -- how many sends and arrivals were accepted
  pub accepted : ℕ

abbrev pub new_machine : List (List ℕ) → Machine
new_machine macs = record { macs = macs; counters = no_counts; moment = 0; accepted = 0 }

-- the machine after one more step
abbrev pub after_step : Machine → ℕ → Counters → Machine
after_step machine at counters = record machine { counters = counters; moment = max machine.moment at; accepted = machine.accepted + 1 }

-- ---- a frame of the station's own: plain, with no number

abbrev pub send_or_refuse : Machine → ℕ → Option SendFault → Result Outcome StepFault × Machine
send_or_refuse machine at (Some fault) = (Err (refused.Send fault), machine)
send_or_refuse machine at None =
    (Ok (Sent None (true ∷ false ∷ false ∷ false ∷ [])), after_step machine at (record machine.counters { sent = machine.counters.sent + 1 }))

abbrev pub send_from : Machine → ℕ → Option (List ℕ) → List ℕ → ℕ → ℕ → Result Outcome StepFault × Machine
send_from machine at None dst ethertype len = (Err WrongEvent, machine)
send_from machine at (Some src) dst ethertype len =
    send_or_refuse machine at (send_refusal src machine.accepted dst ethertype len)

-- a send from the address at a place, by its destination, type and length
unfoldable pub after_send : Machine → ℕ → ℕ → List ℕ → ℕ → ℕ → Result Outcome StepFault × Machine
after_send machine at from dst ethertype len = send_from machine at (slice_get machine.macs from) dst ethertype len

-- ---- an arrival

-- a plain frame goes up, or nowhere for a cause
abbrev pub judged_plain : List (List ℕ) → Fields → Cause
judged_plain macs frame = first_of ((is_among macs frame.src, Returned) ∷ (is_among macs frame.dst || is_group frame.dst, Passed) ∷ []) Foreign

abbrev pub judged_seen : List (List ℕ) → Result Seen FrameFault → Cause
judged_seen macs (Err fault) = Malformed fault
judged_seen macs (Ok (Tagged frame)) = cause.Tagged
judged_seen macs (Ok (Plain frame)) = judged_plain macs frame

abbrev pub is_passed : Cause → Bool
is_passed Passed = true
is_passed _ = false

-- what goes up is passed; no copy leaves by the port
abbrev pub after_cause : Machine → ℕ → Cause → Result Outcome StepFault × Machine
after_cause machine at cause = (
  Ok (Judged (is_passed cause) (false ∷ false ∷ false ∷ false ∷ []) None cause),
  after_step machine at (counted machine.counters cause (is_passed cause) 0),
)

abbrev pub arrive_or_spent : Machine → ℕ → List ℕ → Bool → Result Outcome StepFault × Machine
arrive_or_spent machine at octets true = (Err Spent, machine)
arrive_or_spent machine at octets false = after_cause machine at (judged_seen machine.macs (classified octets))

unfoldable pub after_arrival : Machine → ℕ → List ℕ → Result Outcome StepFault × Machine
after_arrival machine at octets = arrive_or_spent machine at octets (machine.accepted == 2 ^ 62)

-- ---- an event: a station has one port, and no supervision frames

abbrev pub after_age : Machine → ℕ → Machine
after_age machine at = record machine { moment = max machine.moment at }

abbrev pub station_step : Machine → ℕ → Event → Result Outcome StepFault × Machine
station_step machine at (Send from dst vlan ethertype payload) = after_send machine at from dst ethertype (length payload)
station_step machine at (Supervise about) = (Err WrongEvent, machine)
station_step machine at (Arrive port copy) = if port == 0 then after_arrival machine at copy.octets else (Err WrongEvent, machine)
station_step machine at Age = (Ok Aged, after_age machine at)
