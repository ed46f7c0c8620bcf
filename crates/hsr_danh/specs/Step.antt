-- One step of a DANH: the answer to a call, and what the node holds after it.
use Rattle.std.specs.Prelude.{ℕ, ◌+◌, ◌%◌, ◌==◌, max, Bool, true, false, List, [], ◌∷◌, Option, Some, None, Result, Ok, Err}
use Rattle.hsr_frame.specs.Counters.{step_limit}
use Rattle.hsr_frame.specs.Egress.{exits_of}
use Rattle.hsr_frame.specs.Egress as egress
use Rattle.hsr_frame.specs.Send.{send_refusal}
use Rattle.hsr_frame.specs.declared.counters.Counters.{Counters}
use Rattle.hsr_frame.specs.declared.fault.FrameFault.{FrameFault}
use Rattle.hsr_frame.specs.declared.fault.SendFault.{SendFault}
use Rattle.hsr_frame.specs.declared.fault.Spent.{Spent}
use Rattle.hsr_frame.specs.declared.node.Life.{Life}
use Rattle.hsr_frame.specs.declared.node.RingPort.{RingPort}
use Rattle.hsr_tag.specs.Seen.{classified}
use Rattle.hsr_tag.specs.declared.seen.Seen.{Seen}
use Rattle.hsr_forwarding.specs.Arrival.{heard_of}
use Rattle.hsr_forwarding.specs.Numbers.{number_range}
use Rattle.hsr_forwarding.specs.Tables.{after_passes, aged, counted_with, judged}
use Rattle.hsr_forwarding.specs.declared.judged.Judged.{Judged}
use Rattle.hsr_danh.specs.Wanted.{wanted}
use Rattle.hsr_danh.specs.Machine.{Machine}
use Rattle.hsr_danh.specs.declared.danh.Sent.{Sent}
use Rattle.hsr_danh.specs.declared.danh.Verdict.{Verdict}

-- the effective moment: one that is earlier than the last is read as the last
abbrev pub now_at : Machine → ℕ → ℕ
now_at machine at = max machine.moment at

-- ---- a frame of the node's own

-- a numbered frame leaves by both ports, and takes the next number
abbrev pub after_numbered : ℕ → Machine → ℕ → Counters → Machine
after_numbered capacity machine now counters = record machine {
  notes = after_passes capacity machine.notes (exits_of (egress.a ∷ egress.b ∷ [])) (record { src = machine.own; seq = machine.next }) now;
  next = (machine.next + 1) % number_range;
  counters = counters;
  moment = now;
  accepted = machine.accepted + 1;
}

abbrev pub send_or_refuse : ℕ → Machine → ℕ → Option SendFault → Result Sent SendFault × Machine
send_or_refuse capacity machine now (Some fault) = (Err fault, machine)
send_or_refuse capacity machine now None =
    (Ok (record { seq = machine.next }), after_numbered capacity machine now (record machine.counters { sent = machine.counters.sent + 1 }))

-- a send, by its destination, type and length
unfoldable pub send_step : ℕ → Machine → ℕ → List ℕ → ℕ → ℕ → Result Sent SendFault × Machine
send_step capacity machine at dst ethertype len =
    send_or_refuse capacity machine (now_at machine at) (send_refusal machine.own machine.accepted dst ethertype len)

abbrev pub life_or_spent : ℕ → Machine → ℕ → Bool → Result Life Spent × Machine
life_or_spent capacity machine now true = (Err (record {}), machine)
life_or_spent capacity machine now false =
    (Ok (record { seq = machine.next; life = machine.counters.life % number_range }), after_numbered capacity machine now (record machine.counters { life = machine.counters.life + 1 }))

-- a supervision frame
unfoldable pub life_step : ℕ → Machine → ℕ → Result Life Spent × Machine
life_step capacity machine at = life_or_spent capacity machine (now_at machine at) (machine.accepted == step_limit)

-- ---- an arrival

-- the verdict of a DANH, by its egresses
abbrev pub verdict_of : Judged → Verdict
verdict_of judged = record { up = judged.passes.up; a = judged.passes.a; b = judged.passes.b; cause = judged.cause }

-- what came to ring port x, at the effective moment
abbrev pub after_arrival : ℕ → Machine → ℕ → RingPort → Result Seen FrameFault → Verdict × Machine
after_arrival capacity machine now x seen =
    let outcome = judged capacity machine.notes (wanted machine.own machine.mode x seen) seen now in
    let hearing = heard_of machine.own machine.nodes x seen now in (
      verdict_of outcome.0,
      record machine {
        notes = outcome.1;
        nodes = hearing.1;
        counters = counted_with machine.counters outcome.0 hearing.0;
        moment = now;
        accepted = machine.accepted + 1;
      },
    )

abbrev pub arrive_or_spent : ℕ → Machine → ℕ → RingPort → List ℕ → Bool → Result Verdict Spent × Machine
arrive_or_spent capacity machine now x octets true = (Err (record {}), machine)
arrive_or_spent capacity machine now x octets false = let after = after_arrival capacity machine now x (classified octets) in (Ok after.0, after.1)

unfoldable pub arrive_step : ℕ → Machine → ℕ → RingPort → List ℕ → Result Verdict Spent × Machine
arrive_step capacity machine at x octets = arrive_or_spent capacity machine (now_at machine at) x octets (machine.accepted == step_limit)

-- ---- ageing, which isn't counted as a step

abbrev pub age_step : Machine → ℕ → Machine
age_step machine at = record machine { notes = aged machine.notes (now_at machine at); moment = now_at machine at }
