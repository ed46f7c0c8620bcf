-- What the program does in a step is the step of the definition, and keeps what holds of each DANH.
use Rattle.std.proofs.Common.{◌≡◌, ℕ, ◌+◌, ◌%◌, ◌<◌, Bool, List, [], ◌∷◌, Some, None, Result, Ok, Err, ap, ap₂, sym, ◌∙◌}
use Rattle.hsr_frame.specs.Counters.{step_limit}
use Rattle.hsr_frame.specs.Egress.{a, b, exits_of}
use Rattle.hsr_frame.specs.Send.{send_refusal}
use Rattle.hsr_frame.specs.declared.fault.FrameFault.{FrameFault}
use Rattle.hsr_frame.specs.declared.fault.SendFault.{SendFault}
use Rattle.hsr_frame.specs.declared.node.RingPort.{RingPort}
use Rattle.hsr_tag.specs.Seen.{classified}
use Rattle.hsr_tag.specs.declared.seen.Seen.{Seen}
use Rattle.hsr_tables.specs.Nodes.{Nodes}
use Rattle.hsr_forwarding.specs.Arrival.{heard_of}
use Rattle.hsr_forwarding.specs.Numbers.{number_range}
use Rattle.hsr_forwarding.specs.Tables.{Notes, after_passes, counted_with, judged}
use Rattle.hsr_forwarding.specs.declared.judged.Judged.{Judged}
use Rattle.hsr_forwarding.proofs.Spending.{spent, unspent}
use Rattle.hsr_danh.specs.Machine.{Machine}
use Rattle.hsr_danh.specs.Step.{after_arrival, arrive_or_spent, arrive_step, life_or_spent, life_step, now_at, send_or_refuse, send_step, verdict_of}
use Rattle.hsr_danh.specs.Wanted.{wanted}
use Rattle.hsr_danh.specs.declared.danh.Verdict.{Verdict}

-- ---- frames of the node's own

pub send-refused : (capacity : ℕ) (machine : Machine) (at : ℕ) (dst : List ℕ) (ethertype len : ℕ) (fault : SendFault) → Some fault ≡ send_refusal machine.own machine.accepted dst ethertype len
    → (Err fault, machine) ≡ send_step capacity machine at dst ethertype len
unfolding send_step
send-refused capacity machine at dst ethertype len fault e = ap (send_or_refuse capacity machine (now_at machine at)) e

pub send-accepted : (capacity : ℕ) (machine : Machine) (at : ℕ) (dst : List ℕ) (ethertype len : ℕ) (notes : Notes) (now : ℕ) → None ≡ send_refusal machine.own machine.accepted dst ethertype len
    → now ≡ now_at machine at → notes ≡ after_passes capacity machine.notes (exits_of (a ∷ b ∷ [])) (record { src = machine.own; seq = machine.next }) now
    → (Ok (record { seq = machine.next }), record machine { notes = notes; next = (machine.next + 1) % number_range; counters = record machine.counters { sent = machine.counters.sent + 1 }; moment = now; accepted = machine.accepted + 1 })
    ≡ send_step capacity machine at dst ethertype len
unfolding send_step
send-accepted capacity machine at dst ethertype len notes now e at_now noted = rw (noted, at_now) (ap (send_or_refuse capacity machine (now_at machine at)) e)

pub life-spent : (capacity : ℕ) (machine : Machine) (at : ℕ) → machine.accepted ≡ step_limit → (Err (record {}), machine) ≡ life_step capacity machine at
unfolding life_step
life-spent capacity machine at e = ap (life_or_spent capacity machine (now_at machine at)) (spent machine.accepted e)

pub life-accepted : (capacity : ℕ) (machine : Machine) (at : ℕ) (notes : Notes) (now : ℕ) → machine.accepted < step_limit
    → now ≡ now_at machine at → notes ≡ after_passes capacity machine.notes (exits_of (a ∷ b ∷ [])) (record { src = machine.own; seq = machine.next }) now
    → (Ok (record { seq = machine.next; life = machine.counters.life % number_range }), record machine { notes = notes; next = (machine.next + 1) % number_range; counters = record machine.counters { life = machine.counters.life + 1 }; moment = now; accepted = machine.accepted + 1 })
    ≡ life_step capacity machine at
unfolding life_step
life-accepted capacity machine at notes now some at_now noted = rw (noted, at_now) (ap (life_or_spent capacity machine (now_at machine at)) (sym (unspent machine.accepted some)))

-- ---- arrivals

pub arrive-spent : (capacity : ℕ) (machine : Machine) (at : ℕ) (x : RingPort) (octets : List ℕ) → machine.accepted ≡ step_limit → (Err (record {}), machine) ≡ arrive_step capacity machine at x octets
unfolding arrive_step
arrive-spent capacity machine at x octets e = ap (arrive_or_spent capacity machine (now_at machine at) x octets) (spent machine.accepted e)

pub arrive-accepted : (capacity : ℕ) (machine : Machine) (at : ℕ) (x : RingPort) (octets : List ℕ) (seen : Result Seen FrameFault) (verdict : Judged) (notes : Notes) (readable : Bool) (nodes : Nodes) (now : ℕ)
    → machine.accepted < step_limit → seen ≡ classified octets → now ≡ now_at machine at
    → (verdict, notes) ≡ judged capacity machine.notes (wanted machine.own machine.mode x seen) seen now
    → (readable, nodes) ≡ heard_of machine.own machine.nodes x seen now
    → (Ok (verdict_of verdict), record machine { notes = notes; nodes = nodes; counters = counted_with machine.counters verdict readable; moment = now; accepted = machine.accepted + 1 })
    ≡ arrive_step capacity machine at x octets
unfolding arrive_step
arrive-accepted capacity machine at x octets seen verdict notes readable nodes now some read at_now outcome hearing =
    let whole : Judged × Notes → Bool × Nodes → Verdict × Machine = λ o h. (
      verdict_of o.0,
      record machine { notes = o.1; nodes = h.1; counters = counted_with machine.counters o.0 h.0; moment = now; accepted = machine.accepted + 1 },
    ) in
    let step : whole (verdict, notes) (readable, nodes) ≡ after_arrival capacity machine now x seen
    = ap (λ o. whole o (readable, nodes)) outcome ∙ ap (λ h. whole (judged capacity machine.notes (wanted machine.own machine.mode x seen) seen now) h) hearing in
    ap (λ (p : Verdict × Machine). (Ok p.0, p.1)) (step ∙ ap₂ (λ n s. after_arrival capacity machine n x s) at_now read) ∙ ap (arrive_or_spent capacity machine (now_at machine at) x octets) (sym (unspent machine.accepted some))
