-- One step of a RedBox: the answer to a call, and what the node holds after it.
use Rattle.std.specs.Prelude.{ℕ, ◌+◌, ◌%◌, ◌==◌, not, max, Bool, true, false, List, [], ◌∷◌, Option, Some, None, option_map, is_some, Result, Ok, Err}
use Rattle.hsr_frame.specs.Cases.{first_of}
use Rattle.hsr_frame.specs.Counters.{bit, step_limit}
use Rattle.hsr_frame.specs.Egress.{a, b, exits_of, with_exit}
use Rattle.hsr_frame.specs.Send.{send_refusal}
use Rattle.hsr_frame.specs.declared.counters.Counters.{Counters}
use Rattle.hsr_frame.specs.declared.egress.Exits.{Exits}
use Rattle.hsr_frame.specs.declared.fault.FrameFault.{FrameFault}
use Rattle.hsr_frame.specs.declared.fault.SendFault.{SendFault}
use Rattle.hsr_frame.specs.declared.fault.Spent.{Spent}
use Rattle.hsr_frame.specs.declared.node.Life.{Life}
use Rattle.hsr_frame.specs.declared.node.RingPort.{RingPort}
use Rattle.hsr_frame.specs.declared.node.RingPort.TheVariants as ring
use Rattle.hsr_tag.specs.Seen.{classified}
use Rattle.hsr_tag.specs.declared.seen.Seen.{Seen}
use Rattle.hsr_tables.specs.Proxies.{is_known}
use Rattle.hsr_forwarding.specs.Arrival.{heard_of}
pub use Rattle.hsr_forwarding.specs.Arrival.{heard_from}
use Rattle.hsr_forwarding.specs.Numbers.{number_range}
use Rattle.hsr_forwarding.specs.Tables.{Notes, after_passes, aged, counted_with, judged, judged_as}
use Rattle.hsr_forwarding.specs.declared.judged.Judged.{Judged}
use Rattle.hsr_redbox.specs.Wanted.{handling_interlink, handling_send, interlink, wanted}
use Rattle.hsr_redbox.specs.Machine.{Machine}
use Rattle.hsr_redbox.specs.declared.wanted.Handling.{Handling}
use Rattle.hsr_frame.specs.declared.node.About.{About}
use Rattle.hsr_frame.specs.declared.node.About.TheVariants.{Own, Proxied}
use Rattle.hsr_redbox.specs.declared.call.BoxPort.{BoxPort}
use Rattle.hsr_redbox.specs.declared.call.BoxPort.TheVariants.{A, B, I}
use Rattle.hsr_redbox.specs.declared.call.BoxSent.{BoxSent}
use Rattle.hsr_redbox.specs.declared.call.BoxVerdict.{BoxVerdict}
use Rattle.hsr_redbox.specs.declared.call.LifeFault.{LifeFault}
use Rattle.hsr_redbox.specs.declared.call.LifeFault.TheVariants as refused

-- the effective moment: one that is earlier than the last is read as the last
abbrev pub now_at : Machine → ℕ → ℕ
now_at machine at = max machine.moment at

-- ---- a frame with a number or none, by the source for which it gets the number

abbrev pub number_of : Option (List ℕ) → ℕ → Option ℕ
number_of source next = option_map (λ src. next) source

abbrev pub after_number : Option (List ℕ) → ℕ → ℕ
after_number source next = (next + bit (is_some source)) % number_range

-- a frame with a number is noted at these egresses, without a look
abbrev pub after_marks : ℕ → Notes → Exits → Option (List ℕ) → ℕ → ℕ → Notes
after_marks capacity notes exits None seq now = notes
after_marks capacity notes exits (Some src) seq now = after_passes capacity notes exits (record { src = src; seq = seq }) now

-- the machine after one more step, in which a frame was marked and numbered or not
abbrev pub after_frame : ℕ → Machine → ℕ → Exits → Option (List ℕ) → Counters → Machine
after_frame capacity machine now exits source counters = record machine {
  notes = after_marks capacity machine.notes exits source machine.next now;
  next = after_number source machine.next;
  counters = counters;
  moment = now;
  accepted = machine.accepted + 1;
}

-- ---- a frame of the RedBox's own

abbrev pub sent_of : Handling → ℕ → BoxSent
sent_of handling next = record { seq = number_of handling.source next; a = handling.wants.exits.a; b = handling.wants.exits.b; interlink = handling.wants.exits.c }

abbrev pub after_send : ℕ → Machine → ℕ → Handling → BoxSent × Machine
after_send capacity machine now handling =
    (sent_of handling machine.next, after_frame capacity machine now handling.wants.exits handling.source (record machine.counters { sent = machine.counters.sent + 1 }))

abbrev pub send_or_refuse : ℕ → Machine → ℕ → Handling → Option SendFault → Result BoxSent SendFault × Machine
send_or_refuse capacity machine now handling (Some fault) = (Err fault, machine)
send_or_refuse capacity machine now handling None = let after = after_send capacity machine now handling in (Ok after.0, after.1)

-- a send, by its destination, type and length
unfoldable pub send_step : ℕ → Machine → ℕ → List ℕ → ℕ → ℕ → Result BoxSent SendFault × Machine
send_step capacity machine at dst ethertype len =
    let now = now_at machine at in
    send_or_refuse capacity machine now (handling_send machine.own (is_known now machine.proxies.heard) dst ethertype) (send_refusal machine.own machine.accepted dst ethertype len)

-- ---- a supervision frame

-- a RedBox speaks for itself and for the addresses that it knows
abbrev pub speaks_for : (List ℕ → Bool) → About → Bool
speaks_for knows Own = true
speaks_for knows (Proxied mac) = knows mac

-- why a supervision is refused, the first reason that applies
abbrev pub life_refusal : (List ℕ → Bool) → ℕ → About → Option LifeFault
life_refusal knows accepted about = first_of
    ((not (speaks_for knows about), Some refused.NotProxied)
    ∷ (accepted == step_limit, Some refused.Spent)
    ∷ [])
    None

abbrev pub life_or_refuse : ℕ → Machine → ℕ → Option LifeFault → Result Life LifeFault × Machine
life_or_refuse capacity machine now (Some fault) = (Err fault, machine)
life_or_refuse capacity machine now None = (
  Ok (record { seq = machine.next; life = machine.counters.life % number_range }),
  after_frame capacity machine now (exits_of (a ∷ b ∷ [])) (Some machine.own) (record machine.counters { life = machine.counters.life + 1 }),
)

unfoldable pub life_step : ℕ → Machine → ℕ → About → Result Life LifeFault × Machine
life_step capacity machine at about =
    let now = now_at machine at in
    life_or_refuse capacity machine now (life_refusal (is_known now machine.proxies.heard) machine.accepted about)

-- ---- an arrival

-- the verdict of a RedBox, by its egresses
abbrev pub verdict_of : Judged → Option ℕ → BoxVerdict
verdict_of judged seq = record { up = judged.passes.up; a = judged.passes.a; b = judged.passes.b; interlink = judged.passes.c; seq = seq; cause = judged.cause }

-- ---- an arrival at a ring port

-- what came to ring port x, at the effective moment
abbrev pub after_ring : ℕ → Machine → ℕ → RingPort → Result Seen FrameFault → BoxVerdict × Machine
after_ring capacity machine now x seen =
    let outcome = judged capacity machine.notes (wanted machine.own machine.mode (is_known now machine.proxies.heard) x seen) seen now in
    let hearing = heard_of machine.own machine.nodes x seen now in (
      verdict_of outcome.0 None,
      record machine {
        notes = outcome.1;
        nodes = hearing.1;
        counters = counted_with machine.counters outcome.0 hearing.0;
        moment = now;
        accepted = machine.accepted + 1;
      },
    )

-- ---- an arrival at the interlink

-- a frame that is handled so passes wherever it is wanted; one with a number is noted on the interlink too, so that no copy of it is given back
abbrev pub after_handling : ℕ → Machine → ℕ → Handling → BoxVerdict × Machine
after_handling capacity machine now handling =
    let verdict = judged_as handling.wants handling.wants.exits in (
      verdict_of verdict (number_of handling.source machine.next),
      after_frame capacity machine now (with_exit interlink handling.wants.exits) handling.source (counted_with machine.counters verdict true),
    )

-- what came to the interlink, at the effective moment: its source is heard before it is decided
abbrev pub after_interlink : ℕ → Machine → ℕ → Result Seen FrameFault → BoxVerdict × Machine
after_interlink capacity machine now seen =
    let heard = record machine { proxies = heard_from machine.own machine.proxies seen now } in
    after_handling capacity heard now (handling_interlink heard.own (is_known now heard.proxies.heard) seen)

-- ---- an arrival, by its port

abbrev pub after_arrival : ℕ → Machine → ℕ → BoxPort → Result Seen FrameFault → BoxVerdict × Machine
after_arrival capacity machine now A seen = after_ring capacity machine now ring.A seen
after_arrival capacity machine now B seen = after_ring capacity machine now ring.B seen
after_arrival capacity machine now I seen = after_interlink capacity machine now seen

abbrev pub arrive_or_spent : ℕ → Machine → ℕ → BoxPort → List ℕ → Bool → Result BoxVerdict Spent × Machine
arrive_or_spent capacity machine now port octets true = (Err (record {}), machine)
arrive_or_spent capacity machine now port octets false = let after = after_arrival capacity machine now port (classified octets) in (Ok after.0, after.1)

unfoldable pub arrive_step : ℕ → Machine → ℕ → BoxPort → List ℕ → Result BoxVerdict Spent × Machine
arrive_step capacity machine at port octets = arrive_or_spent capacity machine (now_at machine at) port octets (machine.accepted == step_limit)

-- ---- ageing, which isn't counted as a step

abbrev pub age_step : Machine → ℕ → Machine
age_step machine at = record machine { notes = aged machine.notes (now_at machine at); moment = now_at machine at }
