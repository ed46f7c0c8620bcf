-- What the program does in a step is the step of the definition, and keeps what holds of each RedBox.
use Rattle.std.proofs.Common.{◌≡◌, ℕ, ◌+◌, ◌%◌, ◌<◌, ◌≤◌, Bool, true, false, List, [], ◌∷◌, Option, Some, None, Result, Ok, Err, ap, sym, refl, ◌∙◌}
use Rattle.hsr_frame.specs.Address.{is_group, is_same_address}
use Rattle.hsr_frame.specs.Cases.{first_of}
use Rattle.hsr_frame.specs.Counters.{step_limit}
use Rattle.hsr_frame.specs.Egress.{up, a, b, d, exits_of, is_supervision, nowhere, to, with_exit}
use Rattle.hsr_frame.specs.Send.{send_refusal}
use Rattle.hsr_frame.specs.declared.egress.Exits.{Exits}
use Rattle.hsr_frame.specs.declared.fault.FrameFault.{FrameFault}
use Rattle.hsr_frame.specs.declared.fault.SendFault.{SendFault}
use Rattle.hsr_frame.specs.declared.node.About.{About}
use Rattle.hsr_frame.specs.declared.node.Cause.TheVariants.{Returned, Local}
use Rattle.hsr_frame.specs.declared.node.RingPort.{RingPort}
use Rattle.hsr_tag.specs.Seen.{classified}
use Rattle.hsr_tag.specs.declared.seen.Seen.{Seen}
use Rattle.hsr_tag.specs.declared.seen.Seen.TheVariants.{Plain, Tagged}
use Rattle.hsr_tables.specs.Nodes.{Nodes}
use Rattle.hsr_tables.specs.Proxies.{Proxies, is_known}
use Rattle.hsr_forwarding.specs.Arrival.{heard_of}
use Rattle.hsr_forwarding.specs.Numbers.{number_range}
use Rattle.hsr_forwarding.specs.Tables.{AreWithin, Notes, among, copies_of, counted_with, judged, judged_as}
use Rattle.hsr_forwarding.specs.declared.judged.Judged.{Judged}
use Rattle.hsr_forwarding.proofs.Keeping.{AreWithin-more, AreWithin-passes, copies-few}
use Rattle.hsr_forwarding.proofs.Spending.{spent, unspent}
use Rattle.hsr_redbox.specs.Machine.{Machine}
use Rattle.hsr_redbox.specs.Step.{after_arrival, after_frame, after_handling, after_interlink, after_marks, after_ring, arrive_or_spent, arrive_step, heard_from, life_or_refuse, life_refusal, life_step, now_at, number_of, send_or_refuse, send_step, sent_of, verdict_of}
use Rattle.hsr_redbox.specs.Wanted.{egresses, handling_interlink, handling_send, interlink, numbered, unnumbered, wanted}
use Rattle.hsr_redbox.specs.declared.call.BoxPort.{BoxPort}
use Rattle.hsr_redbox.specs.declared.call.BoxVerdict.{BoxVerdict}
use Rattle.hsr_redbox.specs.declared.call.LifeFault.{LifeFault}
use Rattle.hsr_redbox.specs.declared.wanted.Handling.{Handling}

-- ---- the tables

pub notes-marked : (capacity : ℕ) (notes : Notes) (exits : Exits) (source : Option (List ℕ)) (seq moment now accepted : ℕ) → moment ≤ now → AreWithin notes moment accepted
    → AreWithin (after_marks capacity notes exits source seq now) now (accepted + 1)
notes-marked capacity notes exits None seq moment now accepted h w = AreWithin-more notes moment now accepted h w
notes-marked capacity notes exits (Some src) seq moment now accepted h w = AreWithin-passes capacity notes exits (record { src = src; seq = seq }) moment now accepted h w

pub marked-there : (capacity : ℕ) (notes : Notes) (exits : Exits) (source : Option (List ℕ)) (seq now : ℕ) → (after_marks capacity notes exits source seq now).there ≡ notes.there
marked-there capacity notes exits None seq now = refl
marked-there capacity notes exits (Some src) seq now = refl

-- ---- where frames go that pass without a look

-- they go by egresses of the RedBox, and so they do where they are noted on the interlink too
abbrev pub Fits : Handling → Type 0
Fits h = (h.wants.exits ≡ among h.wants.exits egresses) × (h.wants.exits.d ≡ false) × (with_exit interlink h.wants.exits ≡ among (with_exit interlink h.wants.exits) egresses)

plain-fits : (src : List ℕ) (own same near group : Bool)
    → Fits (first_of
    ((own, unnumbered (nowhere Returned))
    ∷ (same, unnumbered (to (up ∷ [])))
    ∷ (near, unnumbered (nowhere Local))
    ∷ (group, numbered src (to (up ∷ a ∷ b ∷ [])))
    ∷ [])
    (numbered src (to (a ∷ b ∷ []))))
plain-fits src true same near group = (refl, refl, refl)
plain-fits src false true near group = (refl, refl, refl)
plain-fits src false false true group = (refl, refl, refl)
plain-fits src false false false true = (refl, refl, refl)
plain-fits src false false false false = (refl, refl, refl)

pub interlink-fits : (own : List ℕ) (knows : List ℕ → Bool) (seen : Result Seen FrameFault) → Fits (handling_interlink own knows seen)
interlink-fits own knows (Err fault) = (refl, refl, refl)
interlink-fits own knows (Ok (Tagged frame)) = (refl, refl, refl)
interlink-fits own knows (Ok (Plain frame)) = plain-fits frame.src (is_same_address frame.src own) (is_same_address frame.dst own) (knows frame.dst) (is_group frame.dst)

sent-fits : (own : List ℕ) (near life group : Bool)
    → Fits (first_of
    ((near, unnumbered (to (interlink ∷ [])))
    ∷ (life, numbered own (to (a ∷ b ∷ [])))
    ∷ (group, numbered own (to (a ∷ b ∷ interlink ∷ [])))
    ∷ [])
    (numbered own (to (a ∷ b ∷ []))))
sent-fits own true life group = (refl, refl, refl)
sent-fits own false true group = (refl, refl, refl)
sent-fits own false false true = (refl, refl, refl)
sent-fits own false false false = (refl, refl, refl)

pub send-fits : (own : List ℕ) (knows : List ℕ → Bool) (dst : List ℕ) (ethertype : ℕ) → Fits (handling_send own knows dst ethertype)
send-fits own knows dst ethertype = sent-fits own (knows dst) (is_supervision dst ethertype) (is_group dst)

-- ---- copies: at most three ports pass an arrival

pub copies-handled : (own : List ℕ) (knows : List ℕ → Bool) (seen : Result Seen FrameFault) → copies_of (handling_interlink own knows seen).wants.exits ≤ 3
copies-handled own knows seen = copies-few (handling_interlink own knows seen).wants.exits d refl (interlink-fits own knows seen).1

-- ---- frames of the node's own

pub send-refused : (capacity : ℕ) (machine : Machine) (at : ℕ) (dst : List ℕ) (ethertype len : ℕ) (fault : SendFault) → Some fault ≡ send_refusal machine.own machine.accepted dst ethertype len
    → (Err fault, machine) ≡ send_step capacity machine at dst ethertype len
unfolding send_step
send-refused capacity machine at dst ethertype len fault e =
    let now = now_at machine at in ap (send_or_refuse capacity machine now (handling_send machine.own (is_known now machine.proxies.heard) dst ethertype)) e

pub send-accepted : (capacity : ℕ) (machine : Machine) (at : ℕ) (dst : List ℕ) (ethertype len : ℕ) (now : ℕ) (h : Handling) (new : Machine) → None ≡ send_refusal machine.own machine.accepted dst ethertype len
    → now ≡ now_at machine at → h ≡ handling_send machine.own (is_known now machine.proxies.heard) dst ethertype
    → new ≡ after_frame capacity machine now h.wants.exits h.source (record machine.counters { sent = machine.counters.sent + 1 })
    → (Ok (sent_of h machine.next), new) ≡ send_step capacity machine at dst ethertype len
unfolding send_step
send-accepted capacity machine at dst ethertype len now h new e at_now handled left =
    rw (left, handled, at_now)
    (let later = now_at machine at in ap (send_or_refuse capacity machine later (handling_send machine.own (is_known later machine.proxies.heard) dst ethertype)) e)

pub life-refused : (capacity : ℕ) (machine : Machine) (at : ℕ) (about : About) (now : ℕ) (fault : LifeFault) → now ≡ now_at machine at
    → Some fault ≡ life_refusal (is_known now machine.proxies.heard) machine.accepted about
    → (Err fault, machine) ≡ life_step capacity machine at about
unfolding life_step
life-refused capacity machine at about now fault at_now e = ap (life_or_refuse capacity machine (now_at machine at)) (rw at_now at e)

pub life-accepted : (capacity : ℕ) (machine : Machine) (at : ℕ) (about : About) (now : ℕ) (new : Machine) → now ≡ now_at machine at
    → None ≡ life_refusal (is_known now machine.proxies.heard) machine.accepted about
    → new ≡ after_frame capacity machine now (exits_of (a ∷ b ∷ [])) (Some machine.own) (record machine.counters { life = machine.counters.life + 1 })
    → (Ok (record { seq = machine.next; life = machine.counters.life % number_range }), new) ≡ life_step capacity machine at about
unfolding life_step
life-accepted capacity machine at about now new at_now e left = rw (left, at_now) (ap (life_or_refuse capacity machine (now_at machine at)) (rw at_now at e))

-- ---- arrivals

pub arrive-spent : (capacity : ℕ) (machine : Machine) (at : ℕ) (port : BoxPort) (octets : List ℕ) → machine.accepted ≡ step_limit → (Err (record {}), machine) ≡ arrive_step capacity machine at port octets
unfolding arrive_step
arrive-spent capacity machine at port octets e = ap (arrive_or_spent capacity machine (now_at machine at) port octets) (spent machine.accepted e)

pub arrive-accepted : (capacity : ℕ) (machine : Machine) (at : ℕ) (port : BoxPort) (octets : List ℕ) (seen : Result Seen FrameFault) (now : ℕ) (verdict : BoxVerdict) (new : Machine)
    → machine.accepted < step_limit → seen ≡ classified octets → now ≡ now_at machine at → (verdict, new) ≡ after_arrival capacity machine now port seen
    → (Ok verdict, new) ≡ arrive_step capacity machine at port octets
unfolding arrive_step
arrive-accepted capacity machine at port octets seen now verdict new some read at_now step =
    ap (λ (p : BoxVerdict × Machine). (Ok p.0, p.1)) (step ∙ rw (at_now, read) refl) ∙ ap (arrive_or_spent capacity machine (now_at machine at) port octets) (sym (unspent machine.accepted some))

pub ring-step : (capacity : ℕ) (machine : Machine) (now : ℕ) (x : RingPort) (seen : Result Seen FrameFault) (verdict : Judged) (notes : Notes) (readable : Bool) (nodes : Nodes)
    → (verdict, notes) ≡ judged capacity machine.notes (wanted machine.own machine.mode (is_known now machine.proxies.heard) x seen) seen now
    → (readable, nodes) ≡ heard_of machine.own machine.nodes x seen now
    → (verdict_of verdict None, record machine { notes = notes; nodes = nodes; counters = counted_with machine.counters verdict readable; moment = now; accepted = machine.accepted + 1 }) ≡ after_ring capacity machine now x seen
ring-step capacity machine now x seen verdict notes readable nodes outcome hearing =
    let whole : Judged × Notes → Bool × Nodes → BoxVerdict × Machine = λ o h. (
      verdict_of o.0 None,
      record machine { notes = o.1; nodes = h.1; counters = counted_with machine.counters o.0 h.0; moment = now; accepted = machine.accepted + 1 },
    ) in
    let wants = wanted machine.own machine.mode (is_known now machine.proxies.heard) x seen in
    ap (λ o. whole o (readable, nodes)) outcome ∙ ap (λ h. whole (judged capacity machine.notes wants seen now) h) hearing

pub interlink-step : (capacity : ℕ) (machine : Machine) (now : ℕ) (seen : Result Seen FrameFault) (proxies : Proxies) (h : Handling) (verdict : Judged) (new : Machine)
    → proxies ≡ heard_from machine.own machine.proxies seen now
    → h ≡ handling_interlink machine.own (is_known now proxies.heard) seen
    → verdict ≡ judged_as h.wants h.wants.exits
    → new ≡ after_frame capacity (record machine { proxies = proxies; moment = now }) now (with_exit interlink h.wants.exits) h.source (counted_with machine.counters verdict true)
    → (verdict_of verdict (number_of h.source machine.next), new) ≡ after_interlink capacity machine now seen
interlink-step capacity machine now seen proxies h verdict new heard handled judged left =
    let after : Proxies → Handling → BoxVerdict × Machine = λ p k. after_handling capacity (record machine { proxies = p }) now k in
    let tail : Judged → BoxVerdict × Machine = λ v. (
      verdict_of v (number_of h.source machine.next),
      after_frame capacity (record machine { proxies = proxies; moment = now }) now (with_exit interlink h.wants.exits) h.source (counted_with machine.counters v true),
    ) in
    ap (λ m. (verdict_of verdict (number_of h.source machine.next), m)) left ∙ ap tail judged ∙ ap (λ k. after proxies k) handled
    ∙ ap (λ p. after p (handling_interlink machine.own (is_known now p.heard) seen)) heard
