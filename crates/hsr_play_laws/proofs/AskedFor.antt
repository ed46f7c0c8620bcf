-- A send of a record is what its step asked for.
use Rattle.std.proofs.Common.{◌≡◌, ℕ, ◌≤◌, ◌==◌, Bool, true, false, if◌then◌else◌, List, [], ◌∷◌, length, Option, Some, None, refl, sym, ap, ◌∙◌, subst, arith, eqb-true}
use Rattle.hsr_frame.specs.Address.{supervision_address}
use Rattle.hsr_frame.specs.Grammar.{Fields}
use Rattle.hsr_frame.specs.Layout.{ethertype_supervision}
use Rattle.hsr_frame.specs.declared.node.About.{About}
use Rattle.hsr_node.specs.Copies.{address_at, asked_frame, frame_of, life_frame, life_said, ring_address}
use Rattle.hsr_node.specs.Flow.{send_at, sent_by}
use Rattle.hsr_node.specs.declared.entry.Entry.{Entry}
use Rattle.hsr_node.specs.declared.event.Event.{Event}
use Rattle.hsr_node.specs.declared.event.Event.TheVariants.{Send, Supervise, Arrive, Age}
use Rattle.hsr_node.specs.declared.event.Outcome.{Outcome}
use Rattle.hsr_node.specs.declared.event.Outcome.TheVariants.{Sent, Life, Judged, Aged}
use Rattle.hsr_node.specs.declared.event.Probe.{Probe}
use Rattle.hsr_node.specs.declared.place.Place.{Place}
use Rattle.hsr_node.specs.declared.sending.Sending.{Sending}
use Rattle.hsr_supervision.specs.Payload as payload
use Rattle.hsr_run_laws.proofs.Records.{same_frame, sending_frame}
use Rattle.hsr_world_laws.specs.World.{World}
use Rattle.hsr_plays.specs.Setup.{Setup}
use Rattle.hsr_plays.specs.declared.span.Asked.{Asked}
use Rattle.hsr_play_laws.specs.Told.{IsAt, IsOpenSend, IsSentAt, Timed, event_asks}

-- the destination and the type of a frame are what was asked for
abbrev pub Fits : Fields → Asked → Type 0
Fits frame asked = (frame.dst ≡ asked.dst) × (frame.kind ≡ asked.kind)

asked_so : (address : Option (List ℕ)) (dst : List ℕ) (vlan : Option ℕ) (ethertype : ℕ) (data' : List ℕ) (f : Fields) → asked_frame address dst vlan ethertype data' ≡ Some f → (f.dst ≡ dst) × (f.kind ≡ ethertype)
asked_so None dst vlan ethertype data' f h = absurd cc
asked_so (Some src) dst vlan ethertype data' f h =
    let same = same_frame (record { dst = dst; src = src; vlan = vlan; kind = ethertype; rest = data' }) f h in
    (ap (λ (g : Fields). g.dst) (sym same), ap (λ (g : Fields). g.kind) (sym same))

life_so : (own : Option (List ℕ)) (about : About) (life : ℕ) (f : Fields) → life_frame own about life ≡ Some f → (f.dst ≡ supervision_address) × (f.kind ≡ ethertype_supervision)
life_so None about life f h = absurd cc
life_so (Some own) about life f h =
    let g : Fields = record { dst = supervision_address; src = own; vlan = None; kind = ethertype_supervision; rest = payload.spelling (life_said own about life) } in
    let same = same_frame g f h in
    (ap (λ (x : Fields). x.dst) (sym same), ap (λ (x : Fields). x.kind) (sym same))

-- an entry that sends was asked to
pub sent_asks : (place : Place) (k : ℕ) (event : Event) (outcome : Outcome) (sending : Sending) (asked : Asked) → sent_by place event outcome ≡ Some sending → event_asks k event ≡ Some asked → Fits sending.frame asked
sent_asks place k (Send from dst vlan ethertype payload) (Sent seq ports) sending asked is asks =
    let frame = (sending_frame seq (asked_frame (address_at place from) dst vlan ethertype payload) sending is).0 in
    let so = asked_so (address_at place from) dst vlan ethertype payload sending.frame frame in
    let made : Asked = record { node = k; from = from; dst = dst; kind = ethertype } in
    let same : made ≡ asked = let e : Some made ≡ Some asked = asks in cc in
    (so.0 ∙ ap (λ (a : Asked). a.dst) same, so.1 ∙ ap (λ (a : Asked). a.kind) same)
sent_asks place k (Send from dst vlan ethertype payload) (Life seq life ports) sending asked is asks = absurd cc
sent_asks place k (Send from dst vlan ethertype payload) (Judged up_too ports seq why) sending asked is asks = absurd cc
sent_asks place k (Send from dst vlan ethertype payload) Aged sending asked is asks = absurd cc
sent_asks place k (Supervise about) (Life seq life ports) sending asked is asks =
    let frame = (sending_frame (Some seq) (life_frame (ring_address place) about life) sending is).0 in
    let so = life_so (ring_address place) about life sending.frame frame in
    let made : Asked = record { node = k; from = 0; dst = supervision_address; kind = ethertype_supervision } in
    let same : made ≡ asked = let e : Some made ≡ Some asked = asks in cc in
    (so.0 ∙ ap (λ (a : Asked). a.dst) same, so.1 ∙ ap (λ (a : Asked). a.kind) same)
sent_asks place k (Supervise about) (Sent seq ports) sending asked is asks = absurd cc
sent_asks place k (Supervise about) (Judged up_too ports seq why) sending asked is asks = absurd cc
sent_asks place k (Supervise about) Aged sending asked is asks = absurd cc
sent_asks place k (Arrive port copy) outcome sending asked is asks = absurd cc
sent_asks place k Age outcome sending asked is asks = absurd cc

-- ---- the send at a place

-- it has a span, and is what was asked for
pub record IsAsked (s : Setup) (w : World) (send : Probe) (frame : Fields) (last : ℕ) : Type 0 where
  pub time : ℕ
  pub low : time ≤ last
  pub is : IsOpenSend s w send time
  pub fits : Fits frame is.span.asked

pub asked_at_place : (s : Setup) (w : World) (k n last : ℕ) (place : Place) (sending : Sending) (h : List Entry) → Timed s w k last h → send_at place n h ≡ Some sending → IsAsked s w (record { node = k; place = n }) sending.frame last
asked_at_place s w k n last place sending [] timed is = absurd cc
asked_at_place s w k n last place sending (x ∷ past) (time, low, at, is_at, timed) is = by_test (n == length past) refl is (asked_at_place s w k n time place sending past timed)
  where
    here : (event : Event) → sent_by place event x.outcome ≡ Some sending → IsAt s w k time event past → IsAsked s w (record { node = k; place = length past }) sending.frame last
    here (Send from dst vlan ethertype payload) sent at = record { time = time; low = low; is = at.0; fits = sent_asks place k (Send from dst vlan ethertype payload) x.outcome sending at.0.span.asked sent at.2 }
    here (Supervise about) sent at = record { time = time; low = low; is = at.0; fits = sent_asks place k (Supervise about) x.outcome sending at.0.span.asked sent at.2 }
    here (Arrive port copy) sent at = absurd cc
    here Age sent at = absurd cc

    by_test : (b : Bool) → (n == length past) ≡ b → (if b then sent_by place x.event x.outcome else send_at place n past) ≡ Some sending →
        (send_at place n past ≡ Some sending → IsAsked s w (record { node = k; place = n }) sending.frame time) → IsAsked s w (record { node = k; place = n }) sending.frame last
    by_test true same sent rest =
        subst (λ m. let q : Probe = record { node = k; place = m } in IsAsked s w q sending.frame last) (sym (eqb-true n (length past) same)) (here x.event sent is_at)
    by_test false other sent rest =
        let a = rest sent in
        let below = a.low in
        record { time = a.time; low = omega (arith, below, low); is = a.is; fits = a.fits }
