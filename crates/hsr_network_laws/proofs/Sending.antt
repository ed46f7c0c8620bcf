-- A send leaves its sender by each port where it is let out.
use Rattle.std.proofs.Common.{◌≡◌, ℕ, ◌<◌, ◌%◌, ◌==◌, ◌&&◌, ◌||◌, Bool, true, false, if◌then◌else◌, List, [], ◌∷◌, length, Option, Some, None, Ok, refl, sym, ap, ◌∙◌, subst, arith, ⊎_elim, zero, suc, eqb-true, not}
use Rattle.std.specs.Prelude.{option_map}
use Rattle.std.specs.List.{list_any, cons_option}
use Rattle.std.proofs.lemmas.Bool.{false≢true, or_left, cases_Bool}
use Rattle.hsr_frame.specs.Address.{is_group, supervision_address}
use Rattle.hsr_frame.specs.Cases.{first_of}
use Rattle.hsr_frame.specs.Egress.{is_supervision, to}
use Rattle.hsr_frame.specs.Egress as out
use Rattle.hsr_frame.specs.Grammar.{Fields}
use Rattle.hsr_frame.specs.declared.fault.SendFault.{SendFault}
use Rattle.hsr_frame.specs.declared.node.About.{About}
use Rattle.hsr_frame.specs.declared.node.Mode.{Mode}
use Rattle.hsr_redbox.specs.Step.{life_refusal, number_of}
use Rattle.hsr_redbox.specs.Wanted.{numbered, unnumbered}
use Rattle.hsr_redbox.specs.Wanted as of_redbox
use Rattle.hsr_redbox.specs.declared.call.LifeFault.{LifeFault}
use Rattle.hsr_redbox.specs.declared.wanted.Handling.{Handling}
use Rattle.hsr_supervision.specs.Payload as payload
use Rattle.hsr_node.specs.Copies.{address_at, asked_frame, copy_octets, life_frame, life_said, passed_octets, ring_address, side_of, written}
use Rattle.hsr_node.specs.Flow.{pass_of, passes, send_at, sent_by}
use Rattle.hsr_node.specs.Record.{Each, Owner, answer, has_port, knows, lived_or_refused, lives, next_number, now, ports, probe_handled, send_answer, sent_as, sent_or_refused, steps}
use Rattle.hsr_node.specs.Record as of_record
use Rattle.hsr_node.specs.declared.entry.Entry.{Entry}
use Rattle.hsr_node.specs.declared.event.Carried.{Carried}
use Rattle.hsr_node.specs.declared.event.Event.{Event}
use Rattle.hsr_node.specs.declared.event.Event.TheVariants.{Send, Supervise, Arrive, Age}
use Rattle.hsr_node.specs.declared.event.Outcome.{Outcome}
use Rattle.hsr_node.specs.declared.event.Outcome.TheVariants.{Sent, Life, Judged, Aged}
use Rattle.hsr_node.specs.declared.event.Probe.{Probe}
use Rattle.hsr_node.specs.declared.place.Place.{Place}
use Rattle.hsr_node.specs.declared.place.Place.TheVariants.{Danh, RedBox, QuadBox, Station}
use Rattle.hsr_node.specs.declared.sending.Sending.{Sending}
use Rattle.hsr_network_laws.specs.Network.{is_edge}
use Rattle.hsr_network_laws.specs.Channels.{lets_out}
use Rattle.hsr_node.specs.Place.{ports as ports_there}
use Rattle.hsr_run_laws.specs.Once.{is_copy}
use Rattle.hsr_run_laws.specs.Run.{is_of}
use Rattle.hsr_run_laws.proofs.Danh.{by_a, by_b}
use Rattle.hsr_network_laws.proofs.Sides.{edge_side, ring_at, ring_side, writes_edge, writes_ring}
use Rattle.hsr_network_laws.proofs.Unknown.{UnknownBefore}
use Rattle.hsr_run_laws.proofs.Passed.{own_pass}
use Rattle.hsr_run_laws.proofs.Records.{Answered, same_frame, sending_frame}
use Rattle.hsr_run_laws.proofs.Same.{any_one_more, is_of_itself}
use Rattle.hsr_run_laws.proofs.Wanted.{life_group}

-- a frame is written at each port, where it has a number at those on rings
writes : (place : Place) (n : ℕ) (seq : Option ℕ) (f : Fields) → n < ports_there place → (is_edge place n ≡ false → (s : ℕ) × (seq ≡ Some s)) → (octets : List ℕ) × (written (side_of place n) seq (Some f) ≡ Some octets)
writes place n seq f below number =
    ⊎_elim
    (λ edge. (_, ap (λ σ. written σ seq (Some f)) (edge_side place n below edge) ∙ writes_edge seq f))
    (λ no_edge.
    let s = number no_edge in
    let side = ring_side place n below no_edge in
    let w = writes_ring side.0 s.0 f in
    (w.0, ap (λ σ. written σ seq (Some f)) side.1 ∙ (ap (λ o. written (side_of QuadBox (ring_at side.0)) o (Some f)) s.1 ∙ w.1)))
    (cases_Bool (is_edge place n))

-- a send's outcome
pub sent_outcome : (capacity : ℕ) (owner : Owner) (past : List Entry) (at from : ℕ) (dst : List ℕ) (vlan : Option ℕ) (ethertype : ℕ) (data' : List ℕ) (outcome : Outcome) →
    answer capacity owner past at (Send from dst vlan ethertype data') ≡ Ok outcome → outcome ≡ sent_as (of_record.sending owner.place (knows owner.place past at Age) dst ethertype) (next_number past)
sent_outcome capacity owner past at from dst vlan ethertype data' outcome ok = by_address (address_at owner.place from) ok
  where
    by_refusal : (o : Option SendFault) (outcome' : Outcome) → sent_or_refused o outcome' ≡ Ok outcome → outcome ≡ outcome'
    by_refusal None outcome' e = cc
    by_refusal (Some fault) outcome' e = absurd cc

    by_address : (o : Option (List ℕ)) → send_answer capacity owner past at o dst ethertype (length data') ≡ Ok outcome → outcome ≡ sent_as (of_record.sending owner.place (knows owner.place past at Age) dst ethertype) (next_number past)
    by_address None e = absurd cc
    by_address (Some src) e = by_refusal _ (sent_as (of_record.sending owner.place (knows owner.place past at Age) dst ethertype) (next_number past)) e

send_octets : (place : Place) (from : ℕ) (dst : List ℕ) (vlan : Option ℕ) (ethertype : ℕ) (data' : List ℕ) (h : Handling) (next n : ℕ) (f : Fields) → asked_frame (address_at place from) dst vlan ethertype data' ≡ Some f → has_port (ports h.wants.exits) n ≡ true →
    copy_octets place (Send from dst vlan ethertype data') (sent_as h next) n ≡ written (side_of place n) (number_of h.source next) (Some f)
unfolding copy_octets passed_octets
send_octets place from dst vlan ethertype data' h next n f is out_there =
    ap (λ b. if b then written (side_of place n) (number_of h.source next) (asked_frame (address_at place from) dst vlan ethertype data') else None) out_there
    ∙ ap (λ o. written (side_of place n) (number_of h.source next) o) is

life_octets : (place : Place) (about : About) (seq life n : ℕ) (f : Fields) → life_frame (ring_address place) about life ≡ Some f → n < 2 →
    copy_octets place (Supervise about) (Life seq life (true ∷ true ∷ false ∷ false ∷ [])) n ≡ written (side_of place n) (Some seq) (Some f)
unfolding copy_octets passed_octets
life_octets place about seq life zero f is h = ap (λ o. written (side_of place 0) (Some seq) o) is
life_octets place about seq life (suc zero) f is h = ap (λ o. written (side_of place 1) (Some seq) o) is
life_octets place about seq life (suc (suc n)) f is h = absurd (omega arith)

-- ---- by kind

abbrev pub send_by : Bool → Bool → Bool → List ℕ → Handling
send_by near life group own =
    first_of ((near, unnumbered (to (of_redbox.interlink ∷ []))) ∷ (life, numbered own (to (out.a ∷ out.b ∷ []))) ∷ (group, numbered own (to (out.a ∷ out.b ∷ of_redbox.interlink ∷ []))) ∷ []) (numbered own (to (out.a ∷ out.b ∷ [])))

box_sends : (near life group : Bool) (own : List ℕ) (n : ℕ) → near ≡ false → n < 3 → (not (n == 2) || (group && not life)) ≡ true → (has_port (ports (send_by near life group own).wants.exits) n ≡ true) × ((send_by near life group own).source ≡ Some own)
box_sends true life group own n e h l = absurd (false≢true (sym e))
box_sends false life group own (suc (suc (suc n))) e h l = absurd (omega arith)
box_sends false true group own zero e h l = (refl, refl)
box_sends false true group own (suc zero) e h l = (refl, refl)
box_sends false true true own (suc (suc zero)) e h l = absurd (false≢true l)
box_sends false true false own (suc (suc zero)) e h l = absurd (false≢true l)
box_sends false false true own zero e h l = (refl, refl)
box_sends false false true own (suc zero) e h l = (refl, refl)
box_sends false false true own (suc (suc zero)) e h l = (refl, refl)
box_sends false false false own zero e h l = (refl, refl)
box_sends false false false own (suc zero) e h l = (refl, refl)
box_sends false false false own (suc (suc zero)) e h l = absurd (false≢true l)

-- what an entry that sends lets leave by a port
pub record IsSentOut (owner : Owner) (n : ℕ) (x : Entry) (past : List Entry) : Type 0 where
  pub octets : List ℕ
  pub is : copy_octets owner.place x.event x.outcome n ≡ Some octets
  pub probe : probe_handled (record { node = owner.number; place = length past }) x.event ≡ Some (record { node = owner.number; place = length past })

module _ (capacity number : ℕ) where
  danh_out : (mac : List ℕ) (mode : Mode) (n : ℕ) (x : Entry) (past : List Entry) (s : Sending) → n < 2 → Answered capacity (record { number = number; place = Danh mac mode }) x past → sent_by (Danh mac mode) x.event x.outcome ≡ Some s →
      IsSentOut (record { number = number; place = Danh mac mode }) n x past
  danh_out mac mode zero x past s h ok is = let own = own_pass capacity number mac mode x past ok s is in record { octets = _; is = own.0.octets by_a; probe = own.1 }
  danh_out mac mode (suc zero) x past s h ok is = let own = own_pass capacity number mac mode x past ok s is in record { octets = _; is = own.0.octets by_b; probe = own.1 }
  danh_out mac mode (suc (suc n)) x past s h ok is = absurd (omega arith)

  -- of an entry that is a send, by its event
  pub by_event : (place : Place) (x : Entry) (past : List Entry) (s : Sending) (P : Type 0) → sent_by place x.event x.outcome ≡ Some s →
      ((from : ℕ) (dst : List ℕ) (vlan : Option ℕ) (ethertype : ℕ) (data' : List ℕ) → x.event ≡ Send from dst vlan ethertype data' → P) → ((about : About) → x.event ≡ Supervise about → P) → P
  by_event place x past s P is send life = go x.event refl
    where
      go : (event : Event) → x.event ≡ event → P
      go (Send from dst vlan ethertype data') e = send from dst vlan ethertype data' e
      go (Supervise about) e = life about e
      go Age e = let none : sent_by place x.event x.outcome ≡ None = ap (λ ev. sent_by place ev x.outcome) e in absurd cc
      go (Arrive port copy) e = let none : sent_by place x.event x.outcome ≡ None = ap (λ ev. sent_by place ev x.outcome) e in absurd cc

  -- a send leaves where it is wanted, where it has a number at the ports on rings
  sent_out : (place : Place) (n : ℕ) (x : Entry) (past : List Entry) (s : Sending) (from : ℕ) (dst : List ℕ) (vlan : Option ℕ) (ethertype : ℕ) (data' : List ℕ) → n < ports_there place → Answered capacity (record { number = number; place = place }) x past →
      sent_by place x.event x.outcome ≡ Some s → x.event ≡ Send from dst vlan ethertype data' →
      ((f : Fields) → asked_frame (address_at place from) dst vlan ethertype data' ≡ Some f → s.frame ≡ f →
      (has_port (ports (of_record.sending place (knows place past (now (x ∷ past)) Age) dst ethertype).wants.exits) n ≡ true)
      × (is_edge place n ≡ false → (src : List ℕ) × ((of_record.sending place (knows place past (now (x ∷ past)) Age) dst ethertype).source ≡ Some src))) → IsSentOut (record { number = number; place = place }) n x past
  sent_out place n x past s from dst vlan ethertype data' below ok is e how =
      let h : Handling = of_record.sending place (knows place past (now (x ∷ past)) Age) dst ethertype in
      let A : Event → Type 0 = λ ev. answer capacity (record { number = number; place = place }) past (now (x ∷ past)) ev ≡ Ok x.outcome in
      let outcome = sent_outcome capacity (record { number = number; place = place }) past (now (x ∷ past)) from dst vlan ethertype data' x.outcome (subst A e ok) in
      let S : Event → Type 0 = λ ev. sent_by place ev x.outcome ≡ Some s in
      let O : Outcome → Type 0 = λ o. sent_by place (Send from dst vlan ethertype data') o ≡ Some s in
      let asked = (sending_frame (number_of h.source (next_number past)) (asked_frame (address_at place from) dst vlan ethertype data') s (subst O outcome (subst S e is))).0 in
      let two = how s.frame asked refl in
      let w = writes place n (number_of h.source (next_number past)) s.frame below (λ no_edge. (next_number past, ap (λ o. number_of o (next_number past)) (two.1 no_edge).1)) in
      record {
        octets = w.0;
        is = ap (λ ev. copy_octets place ev x.outcome n) e ∙ (ap (λ o. copy_octets place (Send from dst vlan ethertype data') o n) outcome ∙ (send_octets place from dst vlan ethertype data' h (next_number past) n s.frame asked two.0 ∙ w.1));
        probe = ap (probe_handled (record { node = number; place = length past })) e;
      }

  pub asked_is : (address : Option (List ℕ)) (dst : List ℕ) (vlan : Option ℕ) (ethertype : ℕ) (data' : List ℕ) (f : Fields) → asked_frame address dst vlan ethertype data' ≡ Some f → (f.dst ≡ dst) × (f.kind ≡ ethertype)
  asked_is None dst vlan ethertype data' f h = absurd cc
  asked_is (Some src) dst vlan ethertype data' f h =
      let same = same_frame (record { dst = dst; src = src; vlan = vlan; kind = ethertype; rest = data' }) f h in
      (ap (λ (g : Fields). g.dst) (sym same), ap (λ (g : Fields). g.kind) (sym same))

  life_is : (own : List ℕ) (about : About) (life : ℕ) (f : Fields) → life_frame (Some own) about life ≡ Some f → is_supervision f.dst f.kind ≡ true
  life_is own about life f h =
      let g : Fields = record { dst = supervision_address; src = own; vlan = None; kind = 0x88FB; rest = payload.spelling (life_said own about life) } in
      ap (λ (x : Fields). is_supervision x.dst x.kind) (sym (same_frame g f h))

  box_out : (mac : List ℕ) (mode : Mode) (n : ℕ) (x : Entry) (past : List Entry) (s : Sending) → n < 3 → lets_out s.frame (RedBox mac mode) n ≡ true → Answered capacity (record { number = number; place = RedBox mac mode }) x past →
      UnknownBefore (record { number = number; place = RedBox mac mode }) s.frame.dst x past → sent_by (RedBox mac mode) x.event x.outcome ≡ Some s → IsSentOut (record { number = number; place = RedBox mac mode }) n x past
  box_out mac mode n x past s below lets ok near is = by_event (RedBox mac mode) x past s (IsSentOut (record { number = number; place = RedBox mac mode }) n x past) is send life
    where
      send : (from : ℕ) (dst : List ℕ) (vlan : Option ℕ) (ethertype : ℕ) (data' : List ℕ) → x.event ≡ Send from dst vlan ethertype data' → IsSentOut (record { number = number; place = RedBox mac mode }) n x past
      send from dst vlan ethertype data' e = sent_out (RedBox mac mode) n x past s from dst vlan ethertype data' below ok is e how
        where
          how : (f : Fields) → asked_frame (address_at (RedBox mac mode) from) dst vlan ethertype data' ≡ Some f → s.frame ≡ f →
              (has_port (ports (of_record.sending (RedBox mac mode) (knows (RedBox mac mode) past (now (x ∷ past)) Age) dst ethertype).wants.exits) n ≡ true)
              × (is_edge (RedBox mac mode) n ≡ false → (src : List ℕ) × ((of_record.sending (RedBox mac mode) (knows (RedBox mac mode) past (now (x ∷ past)) Age) dst ethertype).source ≡ Some src))
          how f asked same =
              let two = asked_is (address_at (RedBox mac mode) from) dst vlan ethertype data' f asked in
              let dst_is : s.frame.dst ≡ dst = ap (λ (g : Fields). g.dst) same ∙ two.0 in
              let kind_is : s.frame.kind ≡ ethertype = ap (λ (g : Fields). g.kind) same ∙ two.1 in
              let D : List ℕ → Type 0 = λ m. (not (n == 2) || (is_group m && not (is_supervision m s.frame.kind))) ≡ true in
              let K : ℕ → Type 0 = λ m. (not (n == 2) || (is_group dst && not (is_supervision dst m))) ≡ true in
              let U : List ℕ → Type 0 = λ m. knows (RedBox mac mode) past (now (x ∷ past)) Age m ≡ false in
              let b = box_sends (knows (RedBox mac mode) past (now (x ∷ past)) Age dst) (is_supervision dst ethertype) (is_group dst) mac n (subst U dst_is near) below (subst K kind_is (subst D dst_is lets)) in
              (b.0, λ no_edge. (mac, b.1))

      life : (about : About) → x.event ≡ Supervise about → IsSentOut (record { number = number; place = RedBox mac mode }) n x past
      life about e =
          let A : Event → Type 0 = λ ev. answer capacity (record { number = number; place = RedBox mac mode }) past (now (x ∷ past)) ev ≡ Ok x.outcome in
          let outcome = lived (life_refusal (knows (RedBox mac mode) past (now (x ∷ past)) Age) (steps past) about) (subst A e ok) in
          let S : Event → Type 0 = λ ev. sent_by (RedBox mac mode) ev x.outcome ≡ Some s in
          let O : Outcome → Type 0 = λ o. sent_by (RedBox mac mode) (Supervise about) o ≡ Some s in
          let told = (sending_frame (Some (next_number past)) (life_frame (Some mac) about (lives past % 65536)) s (subst O outcome (subst S e is))).0 in
          let few = by_number n (is_group s.frame.dst) (is_supervision s.frame.dst s.frame.kind) below lets (life_is mac about (lives past % 65536) s.frame told) in
          let w = writes (RedBox mac mode) n (Some (next_number past)) s.frame below (λ no_edge. (next_number past, refl)) in
          record {
            octets = w.0;
            is = ap (λ ev. copy_octets (RedBox mac mode) ev x.outcome n) e ∙ (ap (λ o. copy_octets (RedBox mac mode) (Supervise about) o n) outcome ∙ (life_octets (RedBox mac mode) about (next_number past) (lives past % 65536) n s.frame told few ∙ w.1));
            probe = ap (probe_handled (record { node = number; place = length past })) e;
          }
        where
          lived : (o : Option LifeFault) → lived_or_refused past o ≡ Ok x.outcome → x.outcome ≡ Life (next_number past) (lives past % 65536) (true ∷ true ∷ false ∷ false ∷ [])
          lived None e = cc
          lived (Some fault) e = absurd cc

          by_number : (n : ℕ) (group life : Bool) → n < 3 → (not (n == 2) || (group && not life)) ≡ true → life ≡ true → n < 2
          by_number zero group life h l t = omega arith
          by_number (suc zero) group life h l t = omega arith
          by_number (suc (suc zero)) group false h l t = absurd (false≢true t)
          by_number (suc (suc zero)) false true h l t = absurd (false≢true l)
          by_number (suc (suc zero)) true true h l t = absurd (false≢true l)
          by_number (suc (suc (suc n))) group life h l t = absurd (omega arith)

  -- a send leaves by each port where it is let out, if its destination isn't known on an interlink
  out_of : (place : Place) (n : ℕ) (x : Entry) (past : List Entry) (s : Sending) → n < ports_there place → lets_out s.frame place n ≡ true → Answered capacity (record { number = number; place = place }) x past → UnknownBefore (record { number = number; place = place }) s.frame.dst x past →
      sent_by place x.event x.outcome ≡ Some s → IsSentOut (record { number = number; place = place }) n x past
  out_of (Danh mac mode) n x past s below lets ok near is = danh_out mac mode n x past s below ok is
  out_of (RedBox mac mode) n x past s below lets ok near is = box_out mac mode n x past s below lets ok near is
  out_of QuadBox n x past s below lets ok near is = absurd (Rattle.hsr_run_laws.proofs.Wanted.sent_source QuadBox x.event x.outcome s is)
  out_of (Station macs) zero x past s below lets ok near is =
      by_event (Station macs) x past s (IsSentOut (record { number = number; place = Station macs }) 0 x past) is
      (λ from dst vlan ethertype data' e. sent_out (Station macs) 0 x past s from dst vlan ethertype data' (omega arith) ok is e (λ f asked same. (refl, λ no_edge. absurd (false≢true (sym no_edge)))))
      (λ about e. let A : Event → Type 0 = λ ev. answer capacity (record { number = number; place = Station macs }) past (now (x ∷ past)) ev ≡ Ok x.outcome in let no = subst A e ok in absurd cc)
  out_of (Station macs) (suc n) x past s below lets ok near is = absurd (omega arith)

  -- what is let out where it was sent left
  pub sent_left : (place : Place) (n at : ℕ) (s : Sending) (Q : Entry → List Entry → Type 0) →
      ((x : Entry) (past : List Entry) → at ≡ length past → Answered capacity (record { number = number; place = place }) x past → Q x past → sent_by place x.event x.outcome ≡ Some s → IsSentOut (record { number = number; place = place }) n x past) →
      (h : List Entry) → Each (Answered capacity (record { number = number; place = place })) h → Each Q h → send_at place at h ≡ Some s →
      list_any (is_copy (record { node = number; place = at })) (passes (record { number = number; place = place }) n h) ≡ true
  sent_left place n at s Q out [] legal all is = absurd cc
  sent_left place n at s Q out (x ∷ past) legal all is = step (at == length past) (eqb-true at (length past)) is (sent_left place n at s Q out past legal.1 all.1)
    where
      left : (m : ℕ) → m ≡ length past → IsSentOut (record { number = number; place = place }) n x past → list_any (is_copy (record { node = number; place = m })) (passes (record { number = number; place = place }) n (x ∷ past)) ≡ true
      left m same o =
          let Q' : Option (List ℕ) → Type 0 = λ c. list_any (is_copy (record { node = number; place = length past }))
          (cons_option (option_map (λ octets. let c : Carried = record { probe = probe_handled (record { node = number; place = length past }) x.event; octets = octets } in c) c) (passes (record { number = number; place = place }) n past)) ≡ true in
          let B : Option Probe → Type 0 = λ p. is_of (record { node = number; place = length past }) p ≡ true in
          let M : ℕ → Type 0 = λ m. list_any (is_copy (record { node = number; place = m })) (passes (record { number = number; place = place }) n (x ∷ past)) ≡ true in
          subst M (sym same) (subst Q' (sym o.is) (or_left _ _ (subst B (sym o.probe) (is_of_itself (record { node = number; place = length past })))))

      step : (b : Bool) → (b ≡ true → at ≡ length past) → (if b then sent_by place x.event x.outcome else send_at place at past) ≡ Some s →
          (send_at place at past ≡ Some s → list_any (is_copy (record { node = number; place = at })) (passes (record { number = number; place = place }) n past) ≡ true) →
          list_any (is_copy (record { node = number; place = at })) (passes (record { number = number; place = place }) n (x ∷ past)) ≡ true
      step false same is rest = any_one_more (is_copy (record { node = number; place = at })) (pass_of (record { number = number; place = place }) n x past) (passes (record { number = number; place = place }) n past) (rest is)
      step true same is rest = left at (same refl) (out x past (same refl) legal.0 all.0 is)

  pub send_left : (place : Place) (n at : ℕ) (s : Sending) (h : List Entry) → n < ports_there place → lets_out s.frame place n ≡ true → Each (Answered capacity (record { number = number; place = place })) h → Each (UnknownBefore (record { number = number; place = place }) s.frame.dst) h →
      send_at place at h ≡ Some s → list_any (is_copy (record { node = number; place = at })) (passes (record { number = number; place = place }) n h) ≡ true
  send_left place n at s h below lets legal near is =
      sent_left place n at s (UnknownBefore (record { number = number; place = place }) s.frame.dst) (λ x past same ok unknown is. out_of place n x past s below lets ok unknown is) h legal near is

  -- ---- what a RedBox sends to an address that it knows on its interlink leaves there

  near_sends : (near life group : Bool) (own : List ℕ) → near ≡ true → has_port (ports (send_by near life group own).wants.exits) 2 ≡ true
  near_sends true life group own e = refl
  near_sends false life group own e = absurd (false≢true e)

  -- supervision is to a group
  no_life : (mac : List ℕ) (mode : Mode) (about : About) (outcome : Outcome) (s : Sending) → sent_by (RedBox mac mode) (Supervise about) outcome ≡ Some s → is_group s.frame.dst ≡ false → ⊥
  no_life mac mode about (Life seq life out_ports) s is single = false≢true (sym single ∙ ap is_group (life_group mac about life s.frame (sending_frame (Some seq) (life_frame (Some mac) about life) s is).0))
  no_life mac mode about (Sent seq out_ports) s is single = absurd cc
  no_life mac mode about (Judged up_too out_ports seq why) s is single = absurd cc
  no_life mac mode about Aged s is single = absurd cc

  -- it is known where it is sent
  abbrev pub KnownWhereSent : Place → ℕ → List ℕ → Entry → List Entry → Type 0
  KnownWhereSent place at dst x past = is_of (record { node = number; place = at }) (probe_handled (record { node = number; place = length past }) x.event) ≡ true → knows place past (now (x ∷ past)) x.event dst ≡ true

  known_out : (mac : List ℕ) (mode : Mode) (at : ℕ) (s : Sending) → is_group s.frame.dst ≡ false → (x : Entry) (past : List Entry) → at ≡ length past → Answered capacity (record { number = number; place = RedBox mac mode }) x past →
      KnownWhereSent (RedBox mac mode) at s.frame.dst x past → sent_by (RedBox mac mode) x.event x.outcome ≡ Some s → IsSentOut (record { number = number; place = RedBox mac mode }) 2 x past
  known_out mac mode at s single x past same ok near is =
      by_event (RedBox mac mode) x past s (IsSentOut (record { number = number; place = RedBox mac mode }) 2 x past) is
      (λ from dst vlan ethertype data' e.
      let N : Event → Type 0 = λ ev. is_of (record { node = number; place = at }) (probe_handled (record { node = number; place = length past }) ev) ≡ true → knows (RedBox mac mode) past (now (x ∷ past)) ev s.frame.dst ≡ true in
      let M : ℕ → Type 0 = λ m. is_of (record { node = number; place = m }) (Some (let here : Probe = record { node = number; place = length past } in here)) ≡ true in
      let known = subst N e near (subst M (sym same) (is_of_itself (record { node = number; place = length past }))) in
      sent_out (RedBox mac mode) 2 x past s from dst vlan ethertype data' (omega arith) ok is e
      (λ f asked equal.
      let dst_is : s.frame.dst ≡ dst = ap (λ (g : Fields). g.dst) equal ∙ (asked_is (address_at (RedBox mac mode) from) dst vlan ethertype data' f asked).0 in
      let K : List ℕ → Type 0 = λ m. knows (RedBox mac mode) past (now (x ∷ past)) Age m ≡ true in
      (near_sends (knows (RedBox mac mode) past (now (x ∷ past)) Age dst) (is_supervision dst ethertype) (is_group dst) mac (subst K dst_is known), λ no_edge. absurd (false≢true (sym no_edge)))))
      (λ about e. let S : Event → Type 0 = λ ev. sent_by (RedBox mac mode) ev x.outcome ≡ Some s in absurd (no_life mac mode about x.outcome s (subst S e is) single))

  pub known_left : (mac : List ℕ) (mode : Mode) (at : ℕ) (s : Sending) (h : List Entry) → is_group s.frame.dst ≡ false → Each (Answered capacity (record { number = number; place = RedBox mac mode })) h → Each (KnownWhereSent (RedBox mac mode) at s.frame.dst) h →
      send_at (RedBox mac mode) at h ≡ Some s → list_any (is_copy (record { node = number; place = at })) (passes (record { number = number; place = RedBox mac mode }) 2 h) ≡ true
  known_left mac mode at s h single legal near is =
      sent_left (RedBox mac mode) 2 at s (KnownWhereSent (RedBox mac mode) at s.frame.dst) (known_out mac mode at s single) h legal near is
