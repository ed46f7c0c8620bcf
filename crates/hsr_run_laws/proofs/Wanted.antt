-- What any node wants: nothing tagged of its own sends, and tagged frames from rings alone.
use Rattle.std.proofs.Common.{◌≡◌, ℕ, ◌<◌, ◌==◌, Bool, true, false, if◌then◌else◌, List, [], ◌∷◌, length, zero, suc, ne_eqb, Option, Some, None, Ok, refl, sym, ap, ◌∙◌, subst, arith}
use Rattle.std.specs.Prelude.{option_map}
use Rattle.std.proofs.lemmas.Bool.{false≢true}
use Rattle.hsr_frame.specs.Address.{is_group, is_same_address, supervision_address}
use Rattle.hsr_supervision.specs.Payload as payload
use Rattle.hsr_frame.specs.Cases.{first_of}
use Rattle.hsr_frame.specs.Egress.{Egress, up, a, b, c, d, beyond, in_mode, is_supervision, nowhere, onward, to, has_exit}
use Rattle.hsr_frame.specs.Grammar.{Fields}
use Rattle.hsr_frame.specs.declared.egress.Wants.{Wants}
use Rattle.hsr_frame.specs.declared.node.Mode.{Mode}
use Rattle.hsr_frame.specs.declared.node.Mode.TheVariants.{H, N, U}
use Rattle.hsr_frame.specs.declared.node.Cause.TheVariants.{Returned}
use Rattle.hsr_frame.specs.declared.node.Cause.TheVariants as cause
use Rattle.hsr_frame.specs.declared.node.RingPort.{RingPort}
use Rattle.hsr_frame.specs.declared.node.RingPort.TheVariants as ring
use Rattle.hsr_tag.specs.Tag.{TaggedFields}
use Rattle.hsr_tag.specs.declared.seen.Seen.TheVariants.{Plain, Tagged}
use Rattle.hsr_danh.specs.Wanted as of_danh
use Rattle.hsr_redbox.specs.Wanted as of_redbox
use Rattle.hsr_redbox.specs.Wanted.{numbered, unnumbered}
use Rattle.hsr_frame.specs.declared.node.About.{About}
use Rattle.hsr_redbox.specs.declared.call.BoxPort.{BoxPort}
use Rattle.hsr_redbox.specs.declared.call.BoxPort.TheVariants as box
use Rattle.hsr_redbox.specs.declared.wanted.Handling.{Handling}
use Rattle.hsr_quadbox.specs.Wanted as of_quadbox
use Rattle.hsr_quadbox.specs.declared.wanted.QuadPort.{QuadPort}
use Rattle.hsr_node.specs.Copies.{address_at, asked_frame, life_frame, life_said, ring_address}
use Rattle.hsr_node.specs.Flow.{send_at, sent_by, wanted_at, wants}
use Rattle.hsr_node.specs.declared.sending.Sending.{Sending}
use Rattle.hsr_node.specs.Record.{box_handling, handling}
use Rattle.hsr_node.specs.Step.{box_port, quad_port, ring_port}
use Rattle.hsr_node.specs.declared.entry.Entry.{Entry}
use Rattle.hsr_node.specs.declared.event.Event.{Event}
use Rattle.hsr_node.specs.declared.event.Event.TheVariants.{Send, Supervise, Arrive, Age}
use Rattle.hsr_node.specs.declared.event.Outcome.{Outcome}
use Rattle.hsr_node.specs.declared.event.Outcome.TheVariants.{Sent, Life, Judged, Aged}
use Rattle.hsr_node.specs.declared.place.Place.{Place}
use Rattle.hsr_node.specs.declared.place.Place.TheVariants.{Danh, RedBox, QuadBox, Station}
use Rattle.hsr_run_laws.specs.Premises.{is_on_ring}
use Rattle.hsr_run_laws.proofs.Records.{IsSource, asked_source, same_frame, sending_frame}
use Rattle.hsr_run_laws.proofs.Same.{address_same}

-- ---- the source of a send

asked_at : (place : Place) (from : ℕ) (src : List ℕ) → address_at place from ≡ Some src → IsSource place src
asked_at (Danh mac mode) from src h = by_test (from == 0) h
  where
    by_test : (t : Bool) → (if t then Some mac else None) ≡ Some src → src ≡ mac
    by_test true h = cc
    by_test false h = absurd cc
asked_at (RedBox mac mode) from src h = by_test (from == 0) h
  where
    by_test : (t : Bool) → (if t then Some mac else None) ≡ Some src → src ≡ mac
    by_test true h = cc
    by_test false h = absurd cc
asked_at QuadBox from src h = absurd cc
asked_at (Station macs) from src h = (from, h)

pub life_source : (own : List ℕ) (about : About) (life : ℕ) (f : Fields) → life_frame (Some own) about life ≡ Some f → f.src ≡ own
life_source own about life f h =
    let g : Fields = record { dst = supervision_address; src = own; vlan = None; kind = 0x88FB; rest = payload.spelling (life_said own about life) } in
    ap (λ (x : Fields). x.src) (sym (same_frame g f h))

pub life_group : (own : List ℕ) (about : About) (life : ℕ) (f : Fields) → life_frame (Some own) about life ≡ Some f → f.dst ≡ supervision_address
life_group own about life f h =
    let g : Fields = record { dst = supervision_address; src = own; vlan = None; kind = 0x88FB; rest = payload.spelling (life_said own about life) } in
    ap (λ (x : Fields). x.dst) (sym (same_frame g f h))

lives_at : (place : Place) (about : About) (life : ℕ) (f : Fields) → life_frame (ring_address place) about life ≡ Some f → IsSource place f.src
lives_at (Danh mac mode) about life f h = life_source mac about life f h
lives_at (RedBox mac mode) about life f h = life_source mac about life f h
lives_at QuadBox about life f h = absurd cc
lives_at (Station macs) about life f h = absurd cc

pub sent_source : (place : Place) (event : Event) (outcome : Outcome) (s : Sending) → sent_by place event outcome ≡ Some s → IsSource place s.frame.src
sent_source place (Send from dst vlan ethertype payload) (Sent seq ports) s h =
    let f = (sending_frame seq (asked_frame (address_at place from) dst vlan ethertype payload) s h).0 in
    asked_at place from s.frame.src (asked_source (address_at place from) dst vlan ethertype payload s.frame f).0
sent_source place (Send from dst vlan ethertype payload) (Life seq life ports) s h = absurd cc
sent_source place (Send from dst vlan ethertype payload) (Judged up_too ports seq why) s h = absurd cc
sent_source place (Send from dst vlan ethertype payload) Aged s h = absurd cc
sent_source place (Supervise about) (Life seq life ports) s h = lives_at place about life s.frame (sending_frame (Some seq) (life_frame (ring_address place) about life) s h).0
sent_source place (Supervise about) (Sent seq ports) s h = absurd cc
sent_source place (Supervise about) (Judged up_too ports seq why) s h = absurd cc
sent_source place (Supervise about) Aged s h = absurd cc
sent_source place (Arrive port copy) outcome s h = absurd cc
sent_source place Age outcome s h = absurd cc

pub source_of : (place : Place) (n : ℕ) (h : List Entry) (s : Sending) → send_at place n h ≡ Some s → IsSource place s.frame.src
source_of place n [] s is = absurd cc
source_of place n (x ∷ past) s is = by_test (n == length past) is (source_of place n past s)
  where
    by_test : (t : Bool) → (if t then sent_by place x.event x.outcome else send_at place n past) ≡ Some s → (send_at place n past ≡ Some s → IsSource place s.frame.src) → IsSource place s.frame.src
    by_test true is rest = sent_source place x.event x.outcome s is
    by_test false is rest = rest is

-- ---- nothing of a node's own sends is wanted

nothing_left : (mode : Mode) (e : Egress) → has_exit (in_mode mode (nowhere Returned)).exits e ≡ false
nothing_left H up = refl
nothing_left H a = refl
nothing_left H b = refl
nothing_left H c = refl
nothing_left H d = refl
nothing_left U up = refl
nothing_left U a = refl
nothing_left U b = refl
nothing_left U c = refl
nothing_left U d = refl
nothing_left N up = refl
nothing_left N a = refl
nothing_left N b = refl
nothing_left N c = refl
nothing_left N d = refl

pub no_exit : (why : Rattle.hsr_frame.specs.declared.node.Cause.Cause) (e : Egress) → has_exit (nowhere why).exits e ≡ false
no_exit why up = refl
no_exit why a = refl
no_exit why b = refl
no_exit why c = refl
no_exit why d = refl

returned : (mode : Mode) (own : Bool) (rest : List (Bool × Wants)) (other : Wants) (e : Egress) → own ≡ true → has_exit (in_mode mode (first_of ((own, nowhere Returned) ∷ rest) other)).exits e ≡ false
returned mode true rest other e h = nothing_left mode e
returned mode false rest other e h = absurd (false≢true h)

danh_returned : (mac : List ℕ) (mode : Mode) (x : RingPort) (t : TaggedFields) (e : Egress) → t.src ≡ mac → has_exit (in_mode mode (of_danh.wanted_tagged mac mode x t)).exits e ≡ false
danh_returned mac mode x t e own = returned mode (is_same_address t.src mac) ((is_same_address t.dst mac, to (up ∷ onward mode x)) ∷ (is_supervision t.dst t.kind, to (up ∷ beyond x ∷ [])) ∷ (is_group t.dst, to (up ∷ beyond x ∷ [])) ∷ []) (to (beyond x ∷ [])) e (address_same t.src mac own)

box_returned : (mac : List ℕ) (mode : Mode) (known : List ℕ → Bool) (x : RingPort) (t : TaggedFields) (e : Egress) → t.src ≡ mac → has_exit (in_mode mode (of_redbox.wanted_tagged mac mode known x t)).exits e ≡ false
box_returned mac mode known x t e own =
    returned mode (is_same_address t.src mac) ((is_same_address t.dst mac, to (up ∷ onward mode x)) ∷ (is_supervision t.dst t.kind, to (up ∷ beyond x ∷ [])) ∷ (is_group t.dst, to (up ∷ of_redbox.interlink ∷ beyond x ∷ [])) ∷ (known t.dst, to (of_redbox.interlink ∷ onward mode x)) ∷ []) (to (beyond x ∷ [])) e (address_same t.src mac own)

pub own_unwanted : (place : Place) (known : List ℕ → Bool) (port : ℕ) (t : TaggedFields) (e : Egress) → IsSource place t.src → wants place known port (Ok (Tagged t)) e ≡ false
own_unwanted (Danh mac mode) known port t e own = by_port (ring_port port)
  where
    by_port : (o : Option RingPort) → wanted_at (option_map (λ x. unnumbered (of_danh.wanted mac mode x (Ok (Tagged t)))) o) e ≡ false
    by_port None = refl
    by_port (Some x) = danh_returned mac mode x t e own
own_unwanted (RedBox mac mode) known port t e own = by_port (box_port port)
  where
    by_port : (o : Option BoxPort) → wanted_at (option_map (λ x. box_handling mac mode known x (Ok (Tagged t))) o) e ≡ false
    by_port None = refl
    by_port (Some box.A) = box_returned mac mode known ring.A t e own
    by_port (Some box.B) = box_returned mac mode known ring.B t e own
    by_port (Some box.I) = no_exit cause.Tagged e
own_unwanted QuadBox known port t e own = absurd own
own_unwanted (Station macs) known port t e own = by_port (port == 0)
  where
    by_port : (o : Bool) → wanted_at (if o then Some (unnumbered (nowhere cause.Tagged)) else None) e ≡ false
    by_port true = no_exit cause.Tagged e
    by_port false = refl

-- ---- none of them gets a number

not_numbered : (own : Bool) (why : Wants) (rest : List (Bool × Handling)) (other : Handling) → own ≡ true → (first_of ((own, unnumbered why) ∷ rest) other).source ≡ None
not_numbered true why rest other h = refl
not_numbered false why rest other h = absurd (false≢true h)

interlink_own : (mac : List ℕ) (known : List ℕ → Bool) (frame : Fields) → frame.src ≡ mac → (of_redbox.handling_plain mac known frame).source ≡ None
interlink_own mac known frame own =
    not_numbered (is_same_address frame.src mac) (nowhere Returned) ((is_same_address frame.dst mac, unnumbered (to (up ∷ []))) ∷ (known frame.dst, unnumbered (nowhere cause.Local)) ∷ (is_group frame.dst, numbered frame.src (to (up ∷ a ∷ b ∷ []))) ∷ [])
    (numbered frame.src (to (a ∷ b ∷ []))) (address_same frame.src mac own)

pub own_not_numbered : (place : Place) (known : List ℕ → Bool) (port : ℕ) (frame : Fields) (h : Handling) → IsSource place frame.src → handling place known port (Ok (Plain frame)) ≡ Some h → h.source ≡ None
own_not_numbered (Danh mac mode) known port frame h own is = by_port (ring_port port) is
  where
    by_port : (o : Option RingPort) → option_map (λ x. unnumbered (of_danh.wanted mac mode x (Ok (Plain frame)))) o ≡ Some h → h.source ≡ None
    by_port None e = absurd cc
    by_port (Some x) e = let same : unnumbered (of_danh.wanted mac mode x (Ok (Plain frame))) ≡ h = cc in sym (ap (λ (g : Handling). g.source) same)
own_not_numbered (RedBox mac mode) known port frame h own is = by_port (box_port port) is
  where
    by_box : (x : BoxPort) → (box_handling mac mode known x (Ok (Plain frame))).source ≡ None
    by_box box.A = refl
    by_box box.B = refl
    by_box box.I = interlink_own mac known frame own

    by_port : (o : Option BoxPort) → option_map (λ x. box_handling mac mode known x (Ok (Plain frame))) o ≡ Some h → h.source ≡ None
    by_port None e = absurd cc
    by_port (Some x) e = let same : box_handling mac mode known x (Ok (Plain frame)) ≡ h = cc in sym (ap (λ (g : Handling). g.source) same) ∙ by_box x
own_not_numbered QuadBox known port frame h own is = absurd own
own_not_numbered (Station macs) known port frame h own is = by_port (port == 0) is
  where
    by_port : (o : Bool) → (if o then Some (unnumbered (Rattle.hsr_node.specs.Record.station_wanted macs.items (Ok (Plain frame)))) else None) ≡ Some h → h.source ≡ None
    by_port true e = let same : unnumbered (Rattle.hsr_node.specs.Record.station_wanted macs.items (Ok (Plain frame))) ≡ h = cc in sym (ap (λ (g : Handling). g.source) same)
    by_port false e = absurd cc

-- ---- what is wanted with a tag came from a ring

-- the tests of a port that is none of the first ones
past_ports : {X : Type 0} (p q r s : Bool) (w x y z : Option X) → p ≡ false → q ≡ false → r ≡ false → s ≡ false → first_of ((p, w) ∷ (q, x) ∷ (r, y) ∷ (s, z) ∷ []) None ≡ None
past_ports false false false false w x y z ha hb hc hd = refl
past_ports true q r s w x y z ha hb hc hd = absurd (false≢true (sym ha))
past_ports false true r s w x y z ha hb hc hd = absurd (false≢true (sym hb))
past_ports false false true s w x y z ha hb hc hd = absurd (false≢true (sym hc))
past_ports false false false true w x y z ha hb hc hd = absurd (false≢true (sym hd))

other_port : (n k : ℕ) → k < n → (n == k) ≡ false
other_port n k h = ne_eqb n k (λ e. omega arith)

pub no_ring_port : (n : ℕ) → 1 < n → ring_port n ≡ None
no_ring_port n h = past_ports (n == 0) (n == 1) false false _ _ None None (other_port n 0 (omega arith)) (other_port n 1 (omega arith)) refl refl

pub no_box_port : (n : ℕ) → 2 < n → box_port n ≡ None
no_box_port n h = past_ports (n == 0) (n == 1) (n == 2) false _ _ _ None (other_port n 0 (omega arith)) (other_port n 1 (omega arith)) (other_port n 2 (omega arith)) refl

pub no_quad_port : (n : ℕ) → 3 < n → quad_port n ≡ None
no_quad_port n h = past_ports (n == 0) (n == 1) (n == 2) (n == 3) _ _ _ _ (other_port n 0 (omega arith)) (other_port n 1 (omega arith)) (other_port n 2 (omega arith)) (other_port n 3 (omega arith))

pub wanted_on_ring : (place : Place) (known : List ℕ → Bool) (port : ℕ) (t : TaggedFields) (e : Egress) → wants place known port (Ok (Tagged t)) e ≡ true → is_on_ring place port ≡ true
wanted_on_ring (Danh mac mode) known zero t e h = refl
wanted_on_ring (Danh mac mode) known (suc zero) t e h = refl
wanted_on_ring (Danh mac mode) known (suc (suc n)) t e h =
    let W : Option RingPort → Type 0 = λ o. wanted_at (option_map (λ x. unnumbered (of_danh.wanted mac mode x (Ok (Tagged t)))) o) e ≡ true in
    absurd (false≢true (subst W (no_ring_port (suc (suc n)) (omega arith)) h))
wanted_on_ring (RedBox mac mode) known zero t e h = refl
wanted_on_ring (RedBox mac mode) known (suc zero) t e h = refl
wanted_on_ring (RedBox mac mode) known (suc (suc zero)) t e h = absurd (false≢true (sym (no_exit cause.Tagged e) ∙ h))
wanted_on_ring (RedBox mac mode) known (suc (suc (suc n))) t e h =
    let W : Option BoxPort → Type 0 = λ o. wanted_at (option_map (λ x. box_handling mac mode known x (Ok (Tagged t))) o) e ≡ true in
    absurd (false≢true (subst W (no_box_port (suc (suc (suc n))) (omega arith)) h))
wanted_on_ring QuadBox known zero t e h = refl
wanted_on_ring QuadBox known (suc zero) t e h = refl
wanted_on_ring QuadBox known (suc (suc zero)) t e h = refl
wanted_on_ring QuadBox known (suc (suc (suc zero))) t e h = refl
wanted_on_ring QuadBox known (suc (suc (suc (suc n)))) t e h =
    let W : Option QuadPort → Type 0 = λ o. wanted_at (option_map (λ x. unnumbered (of_quadbox.wanted x (Ok (Tagged t)))) o) e ≡ true in
    absurd (false≢true (subst W (no_quad_port (suc (suc (suc (suc n)))) (omega arith)) h))
wanted_on_ring (Station macs) known port t e h = by_port (port == 0) h
  where
    by_port : (o : Bool) → wanted_at (if o then Some (unnumbered (nowhere cause.Tagged)) else None) e ≡ true → is_on_ring (Station macs) port ≡ true
    by_port true h = absurd (false≢true (sym (no_exit cause.Tagged e) ∙ h))
    by_port false h = absurd (false≢true h)
