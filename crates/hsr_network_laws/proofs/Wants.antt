-- What each kind of node wants: of what comes from a ring with a tag, and of what comes plain to an edge.
use Rattle.std.proofs.Common.{◌≡◌, ◌⊎◌, ℕ, ◌<◌, ◌==◌, ◌||◌, Bool, true, false, if◌then◌else◌, List, [], ◌∷◌, Some, None, Ok, refl, sym, ap, ◌∙◌, subst, arith, inl, inr, ⊎_elim, zero, suc}
use Rattle.std.specs.Prelude.{slice_get}
use Rattle.std.specs.List.{list_any}
use Rattle.std.proofs.lemmas.Bool.{false≢true, or_left, or_right, or_cases, cases_Bool}
use Rattle.hsr_frame.specs.Address.{is_among, is_group, is_same_address}
use Rattle.hsr_frame.specs.Cases.{first_of}
use Rattle.hsr_frame.specs.Egress.{Egress, beyond, has_exit, in_mode, is_supervision, nowhere, onward, to, up}
use Rattle.hsr_frame.specs.Egress as out
use Rattle.hsr_frame.specs.Grammar.{Fields}
use Rattle.hsr_frame.specs.declared.egress.Wants.{Wants}
use Rattle.hsr_frame.specs.declared.node.Cause.TheVariants.{Local, Returned}
use Rattle.hsr_frame.specs.declared.node.Mode.{Mode}
use Rattle.hsr_frame.specs.declared.node.Mode.TheVariants.{H, N, U}
use Rattle.hsr_frame.specs.declared.node.RingPort.{RingPort}
use Rattle.hsr_frame.specs.declared.node.RingPort.TheVariants as ring
use Rattle.hsr_tag.specs.Tag.{TaggedFields}
use Rattle.hsr_tag.specs.declared.seen.Seen.TheVariants.{Plain, Tagged}
use Rattle.hsr_danh.specs.Wanted as of_danh
use Rattle.hsr_redbox.specs.Wanted as of_redbox
use Rattle.hsr_redbox.specs.Wanted.{numbered, unnumbered}
use Rattle.hsr_redbox.specs.declared.wanted.Handling.{Handling}
use Rattle.hsr_node.specs.Flow.{wants}
use Rattle.hsr_node.specs.Place.{ports}
use Rattle.hsr_node.specs.Record.{handling}
use Rattle.hsr_node.specs.declared.place.Place.{Place}
use Rattle.hsr_node.specs.declared.place.Place.TheVariants.{Danh, RedBox, QuadBox, Station}
use Rattle.hsr_run_laws.proofs.Danh.{by_a, by_b}
use Rattle.hsr_run_laws.proofs.RingWants.{wants_up}
use Rattle.hsr_run_laws.proofs.Same.{address_other, address_same, same_address}
use Rattle.hsr_network_laws.specs.Network.{HasAddress, goes_round, is_edge, is_in_h_or_u, is_station, is_station_with}
use Rattle.hsr_network_laws.specs.Channels.{keeps_own}
use Rattle.hsr_network_laws.proofs.Sides.{exit_of}

-- ---- a QuadBox

pub quad_wants : (known : List ℕ → Bool) (t : TaggedFields) (port n : ℕ) → port < 4 → n < 4 → (n ≡ port → ⊥) → wants QuadBox known port (Ok (Tagged t)) (exit_of n) ≡ true
quad_wants known t zero zero hp hn other = absurd (other refl)
quad_wants known t zero (suc zero) hp hn other = refl
quad_wants known t zero (suc (suc zero)) hp hn other = refl
quad_wants known t zero (suc (suc (suc zero))) hp hn other = refl
quad_wants known t (suc zero) zero hp hn other = refl
quad_wants known t (suc zero) (suc zero) hp hn other = absurd (other refl)
quad_wants known t (suc zero) (suc (suc zero)) hp hn other = refl
quad_wants known t (suc zero) (suc (suc (suc zero))) hp hn other = refl
quad_wants known t (suc (suc zero)) zero hp hn other = refl
quad_wants known t (suc (suc zero)) (suc zero) hp hn other = refl
quad_wants known t (suc (suc zero)) (suc (suc zero)) hp hn other = absurd (other refl)
quad_wants known t (suc (suc zero)) (suc (suc (suc zero))) hp hn other = refl
quad_wants known t (suc (suc (suc zero))) zero hp hn other = refl
quad_wants known t (suc (suc (suc zero))) (suc zero) hp hn other = refl
quad_wants known t (suc (suc (suc zero))) (suc (suc zero)) hp hn other = refl
quad_wants known t (suc (suc (suc zero))) (suc (suc (suc zero))) hp hn other = absurd (other refl)
quad_wants known t port (suc (suc (suc (suc n)))) hp hn other = absurd (omega arith)
quad_wants known t (suc (suc (suc (suc port)))) n hp hn other = absurd (omega arith)

-- ---- a DANH

-- in mode H and U all that is wanted goes on
open_mode : (mode : Mode) (w : Wants) → goes_round mode ≡ true → in_mode mode w ≡ w
open_mode H w h = refl
open_mode U w h = refl
open_mode N w h = absurd (false≢true h)

-- by the source, the destination and the kinds of frame and address
abbrev danh_by : Mode → Bool → Bool → Bool → Bool → RingPort → Egress → Bool
danh_by mode own same life group p e =
    has_exit (first_of ((own, nowhere Returned) ∷ (same, to (up ∷ onward mode p)) ∷ (life, to (up ∷ beyond p ∷ [])) ∷ (group, to (up ∷ beyond p ∷ [])) ∷ []) (to (beyond p ∷ []))).exits e

danh_across : (mode : Mode) (own same life group : Bool) (p : RingPort) → own ≡ false → (keeps_own mode ≡ true → same ≡ false) → danh_by mode own same life group p (beyond p) ≡ true
danh_across mode true same life group p o k = absurd (false≢true (sym o))
danh_across H false true life group p o k = absurd (false≢true (sym (k refl)))
danh_across N false true life group p o k = absurd (false≢true (sym (k refl)))
danh_across U false true life group ring.A o k = refl
danh_across U false true life group ring.B o k = refl
danh_across mode false false true group ring.A o k = refl
danh_across mode false false true group ring.B o k = refl
danh_across mode false false false true ring.A o k = refl
danh_across mode false false false true ring.B o k = refl
danh_across mode false false false false ring.A o k = refl
danh_across mode false false false false ring.B o k = refl

danh_on : (mac : List ℕ) (mode : Mode) → goes_round mode ≡ true → (x : RingPort) (t : TaggedFields) → (t.src ≡ mac → ⊥) → (keeps_own mode ≡ true → t.dst ≡ mac → ⊥) → has_exit (in_mode mode (of_danh.wanted_tagged mac mode x t)).exits (beyond x) ≡ true
danh_on mac mode round x t src dst =
    ap (λ (w : Wants). has_exit w.exits (beyond x)) (open_mode mode (of_danh.wanted_tagged mac mode x t) round)
    ∙ danh_across mode (is_same_address t.src mac) (is_same_address t.dst mac) (is_supervision t.dst t.kind) (is_group t.dst) x (address_other t.src mac src) (λ k. address_other t.dst mac (dst k))

danh_wants : (mac : List ℕ) (mode : Mode) → goes_round mode ≡ true → (known : List ℕ → Bool) (t : TaggedFields) (port n : ℕ) → port < 2 → n < 2 → (n ≡ port → ⊥) → (t.src ≡ mac → ⊥) → (keeps_own mode ≡ true → t.dst ≡ mac → ⊥) →
    wants (Danh mac mode) known port (Ok (Tagged t)) (exit_of n) ≡ true
danh_wants mac mode round known t zero zero hp hn other src dst = absurd (other refl)
danh_wants mac mode round known t zero (suc zero) hp hn other src dst = danh_on mac mode round ring.A t src dst
danh_wants mac mode round known t (suc zero) zero hp hn other src dst = danh_on mac mode round ring.B t src dst
danh_wants mac mode round known t (suc zero) (suc zero) hp hn other src dst = absurd (other refl)
danh_wants mac mode round known t port (suc (suc n)) hp hn other src dst = absurd (omega arith)
danh_wants mac mode round known t (suc (suc port)) n hp hn other src dst = absurd (omega arith)

-- ---- a RedBox, of what comes by its rings to an address that isn't known on its interlink

-- by the source, the destination, the kind of frame and of address, and what is known on the interlink
abbrev pub box_by : Mode → Bool → Bool → Bool → Bool → Bool → RingPort → Wants
box_by mode own same life group near p =
    first_of ((own, nowhere Returned) ∷ (same, to (up ∷ onward mode p)) ∷ (life, to (up ∷ beyond p ∷ [])) ∷ (group, to (up ∷ of_redbox.interlink ∷ beyond p ∷ [])) ∷ (near, to (of_redbox.interlink ∷ onward mode p)) ∷ []) (to (beyond p ∷ []))

-- it goes on, and what is to a group goes to the interlink if it isn't supervision
record GoesOn (wants : Wants) (p : RingPort) (same life group : Bool) : Type 0 where
  across : has_exit wants.exits (beyond p) ≡ true
  down : same ≡ false → life ≡ false → group ≡ true → has_exit wants.exits out.c ≡ true

box_on : (mode : Mode) (own same life group near : Bool) (p : RingPort) → own ≡ false → (keeps_own mode ≡ true → same ≡ false) → near ≡ false → GoesOn (box_by mode own same life group near p) p same life group
box_on mode true same life group near p o k n = absurd (false≢true (sym o))
box_on H false true life group near p o k n = absurd (false≢true (sym (k refl)))
box_on N false true life group near p o k n = absurd (false≢true (sym (k refl)))
box_on U false true life group near ring.A o k n = record { across = refl; down = λ s. absurd (false≢true (sym s)) }
box_on U false true life group near ring.B o k n = record { across = refl; down = λ s. absurd (false≢true (sym s)) }
box_on mode false false true group near ring.A o k n = record { across = refl; down = λ s l. absurd (false≢true (sym l)) }
box_on mode false false true group near ring.B o k n = record { across = refl; down = λ s l. absurd (false≢true (sym l)) }
box_on mode false false false true near ring.A o k n = record { across = refl; down = λ s l g. refl }
box_on mode false false false true near ring.B o k n = record { across = refl; down = λ s l g. refl }
box_on mode false false false false true p o k n = absurd (false≢true (sym n))
box_on mode false false false false false ring.A o k n = record { across = refl; down = λ s l g. absurd (false≢true g) }
box_on mode false false false false false ring.B o k n = record { across = refl; down = λ s l g. absurd (false≢true g) }

-- what is to a group, or to itself, goes up
box_up : (mode : Mode) (own same life group near : Bool) (p : RingPort) → own ≡ false → (same ≡ true) ⊎ (group ≡ true) → has_exit (box_by mode own same life group near p).exits up ≡ true
box_up mode true same life group near p o m = absurd (false≢true (sym o))
box_up H false true life group near p o m = refl
box_up N false true life group near p o m = refl
box_up U false true life group near ring.A o m = refl
box_up U false true life group near ring.B o m = refl
box_up mode false false true group near ring.A o m = refl
box_up mode false false true group near ring.B o m = refl
box_up mode false false false true near ring.A o m = refl
box_up mode false false false true near ring.B o m = refl
box_up mode false false false false near p o m = absurd (⊎_elim (λ s. false≢true s) (λ g. false≢true g) m)

box_goes : (mac : List ℕ) (mode : Mode) → goes_round mode ≡ true → (known : List ℕ → Bool) (x : RingPort) (t : TaggedFields) → (t.src ≡ mac → ⊥) → (keeps_own mode ≡ true → t.dst ≡ mac → ⊥) → known t.dst ≡ false →
    GoesOn (in_mode mode (of_redbox.wanted_tagged mac mode known x t)) x (is_same_address t.dst mac) (is_supervision t.dst t.kind) (is_group t.dst)
box_goes mac mode round known x t src dst near =
    subst (λ (w : Wants). GoesOn w x (is_same_address t.dst mac) (is_supervision t.dst t.kind) (is_group t.dst)) (sym (open_mode mode (of_redbox.wanted_tagged mac mode known x t) round))
    (box_on mode (is_same_address t.src mac) (is_same_address t.dst mac) (is_supervision t.dst t.kind) (is_group t.dst) (known t.dst) x (address_other t.src mac src) (λ k. address_other t.dst mac (dst k)) near)

box_takes : (mac : List ℕ) (mode : Mode) → goes_round mode ≡ true → (known : List ℕ → Bool) (x : RingPort) (t : TaggedFields) → (t.src ≡ mac → ⊥) → (t.dst ≡ mac) ⊎ (is_group t.dst ≡ true) →
    has_exit (in_mode mode (of_redbox.wanted_tagged mac mode known x t)).exits up ≡ true
box_takes mac mode round known x t src mine =
    ap (λ (w : Wants). has_exit w.exits up) (open_mode mode (of_redbox.wanted_tagged mac mode known x t) round)
    ∙ box_up mode (is_same_address t.src mac) (is_same_address t.dst mac) (is_supervision t.dst t.kind) (is_group t.dst) (known t.dst) x (address_other t.src mac src) (⊎_elim (λ own. inl (address_same t.dst mac own)) (λ group. inr group) mine)

-- ---- a RedBox, of what comes by its rings to an address that is known on its interlink

box_down : (mode : Mode) (own same life group near : Bool) (p : RingPort) → own ≡ false → same ≡ false → life ≡ false → group ≡ false → near ≡ true → has_exit (box_by mode own same life group near p).exits out.c ≡ true
box_down mode true same life group near p o s l g n = absurd (false≢true (sym o))
box_down mode false true life group near p o s l g n = absurd (false≢true (sym s))
box_down mode false false true group near p o s l g n = absurd (false≢true (sym l))
box_down mode false false false true near p o s l g n = absurd (false≢true (sym g))
box_down mode false false false false false p o s l g n = absurd (false≢true n)
box_down H false false false false true p o s l g n = refl
box_down N false false false false true p o s l g n = refl
box_down U false false false false true ring.A o s l g n = refl
box_down U false false false false true ring.B o s l g n = refl

box_lets_down : (mac : List ℕ) (mode : Mode) → goes_round mode ≡ true → (known : List ℕ → Bool) (x : RingPort) (t : TaggedFields) → (t.src ≡ mac → ⊥) → (t.dst ≡ mac → ⊥) → is_supervision t.dst t.kind ≡ false → is_group t.dst ≡ false → known t.dst ≡ true →
    has_exit (in_mode mode (of_redbox.wanted_tagged mac mode known x t)).exits out.c ≡ true
box_lets_down mac mode round known x t src dst life group near =
    ap (λ (w : Wants). has_exit w.exits out.c) (open_mode mode (of_redbox.wanted_tagged mac mode known x t) round)
    ∙ box_down mode (is_same_address t.src mac) (is_same_address t.dst mac) (is_supervision t.dst t.kind) (is_group t.dst) (known t.dst) x (address_other t.src mac src) (address_other t.dst mac dst) life group near

-- by either of its rings
pub ring_down : (mac : List ℕ) (mode : Mode) → goes_round mode ≡ true → (port : ℕ) → port < 3 → is_edge (RedBox mac mode) port ≡ false → (known : List ℕ → Bool) (t : TaggedFields) → (t.src ≡ mac → ⊥) → (t.dst ≡ mac → ⊥) → is_supervision t.dst t.kind ≡ false →
    is_group t.dst ≡ false → known t.dst ≡ true → wants (RedBox mac mode) known port (Ok (Tagged t)) (exit_of 2) ≡ true
ring_down mac mode round zero h e known t src dst life group near = box_lets_down mac mode round known ring.A t src dst life group near
ring_down mac mode round (suc zero) h e known t src dst life group near = box_lets_down mac mode round known ring.B t src dst life group near
ring_down mac mode round (suc (suc zero)) h e known t src dst life group near = absurd (false≢true (sym e))
ring_down mac mode round (suc (suc (suc n))) h e known t src dst life group near = absurd (omega arith)

-- ---- any node, of what comes from a ring

-- what passes nothing on that is to itself, by the port of arrival
abbrev pub keeps : Place → ℕ → Bool
keeps (Danh mac mode) port = keeps_own mode
keeps (RedBox mac mode) port = keeps_own mode || (port == 2)
keeps QuadBox port = true
keeps (Station macs) port = true

-- a frame that a node passes on: not from it, nor to it where that matters; and to it no group's is
pub record IsForeign (place : Place) (port : ℕ) (to_all from : List ℕ) : Type 0 where
  pub src : HasAddress place from → ⊥
  pub dst : keeps place port ≡ true → HasAddress place to_all → ⊥
  pub group : is_group to_all ≡ true → HasAddress place to_all → ⊥

-- a frame that a node is to take up
abbrev pub IsMeantAt : Place → List ℕ → Type 0
IsMeantAt (Danh mac mode) dst = is_group dst ≡ false → dst ≡ mac
IsMeantAt (RedBox mac mode) dst = (dst ≡ mac) ⊎ (is_group dst ≡ true)
IsMeantAt QuadBox dst = ⊥
IsMeantAt (Station macs) dst = is_group dst ≡ true

-- what goes to an edge
pub record IsForEdge (dst : List ℕ) (ethertype : ℕ) : Type 0 where
  pub group : is_group dst ≡ true
  pub life : is_supervision dst ethertype ≡ false

-- what comes from a ring is wanted at each other port
pub ring_on : (place : Place) → is_in_h_or_u place ≡ true → is_station place ≡ false → (port n : ℕ) → port < ports place → n < ports place → is_edge place port ≡ false → (n ≡ port → ⊥) →
    (known : List ℕ → Bool) (t : TaggedFields) → IsForeign place port t.dst t.src → known t.dst ≡ false → (is_edge place n ≡ true → IsForEdge t.dst t.kind) → wants place known port (Ok (Tagged t)) (exit_of n) ≡ true
ring_on (Danh mac mode) h s port n hp hn e other known t f k l = danh_wants mac mode h known t port n hp hn other f.src f.dst
ring_on (RedBox mac mode) h s zero zero hp hn e other known t f k l = absurd (other refl)
ring_on (RedBox mac mode) h s zero (suc zero) hp hn e other known t f k l = (box_goes mac mode h known ring.A t f.src (λ kept. f.dst (or_left _ _ kept)) k).across
ring_on (RedBox mac mode) h s zero (suc (suc zero)) hp hn e other known t f k l =
    let d = l refl in
    (box_goes mac mode h known ring.A t f.src (λ kept. f.dst (or_left _ _ kept)) k).down (address_other t.dst mac (f.group d.group)) d.life d.group
ring_on (RedBox mac mode) h s (suc zero) zero hp hn e other known t f k l = (box_goes mac mode h known ring.B t f.src (λ kept. f.dst (or_left _ _ kept)) k).across
ring_on (RedBox mac mode) h s (suc zero) (suc zero) hp hn e other known t f k l = absurd (other refl)
ring_on (RedBox mac mode) h s (suc zero) (suc (suc zero)) hp hn e other known t f k l =
    let d = l refl in
    (box_goes mac mode h known ring.B t f.src (λ kept. f.dst (or_left _ _ kept)) k).down (address_other t.dst mac (f.group d.group)) d.life d.group
ring_on (RedBox mac mode) h s (suc (suc zero)) n hp hn e other known t f k l = absurd (false≢true (sym e))
ring_on (RedBox mac mode) h s (suc (suc (suc port))) n hp hn e other known t f k l = absurd (omega arith)
ring_on (RedBox mac mode) h s port (suc (suc (suc n))) hp hn e other known t f k l = absurd (omega arith)
ring_on QuadBox h s port n hp hn e other known t f k l = quad_wants known t port n hp hn other
ring_on (Station macs) h s port n hp hn e other known t f k l = absurd (false≢true (sym s))

-- and up
pub ring_up : (place : Place) → is_in_h_or_u place ≡ true → (port : ℕ) → port < ports place → is_edge place port ≡ false →
    (known : List ℕ → Bool) (t : TaggedFields) → IsMeantAt place t.dst → (HasAddress place t.src → ⊥) → wants place known port (Ok (Tagged t)) up ≡ true
ring_up (Danh mac mode) h zero hp e known t m other = wants_up mac mode known by_a t other m
ring_up (Danh mac mode) h (suc zero) hp e known t m other = wants_up mac mode known by_b t other m
ring_up (Danh mac mode) h (suc (suc n)) hp e known t m other = absurd (omega arith)
ring_up (RedBox mac mode) h zero hp e known t m other = box_takes mac mode h known ring.A t other m
ring_up (RedBox mac mode) h (suc zero) hp e known t m other = box_takes mac mode h known ring.B t other m
ring_up (RedBox mac mode) h (suc (suc zero)) hp e known t m other = absurd (false≢true (sym e))
ring_up (RedBox mac mode) h (suc (suc (suc n))) hp e known t m other = absurd (omega arith)
ring_up QuadBox h port hp e known t m other = absurd m
ring_up (Station macs) h port hp e known t m other = absurd (false≢true (sym e))

-- ---- what comes from an edge

abbrev edge_by : Bool → Bool → Bool → Bool → List ℕ → Handling
edge_by own same near group src =
    first_of ((own, unnumbered (nowhere Returned)) ∷ (same, unnumbered (to (up ∷ []))) ∷ (near, unnumbered (nowhere Local)) ∷ (group, numbered src (to (up ∷ out.a ∷ out.b ∷ []))) ∷ []) (numbered src (to (out.a ∷ out.b ∷ [])))

-- where a frame goes from an interlink
abbrev pub from_interlink : Bool → Wants
from_interlink group = if group then to (up ∷ out.a ∷ out.b ∷ []) else to (out.a ∷ out.b ∷ [])

edge_is : (own same near group : Bool) (src : List ℕ) → own ≡ false → same ≡ false → near ≡ false → edge_by own same near group src ≡ numbered src (from_interlink group)
edge_is true same near group src o s n = absurd (false≢true (sym o))
edge_is false true near group src o s n = absurd (false≢true (sym s))
edge_is false false true group src o s n = absurd (false≢true (sym n))
edge_is false false false false src o s n = refl
edge_is false false false true src o s n = refl

-- an interlink numbers what it doesn't know and isn't to itself, and wants it on its rings
pub interlink_is : (mac : List ℕ) (mode : Mode) (known : List ℕ → Bool) (f : Fields) → (f.src ≡ mac → ⊥) → (f.dst ≡ mac → ⊥) → known f.dst ≡ false →
    handling (RedBox mac mode) known 2 (Ok (Plain f)) ≡ Some (numbered f.src (from_interlink (is_group f.dst)))
interlink_is mac mode known f src dst near =
    ap (λ (h : Handling). Some h) (edge_is (is_same_address f.src mac) (is_same_address f.dst mac) (known f.dst) (is_group f.dst) f.src (address_other f.src mac src) (address_other f.dst mac dst) near)

-- what is to itself gets no number there
own_unnumbered : (own same near group : Bool) (src : List ℕ) → same ≡ true → (edge_by own same near group src).source ≡ None
own_unnumbered true same near group src s = refl
own_unnumbered false true near group src s = refl
own_unnumbered false false near group src s = absurd (false≢true s)

pub interlink_own : (mac : List ℕ) (mode : Mode) (known : List ℕ → Bool) (f : Fields) (h : Handling) → f.dst ≡ mac → handling (RedBox mac mode) known 2 (Ok (Plain f)) ≡ Some h → h.source ≡ None
interlink_own mac mode known f h own is =
    let same : edge_by (is_same_address f.src mac) (is_same_address f.dst mac) (known f.dst) (is_group f.dst) f.src ≡ h = cc in
    sym (ap (λ (g : Handling). g.source) same) ∙ own_unnumbered (is_same_address f.src mac) (is_same_address f.dst mac) (known f.dst) (is_group f.dst) f.src (address_same f.dst mac own)

interlink_up : (own same near group : Bool) (src : List ℕ) → own ≡ false → near ≡ false → (same ≡ true) ⊎ (group ≡ true) → has_exit (edge_by own same near group src).wants.exits up ≡ true
interlink_up true same near group src o n m = absurd (false≢true (sym o))
interlink_up false true near group src o n m = refl
interlink_up false false true group src o n m = absurd (false≢true (sym n))
interlink_up false false false true src o n m = refl
interlink_up false false false false src o n m = absurd (⊎_elim (λ s. false≢true s) (λ g. false≢true g) m)

-- what is among addresses stands at some place
pub among_at : (macs : List (List ℕ)) (mac : List ℕ) → list_any (λ own. is_same_address own mac) macs ≡ true → (i : ℕ) × (slice_get macs i ≡ Some mac)
among_at [] mac h = absurd (false≢true h)
among_at (own ∷ macs) mac h =
    ⊎_elim (λ here. (0, ap (λ (m : List ℕ). Some m) (same_address own mac here))) (λ later. let r = among_at macs mac later in (suc r.0, r.1)) (or_cases (is_same_address own mac) _ h)

station_by : (own mine : Bool) → own ≡ false → mine ≡ true → has_exit (first_of ((own, nowhere Returned) ∷ (mine, to (up ∷ [])) ∷ []) (to [])).exits up ≡ true
station_by true mine o m = absurd (false≢true (sym o))
station_by false true o m = refl
station_by false false o m = absurd (false≢true m)

pub not_among : (macs : List (List ℕ)) (mac : List ℕ) → ((i : ℕ) × (slice_get macs i ≡ Some mac) → ⊥) → list_any (λ own. is_same_address own mac) macs ≡ false
not_among macs mac other = ⊎_elim (λ yes. absurd (other (among_at macs mac yes))) (λ no. no) (cases_Bool (list_any (λ own. is_same_address own mac) macs))

-- what comes to an edge is wanted up by whom it is for
pub edge_up : (place : Place) (port : ℕ) → port < ports place → is_edge place port ≡ true → (known : List ℕ → Bool) (f : Fields) → IsMeantAt place f.dst → (HasAddress place f.src → ⊥) → known f.dst ≡ false → wants place known port (Ok (Plain f)) up ≡ true
edge_up (Danh mac mode) port hp e known f m other near = absurd (false≢true e)
edge_up (RedBox mac mode) zero hp e known f m other near = absurd (false≢true e)
edge_up (RedBox mac mode) (suc zero) hp e known f m other near = absurd (false≢true e)
edge_up (RedBox mac mode) (suc (suc zero)) hp e known f m other near =
    interlink_up (is_same_address f.src mac) (is_same_address f.dst mac) (known f.dst) (is_group f.dst) f.src (address_other f.src mac other) near (⊎_elim (λ own. inl (address_same f.dst mac own)) (λ group. inr group) m)
edge_up (RedBox mac mode) (suc (suc (suc n))) hp e known f m other near = absurd (omega arith)
edge_up QuadBox port hp e known f m other near = absurd (false≢true e)
edge_up (Station macs) zero hp e known f m other near = station_by (is_among macs.items f.src) (is_among macs.items f.dst || is_group f.dst) (not_among macs.items f.src other) (or_right _ _ m)
edge_up (Station macs) (suc n) hp e known f m other near = absurd (omega arith)

-- a Station wants up what is to one of its addresses
pub station_up : (place : Place) (port : ℕ) → port < ports place → is_station place ≡ true → (known : List ℕ → Bool) (f : Fields) → is_station_with f.dst place ≡ true → (HasAddress place f.src → ⊥) → wants place known port (Ok (Plain f)) up ≡ true
station_up (Danh mac mode) port hp s known f m other = absurd (false≢true s)
station_up (RedBox mac mode) port hp s known f m other = absurd (false≢true s)
station_up QuadBox port hp s known f m other = absurd (false≢true s)
station_up (Station macs) zero hp s known f m other = station_by (is_among macs.items f.src) (is_among macs.items f.dst || is_group f.dst) (not_among macs.items f.src other) (or_left _ _ m)
station_up (Station macs) (suc n) hp s known f m other = absurd (omega arith)
