-- The ports of a node: on a ring or at an edge, and the octets that leave from one to another.
use Rattle.std.proofs.Common.{◌≡◌, ℕ, ◌<◌, ◌==◌, Bool, true, false, if◌then◌else◌, List, [], ◌∷◌, Option, Some, None, refl, sym, ap, ◌∙◌, subst, arith, zero, suc, ne_eqb}
use Rattle.std.specs.Prelude.{option_map}
use Rattle.std.proofs.lemmas.Bool.{false≢true}
use Rattle.hsr_frame.specs.Egress.{Egress}
use Rattle.hsr_frame.specs.Egress as out
use Rattle.hsr_frame.specs.Grammar.{Fields, spelling}
use Rattle.hsr_frame.specs.declared.node.Mode.TheVariants.{H}
use Rattle.hsr_frame.specs.declared.node.RingPort.{RingPort}
use Rattle.hsr_tag.specs.Seen.{classified}
use Rattle.hsr_tag.specs.Tag.{tag_of, tagged_spelling}
use Rattle.hsr_danh.specs.Wanted as of_danh
use Rattle.hsr_redbox.specs.Wanted.{unnumbered}
use Rattle.hsr_redbox.specs.declared.call.BoxPort.{BoxPort}
use Rattle.hsr_redbox.specs.declared.wanted.Handling.{Handling}
use Rattle.hsr_quadbox.specs.Wanted as of_quadbox
use Rattle.hsr_quadbox.specs.declared.wanted.QuadPort.{QuadPort}
use Rattle.hsr_node.specs.Copies.{as_came, forwarded, plain_in, side_of, written}
use Rattle.hsr_node.specs.Place.{ports}
use Rattle.hsr_node.specs.Record.{box_handling, handling, station_wanted}
use Rattle.hsr_node.specs.declared.place.Place.{Place}
use Rattle.hsr_node.specs.declared.place.Place.TheVariants.{Danh, RedBox, QuadBox, Station}
use Rattle.hsr_run_laws.specs.Premises.{is_on_ring}
use Rattle.hsr_run_laws.proofs.Views.{Came}
use Rattle.hsr_run_laws.proofs.Wanted.{no_box_port, no_quad_port, no_ring_port}
use Rattle.hsr_network_laws.specs.Network.{is_edge, is_station}

-- ---- egresses

-- the egress of a port
abbrev pub exit_of : ℕ → Egress
exit_of zero = out.a
exit_of (suc zero) = out.b
exit_of (suc (suc zero)) = out.c
exit_of (suc (suc (suc n))) = out.d

pub few_ports : (place : Place) (n : ℕ) → n < ports place → n < 4
few_ports (Danh mac mode) n h = omega arith
few_ports (RedBox mac mode) n h = omega arith
few_ports QuadBox n h = omega arith
few_ports (Station macs) n h = omega arith

-- ---- sides

abbrev pub ring_at : Bool → ℕ
ring_at true = 0
ring_at false = 1

-- a port on a ring, as one of a QuadBox's first two
abbrev pub IsRingSide : Place → ℕ → Type 0
IsRingSide place n = (p : Bool) × (side_of place n ≡ side_of QuadBox (ring_at p))

-- a port at an edge, as an interlink
abbrev pub IsEdgeSide : Place → ℕ → Type 0
IsEdgeSide place n = side_of place n ≡ side_of (RedBox [] H) 2

pub ring_side : (place : Place) (n : ℕ) → n < ports place → is_edge place n ≡ false → IsRingSide place n
ring_side (Danh mac mode) zero h e = (true, refl)
ring_side (Danh mac mode) (suc zero) h e = (false, refl)
ring_side (Danh mac mode) (suc (suc n)) h e = absurd (omega arith)
ring_side (RedBox mac mode) zero h e = (true, refl)
ring_side (RedBox mac mode) (suc zero) h e = (false, refl)
ring_side (RedBox mac mode) (suc (suc zero)) h e = absurd (false≢true (sym e))
ring_side (RedBox mac mode) (suc (suc (suc n))) h e = absurd (omega arith)
ring_side QuadBox zero h e = (true, refl)
ring_side QuadBox (suc zero) h e = (false, refl)
ring_side QuadBox (suc (suc zero)) h e = (true, refl)
ring_side QuadBox (suc (suc (suc zero))) h e = (false, refl)
ring_side QuadBox (suc (suc (suc (suc n)))) h e = absurd (omega arith)
ring_side (Station macs) n h e = absurd (false≢true (sym e))

pub edge_side : (place : Place) (n : ℕ) → n < ports place → is_edge place n ≡ true → IsEdgeSide place n
edge_side (Danh mac mode) n h e = absurd (false≢true e)
edge_side (RedBox mac mode) zero h e = absurd (false≢true e)
edge_side (RedBox mac mode) (suc zero) h e = absurd (false≢true e)
edge_side (RedBox mac mode) (suc (suc zero)) h e = refl
edge_side (RedBox mac mode) (suc (suc (suc n))) h e = absurd (omega arith)
edge_side QuadBox n h e = absurd (false≢true e)
edge_side (Station macs) zero h e = refl
edge_side (Station macs) (suc n) h e = absurd (omega arith)

-- what came from a ring came by no edge
pub on_ring_no_edge : (place : Place) (port : ℕ) → port < ports place → is_on_ring place port ≡ true → is_edge place port ≡ false
on_ring_no_edge (Danh mac mode) port h r = refl
on_ring_no_edge (RedBox mac mode) zero h r = refl
on_ring_no_edge (RedBox mac mode) (suc zero) h r = refl
on_ring_no_edge (RedBox mac mode) (suc (suc zero)) h r = absurd (false≢true r)
on_ring_no_edge (RedBox mac mode) (suc (suc (suc n))) h r = absurd (omega arith)
on_ring_no_edge QuadBox port h r = refl
on_ring_no_edge (Station macs) zero h r = absurd (false≢true r)
on_ring_no_edge (Station macs) (suc n) h r = absurd (omega arith)

-- a Station has one port
pub one_port : (place : Place) (port : ℕ) → is_station place ≡ true → port < ports place → port ≡ 0
one_port (Danh mac mode) port s h = absurd (false≢true s)
one_port (RedBox mac mode) port s h = absurd (false≢true s)
one_port QuadBox port s h = absurd (false≢true s)
one_port (Station macs) port s h = omega arith

-- ---- a node takes what comes by a port that it has

pub any_port_there : (place : Place) (known : List ℕ → Bool) (port : ℕ) (seen : Came) (h : Handling) → handling place known port seen ≡ Some h → port < ports place
any_port_there (Danh mac mode) known zero seen h is = omega arith
any_port_there (Danh mac mode) known (suc zero) seen h is = omega arith
any_port_there (Danh mac mode) known (suc (suc n)) seen h is =
    let O : Option RingPort → Type 0 = λ o. option_map (λ x. unnumbered (of_danh.wanted mac mode x seen)) o ≡ Some h in
    let none = subst O (no_ring_port (suc (suc n)) (omega arith)) is in
    absurd cc
any_port_there (RedBox mac mode) known zero seen h is = omega arith
any_port_there (RedBox mac mode) known (suc zero) seen h is = omega arith
any_port_there (RedBox mac mode) known (suc (suc zero)) seen h is = omega arith
any_port_there (RedBox mac mode) known (suc (suc (suc n))) seen h is =
    let O : Option BoxPort → Type 0 = λ o. option_map (λ x. box_handling mac mode known x seen) o ≡ Some h in
    let none = subst O (no_box_port (suc (suc (suc n))) (omega arith)) is in
    absurd cc
any_port_there QuadBox known zero seen h is = omega arith
any_port_there QuadBox known (suc zero) seen h is = omega arith
any_port_there QuadBox known (suc (suc zero)) seen h is = omega arith
any_port_there QuadBox known (suc (suc (suc zero))) seen h is = omega arith
any_port_there QuadBox known (suc (suc (suc (suc n)))) seen h is =
    let O : Option QuadPort → Type 0 = λ o. option_map (λ x. unnumbered (of_quadbox.wanted x seen)) o ≡ Some h in
    let none = subst O (no_quad_port (suc (suc (suc (suc n)))) (omega arith)) is in
    absurd cc
any_port_there (Station macs) known zero seen h is = omega arith
any_port_there (Station macs) known (suc n) seen h is =
    let S : Bool → Type 0 = λ b. (if b then Some (unnumbered (station_wanted macs.items seen)) else None) ≡ Some h in
    let none = subst S (Rattle.std.proofs.Common.ne_eqb (suc n) 0 (λ e. omega arith)) is in
    absurd cc

-- ---- octets

ring_to_ring : (p q : Bool) (seq : Option ℕ) (octets : List ℕ) → forwarded (side_of QuadBox (ring_at p)) (side_of QuadBox (ring_at q)) seq octets ≡ as_came octets
ring_to_ring true true seq octets = refl
ring_to_ring true false seq octets = refl
ring_to_ring false true seq octets = refl
ring_to_ring false false seq octets = refl

ring_to_edge : (p : Bool) (seq : Option ℕ) (octets : List ℕ) → forwarded (side_of QuadBox (ring_at p)) (side_of (RedBox [] H) 2) seq octets ≡ written (side_of (RedBox [] H) 2) seq (plain_in (classified octets))
ring_to_edge true seq octets = refl
ring_to_edge false seq octets = refl

edge_to_any : (q : Bool) (seq : Option ℕ) (octets : List ℕ) → forwarded (side_of (RedBox [] H) 2) (side_of QuadBox (ring_at q)) seq octets ≡ written (side_of QuadBox (ring_at q)) seq (plain_in (classified octets))
edge_to_any true seq octets = refl
edge_to_any false seq octets = refl

pub forward_ring : (place : Place) (port n : ℕ) (seq : Option ℕ) (octets : List ℕ) → IsRingSide place port → IsRingSide place n → forwarded (side_of place port) (side_of place n) seq octets ≡ as_came octets
forward_ring place port n seq octets from to =
    ap (λ s. forwarded s (side_of place n) seq octets) from.1 ∙ (ap (λ s. forwarded (side_of QuadBox (ring_at from.0)) s seq octets) to.1 ∙ ring_to_ring from.0 to.0 seq octets)

pub forward_down : (place : Place) (port n : ℕ) (seq : Option ℕ) (octets : List ℕ) → IsRingSide place port → IsEdgeSide place n →
    forwarded (side_of place port) (side_of place n) seq octets ≡ written (side_of (RedBox [] H) 2) seq (plain_in (classified octets))
forward_down place port n seq octets from to =
    ap (λ s. forwarded s (side_of place n) seq octets) from.1 ∙ (ap (λ s. forwarded (side_of QuadBox (ring_at from.0)) s seq octets) to ∙ ring_to_edge from.0 seq octets)

pub forward_up : (place : Place) (port n : ℕ) (seq : Option ℕ) (octets : List ℕ) → IsEdgeSide place port → (to : IsRingSide place n) →
    forwarded (side_of place port) (side_of place n) seq octets ≡ written (side_of QuadBox (ring_at to.0)) seq (plain_in (classified octets))
forward_up place port n seq octets from to =
    ap (λ s. forwarded s (side_of place n) seq octets) from ∙ (ap (λ s. forwarded (side_of (RedBox [] H) 2) s seq octets) to.1 ∙ edge_to_any to.0 seq octets)

pub edge_to_edge : (place : Place) (port n : ℕ) (seq : Option ℕ) (octets : List ℕ) → IsEdgeSide place port → IsEdgeSide place n →
    forwarded (side_of place port) (side_of place n) seq octets ≡ written (side_of (RedBox [] H) 2) seq (plain_in (classified octets))
edge_to_edge place port n seq octets from to =
    ap (λ s. forwarded s (side_of place n) seq octets) from ∙ ap (λ s. forwarded (side_of (RedBox [] H) 2) s seq octets) to

-- what is written has a frame
pub record IsTaggedWriting (seq : Option ℕ) (frame : Option Fields) (octets : List ℕ) : Type 0 where
  pub f : Fields
  pub is : frame ≡ Some f
  pub path : ℕ
  pub number : ℕ
  pub numbered : seq ≡ Some number
  pub octets_are : octets ≡ tagged_spelling (tag_of f path number)

pub written_ring : (p : Bool) (seq : Option ℕ) (frame : Option Fields) (octets : List ℕ) → written (side_of QuadBox (ring_at p)) seq frame ≡ Some octets → IsTaggedWriting seq frame octets
written_ring true seq None octets e = absurd cc
written_ring false seq None octets e = absurd cc
written_ring true None (Some f) octets e = absurd cc
written_ring false None (Some f) octets e = absurd cc
written_ring true (Some s) (Some f) octets e = record { f = f; is = refl; path = 0; number = s; numbered = refl; octets_are = sym cc }
written_ring false (Some s) (Some f) octets e = record { f = f; is = refl; path = 1; number = s; numbered = refl; octets_are = sym cc }

pub written_edge : (seq : Option ℕ) (frame : Option Fields) (octets : List ℕ) → written (side_of (RedBox [] H) 2) seq frame ≡ Some octets → (f : Fields) × (frame ≡ Some f) × (octets ≡ spelling f)
written_edge seq None octets e = absurd cc
written_edge seq (Some f) octets e = (f, refl, sym cc)

-- and what has a frame is written
pub writes_ring : (p : Bool) (s : ℕ) (f : Fields) → (octets : List ℕ) × (written (side_of QuadBox (ring_at p)) (Some s) (Some f) ≡ Some octets)
writes_ring true s f = (tagged_spelling (tag_of f 0 s), refl)
writes_ring false s f = (tagged_spelling (tag_of f 1 s), refl)

pub writes_edge : (seq : Option ℕ) (f : Fields) → written (side_of (RedBox [] H) 2) seq (Some f) ≡ Some (spelling f)
writes_edge seq f = refl
