-- Sends of one node that lost nothing reach the same nodes where their frames have one destination and type.
use Rattle.std.proofs.Common.{◌≡◌, ℕ, ◌<◌, ◌==◌, Bool, true, false, not, ◌&&◌, ◌||◌, if◌then◌else◌, List, [], length, Some, refl, sym, ap, ◌∙◌, subst, eqb-true}
use Rattle.std.specs.Prelude.{nat_eq, IfSome}
use Rattle.std.specs.List.{list_any}
use Rattle.indexmap.specs.IndexMap.{IndexMap}
use Rattle.hsr_frame.specs.Address.{is_group, is_same_address}
use Rattle.hsr_frame.specs.Egress.{is_supervision}
use Rattle.hsr_frame.specs.Grammar.{Fields}
use Rattle.hsr_node.specs.declared.event.Probe.{Probe}
use Rattle.hsr_node.specs.declared.place.Place.{Place}
use Rattle.hsr_node.specs.declared.place.Place.TheVariants.{Danh, RedBox, QuadBox, Station}
use Rattle.hsr_deliveries.specs.Delivered.{lost}
use Rattle.hsr_run_laws.specs.Run.{Run, place_of}
use Rattle.hsr_run_laws.proofs.Same.{same_address}
use Rattle.hsr_network_laws.specs.Network.{Channel, start_of, stop_of}
use Rattle.hsr_network_laws.specs.Channels.{Carries, ComesOver, IsFirstChannel, IsNextChannel, IsReached, keeps_own, lets_out, on, passes_on, sent}
use Rattle.hsr_audit.specs.Lossy.{is_on}
use Rattle.hsr_audit.specs.Reaching.{AreReached}
use Rattle.hsr_audit.specs.Shared.{AreFound, ReachAlike, found_of}
use Rattle.hsr_audit.proofs.Losing.{lost_on}

-- ---- frames

lets_out_alike : (frame other : Fields) → frame.dst ≡ other.dst → frame.kind ≡ other.kind → (place : Place) (port : ℕ) → lets_out frame place port ≡ lets_out other place port
lets_out_alike frame other dst ethertype (Danh mac mode) port = refl
lets_out_alike frame other dst ethertype (RedBox mac mode) port =
    let P : List ℕ → ℕ → Bool = λ d k. not (port == 2) || (is_group d && not (is_supervision d k)) in
    ap (λ d. P d frame.kind) dst ∙ ap (P other.dst) ethertype
lets_out_alike frame other dst ethertype QuadBox port = refl
lets_out_alike frame other dst ethertype (Station macs) port = refl

passes_on_alike : (sender : ℕ) (frame other : Fields) → frame.dst ≡ other.dst → (k : ℕ) (place : Place) (port : ℕ) → passes_on sender frame k place port ≡ passes_on sender other k place port
passes_on_alike sender frame other dst k (Danh mac mode) port = ap (λ d. not (k == sender) && not (keeps_own mode && is_same_address mac d)) dst
passes_on_alike sender frame other dst k (RedBox mac mode) port = ap (λ d. not (k == sender) && not ((keeps_own mode || port == 2) && is_same_address mac d)) dst
passes_on_alike sender frame other dst k QuadBox port = refl
passes_on_alike sender frame other dst k (Station macs) port = refl

-- ---- channels

-- a send that lost nothing is carried by each channel
carried : (run : Run) (send : Probe) → lost run send ≡ [] → (channel : Channel) → channel.link < length run.links → Carries run send channel
carried run send none channel below = record { below = below; kept = sym (lost_on run send channel below) ∙ ap (list_any (is_on channel)) none }

module _ (run : Run) (send next : Probe) (frame other : Fields) (node : send.node ≡ next.node) (dst : frame.dst ≡ other.dst) (ethertype : frame.kind ≡ other.kind) (none : lost run next ≡ []) where
  first_too : (channel : Channel) → IsFirstChannel run send frame channel → IsFirstChannel run next other channel
  first_too channel is = record {
    node = is.node ∙ node;
    out = sym (lets_out_alike frame other dst ethertype (place_of run (start_of run channel).node) (start_of run channel).port) ∙ is.out;
  }

  next_too : (channel after : Channel) → IsNextChannel run send frame channel after → IsNextChannel run next other channel after
  next_too channel after is = record {
    node = is.node;
    port = is.port;
    passes =
        sym (passes_on_alike next.node frame other dst (stop_of run channel).node (place_of run (stop_of run channel).node) (stop_of run channel).port)
        ∙ subst (λ m. passes_on m frame (stop_of run channel).node (place_of run (stop_of run channel).node) (stop_of run channel).port ≡ true) node is.passes;
    out = sym (lets_out_alike frame other dst ethertype (place_of run (start_of run after).node) (start_of run after).port) ∙ is.out;
    away = λ back. is.away (back ∙ sym node);
  }

  comes_too : (channel : Channel) → ComesOver run send frame channel → ComesOver run next other channel
  comes_too channel (sent first carries is) = sent first (carried run next none first carries.below) (first_too first is)
  comes_too channel (on before after comes carries is) = on before after (comes_too before comes) (carried run next none after carries.below) (next_too before after is)

  reached_too : (k : ℕ) → IsReached run send frame k → IsReached run next other k
  reached_too k r = record { channel = r.channel; comes = comes_too r.channel r.comes; here = r.here }

-- ---- what was found

pub alike : (run : Run) (send : Probe) (frame : Fields) (nodes : List ℕ) → lost run send ≡ [] → AreReached run send frame nodes → ReachAlike run send.node frame.dst frame.kind nodes
alike run send frame nodes none reached next other node dst ethertype none_too k below = (
  λ has. reached_too run send next frame other (sym node) (sym dst) (sym ethertype) none_too k ((reached k below).0 has),
  λ there. (reached k below).1 (reached_too run next send other frame node dst ethertype none k there),
)

pub kept : {S T : Type 0} (run : Run) (node : ℕ) (frame : Fields) (nodes : List ℕ) (old : IndexMap (List ℕ × ℕ) (List ℕ) S) (new : IndexMap (List ℕ × ℕ) (List ℕ) T) →
    ((dst : List ℕ) → (ethertype : ℕ) → found_of new dst ethertype ≡ (if is_same_address frame.dst dst && nat_eq frame.kind ethertype then Some nodes else found_of old dst ethertype)) →
    ReachAlike run node frame.dst frame.kind nodes → AreFound run node old → AreFound run node new
kept run node frame nodes old new is here before dst ethertype = subst (λ o. IfSome o (ReachAlike run node dst ethertype)) (sym (is dst ethertype)) (by_test (is_same_address frame.dst dst) refl (nat_eq frame.kind ethertype) refl)
  where
    by_test : (b : Bool) → is_same_address frame.dst dst ≡ b → (c : Bool) → nat_eq frame.kind ethertype ≡ c → IfSome (if b && c then Some nodes else found_of old dst ethertype) (ReachAlike run node dst ethertype)
    by_test true same true equal =
        subst (λ d. ReachAlike run node d ethertype nodes) (same_address frame.dst dst same) (subst (λ n. ReachAlike run node frame.dst n nodes) (eqb-true frame.kind ethertype equal) here)
    by_test true same false equal = before dst ethertype
    by_test false same c equal = before dst ethertype
