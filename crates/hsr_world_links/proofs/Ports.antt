-- The ports of a world are told by the ends of its links, and tell what each of them holds and sends.
use Rattle.std.specs.Prelude.{is_some, if◌then◌else◌, ◌&&◌, slice_index_or}
use Rattle.std.proofs.Common.{◌≡◌, ℕ, ◌+◌, ◌*◌, ◌/◌, ◌%◌, ◌<◌, ◌≤◌, suc, nat_lt, Bool, true, false, List, [], ◌∷◌, map, length, Option, Some, None, option_map, refl, ap, ap₂, sym, subst, ◌∙◌, arith, ⊎_elim}
use Rattle.std.proofs.lemmas.Bool.{cases_lt}
use Rattle.std.proofs.lemmas.List.{get_or_past}
use Rattle.std.proofs.lemmas.Option.{none-some}
use Rattle.std.proofs.lemmas.List.FromFn.{get_or-map-range_with_len, length-map-range_with_len}
use Rattle.hsr_topology.specs.Links.{is_same_end}
use Rattle.hsr_topology.specs.declared.end.End.{End}
use Rattle.hsr_topology.proofs.Ends.{end_is}
use Rattle.hsr_link.specs.declared.row.Dir.TheVariants.{Forth, Back}
use Rattle.hsr_node.specs.Place.{ports}
use Rattle.hsr_node.specs.declared.place.Place.{Place}
use Rattle.hsr_node.specs.declared.place.Place.TheVariants.{Danh, RedBox, QuadBox, Station}
use Rattle.hsr_world_laws.specs.Spans.{Lane, Span, Spot, held_in, lane_of, lanes_of, on_lanes, spot_from}
use Rattle.hsr_world_links.proofs.Behind.{all_there, first_there, others_there}
use Rattle.hsr_world_links.specs.Hands.{hand_in}
use Rattle.hsr_world_links.specs.Ports.{AreTold, end_at, held_at, no_port, port_at, port_if, port_in, port_of, ports_in, spot_code, spot_to, port_fault}
use Rattle.hsr_world_links.specs.Views.{spot_view}
use Rattle.hsr_world_laws.specs.World.{span_in}
use Rattle.hsr_world_links.specs.declared.port.Port.{Port}
use Rattle.hsr_world_links.specs.declared.spot.Spot as code-spot
use Rattle.hsr_world_steps.specs.declared.step.WorldFault.{WorldFault}
use Rattle.hsr_world_steps.specs.declared.step.WorldFault.TheVariants.{NoSuchNode, NoSuchPort}

-- ---- the ends of spans

pub record Ends : Type 0 where
  pub forth_from : End
  pub forth_to : End
  pub back_from : End
  pub back_to : End

abbrev pub ends_at : Span → Ends
ends_at span = record { forth_from = span.forth.from; forth_to = span.forth.to; back_from = span.back.from; back_to = span.back.to }

-- where a port receives and sends is told by them
abbrev to_by : End → ℕ → List Ends → Option Spot
to_by end k [] = None
to_by end k (e ∷ es) = if is_same_end e.forth_to end then Some (record { link = k; dir = Forth }) else (if is_same_end e.back_to end then Some (record { link = k; dir = Back }) else to_by end (k + 1) es)

abbrev from_by : End → ℕ → List Ends → Option Spot
from_by end k [] = None
from_by end k (e ∷ es) = if is_same_end e.forth_from end then Some (record { link = k; dir = Forth }) else (if is_same_end e.back_from end then Some (record { link = k; dir = Back }) else from_by end (k + 1) es)

to_told : (end : End) (k : ℕ) (spans : List Span) → spot_to end k spans ≡ to_by end k (map ends_at spans)
to_told end k [] = refl
to_told end k (span ∷ spans) =
    ap (λ (rest : Option Spot). if is_same_end span.forth.to end then Some (record { link = k; dir = Forth }) else (if is_same_end span.back.to end then Some (record { link = k; dir = Back }) else rest))
    (to_told end (k + 1) spans)

from_told : (end : End) (k : ℕ) (spans : List Span) → spot_from end k spans ≡ from_by end k (map ends_at spans)
from_told end k [] = refl
from_told end k (span ∷ spans) =
    ap (λ (rest : Option Spot). if is_same_end span.forth.from end then Some (record { link = k; dir = Forth }) else (if is_same_end span.back.from end then Some (record { link = k; dir = Back }) else rest))
    (from_told end (k + 1) spans)

pub port_same : (places : List Place) (v w : List Span) → map ends_at v ≡ map ends_at w → (k : ℕ) → port_at places v k ≡ port_at places w k
port_same places v w e k = by_fault (port_fault places (k / 8) (k % 8))
  where
    end : End
    end = end_at k

    by_fault : (fault : Option WorldFault) → port_if fault v end ≡ port_if fault w end
    by_fault (Some fault) = refl
    by_fault None =
        let into : spot_to end 0 v ≡ spot_to end 0 w = to_told end 0 v ∙ (ap (to_by end 0) e ∙ sym (to_told end 0 w)) in
        let out : spot_from end 0 v ≡ spot_from end 0 w = from_told end 0 v ∙ (ap (from_by end 0) e ∙ sym (from_told end 0 w)) in
        λ i. record { into = option_map spot_code (into i); out = option_map spot_code (out i) }

pub map_same : {X Y : Type 0} (f g : X → Y) → ((x : X) → f x ≡ g x) → (xs : List X) → map f xs ≡ map g xs
map_same f g h [] = refl
map_same f g h (x ∷ xs) = ap₂ (λ y ys. y ∷ ys) (h x) (map_same f g h xs)

-- a change of each lane that keeps its ends keeps those of its span
pub mapped : (f : Lane → Lane) → ((x : Lane) → ((f x).from ≡ x.from) × ((f x).to ≡ x.to)) → (spans : List Span) → map ends_at (map (on_lanes f) spans) ≡ map ends_at spans
mapped f h [] = refl
mapped f h (span ∷ spans) =
    let forth = h span.forth in
    let back = h span.back in
    let first : ends_at (on_lanes f span) ≡ ends_at span = λ i. record { forth_from = forth.0 i; forth_to = forth.1 i; back_from = back.0 i; back_to = back.1 i } in
    ap₂ (λ (y : Ends) (ys : List Ends). y ∷ ys) first (mapped f h spans)

-- ---- the port at an end

code_of : (spot : Option code-spot.Spot) (seen : Option Spot) → option_map spot_view spot ≡ seen → spot ≡ option_map spot_code seen
code_of None seen e = ap (option_map spot_code) e
code_of (Some spot) seen e = ap (option_map spot_code) e

pub port_is : (spans : List Span) (end : End) (into out : Option code-spot.Spot) → option_map spot_view into ≡ spot_to end 0 spans → option_map spot_view out ≡ spot_from end 0 spans
    → record { into = into; out = out } ≡ port_if None spans end
port_is spans end into out received sent =
    let first = code_of into _ received in
    let second = code_of out _ sent in
    λ i. record { into = first i; out = second i }

view_code : (spot : Option Spot) → option_map spot_view (option_map spot_code spot) ≡ spot
view_code None = refl
view_code (Some spot) = refl

-- ---- the port of a number

pub few_ports : (place : Place) → ports place ≤ 4
few_ports (Danh mac mode) = omega arith
few_ports (RedBox mac mode) = omega arith
few_ports QuadBox = omega arith
few_ports (Station macs) = omega arith

-- a port that is there
pub record IsThere (places : List Place) (n q : ℕ) : Type 0 where
  pub node : n < length places
  pub port : q < ports (slice_index_or places n QuadBox)
  pub low : q < 8

pub is_there : (places : List Place) (n port : ℕ) → port_fault places n port ≡ None → IsThere places n port
is_there places n port h = by_node (nat_lt n (length places)) (nat_lt port (ports (slice_index_or places n QuadBox))) refl refl h
  where
    by_node : (a b : Bool) → nat_lt n (length places) ≡ a → nat_lt port (ports (slice_index_or places n QuadBox)) ≡ b →
        (if a then (if b then None else Some NoSuchPort) else Some NoSuchNode) ≡ None → IsThere places n port
    by_node true true e f none =
        let few = few_ports (slice_index_or places n QuadBox) in
        let below : port < ports (slice_index_or places n QuadBox) = grind (arith, f) in
        record { node = grind (arith, e); port = below; low = omega (arith, few, below) }
    by_node true false e f none = absurd cc
    by_node false b e f none = absurd cc

pub no_fault : (places : List Place) (n port : ℕ) → n < length places → port < ports (slice_index_or places n QuadBox) → port_fault places n port ≡ None
no_fault places n port below there =
    let a : nat_lt n (length places) ≡ true = grind (arith, below) in
    let b : nat_lt port (ports (slice_index_or places n QuadBox)) ≡ true = grind (arith, there) in
    ap (λ x. if x then (if nat_lt port (ports (slice_index_or places n QuadBox)) then None else Some NoSuchPort) else Some NoSuchNode) a
    ∙ ap (λ x. if x then None else Some NoSuchPort) b

end_is_at : (n port k : ℕ) → k / 8 ≡ n → k % 8 ≡ port → end_at k ≡ record { node = n; port = port }
end_is_at n port k node own = λ i. record { node = node i; port = own i }

-- the port of a number, as it was told
pub port_told : (places : List Place) (spans : List Span) (ports : List Port) (k : ℕ) → AreTold places spans ports → k < 8 * length places → port_in ports k ≡ port_at places spans k
port_told places spans ports k told below =
    ap (λ (ps : List Port). port_in ps k) told.is ∙ get_or-map-range_with_len (port_at places spans) 0 (8 * length places) k k no_port below (omega arith)

pub port_beyond : (places : List Place) (spans : List Span) (ports : List Port) (k : ℕ) → AreTold places spans ports → 8 * length places ≤ k → port_in ports k ≡ no_port
port_beyond places spans ports k told beyond =
    let long : length (ports_in places spans) ≡ 8 * length places = length-map-range_with_len (port_at places spans) 0 (8 * length places) in
    ap (λ (ps : List Port). port_in ps k) told.is ∙ get_or_past (ports_in places spans) k no_port (omega (arith, long, beyond))

-- the port at an end that is there
pub port_there : (places : List Place) (spans : List Span) (ports : List Port) (n port : ℕ) → AreTold places spans ports → IsThere places n port →
    port_of ports (record { node = n; port = port }) ≡ port_if None spans (record { node = n; port = port })
port_there places spans ports n port told there =
    let few = told.few in
    let node = there.node in
    let low = there.low in
    let a : nat_lt n 64 ≡ true = let h : n < 64 = omega (arith, few, node) in grind (arith, h) in
    let b : nat_lt port 8 ≡ true = grind (arith, low) in
    let k : ℕ = 8 * n + port in
    let of_node : k / 8 ≡ n = omega (arith, low) in
    let own : k % 8 ≡ port = omega (arith, low) in
    let end : End = record { node = n; port = port } in
    ap₂ (λ x y. if x && y then port_in ports k else no_port) a b
    ∙ port_told places spans ports k told (omega (arith, node, low))
    ∙ ap₂ (λ (m p : ℕ). port_if (port_fault places m p) spans (end_at k)) of_node own
    ∙ ap₂ (λ (f : Option WorldFault) (e : End). port_if f spans e) (no_fault places n port there.node there.port) (end_is_at n port k of_node own)

-- what a port of a number that is told has of a spot
pub record IsOf (places : List Place) (spans : List Span) (k : ℕ) (port : Port) : Type 0 where
  pub into : (spot : Spot) → option_map spot_view port.into ≡ Some spot → spot_to (end_at k) 0 spans ≡ Some spot
  pub out : (spot : Spot) → option_map spot_view port.out ≡ Some spot → spot_from (end_at k) 0 spans ≡ Some spot

no_spots : (places : List Place) (spans : List Span) (k : ℕ) → IsOf places spans k no_port
no_spots places spans k = record { into = λ spot h. absurd cc; out = λ spot h. absurd cc }

pub port_of_number : (places : List Place) (spans : List Span) (ports : List Port) (k : ℕ) → AreTold places spans ports → IsOf places spans k (port_in ports k)
port_of_number places spans ports k told = ⊎_elim within beyond (cases_lt k (8 * length places))
  where
    by_fault : (fault : Option WorldFault) → IsOf places spans k (port_if fault spans (end_at k))
    by_fault (Some fault) = no_spots places spans k
    by_fault None = record {
      into = λ spot h. sym (view_code (spot_to (end_at k) 0 spans)) ∙ h;
      out = λ spot h. sym (view_code (spot_from (end_at k) 0 spans)) ∙ h;
    }

    within : k < 8 * length places → IsOf places spans k (port_in ports k)
    within h = subst (IsOf places spans k) (sym (port_told places spans ports k told h)) (by_fault (port_fault places (k / 8) (k % 8)))

    beyond : 8 * length places ≤ k → IsOf places spans k (port_in ports k)
    beyond h = subst (IsOf places spans k) (sym (port_beyond places spans ports k told h)) (no_spots places spans k)

-- the directions that are received and sent at a port that is there
pub into_there : (places : List Place) (spans : List Span) (ports : List Port) (n port : ℕ) → AreTold places spans ports → IsThere places n port →
    option_map spot_view (port_of ports (record { node = n; port = port })).into ≡ spot_to (record { node = n; port = port }) 0 spans
into_there places spans ports n port told there =
    ap (λ (p : Port). option_map spot_view p.into) (port_there places spans ports n port told there) ∙ view_code (spot_to (record { node = n; port = port }) 0 spans)

pub out_there : (places : List Place) (spans : List Span) (ports : List Port) (n port : ℕ) → AreTold places spans ports → IsThere places n port →
    option_map spot_view (port_of ports (record { node = n; port = port })).out ≡ spot_from (record { node = n; port = port }) 0 spans
out_there places spans ports n port told there =
    ap (λ (p : Port). option_map spot_view p.out) (port_there places spans ports n port told there) ∙ view_code (spot_from (record { node = n; port = port }) 0 spans)

-- ---- where a spot leads

record Leads (all : List Span) (end : End) (spot : Spot) (pick : Lane → End) : Type 0 where
  pub is : pick (lane_of spot.dir (span_in all spot.link)) ≡ end
  pub below : spot.link < length all

some_spot : (a b : Spot) → Some a ≡ Some b → a ≡ b
some_spot a b e = ap (λ (o : Option Spot). elim o as (λ _. Spot) [ None ↦ a | Some x ↦ x ]) e

-- where each lane of a span is asked in turn, Forth before Back, for the end that is picked
abbrev IsSought : (Lane → End) → End → (ℕ → List Span → Option Spot) → Type 0
IsSought pick end spot_of = (k : ℕ) (span : Span) (spans : List Span) → spot_of k (span ∷ spans)
    ≡ (if is_same_end (pick span.forth) end then Some (record { link = k; dir = Forth }) else (if is_same_end (pick span.back) end then Some (record { link = k; dir = Back }) else spot_of (k + 1) spans))

leads : (pick : Lane → End) (end : End) (spot_of : ℕ → List Span → Option Spot) → ((k : ℕ) → spot_of k [] ≡ None) → IsSought pick end spot_of →
    (all : List Span) (k : ℕ) (spans : List Span) (spot : Spot) → ((j : ℕ) → span_in all (k + j) ≡ span_in spans j) → k + length spans ≡ length all → spot_of k spans ≡ Some spot → Leads all end spot pick
leads pick end spot_of none sought all k [] spot h long e = absurd (none-some spot (sym (none k) ∙ e))
leads pick end spot_of none sought all k (span ∷ spans) spot h long e =
    by_case (is_same_end (pick span.forth) end) (is_same_end (pick span.back) end) refl refl (sym (sought k span spans) ∙ e) (λ f. leads pick end spot_of none sought all (k + 1) spans spot (others_there all _ k span spans h) (omega (arith, long)) f)
  where
    here : span_in all k ≡ span
    here = first_there all _ k span spans h

    by_case : (f b : Bool) → is_same_end (pick span.forth) end ≡ f → is_same_end (pick span.back) end ≡ b →
        (if f then Some (record { link = k; dir = Forth }) else (if b then Some (record { link = k; dir = Back }) else spot_of (k + 1) spans)) ≡ Some spot →
        (spot_of (k + 1) spans ≡ Some spot → Leads all end spot pick) → Leads all end spot pick
    by_case true b is n found rest = subst (λ (s : Spot). Leads all end s pick) (some_spot _ _ found)
        (record { is = ap (λ (l : Span). pick l.forth) here ∙ end_is (pick span.forth) end is; below = omega (arith, long) })
    by_case false true n is found rest = subst (λ (s : Spot). Leads all end s pick) (some_spot _ _ found)
        (record { is = ap (λ (l : Span). pick l.back) here ∙ end_is (pick span.back) end is; below = omega (arith, long) })
    by_case false false n m found rest = rest found

pub same_spans : (spans : List Span) (j : ℕ) → span_in spans (0 + j) ≡ span_in spans j
same_spans spans = all_there spans _

to_leads : (end : End) (spans : List Span) (spot : Spot) → spot_to end 0 spans ≡ Some spot → Leads spans end spot (λ lane. lane.to)
to_leads end spans spot e = leads (λ lane. lane.to) end (spot_to end) (λ k. refl) (λ k span rest. refl) spans 0 spans spot (same_spans spans) (omega arith) e

from_leads : (end : End) (spans : List Span) (spot : Spot) → spot_from end 0 spans ≡ Some spot → Leads spans end spot (λ lane. lane.from)
from_leads end spans spot e = leads (λ lane. lane.from) end (spot_from end) (λ k. refl) (λ k span rest. refl) spans 0 spans spot (same_spans spans) (omega arith) e

pub spot_to_leads : (end : End) (spans : List Span) (spot : Spot) → spot_to end 0 spans ≡ Some spot → (lane_of spot.dir (span_in spans spot.link)).to ≡ end
spot_to_leads end spans spot e = (to_leads end spans spot e).is

pub spot_from_leads : (end : End) (spans : List Span) (spot : Spot) → spot_from end 0 spans ≡ Some spot → (lane_of spot.dir (span_in spans spot.link)).from ≡ end
spot_from_leads end spans spot e = (from_leads end spans spot e).is

pub spot_to_below : (end : End) (spans : List Span) (spot : Spot) → spot_to end 0 spans ≡ Some spot → spot.link < length spans
spot_to_below end spans spot e = (to_leads end spans spot e).below

pub spot_from_below : (end : End) (spans : List Span) (spot : Spot) → spot_from end 0 spans ≡ Some spot → spot.link < length spans
spot_from_below end spans spot e = (from_leads end spans spot e).below

-- what is in the hand of a direction is what its port holds
hand_from : (end : End) (all : List Span) (k : ℕ) (spans : List Span) → ((j : ℕ) → span_in all (k + j) ≡ span_in spans j) → hand_in all (spot_to end k spans) ≡ held_in end (lanes_of spans)
hand_from end all k [] h = refl
hand_from end all k (span ∷ spans) h = by_case (hand_from end all (k + 1) spans (others_there all _ k span spans h)) (is_same_end span.forth.to end) (is_same_end span.back.to end)
  where
    here : span_in all k ≡ span
    here = first_there all _ k span spans h

    by_case : hand_in all (spot_to end (k + 1) spans) ≡ held_in end (lanes_of spans) → (f b : Bool) →
        hand_in all (if f then Some (record { link = k; dir = Forth }) else (if b then Some (record { link = k; dir = Back }) else spot_to end (k + 1) spans))
        ≡ (if f then span.forth.hand else (if b then span.back.hand else held_in end (lanes_of spans)))
    by_case rest true b = ap (λ (l : Span). l.forth.hand) here
    by_case rest false true = ap (λ (l : Span). l.back.hand) here
    by_case rest false false = rest

pub hand_spot : (spans : List Span) (end : End) → hand_in spans (spot_to end 0 spans) ≡ held_in end (lanes_of spans)
hand_spot spans end = hand_from end spans 0 spans (same_spans spans)

-- and whether it holds one
pub held_spot : (spans : List Span) (end : End) → held_at spans (spot_to end 0 spans) ≡ is_some (held_in end (lanes_of spans))
held_spot spans end = held_by (spot_to end 0 spans) ∙ ap is_some (hand_spot spans end)
  where
    held_by : (spot : Option Spot) → held_at spans spot ≡ is_some (hand_in spans spot)
    held_by None = refl
    held_by (Some spot) = refl
