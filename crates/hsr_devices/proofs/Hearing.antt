-- What a record lets its node know.
use Rattle.std.proofs.Common.{◌≡◌, inl, inr, ℕ, ◌≤◌, Bool, true, false, cond, List, [], ◌∷◌, map, reverse, Option, Some, None, Result, Ok, Err, refl, sym, ap, ◌∙◌, arith}
use Rattle.std.specs.Prelude.{fold}
use Rattle.std.proofs.lemmas.List.{reverse-reverse}
use Rattle.std.proofs.Math.Nat.{le-max_left}
use Rattle.hsr_frame.specs.declared.fault.FrameFault.{FrameFault}
use Rattle.hsr_frame.specs.declared.node.RingPort.{RingPort}
use Rattle.hsr_tag.specs.Seen.{classified, is_told, payload_in}
use Rattle.hsr_tag.specs.declared.seen.Seen.{Seen}
use Rattle.hsr_supervision.specs.Payload.{Fields as Said, read_of}
use Rattle.hsr_supervision.specs.declared.payload.SupFault.{SupFault}
use Rattle.hsr_tables.specs.Known.{known, latest_heard}
use Rattle.hsr_tables.specs.Nodes.{Hearing, Nodes, heard as node_heard, heard_if, hearing_if, listened, no_nodes}
use Rattle.hsr_forwarding.specs.Arrival.{heard_of}
use Rattle.hsr_tables.specs.Proxies.{Proxies}
use Rattle.hsr_tables.specs.declared.nodes.NodeRow.{NodeRow}
use Rattle.hsr_tables.proofs.NodeLaws.{rows_of_latest}
use Rattle.hsr_tables.proofs.ProxyLaws.{knows_latest}
use Rattle.hsr_node.specs.Copies.{ring_address}
use Rattle.hsr_node.specs.Record.{heard, hearing_by, hearings, hearings_from, hears_on, now, rows}
use Rattle.hsr_node.specs.declared.entry.Entry.{Entry}
use Rattle.hsr_node.specs.declared.event.Event.{Event}
use Rattle.hsr_node.specs.declared.event.Event.TheVariants.{Send, Supervise, Arrive, Age}
use Rattle.hsr_node.specs.declared.place.Place.{Place}
use Rattle.hsr_node.specs.declared.place.Place.TheVariants.{Danh, RedBox, QuadBox, Station}
use Rattle.hsr_table_demand.specs.Read.{stations_of}
use Rattle.hsr_table_demand.proofs.Hearing.{IsOne, folded as stations_folded, one_folded, one_last}
use Rattle.hsr_devices.specs.Known.{hears_with, nodes_of, stations_known, with_own}

-- an entry lets hear one node at most, at its moment
abbrev IsOneNode : ℕ → List Hearing → Type 0
IsOneNode at hs = IsOne Hearing (λ h. h.at) at hs

one_said : (x : RingPort) (at : ℕ) (said : Result Said SupFault) → IsOneNode at (hearing_if x at said)
one_said x at (Ok said) = inr (record { said = said; port = x; at = at }, refl, refl)
one_said x at (Err fault) = inl refl

one_by : (own : Option (List ℕ)) (port : Option RingPort) (at : ℕ) (seen : Result Seen FrameFault) → IsOneNode at (hearing_by own port at seen)
one_by None port at seen = inl refl
one_by (Some own) None at seen = inl refl
one_by (Some own) (Some x) at seen = by_told (is_told own seen)
  where
    by_told : (b : Bool) → IsOneNode at (cond b (hearing_if x at (read_of (payload_in seen))) [])
    by_told true = one_said x at (read_of (payload_in seen))
    by_told false = inl refl

one_from : (place : Place) (at : ℕ) (event : Event) → IsOneNode at (hearings_from place at event)
one_from place at (Arrive port copy) = one_by (ring_address place) (hears_on place port) at (classified copy.octets)
one_from place at (Send from dst vlan kind payload) = inl refl
one_from place at (Supervise about) = inl refl
one_from place at Age = inl refl

folded : (place : Place) (past : List Entry) → nodes_of place past ≡ fold node_heard no_nodes (reverse (hearings place past))
folded place [] = refl
folded place (x ∷ past) =
    let at = now (x ∷ past) in
    one_folded Nodes Hearing (λ h. h.at) at node_heard no_nodes (nodes_of place past) (hearings_from place at x.event) (hearings place past) (one_from place at x.event) (folded place past)

-- the rows of a table that heard a record are those that the record lets know
pub rows_same : (place : Place) (past : List Entry) (at : ℕ) → map (λ r. r.0) (known at (nodes_of place past).rows) ≡ rows place past at
rows_same place past at =
    let F : Nodes → List NodeRow = λ n. map (λ r. r.0) (known at n.rows) in
    ap F (folded place past) ∙ (rows_of_latest (reverse (hearings place past)) at ∙ ap (λ (hs : List Hearing). Rattle.hsr_tables.specs.Nodes.rows_known hs at) (reverse-reverse (hearings place past)))

pub nodes_last : (place : Place) (past : List Entry) → (nodes_of place past).last ≤ now past
nodes_last place [] = omega arith
nodes_last place (x ∷ past) =
    let at = now (x ∷ past) in
    one_last Nodes Hearing (λ h. h.at) (now past) at node_heard (λ n. n.last) (nodes_of place past) (hearings_from place at x.event) (λ n h. refl) (one_from place at x.event) (nodes_last place past) (le-max_left (now past) x.at)

-- what a node table hears of an arrival
heard_here : (own : List ℕ) (x : RingPort) (at : ℕ) (seen : Result Seen FrameFault) (nodes : Nodes) → (heard_of own nodes x seen at).1 ≡ fold node_heard nodes (hearing_by (Some own) (Some x) at seen)
heard_here own x at seen nodes = by_told (is_told own seen)
  where
    by_said : (said : Result Said SupFault) → (heard_if nodes x at said).1 ≡ fold node_heard nodes (hearing_if x at said)
    by_said (Ok said) = refl
    by_said (Err fault) = refl

    by_told : (b : Bool) → (cond b (listened nodes (payload_in seen) x at) (true, nodes)).1 ≡ fold node_heard nodes (cond b (hearing_if x at (read_of (payload_in seen))) [])
    by_told true = by_said (read_of (payload_in seen))
    by_told false = refl

pub heard_with : (place : Place) (port : ℕ) (own : List ℕ) (x : RingPort) (at : ℕ) (seen : Result Seen FrameFault) (nodes : Nodes) → hears_with place port ≡ Some (own, x) →
    (heard_of own nodes x seen at).1 ≡ fold node_heard nodes (hearing_by (ring_address place) (hears_on place port) at seen)
heard_with place port own x at seen nodes is = by_port place (hears_on place port) is
  where
    own_of : Option (List ℕ × RingPort) → List ℕ
    own_of None = own
    own_of (Some one) = one.0

    port_of : Option (List ℕ × RingPort) → RingPort
    port_of None = x
    port_of (Some one) = one.1

    of_own : (mac : List ℕ) (y : RingPort) → mac ≡ own → y ≡ x → (heard_of own nodes x seen at).1 ≡ fold node_heard nodes (hearing_by (Some mac) (Some y) at seen)
    of_own mac y one other =
        heard_here own x at seen nodes ∙ sym (ap (λ (m : List ℕ). fold node_heard nodes (hearing_by (Some m) (Some y) at seen)) one ∙ ap (λ (z : RingPort). fold node_heard nodes (hearing_by (Some own) (Some z) at seen)) other)

    by_port : (p : Place) (o : Option RingPort) → with_own p o ≡ Some (own, x) → (heard_of own nodes x seen at).1 ≡ fold node_heard nodes (hearing_by (ring_address p) o at seen)
    by_port p None e = absurd cc
    by_port (Danh mac mode) (Some y) e = of_own mac y (ap own_of e) (ap port_of e)
    by_port (RedBox mac mode) (Some y) e = of_own mac y (ap own_of e) (ap port_of e)
    by_port QuadBox (Some y) e = absurd cc
    by_port (Station macs) (Some y) e = absurd cc

-- an event that is no arrival is heard by none, and one at another port neither
pub heard_nothing : (place : Place) (port at : ℕ) (seen : Result Seen FrameFault) → hears_with place port ≡ None → hearing_by (ring_address place) (hears_on place port) at seen ≡ []
heard_nothing place port at seen is = by_port place (hears_on place port) is
  where
    by_port : (p : Place) (o : Option RingPort) → with_own p o ≡ None → hearing_by (ring_address p) o at seen ≡ []
    by_port (Danh mac mode) None e = refl
    by_port (Danh mac mode) (Some y) e = absurd cc
    by_port (RedBox mac mode) None e = refl
    by_port (RedBox mac mode) (Some y) e = absurd cc
    by_port QuadBox None e = refl
    by_port QuadBox (Some y) e = refl
    by_port (Station macs) None e = refl
    by_port (Station macs) (Some y) e = refl

-- the stations that a table has of a record are those that the record lets know
pub stations_same : (place : Place) (past : List Entry) → known (now past) (stations_of place past).heard ≡ stations_known place past
stations_same place past =
    let at = now past in
    ap (λ (s : Proxies). known at s.heard) (stations_folded place past)
    ∙ (knows_latest (reverse (heard place past)) at ∙ ap (λ (hs : List (List ℕ × ℕ)). known at (latest_heard (λ h. h.0) hs)) (reverse-reverse (heard place past)))
