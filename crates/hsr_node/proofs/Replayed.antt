-- A record that replays to a node is legal, and tells what the node holds.
use Rattle.std.proofs.Common.{◌≡◌, ℕ, List, [], ◌∷◌, max, Result, Ok, Err, sym, subst}
use Rattle.hsr_node.specs.Counts.{counters}
use Rattle.hsr_node.specs.Kept.{Replays}
use Rattle.hsr_node.specs.Record.{IsLegal, answer, now}
use Rattle.hsr_node.specs.Step.{counters_of, danh_step, new_node, node_step, quadbox_step, redbox_step}
use Rattle.hsr_node.specs.Station.{station_step}
use Rattle.hsr_node.specs.declared.entry.Entry.{Entry}
use Rattle.hsr_node.specs.declared.event.Event.{Event}
use Rattle.hsr_node.specs.declared.event.Outcome.{Outcome}
use Rattle.hsr_node.specs.declared.event.StepFault.{StepFault}
use Rattle.hsr_node.specs.declared.node.Node.{Node}
use Rattle.hsr_node.specs.declared.node.Node.TheVariants as node
use Rattle.hsr_node.specs.declared.place.Place.{Place}
use Rattle.hsr_node.specs.declared.place.Place.TheVariants as place
use Rattle.hsr_node.proofs.OfDanh as danh
use Rattle.hsr_node.proofs.OfQuadBox as quadbox
use Rattle.hsr_node.proofs.OfRedBox as redbox
use Rattle.hsr_node.proofs.OfStation as station
use Rattle.hsr_node.proofs.Told.{Call, Keeps, Stays, entry_of}

-- what a node at a place holds is told by a record
abbrev pub Held : (capacity number : ℕ) → Place → Node capacity → List Entry → Type 0
Held capacity number (place.Danh mac mode) (node.Danh machine) past = danh.Held capacity number mac mode machine past
Held capacity number (place.RedBox mac mode) (node.RedBox machine) past = redbox.Held capacity number mac mode machine past
Held capacity number place.QuadBox (node.QuadBox machine) past = quadbox.Held capacity number machine past
Held capacity number (place.Station macs) (node.Station machine) past = station.Held macs machine past
Held capacity number _ _ past = ⊥

-- a node of some kind stays told where its machine does
stays : {M N : Type 0} (Inner : M → List Entry → Type 0) (Outer : N → List Entry → Type 0) (wrap : M → N) (past : List Entry) (call : Call) (r : Result Outcome StepFault) (machine : M)
    → ((xs : List Entry) → Inner machine xs → Outer (wrap machine) xs)
    → Stays Inner past call r machine → Stays Outer past call r (wrap machine)
stays Inner Outer wrap past call (Ok outcome) machine f h = f (entry_of call outcome ∷ past) h
stays Inner Outer wrap past call (Err fault) machine f h = f past h

begins : (capacity number : ℕ) (p : Place) → Held capacity number p (new_node capacity p) []
begins capacity number (place.Danh mac mode) = danh.begins-held capacity number mac mode
begins capacity number (place.RedBox mac mode) = redbox.begins-held capacity number mac mode
begins capacity number place.QuadBox = quadbox.begins-held capacity number
begins capacity number (place.Station macs) = station.begins-held macs

keeps : (capacity number : ℕ) (p : Place) (n : Node capacity) (past : List Entry) (worker at : ℕ) (event : Event) → Held capacity number p n past
    → Keeps capacity (record { number = number; place = p }) (Held capacity number p) past (record { worker = worker; at = at; event = event }) (node_step capacity n at event)
keeps capacity number (place.Danh mac mode) (node.Danh machine) past worker at event h =
    let call : Call = record { worker = worker; at = at; event = event } in
    let s = danh_step capacity machine at event in
    let k = danh.keeps-held capacity number mac mode machine past worker at event h in
    (k.0, stays (danh.Held capacity number mac mode) (Held capacity number (place.Danh mac mode)) node.Danh past call s.0 s.1 (λ xs inner. inner) k.1)
keeps capacity number (place.RedBox mac mode) (node.RedBox machine) past worker at event h =
    let call : Call = record { worker = worker; at = at; event = event } in
    let s = redbox_step capacity machine at event in
    let k = redbox.keeps-held capacity number mac mode machine past worker at event h in
    (k.0, stays (redbox.Held capacity number mac mode) (Held capacity number (place.RedBox mac mode)) node.RedBox past call s.0 s.1 (λ xs inner. inner) k.1)
keeps capacity number place.QuadBox (node.QuadBox machine) past worker at event h =
    let call : Call = record { worker = worker; at = at; event = event } in
    let s = quadbox_step capacity machine at event in
    let k = quadbox.keeps-held capacity number machine past worker at event h in
    (k.0, stays (quadbox.Held capacity number) (Held capacity number place.QuadBox) node.QuadBox past call s.0 s.1 (λ xs inner. inner) k.1)
keeps capacity number (place.Station macs) (node.Station machine) past worker at event h =
    let call : Call = record { worker = worker; at = at; event = event } in
    let s = station_step machine at event in
    let k = station.keeps-held capacity number macs machine past worker at event h in
    (k.0, stays (station.Held macs) (Held capacity number (place.Station macs)) node.Station past call s.0 s.1 (λ xs inner. inner) k.1)
keeps capacity number (place.Danh mac mode) (node.RedBox machine) past worker at event h = elim h [ ]
keeps capacity number (place.Danh mac mode) (node.QuadBox machine) past worker at event h = elim h [ ]
keeps capacity number (place.Danh mac mode) (node.Station machine) past worker at event h = elim h [ ]
keeps capacity number (place.RedBox mac mode) (node.Danh machine) past worker at event h = elim h [ ]
keeps capacity number (place.RedBox mac mode) (node.QuadBox machine) past worker at event h = elim h [ ]
keeps capacity number (place.RedBox mac mode) (node.Station machine) past worker at event h = elim h [ ]
keeps capacity number place.QuadBox (node.Danh machine) past worker at event h = elim h [ ]
keeps capacity number place.QuadBox (node.RedBox machine) past worker at event h = elim h [ ]
keeps capacity number place.QuadBox (node.Station machine) past worker at event h = elim h [ ]
keeps capacity number (place.Station macs) (node.Danh machine) past worker at event h = elim h [ ]
keeps capacity number (place.Station macs) (node.RedBox machine) past worker at event h = elim h [ ]
keeps capacity number (place.Station macs) (node.QuadBox machine) past worker at event h = elim h [ ]

pub counters-told : (capacity number : ℕ) (p : Place) (n : Node capacity) (past : List Entry) → Held capacity number p n past → counters_of capacity n ≡ counters p past
counters-told capacity number (place.Danh mac mode) (node.Danh machine) past h = danh.counters-held capacity number mac mode machine past h
counters-told capacity number (place.RedBox mac mode) (node.RedBox machine) past h = redbox.counters-held capacity number mac mode machine past h
counters-told capacity number place.QuadBox (node.QuadBox machine) past h = quadbox.counters-held capacity number machine past h
counters-told capacity number (place.Station macs) (node.Station machine) past h = station.counters-held macs machine past h
counters-told capacity number (place.Danh mac mode) (node.RedBox machine) past h = elim h [ ]
counters-told capacity number (place.Danh mac mode) (node.QuadBox machine) past h = elim h [ ]
counters-told capacity number (place.Danh mac mode) (node.Station machine) past h = elim h [ ]
counters-told capacity number (place.RedBox mac mode) (node.Danh machine) past h = elim h [ ]
counters-told capacity number (place.RedBox mac mode) (node.QuadBox machine) past h = elim h [ ]
counters-told capacity number (place.RedBox mac mode) (node.Station machine) past h = elim h [ ]
counters-told capacity number place.QuadBox (node.Danh machine) past h = elim h [ ]
counters-told capacity number place.QuadBox (node.RedBox machine) past h = elim h [ ]
counters-told capacity number place.QuadBox (node.Station machine) past h = elim h [ ]
counters-told capacity number (place.Station macs) (node.Danh machine) past h = elim h [ ]
counters-told capacity number (place.Station macs) (node.RedBox machine) past h = elim h [ ]
counters-told capacity number (place.Station macs) (node.QuadBox machine) past h = elim h [ ]

pub told : (capacity number : ℕ) (p : Place) (n : Node capacity) (past : List Entry) → Replays capacity p past n
    → IsLegal capacity (record { number = number; place = p }) past × Held capacity number p n past
unfolding IsLegal
told capacity number p n [] e = (record {}, subst (λ (m : Node capacity). Held capacity number p m []) (sym e) (begins capacity number p))
told capacity number p n (x ∷ past) r =
    let below = told capacity number p r.0 past r.1 in
    let k : Keeps capacity (record { number = number; place = p }) (Held capacity number p) past (record { worker = x.worker; at = x.at; event = x.event }) (Ok x.outcome, n)
    = subst (λ (s : Result Outcome StepFault × Node capacity). Keeps capacity (record { number = number; place = p }) (Held capacity number p) past (record { worker = x.worker; at = x.at; event = x.event }) s) r.2
    (keeps capacity number p r.0 past x.worker x.at x.event below.1) in
    ((k.0, below.0), k.1)

-- what a record answers is what the node answers that it replays to
pub answers : (capacity number : ℕ) (p : Place) (n : Node capacity) (past : List Entry) (at : ℕ) (event : Event) → Replays capacity p past n
    → answer capacity (record { number = number; place = p }) past (max (now past) at) event ≡ (node_step capacity n at event).0
answers capacity number p n past at event r = (keeps capacity number p n past 0 at event (told capacity number p n past r).1).0
