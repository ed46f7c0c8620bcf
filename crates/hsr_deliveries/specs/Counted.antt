-- Deliveries as they are gathered: node by node, and by indexes of sends.
use Rattle.std.specs.Prelude.{ℕ, ◌==◌, ◌&&◌, nat_eq, nat_lt, not, Bool, if◌then◌else◌, List, [], ◌∷◌, ◌++◌, reverse, take, Option, Some, None, option_map, unwrap_or, Vec}
use Rattle.std.specs.Global.{Global}
use Rattle.indexmap.specs.IndexMap.{IndexMap, get}
use Rattle.std.specs.List.{cons_option}
use Rattle.hsr_node.specs.Flow.{sent_by}
use Rattle.hsr_node.specs.declared.event.Probe.{Probe}
use Rattle.hsr_node.specs.declared.place.Place.{Place}
use Rattle.hsr_node.specs.declared.entry.Entry.{Entry}
use Rattle.hsr_run_laws.specs.Run.{Run}
use Rattle.hsr_deliveries.specs.declared.loss.Loss.{Loss}
use Rattle.hsr_deliveries.specs.Delivered.{Delivery, deliveries_in, delivery_of}

-- ---- node by node

-- a send that is due at no node and came to none
abbrev pub delivery_at : Probe → ℕ → List ℕ → List Loss → Delivery
delivery_at send at dst lost = record { send = send; at = at; dst = dst; due = []; missed = []; twice = []; strayed = []; lost = lost }

abbrev pub if_one : Bool → ℕ → List ℕ
if_one is_one k = if is_one then k ∷ [] else []

-- with what became of it at one more node
abbrev pub added : Delivery → ℕ → Bool → ℕ → Delivery
added d k is_due times = record d {
  due = d.due ++ if_one is_due k;
  missed = d.missed ++ if_one (is_due && times == 0) k;
  twice = d.twice ++ if_one (is_due && nat_lt 1 times) k;
  strayed = d.strayed ++ if_one (not is_due && nat_lt 0 times) k;
}

-- ---- indexes, by the node and place of a send

abbrev pub value_of : {V S : Type 0} → IndexMap (ℕ × ℕ) V S → Probe → Option V
value_of values send = get (λ x y. nat_eq x.0 y.0 && nat_eq x.1 y.1) values (send.node, send.place)

-- how often a send was counted
abbrev pub times_in : {S : Type 0} → IndexMap (ℕ × ℕ) ℕ S → Probe → ℕ
times_in counts send = unwrap_or (value_of counts send) 0

abbrev pub items_if : Option (Vec Loss Global) → List Loss
items_if None = []
items_if (Some losses) = losses.items

-- the losses that were kept of a send
abbrev pub losses_in : {S : Type 0} → IndexMap (ℕ × ℕ) (Vec Loss Global) S → Probe → List Loss
losses_in kept send = items_if (value_of kept send)

-- ---- records

-- the sends of the first entries of a record
abbrev pub deliveries_at : Run → ℕ → Place → List Entry → ℕ → List Delivery
deliveries_at run number place xs n = deliveries_in run (record { number = number; place = place }) (reverse (take n xs))

-- what an entry of a node adds to the list
unfoldable pub delivered_by : Run → Probe → Place → Entry → List Delivery
delivered_by run send place x = cons_option (option_map (delivery_of run send x.at) (sent_by place x.event x.outcome)) []
