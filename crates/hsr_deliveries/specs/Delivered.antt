-- Who got what in a finished run: of each send the nodes that it was due at, what became of it there, and where copies of it
-- were lost.
--     is_due        a send is due at a node
--     times         how often a node took a send up
--     lost          the losses of a send
--     delivery_of   all that is told of a send
--     deliveries    that of each send, by node and place
--     IsComplete    each node that a send is due at took it up once, and no other did
use Rattle.std.specs.Prelude.{ℕ, zero, suc, ◌≡◌, ◌==◌, ◌&&◌, nat_lt, not, Bool, true, false, if◌then◌else◌, List, [], ◌∷◌, ◌++◌, length, filter, filter_map, count_by, Option, Some, None, option_map}
use Rattle.std.specs.List.{AllByRecursion, cons_option, range_with_len}
use Rattle.hsr_frame.specs.Address.{is_group}
use Rattle.hsr_frame.specs.Egress.{is_supervision}
use Rattle.hsr_node.specs.Flow.{sent_by}
use Rattle.hsr_node.specs.Record.{Owner}
use Rattle.hsr_node.specs.declared.entry.Entry.{Entry}
use Rattle.hsr_node.specs.declared.event.Probe.{Probe}
use Rattle.hsr_node.specs.declared.place.Place.{Place}
use Rattle.hsr_node.specs.declared.place.Place.TheVariants.{Danh, RedBox, QuadBox, Station}
use Rattle.hsr_node.specs.declared.sending.Sending.{Sending}
use Rattle.hsr_node.specs.Place.{owns}
use Rattle.hsr_link.specs.Rows.{is_lost}
use Rattle.hsr_link.specs.declared.row.Row.{Row}
use Rattle.hsr_run_laws.specs.Closed.{IsClosed}
use Rattle.hsr_run_laws.specs.Once.{IsExactlyOnce, delivers}
use Rattle.hsr_run_laws.specs.Premises.{IsRing}
use Rattle.hsr_run_laws.specs.Run.{Run, is_of, owner_of, past_of, place_of, record_of, rows_of}
use Rattle.hsr_deliveries.specs.declared.loss.Loss.{Loss}

-- ---- due

-- frames to groups are for DANHs, RedBoxes and Stations; a supervision frame is for no Station
abbrev pub takes_groups : Place → List ℕ → ℕ → Bool
takes_groups (Danh mac mode) dst ethertype = true
takes_groups (RedBox mac mode) dst ethertype = true
takes_groups QuadBox dst ethertype = false
takes_groups (Station macs) dst ethertype = not (is_supervision dst ethertype)

-- a frame of this destination and type is for a node
abbrev pub is_for : Place → List ℕ → ℕ → Bool
is_for place dst ethertype = if is_group dst then takes_groups place dst ethertype else owns place dst

-- a send of one node is due at another that it is for, whatever modes, links and cuts there are
abbrev pub is_due : Run → ℕ → List ℕ → ℕ → ℕ → Bool
is_due run sender dst ethertype k = not (k == sender) && is_for (place_of run k) dst ethertype

-- ---- took up

-- how often a node took a send up: the arrivals of it that went up
abbrev pub times : Run → Probe → ℕ → ℕ
times run send k = count_by (delivers send) (record_of run k)

-- ---- lost

-- a row of a link, if it is of a lost copy of a send
abbrev pub loss_of : Probe → ℕ → Row → Option Loss
loss_of send link row = if is_lost row.fate && is_of send row.carried.probe then Some (record { link = link; dir = row.dir; fate = row.fate }) else None

-- the losses of a send on the links below one, by link, then by index on the link
abbrev pub lost_below : Run → Probe → ℕ → List Loss
lost_below run send zero = []
lost_below run send (suc link) = lost_below run send link ++ filter_map (loss_of send link) (rows_of run link)

abbrev pub lost : Run → Probe → List Loss
lost run send = lost_below run send (length run.links)

-- ---- the delivery of a send

pub record Delivery : Type 0 where
  pub send : Probe
  pub at : ℕ
  pub dst : List ℕ
  pub due : List ℕ
  pub missed : List ℕ
  pub twice : List ℕ
  pub strayed : List ℕ
  pub lost : List Loss

-- the nodes below one that pass a test, rising
abbrev pub nodes_below : ℕ → (ℕ → Bool) → List ℕ
nodes_below n test = filter test (range_with_len 0 n)

-- a node that a send is due at didn't take it up, or did more than once; or it did, and the send isn't due there
abbrev pub is_missed : Run → Probe → List ℕ → ℕ → ℕ → Bool
is_missed run send dst ethertype k = is_due run send.node dst ethertype k && times run send k == 0

abbrev pub is_twice : Run → Probe → List ℕ → ℕ → ℕ → Bool
is_twice run send dst ethertype k = is_due run send.node dst ethertype k && nat_lt 1 (times run send k)

abbrev pub is_strayed : Run → Probe → List ℕ → ℕ → ℕ → Bool
is_strayed run send dst ethertype k = not (is_due run send.node dst ethertype k) && nat_lt 0 (times run send k)

-- all that is told of a send at a moment, as that was given, by the nodes below one
abbrev pub delivery_below : Run → Probe → ℕ → List ℕ → ℕ → ℕ → Delivery
delivery_below run send at dst ethertype n = record {
  send = send;
  at = at;
  dst = dst;
  due = nodes_below n (is_due run send.node dst ethertype);
  missed = nodes_below n (is_missed run send dst ethertype);
  twice = nodes_below n (is_twice run send dst ethertype);
  strayed = nodes_below n (is_strayed run send dst ethertype);
  lost = lost run send;
}

abbrev pub delivery_of : Run → Probe → ℕ → Sending → Delivery
delivery_of run send at sending = delivery_below run send at sending.frame.dst sending.frame.kind (length run.places)

-- ---- all sends

-- an entry on this past, if it is a send
abbrev pub delivery_by : Run → Owner → Entry → List Entry → Option Delivery
delivery_by run owner x past =
    option_map (delivery_of run (record { node = owner.number; place = length past }) x.at) (sent_by owner.place x.event x.outcome)

-- the sends of a record, by their places
abbrev pub deliveries_in : Run → Owner → List Entry → List Delivery
deliveries_in run owner [] = []
deliveries_in run owner (x ∷ past) = deliveries_in run owner past ++ cons_option (delivery_by run owner x past) []

-- the sends of the nodes below one, by node and place
abbrev pub deliveries_below : Run → ℕ → List Delivery
deliveries_below run zero = []
deliveries_below run (suc k) = deliveries_below run k ++ deliveries_in run (owner_of run k) (past_of run k)

abbrev pub deliveries : Run → List Delivery
deliveries run = deliveries_below run (length run.places)

-- ---- complete

abbrev pub is_none : List ℕ → Bool
is_none [] = true
is_none (k ∷ ks) = false

-- nothing is missed, twice or strayed; losses alone leave a send complete
abbrev pub is_complete : Delivery → Bool
is_complete d = is_none d.missed && is_none d.twice && is_none d.strayed

pub record IsComplete (d : Delivery) : Type 0 where
  pub missed : d.missed ≡ []
  pub twice : d.twice ≡ []
  pub strayed : d.strayed ≡ []

abbrev pub AreComplete : Run → Type 0
AreComplete run = AllByRecursion IsComplete (deliveries run)

-- Where a ring delivered each frame exactly once, each send is complete.
abbrev pub OnceIsComplete : Type 0
OnceIsComplete = (run : Run) (macs : List (List ℕ)) → IsClosed run → IsRing run macs → IsExactlyOnce run macs → AreComplete run
