-- A run is closed: nothing is under way, and what the nodes did, what went over the links and what was sent agree.
--     PutAgrees, TakenAgrees   agreement of a link with the records of the nodes at its ends
--     IsOfSend                 origin of a copy
--     IsClosed                 a closed run
use Rattle.std.specs.Prelude.{ℕ, ◌<◌, ◌≤◌, ◌≡◌, ◌⊎◌, false, [], length, Option, Some, Ok, IsPermutation}
use Rattle.std.specs.List.{AllByRecursion}
use Rattle.std.specs.Option.{option_or}
use Rattle.hsr_duptable.specs.Table.{IsTableSize}
use Rattle.hsr_tag.specs.Seen.{classified}
use Rattle.hsr_tag.specs.Tag.{TaggedFields}
use Rattle.hsr_tag.specs.declared.seen.Seen.TheVariants.{Tagged}
use Rattle.hsr_node.specs.Copies.{plain_in}
use Rattle.hsr_node.specs.Flow.{arrivals, passes, send_at}
use Rattle.hsr_node.specs.declared.sending.Sending.{Sending}
use Rattle.hsr_node.specs.Record.{IsLegal}
use Rattle.hsr_node.specs.declared.event.Carried.{Carried}
use Rattle.hsr_node.specs.declared.event.Probe.{Probe}
use Rattle.hsr_link.specs.declared.row.Dir.{Dir}
use Rattle.hsr_link.specs.declared.row.Row.{Row}
use Rattle.hsr_link.specs.Rows.{is_queued, put_copies, taken_copies}
use Rattle.hsr_run_laws.specs.Run.{Run, ends_of, from_end, given, owner_of, past_of, place_of, rows_of, to_end}

-- ---- agreement

-- the copies that were put on a link in a direction are those that the node at the one end passed there, each as often
abbrev pub PutAgrees : Run → ℕ → Dir → Type 0
PutAgrees run l dir =
    let end = from_end dir (ends_of run l) in
    IsPermutation (passes (owner_of run end.node) end.port (past_of run end.node)) (put_copies dir (rows_of run l))

-- the copies that were taken there are those that came to the node at the other end, each as often
abbrev pub TakenAgrees : Run → ℕ → Dir → Type 0
TakenAgrees run l dir =
    let end = to_end dir (ends_of run l) in
    IsPermutation (taken_copies dir (rows_of run l)) (arrivals end.port (past_of run end.node))

-- ---- origin

-- this entry of this node is a send
abbrev pub IsSend : Run → Probe → Sending → Type 0
IsSend run send sending = (send.node < length run.places) × (send_at (place_of run send.node) send.place (past_of run send.node) ≡ Some sending)

-- the number of a send, or else the one that a RedBox gave it (only a Station's send meets a RedBox at its port 0)
abbrev pub number_of : Run → Probe → Sending → Option ℕ
number_of run send sending = option_or sending.seq (given run send)

-- A copy's probe names a send, and the copy has its addresses, VLAN, type and payload; a tagged copy has its number.
pub record IsOfSend (run : Run) (copy : Carried) : Type 0 where
  pub send : Probe
  pub sending : Sending
  pub named : copy.probe ≡ Some send
  pub is_send : IsSend run send sending
  pub frame : plain_in (classified copy.octets) ≡ Some sending.frame
  pub number : (tagged : TaggedFields) → classified copy.octets ≡ Ok (Tagged tagged) → number_of run send sending ≡ Some tagged.seq

-- ---- closed

-- a row is finished: a node put its copy, which is of a send, and the copy waits no more
pub record IsSettled (run : Run) (row : Row) : Type 0 where
  pub put : row.injected ≡ false
  pub origin : IsOfSend run row.carried
  pub gone : is_queued row.fate ≡ false

-- a link ends at this port
pub record HasLink (run : Run) (node port : ℕ) : Type 0 where
  pub link : ℕ
  pub dir : Dir
  pub below : link < length run.links
  pub ends : to_end dir (ends_of run link) ≡ record { node = node; port = port }

-- Duplicate tables have a size that is allowed; each node has a record and each link its rows; each outcome is what the past
-- of its node answers; links and records agree; each copy is of a send; nothing was injected, and nothing waits on a link;
-- nothing came by a port without one.
pub record IsClosed (run : Run) : Type 0 where
  pub tables : IsTableSize run.capacity
  pub records : length run.records ≡ length run.places
  pub rows : length run.rows ≡ length run.links
  pub legal : (k : ℕ) → k < length run.places → IsLegal run.capacity (owner_of run k) (past_of run k)
  pub put : (l : ℕ) (dir : Dir) → l < length run.links → PutAgrees run l dir
  pub taken : (l : ℕ) (dir : Dir) → l < length run.links → TakenAgrees run l dir
  pub settled : (l : ℕ) → l < length run.links → AllByRecursion (IsSettled run) (rows_of run l)
  pub linked : (k port : ℕ) → k < length run.places → HasLink run k port ⊎ (arrivals port (past_of run k) ≡ [])
