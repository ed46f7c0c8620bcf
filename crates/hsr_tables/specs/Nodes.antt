-- What a contract sees of a `NodeTable`, and what it stands for.
use Rattle.std.specs.Prelude.{◌≡◌, ℕ, ◌&&◌, Bool, true, false, List, [], ◌∷◌, filter, find, fold, map, reverse, Option, Some, Result, Ok, Err, if◌then◌else◌}
use Rattle.std.specs.List.{list_any}
use Rattle.std.specs.Option.{option_and_then, option_map}
use Rattle.hsr_frame.specs.Address.{is_same_address}
use Rattle.hsr_frame.specs.declared.node.RingPort.{RingPort}
use Rattle.hsr_frame.specs.declared.node.RingPort.TheVariants.{A, B}
use Rattle.hsr_supervision.specs.Payload.{Fields, read_of}
use Rattle.hsr_supervision.specs.declared.payload.SupFault.{SupFault}
use Rattle.hsr_tables.specs.declared.nodes.NodeRow.{NodeRow}
use Rattle.hsr_tables.specs.Known.{is_young, known, latest_heard, put_first}

-- the rows, each with the moment of its latest hearing, and the latest moment of all
pub record Nodes : Type 0 where
  pub rows : List (NodeRow × ℕ)
  pub last : ℕ

abbrev pub no_nodes : Nodes
no_nodes = record { rows = []; last = 0 }

-- a payload was heard on a port at a moment
pub record Hearing : Type 0 where
  pub said : Fields
  pub port : RingPort
  pub at : ℕ

-- what a payload that could be read tells
abbrev pub hearing_if : RingPort → ℕ → Result Fields SupFault → List Hearing
hearing_if x now (Ok said) = record { said = said; port = x; at = now } ∷ []
hearing_if x now (Err fault) = []

-- ---- a step of the table

-- the row of an address, if it is known
abbrev pub known_row : ℕ → List ℕ → List (NodeRow × ℕ) → Option (NodeRow × ℕ)
known_row at mac rows = find (λ r. is_same_address r.0.mac mac && is_young at r.1) rows

-- the row of a hearing: the other port keeps what it had
abbrev pub row_on : RingPort → Hearing → Option (NodeRow × ℕ) → NodeRow
row_on A h earlier = record { mac = h.said.about; kind = h.said.kind; redbox = h.said.redbox; heard_a = Some h.at; heard_b = option_and_then (λ r. r.0.heard_b) earlier }
row_on B h earlier = record { mac = h.said.about; kind = h.said.kind; redbox = h.said.redbox; heard_a = option_and_then (λ r. r.0.heard_a) earlier; heard_b = Some h.at }

abbrev pub heard : Nodes → Hearing → Nodes
heard table h = record {
  rows = put_first (λ r. r.0.mac) (row_on h.port h (known_row h.at h.said.about table.rows), h.at) table.rows;
  last = h.at;
}

-- whether a payload could be read, and the table after it
abbrev pub heard_if : Nodes → RingPort → ℕ → Result Fields SupFault → Bool × Nodes
heard_if table port at (Ok said) = (true, heard table (record { said = said; port = port; at = at }))
heard_if table port at (Err fault) = (false, table)

abbrev pub listened : Nodes → List ℕ → RingPort → ℕ → Bool × Nodes
listened table payload port at = heard_if table port at (read_of payload)

-- ---- what the rows stand for, over hearings that have the latest first

-- whether an address is known at a moment
abbrev pub is_known : ℕ → List ℕ → List Hearing → Bool
is_known at mac past = list_any (λ h. is_same_address h.said.about mac && is_young at h.at) (latest_heard (λ h. h.said.about) past)

-- the longest run of last hearings of an address in which each but the first found the address known
abbrev pub last_run : List ℕ → List Hearing → List Hearing
last_run mac [] = []
last_run mac (h ∷ past) =
    if is_same_address h.said.about mac then h ∷ (if is_known h.at mac past then last_run mac past else []) else last_run mac past

abbrev pub is_on : RingPort → RingPort → Bool
is_on A A = true
is_on A B = false
is_on B A = false
is_on B B = true

-- the moment of the latest of them on a port
abbrev pub latest_on : RingPort → List Hearing → Option ℕ
latest_on port run = option_map (λ h. h.at) (find (λ h. is_on port h.port) run)

-- the row of an address, by its latest hearing
abbrev pub row_after : List Hearing → Hearing → NodeRow
row_after past h = record {
  mac = h.said.about;
  kind = h.said.kind;
  redbox = h.said.redbox;
  heard_a = latest_on A (last_run h.said.about past);
  heard_b = latest_on B (last_run h.said.about past);
}

-- the rows of the nodes that are known at a moment: of the `row_limit` addresses with the latest hearings those that aren't forgotten
abbrev pub rows_known : List Hearing → ℕ → List NodeRow
rows_known past at = map (row_after past) (filter (λ h. is_young at h.at) (latest_heard (λ h. h.said.about) past))

-- Over any list of hearings a table has the rows of the `row_limit` addresses with the latest hearings, the latest
-- first, of these the ones that were heard less than `node_forget` microseconds ago.
abbrev pub RowsOfLatest : Type 0
RowsOfLatest = (hearings : List Hearing) (at : ℕ)
    → map (λ r. r.0) (known at (fold heard no_nodes hearings).rows) ≡ rows_known (reverse hearings) at
