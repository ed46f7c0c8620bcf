-- What a node holds is what its record tells.
use Rattle.std.specs.Prelude.{ℕ, ◌≡◌, ◌≤◌, List, map}
use Rattle.hsr_frame.specs.Egress.{Egress, up, a, b, c, d}
use Rattle.hsr_duptable.specs.Notes.{unexpired_notes, entry_forget}
use Rattle.hsr_duptable.specs.Table.{Table}
use Rattle.hsr_tables.specs.Known.{known, latest_heard}
use Rattle.hsr_danh.specs.Machine as danh
use Rattle.hsr_redbox.specs.Machine as redbox
use Rattle.hsr_quadbox.specs.Machine as quadbox
use Rattle.hsr_node.specs.Counts.{counters}
use Rattle.hsr_node.specs.Kept.{Replays}
use Rattle.hsr_node.specs.Record.{Owner, heard, next_number, notes, now, oldest_first, remembered, rows}
use Rattle.hsr_node.specs.Station as station
use Rattle.hsr_node.specs.declared.entry.Entry.{Entry}
use Rattle.hsr_node.specs.declared.node.Node.{Node}
use Rattle.hsr_node.specs.declared.node.Node.TheVariants.{Danh, RedBox, QuadBox, Station}

-- what a table holds unexpired is what the record remembers of an egress
abbrev pub IsRemembered : ℕ → Owner → List Entry → Egress → Table → Type 0
IsRemembered capacity owner past e table =
    (at : ℕ) → now past ≤ at → unexpired_notes entry_forget at table.notes ≡ oldest_first (remembered capacity at (notes owner e past))

pub record DanhHolds (capacity : ℕ) (owner : Owner) (past : List Entry) (machine : danh.Machine) : Type 0 where
  pub on_up : IsRemembered capacity owner past up machine.notes.up
  pub on_a : IsRemembered capacity owner past a machine.notes.a
  pub on_b : IsRemembered capacity owner past b machine.notes.b
  -- the nodes that are known
  pub nodes : (at : ℕ) → map (λ r. r.0) (known at machine.nodes.rows) ≡ rows owner.place past at
  pub next : machine.next ≡ next_number past
  pub moment : machine.moment ≡ now past
  pub counted : machine.counters ≡ counters owner.place past

pub record RedBoxHolds (capacity : ℕ) (owner : Owner) (past : List Entry) (machine : redbox.Machine) : Type 0 where
  pub on_up : IsRemembered capacity owner past up machine.notes.up
  pub on_a : IsRemembered capacity owner past a machine.notes.a
  pub on_b : IsRemembered capacity owner past b machine.notes.b
  pub on_interlink : IsRemembered capacity owner past c machine.notes.c
  pub nodes : (at : ℕ) → map (λ r. r.0) (known at machine.nodes.rows) ≡ rows owner.place past at
  -- the addresses that are known on the interlink
  pub stations : (at : ℕ) → known at machine.proxies.heard ≡ known at (latest_heard (λ h. h.0) (heard owner.place past))
  pub next : machine.next ≡ next_number past
  pub moment : machine.moment ≡ now past
  pub counted : machine.counters ≡ counters owner.place past

pub record QuadBoxHolds (capacity : ℕ) (owner : Owner) (past : List Entry) (machine : quadbox.Machine) : Type 0 where
  pub on_a : IsRemembered capacity owner past a machine.notes.a
  pub on_b : IsRemembered capacity owner past b machine.notes.b
  pub on_c : IsRemembered capacity owner past c machine.notes.c
  pub on_d : IsRemembered capacity owner past d machine.notes.d
  pub moment : machine.moment ≡ now past
  pub counted : machine.counters ≡ counters owner.place past

pub record StationHolds (owner : Owner) (past : List Entry) (machine : station.Machine) : Type 0 where
  pub moment : machine.moment ≡ now past
  pub counted : machine.counters ≡ counters owner.place past

abbrev pub Holds : (capacity : ℕ) → Owner → List Entry → Node capacity → Type 0
Holds capacity owner past (Danh machine) = DanhHolds capacity owner past machine
Holds capacity owner past (RedBox machine) = RedBoxHolds capacity owner past machine
Holds capacity owner past (QuadBox machine) = QuadBoxHolds capacity owner past machine
Holds capacity owner past (Station machine) = StationHolds owner past machine

-- A node to which a record replays remembers, of that record, the youngest unexpired passed frames up to the capacity of its
-- tables, knows whom the record lets it know, and has the record's next number, moment and counters.
abbrev pub HoldsWhatIsTold : ℕ → Type 0
HoldsWhatIsTold capacity = (owner : Owner) (past : List Entry) (node : Node capacity) → Replays capacity owner.place past node → Holds capacity owner past node
