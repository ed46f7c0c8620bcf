-- What a ring is, and what has to hold of a run for each frame to come once.
--     IsRing             a ring of DANHs in modes H and U
--     OneLossyLink       one lossy link
--     NothingForgotten   nothing forgotten
--     NothingMistaken    nothing mistaken
--     NumberedFirst      a RedBox numbers a frame of its Station before it hears of it
use Rattle.std.specs.Prelude.{ℕ, ◌+◌, ◌%◌, ◌<◌, ◌≤◌, ◌≡◌, ◌⊎◌, ◌&&◌, not, Bool, true, false, List, [], ◌∷◌, length, slice_index_or, Option, Some, None, option_map, unwrap_or}
use Rattle.std.specs.List.{list_any}
use Rattle.hsr_frame.specs.Address.{is_group}
use Rattle.hsr_frame.specs.Egress.{Egress}
use Rattle.hsr_frame.specs.declared.node.Mode.TheVariants.{H, U}
use Rattle.hsr_duptable.specs.Key.{Key, is_same_key}
use Rattle.hsr_tag.specs.Seen.{classified}
use Rattle.hsr_node.specs.Copies.{is_ring, side_of}
use Rattle.hsr_node.specs.Flow.{wants}
use Rattle.hsr_node.specs.declared.sending.Sending.{Sending}
use Rattle.hsr_node.specs.Record.{Each, Noted, Owner, key_in, knows, notes, now, remembered}
use Rattle.hsr_node.specs.declared.entry.Entry.{Entry}
use Rattle.hsr_node.specs.declared.event.Event.{Event}
use Rattle.hsr_node.specs.declared.event.Event.TheVariants.{Arrive}
use Rattle.hsr_node.specs.declared.event.Outcome.{Outcome}
use Rattle.hsr_node.specs.declared.event.Outcome.TheVariants.{Judged}
use Rattle.hsr_node.specs.declared.event.Probe.{Probe}
use Rattle.hsr_node.specs.declared.place.Place.{Place}
use Rattle.hsr_node.specs.declared.place.Place.TheVariants.{Danh, RedBox, QuadBox, Station}
use Rattle.hsr_link.specs.declared.row.Dir.TheVariants.{Forth, Back}
use Rattle.hsr_link.specs.declared.row.Row.{Row}
use Rattle.hsr_run_laws.specs.Closed.{IsClosed, IsSend, number_of}
use Rattle.hsr_link.specs.Rows.{is_lost}
use Rattle.hsr_run_laws.specs.Run.{Run, ends_of, from_end, is_same_send, owner_of, past_of, place_of, rows_of}
use Rattle.hsr_topology.specs.declared.end.End.{End}

-- ---- a ring

abbrev pub mac_at : List (List ℕ) → ℕ → List ℕ
mac_at macs k = slice_index_or macs k []

-- a link joins B of a node with A of the next, its ends in either order
abbrev pub Joins : List End → ℕ → ℕ → Type 0
Joins ends k next =
    ((from_end Forth ends ≡ record { node = k; port = 1 }) × (from_end Back ends ≡ record { node = next; port = 0 }))
    ⊎ ((from_end Forth ends ≡ record { node = next; port = 0 }) × (from_end Back ends ≡ record { node = k; port = 1 }))

-- The nodes are two DANHs or more, each in mode H or U, with addresses of their own, none a group's, and there are as many
-- links: each joins B of its node with A of the next one round the ring.
pub record IsRing (run : Run) (macs : List (List ℕ)) : Type 0 where
  pub two : 2 ≤ length macs
  pub places : length run.places ≡ length macs
  pub nodes : (k : ℕ) → k < length macs → (place_of run k ≡ Danh (mac_at macs k) H) ⊎ (place_of run k ≡ Danh (mac_at macs k) U)
  pub single : (k : ℕ) → k < length macs → is_group (mac_at macs k) ≡ false
  pub differ : (i j : ℕ) → i < length macs → j < length macs → mac_at macs i ≡ mac_at macs j → i ≡ j
  pub count : length run.links ≡ length macs
  pub joined : (k : ℕ) → k < length macs → Joins (ends_of run k) k ((k + 1) % length macs)

-- ---- one lossy link

abbrev pub any_lost : List Row → Bool
any_lost rows = list_any (λ row. is_lost row.fate) rows

-- all copies that were lost were lost on one link
abbrev pub OneLossyLink : Run → Type 0
OneLossyLink run = (i j : ℕ) → i < length run.links → j < length run.links →
    any_lost (rows_of run i) ≡ true → any_lost (rows_of run j) ≡ true → i ≡ j

-- ---- nothing forgotten, nothing mistaken

abbrev pub is_on_ring : Place → ℕ → Bool
is_on_ring place port = unwrap_or (option_map is_ring (side_of place port)) false

-- a note is of the same send
abbrev pub is_note_of : Option Probe → Noted → Bool
is_note_of send note = is_same_send send note.probe

-- a note is of the same source and number, but of another send
abbrev pub is_mistaken : Key → Option Probe → Noted → Bool
is_mistaken key send note = is_same_key note.key key && not (is_note_of send note)

-- Where what comes from a ring wants an egress, and its send was noted there, such a note is still remembered.
abbrev pub Remembers : ℕ → Owner → List Entry → ℕ → Event → Type 0
Remembers capacity owner past at (Arrive port copy) =
    is_on_ring owner.place port ≡ true → (e : Egress) → wants owner.place (knows owner.place past at (Arrive port copy)) port (classified copy.octets) e ≡ true →
    list_any (is_note_of copy.probe) (notes owner e past) ≡ true → list_any (is_note_of copy.probe) (remembered capacity at (notes owner e past)) ≡ true
Remembers capacity owner past at event = Unit {0}

abbrev pub NothingForgotten : Run → Type 0
NothingForgotten run = (k : ℕ) → k < length run.places →
    Each (λ x past. Remembers run.capacity (owner_of run k) past (now (x ∷ past)) x.event) (past_of run k)

-- Where what comes from a ring wants an egress, each note that is remembered there with its source and number is of its send.
abbrev pub KnowsOwn : ℕ → Owner → List Entry → ℕ → Event → Type 0
KnowsOwn capacity owner past at (Arrive port copy) =
    is_on_ring owner.place port ≡ true → (e : Egress) → wants owner.place (knows owner.place past at (Arrive port copy)) port (classified copy.octets) e ≡ true →
    (key : Key) → key_in (classified copy.octets) None ≡ Some key → list_any (is_mistaken key copy.probe) (remembered capacity at (notes owner e past)) ≡ false
KnowsOwn capacity owner past at event = Unit {0}

abbrev pub NothingMistaken : Run → Type 0
NothingMistaken run = (k : ℕ) → k < length run.places →
    Each (λ x past. KnowsOwn run.capacity (owner_of run k) past (now (x ∷ past)) x.event) (past_of run k)

-- ---- RedBoxes

-- Where a RedBox numbers a frame that came, that is the number of its send, and nothing of the send was noted before.
abbrev pub NumbersFirst : Run → Owner → List Entry → Event → Outcome → Type 0
NumbersFirst run owner past (Arrive port copy) (Judged up_too ports (Some seq) cause) = (send : Probe) → copy.probe ≡ Some send →
    ((sending : Sending) → IsSend run send sending → number_of run send sending ≡ Some seq)
    × ((e : Egress) → list_any (is_note_of copy.probe) (notes owner e past) ≡ false)
NumbersFirst run owner past event outcome = Unit {0}

abbrev pub NumberedFirst : Run → Type 0
NumberedFirst run = (k : ℕ) → k < length run.places → Each (λ x past. NumbersFirst run (owner_of run k) past x.event x.outcome) (past_of run k)

abbrev pub is_redbox : Place → Bool
is_redbox (Danh mac mode) = false
is_redbox (RedBox mac mode) = true
is_redbox QuadBox = false
is_redbox (Station macs) = false

abbrev pub HasNoRedBox : Run → Type 0
HasNoRedBox run = (k : ℕ) → k < length run.places → is_redbox (place_of run k) ≡ false

-- Where there is no RedBox nothing that comes is numbered.
abbrev pub BoxlessNumbersFirst : Type 0
BoxlessNumbersFirst = (run : Run) → IsClosed run → HasNoRedBox run → NumberedFirst run
