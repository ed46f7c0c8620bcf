-- A finished run: which nodes there are and how they are joined, what each of them did, and what became of each copy
-- on each link.
--     past_of    a node's record, the newest entry first
--     from_end   where a link's copies of a direction come from
--     to_end     where they go
use Rattle.std.specs.Prelude.{ℕ, ◌==◌, ◌&&◌, Bool, false, List, [], ◌∷◌, reverse, slice_index_or, Option, Some, None, if◌then◌else◌}
use Rattle.std.specs.Option.{option_and_then, option_or}
use Rattle.hsr_node.specs.Record.{Owner}
use Rattle.hsr_node.specs.declared.entry.Entry.{Entry}
use Rattle.hsr_node.specs.declared.event.Event.{Event}
use Rattle.hsr_node.specs.declared.event.Event.TheVariants.{Arrive}
use Rattle.hsr_node.specs.declared.event.Outcome.{Outcome}
use Rattle.hsr_node.specs.declared.event.Outcome.TheVariants.{Judged}
use Rattle.hsr_node.specs.declared.event.Probe.{Probe}
use Rattle.hsr_node.specs.declared.place.Place.{Place}
use Rattle.hsr_node.specs.declared.place.Place.TheVariants.{QuadBox}
use Rattle.hsr_link.specs.declared.row.Dir.{Dir}
use Rattle.hsr_link.specs.declared.row.Dir.TheVariants.{Forth, Back}
use Rattle.hsr_link.specs.declared.row.Row.{Row}
use Rattle.hsr_topology.specs.Links.{is_same_end}
use Rattle.hsr_topology.specs.declared.end.End.{End}

pub record Run : Type 0 where
  -- how many entries each table of a node holds
  pub capacity : ℕ
  pub places : List Place
  -- the two ends of each link
  pub links : List (List End)
  -- what each node did, the oldest entry first
  pub records : List (List Entry)
  -- what became of the copies on each link
  pub rows : List (List Row)

-- ---- nodes

abbrev pub place_of : Run → ℕ → Place
place_of run k = slice_index_or run.places k QuadBox

-- a node's record, of the records of all
abbrev pub record_in : List (List Entry) → ℕ → List Entry
record_in records k = slice_index_or records k []

abbrev pub record_of : Run → ℕ → List Entry
record_of run k = record_in run.records k

-- a node's record, the newest entry first
abbrev pub past_of : Run → ℕ → List Entry
past_of run k = reverse (record_of run k)

-- whose record it is
abbrev pub owner_in : List Place → ℕ → Owner
owner_in places k = record { number = k; place = slice_index_or places k QuadBox }

abbrev pub owner_of : Run → ℕ → Owner
owner_of run k = owner_in run.places k

-- ---- links

abbrev pub rows_of : Run → ℕ → List Row
rows_of run l = slice_index_or run.rows l []

abbrev pub ends_of : Run → ℕ → List End
ends_of run l = slice_index_or run.links l []

abbrev pub no_end : End
no_end = record { node = 0; port = 0 }

-- where the copies of a direction come from, and where they go
abbrev pub from_end : Dir → List End → End
from_end Forth ends = slice_index_or ends 0 no_end
from_end Back ends = slice_index_or ends 1 no_end

abbrev pub to_end : Dir → List End → End
to_end Forth ends = slice_index_or ends 1 no_end
to_end Back ends = slice_index_or ends 0 no_end

-- ---- sends

-- whether a copy is of the send that this entry is
abbrev pub is_of : Probe → Option Probe → Bool
is_of send None = false
is_of send (Some probe) = probe.node == send.node && probe.place == send.place

-- whether two copies are of one send
abbrev pub is_same_send : Option Probe → Option Probe → Bool
is_same_send None probe = false
is_same_send (Some send) probe = is_of send probe

-- ---- the number that a RedBox gives to a frame of its Station

abbrev pub gives : Probe → Event → Outcome → Option ℕ
gives send (Arrive port copy) (Judged up_too ports seq cause) = if is_of send copy.probe then seq else None
gives send event outcome = None

-- the first number that this node gave to a send
abbrev pub given_at : Probe → List Entry → Option ℕ
given_at send [] = None
given_at send (x ∷ past) = option_or (given_at send past) (gives send x.event x.outcome)

-- the end that a link joins with this one
abbrev pub joined_by : End → List End → Option End
joined_by end ends =
    if is_same_end (from_end Forth ends) end then Some (to_end Forth ends) else (if is_same_end (from_end Back ends) end then Some (to_end Back ends) else None)

abbrev pub peer_in : End → List (List End) → Option End
peer_in end [] = None
peer_in end (ends ∷ links) = option_or (joined_by end ends) (peer_in end links)

-- the number that the RedBox at the link of a Station gave to a send of it
abbrev pub given : Run → Probe → Option ℕ
given run send = option_and_then (λ end. given_at send (past_of run end.node)) (peer_in (record { node = send.node; port = 0 }) run.links)
