-- The names of a finished run, by those of its nodes and by the streams of its sends.
--     entries_told   the moments and streams of a record's entries
--     AreNamesOf     the names of a run
--     has_sends      its nodes have as many sends as there are streams
use Rattle.std.specs.Prelude.{ℕ, zero, suc, ◌≡◌, ◌==◌, ◌&&◌, Bool, true, false, if◌then◌else◌, List, [], ◌∷◌, ◌++◌, count_by, length, map, slice_index_or}
use Rattle.hsr_node.specs.declared.entry.Entry.{Entry}
use Rattle.hsr_node.specs.declared.event.Event.{Event}
use Rattle.hsr_node.specs.declared.event.Event.TheVariants.{Send, Supervise}
use Rattle.hsr_run_laws.specs.Run.{Run, record_of}
use Rattle.hsr_timeline.specs.Fronts.{lists_of}
use Rattle.hsr_naming.specs.declared.names.EntryName.{EntryName}
use Rattle.hsr_naming.specs.declared.names.Names.{Names}

-- what is told of an entry: its moment, and the stream that it is of
pub record EntryTold : Type 0 where
  pub at : ℕ
  pub stream : List ℕ

abbrev pub told_by : EntryName → EntryTold
told_by name = record { at = name.at; stream = name.stream.items }

-- ---- the entries of a node

-- a node sent something of its own: a frame, or a supervision frame
abbrev pub is_own : Event → Bool
is_own (Send from dst vlan ethertype payload) = true
is_own (Supervise about) = true
is_own _ = false

abbrev pub first_of : List (List ℕ) → List ℕ
first_of [] = []
first_of (stream ∷ streams) = stream

abbrev pub behind_first : List (List ℕ) → List (List ℕ)
behind_first [] = []
behind_first (stream ∷ streams) = streams

-- the stream of an entry, where the node's next sends are of these streams: that of the first, if it is a send
abbrev pub stream_of : Entry → List (List ℕ) → List ℕ
stream_of entry streams = if is_own entry.event then first_of streams else []

-- and those of the sends that follow
abbrev pub streams_behind : Entry → List (List ℕ) → List (List ℕ)
streams_behind entry streams = if is_own entry.event then behind_first streams else streams

-- each entry with its moment; the sends among them with these streams, one after the other; where these end, with none
abbrev pub entries_told : List Entry → List (List ℕ) → List EntryTold
entries_told [] streams = []
entries_told (x ∷ xs) streams = record { at = x.at; stream = stream_of x streams } ∷ entries_told xs (streams_behind x streams)

-- ---- the run

abbrev pub streams_at : List (List (List ℕ)) → ℕ → List (List ℕ)
streams_at streams k = slice_index_or streams k []

-- of the first nodes
abbrev pub nodes_told : Run → List (List (List ℕ)) → ℕ → List (List EntryTold)
nodes_told run streams zero = []
nodes_told run streams (suc k) = nodes_told run streams k ++ entries_told (record_of run k) (streams_at streams k) ∷ []

abbrev pub entries_by : Names → List (List EntryTold)
entries_by names = map (λ entries. map told_by entries.items) names.entries.items

-- nodes have these names; and entries their moments, and the sends these streams, node by node
pub record AreNamesOf (run : Run) (nodes : List (List ℕ)) (streams : List (List (List ℕ))) (names : Names) : Type 0 where
  pub nodes_are : lists_of names.nodes.items ≡ nodes
  pub entries_are : entries_by names ≡ nodes_told run streams (length run.places)

-- ---- streams of another run

abbrev pub is_own_entry : Entry → Bool
is_own_entry entry = is_own entry.event

-- a node has as many sends as there are streams for it
abbrev pub has_sends_at : Run → List (List (List ℕ)) → ℕ → Bool
has_sends_at run streams k = count_by is_own_entry (record_of run k) == length (streams_at streams k)

-- so have the first nodes
abbrev pub has_sends : Run → List (List (List ℕ)) → ℕ → Bool
has_sends run streams zero = true
has_sends run streams (suc k) = has_sends run streams k && has_sends_at run streams k
