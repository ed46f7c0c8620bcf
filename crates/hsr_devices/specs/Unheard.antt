-- Of whom supervision never told a node.
--     is_told_of    supervision told a node of an address
--     unheard       the DANHs and RedBoxes of which it never told a node
use Rattle.std.specs.Prelude.{ℕ, ◌==◌, ◌&&◌, not, Bool, false, List, filter, length}
use Rattle.std.specs.List.{list_any, range_with_len}
use Rattle.hsr_frame.specs.Address.{is_same_address}
use Rattle.hsr_node.specs.Record.{hearings}
use Rattle.hsr_node.specs.declared.entry.Entry.{Entry}
use Rattle.hsr_node.specs.declared.place.Place.{Place}
use Rattle.hsr_node.specs.declared.place.Place.TheVariants.{Danh, RedBox, QuadBox, Station}
use Rattle.hsr_tables.specs.Nodes.{Hearing}
use Rattle.hsr_run_laws.specs.Run.{Run, past_of, place_of}

-- a supervision frame is about an address
abbrev pub tells : List ℕ → Hearing → Bool
tells mac h = is_same_address h.said.about mac

-- one that came told a node of an address, however long ago
abbrev pub is_told_of : Place → List Entry → List ℕ → Bool
is_told_of place past mac = list_any (tells mac) (hearings place past)

-- none told it of another node that speaks for itself
abbrev pub is_unheard_of : Place → List Entry → Place → Bool
is_unheard_of place past (Danh mac mode) = not (is_told_of place past mac)
is_unheard_of place past (RedBox mac mode) = not (is_told_of place past mac)
is_unheard_of place past QuadBox = false
is_unheard_of place past (Station macs) = false

abbrev pub is_unheard : Run → ℕ → ℕ → Bool
is_unheard run k n = not (n == k) && is_unheard_of (place_of run k) (past_of run k) (place_of run n)

-- by number, rising
abbrev pub unheard : Run → ℕ → List ℕ
unheard run k = filter (is_unheard run k) (range_with_len 0 (length run.places))
