-- The rows of a link: one for each copy that was put on it, the first put first.
use Rattle.std.specs.Prelude.{ℕ, ◌==◌, ◌&&◌, not, Bool, true, false, List, [], ◌∷◌, filter, filter_map, slice_get, Option, Some, None, option_map, if◌then◌else◌}
use Rattle.hsr_frame.specs.Cases.{first_of}
use Rattle.hsr_node.specs.declared.event.Carried.{Carried}
use Rattle.hsr_link.specs.declared.row.Dir.{Dir}
use Rattle.hsr_link.specs.declared.row.Dir.TheVariants.{Forth, Back}
use Rattle.hsr_link.specs.declared.row.Fate.{Fate}
use Rattle.hsr_link.specs.declared.row.Fate.TheVariants.{Queued, Taken, LostDown, LostCut, LostOverrun}
use Rattle.hsr_link.specs.declared.row.Row.{Row}

abbrev pub is_queued : Fate → Bool
is_queued Queued = true
is_queued _ = false

abbrev pub is_taken : Fate → Bool
is_taken Taken = true
is_taken _ = false

abbrev pub is_lost : Fate → Bool
is_lost Queued = false
is_lost Taken = false
is_lost _ = true

abbrev pub is_same_dir : Dir → Dir → Bool
is_same_dir Forth Forth = true
is_same_dir Back Back = true
is_same_dir _ _ = false

-- the row is of the direction
abbrev pub goes : Dir → Row → Bool
goes dir row = is_same_dir dir row.dir

-- it is Queued in the direction
abbrev pub waits : Dir → Row → Bool
waits dir row = goes dir row && is_queued row.fate

-- the rows that are Queued in a direction
abbrev pub queued : Dir → List Row → List Row
queued dir rows = filter (waits dir) rows

-- what becomes of a copy that is put where `count` are Queued
abbrev pub put_fate : Bool → ℕ → ℕ → Fate
put_fate is_cut count capacity = first_of ((is_cut, LostDown) ∷ (count == capacity, LostOverrun) ∷ []) Queued

-- the row with another fate
abbrev pub with_fate : Fate → Row → Row
with_fate fate row = record row { fate = fate }

-- the rows after the first one that is Queued in a direction turned to another fate
abbrev pub turned : Fate → Dir → List Row → List Row
turned fate dir [] = []
turned fate dir (row ∷ rows) = if waits dir row then with_fate fate row ∷ rows else row ∷ turned fate dir rows

-- the copy of that row
abbrev pub first_copy : Dir → List Row → Option Carried
first_copy dir rows = option_map (λ row. row.carried) (slice_get (queued dir rows) 0)

-- a row after its link was cut
abbrev pub lost : Row → Row
lost row = if is_queued row.fate then with_fate LostCut row else row

-- a row after the queue of a direction was lost
abbrev pub lost_of : Dir → Row → Row
lost_of dir row = if waits dir row then with_fate LostCut row else row

-- ---- copies

-- the copy of a row that the port at the one end put: an injected one comes from nobody
abbrev pub put_copy : Dir → Row → Option Carried
put_copy dir row = if goes dir row && not row.injected then Some row.carried else None

-- the copy of a row that the port at the other end took
abbrev pub taken_copy : Dir → Row → Option Carried
taken_copy dir row = if goes dir row && is_taken row.fate then Some row.carried else None

-- those of rows, the first put first
abbrev pub put_copies : Dir → List Row → List Carried
put_copies dir rows = filter_map (put_copy dir) rows

abbrev pub taken_copies : Dir → List Row → List Carried
taken_copies dir rows = filter_map (taken_copy dir) rows
