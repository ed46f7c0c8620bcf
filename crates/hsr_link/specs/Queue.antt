-- What waits in a direction of a link.
use Rattle.std.specs.Prelude.{ℕ, ◌+◌, ◌≡◌, ◌≤◌, List, [], ◌∷◌, if◌then◌else◌}
use Rattle.circular_buffer.specs.Buffer.{Buffer, buffer}
use Rattle.hsr_link.specs.Rows.{waits}
use Rattle.hsr_link.specs.declared.queue.Waiting.{Waiting}
use Rattle.hsr_link.specs.declared.row.Dir.{Dir}
use Rattle.hsr_link.specs.declared.row.Dir.TheVariants.{Forth, Back}
use Rattle.hsr_link.specs.declared.row.Row.{Row}

-- the index and the copy of each row that is Queued in a direction, where the first row has the index `first`
abbrev pub waiting : Dir → ℕ → List Row → List Waiting
waiting dir first [] = []
waiting dir first (row ∷ rows) =
    if waits dir row then record { index = first; carried = row.carried } ∷ waiting dir (first + 1) rows else waiting dir (first + 1) rows

-- each queue is the list of its direction's Queued rows, and has room for just `capacity` copies
pub record IsSound (capacity : ℕ) (rows : List Row) (forth back : Buffer Waiting) : Type 0 where
  pub least : 1 ≤ capacity
  pub most : capacity ≤ 4096
  pub queued_forth : forth ≡ buffer (waiting Forth 0 rows) capacity
  pub queued_back : back ≡ buffer (waiting Back 0 rows) capacity
