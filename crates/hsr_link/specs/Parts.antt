-- A link in two: its rows, and all else.
--     queues_of  what a link is but its rows
--     link_of    the link that rows and queues are
use Rattle.std.specs.Prelude.{ℕ, ◌≤◌, Bool, List}
use Rattle.circular_buffer.specs.Buffer.{Buffer, buffer}
use Rattle.hsr_link.specs.Link.{Link}
use Rattle.hsr_link.specs.Queue.{waiting}
use Rattle.hsr_link.specs.declared.queue.Waiting.{Waiting}
use Rattle.hsr_link.specs.declared.row.Dir.TheVariants.{Forth, Back}
use Rattle.hsr_link.specs.declared.row.Row.{Row}

-- what waits in each direction, whether it is cut, and how many copies may wait
pub record Queues : Type 0 where
  pub forth : Buffer Waiting
  pub back : Buffer Waiting
  pub is_cut : Bool
  pub capacity : ℕ

abbrev pub queues_of : Link → Queues
queues_of link = record {
  forth = buffer (waiting Forth 0 link.rows) link.capacity;
  back = buffer (waiting Back 0 link.rows) link.capacity;
  is_cut = link.is_cut;
  capacity = link.capacity;
}

abbrev pub link_of : List Row → Queues → Link
link_of rows queues = record { rows = rows; is_cut = queues.is_cut; capacity = queues.capacity }

-- as many copies as may wait on a link
abbrev pub AreSized : ℕ → Type 0
AreSized capacity = (1 ≤ capacity) × (capacity ≤ 4096)
