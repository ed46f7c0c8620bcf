-- What each fault looks at of a group of sends.
--     AreDue       the nodes that a frame is due at
--     IsCourse     of one group
--     AreCourses   of each group
use Rattle.std.specs.Prelude.{ℕ, ◌<◌, ◌≡◌, ◌↔◌, true, List, length, slice_index_or}
use Rattle.hsr_bitset.specs.Numbers.{has_bit}
use Rattle.hsr_deliveries.specs.Delivered.{is_due}
use Rattle.hsr_run_laws.specs.Run.{Run}
use Rattle.hsr_routes.specs.Routes.{heading, sender_at}
use Rattle.hsr_routes.specs.declared.heading.Heading.{Heading}
use Rattle.hsr_faults.specs.Onward.{AreOnward}
use Rattle.hsr_faults.specs.Search.{AreLedTo}
use Rattle.hsr_faults.specs.Sets.{IsWithin}
use Rattle.hsr_faults.specs.declared.course.Course.{Course}
use Rattle.hsr_faults.specs.declared.groups.Group.{Group}

-- just the nodes that a frame is due at
abbrev pub AreDue : Run → Heading → ℕ → Type 0
AreDue net frame nodes = (k : ℕ) → k < 64 → (has_bit nodes k ≡ true) ↔ ((k < length net.places) × (is_due net frame.sender frame.dst frame.kind k ≡ true))

-- routes that take no channel of a set lead to these nodes
abbrev pub AreLed : Run → Heading → List ℕ → ℕ → Type 0
AreLed net frame avoid nodes = AreLedTo net (sender_at frame.sender) (heading frame.dst frame.kind) avoid nodes

-- Routes lead to the same nodes, whether they take none of the channels that are down or none of those that are spare.
pub record IsCourse (net : Run) (group : Group) (course : Course) : Type 0 where
  pub onward : AreOnward net (sender_at group.frame.sender) (heading group.frame.dst group.frame.kind) course.onward.first.words course.onward.next.items
  pub due : AreDue net group.frame course.due.bits
  pub led : AreLed net group.frame group.down.words course.led.bits
  pub within : IsWithin group.down.words course.spare.words
  pub spare : AreLed net group.frame course.spare.words course.led.bits

-- of the first groups
pub record AreCourses (net : Run) (groups : List Group) (n : ℕ) (courses : List Course) : Type 0 where
  pub many : length courses ≡ n
  pub each : (j : ℕ) (d : Course) (e : Group) → j < n → IsCourse net (slice_index_or groups j e) (slice_index_or courses j d)
