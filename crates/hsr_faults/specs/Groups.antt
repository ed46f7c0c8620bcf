-- Sends that a fault cuts off alike.
--     IsGroupOf    a group is that of a send
--     AreGrouped   of each send the index of its group
--     AreCounts    how many sends each group has
use Rattle.std.specs.Prelude.{ℕ, ◌/◌, ◌<◌, ◌≤◌, ◌≡◌, ◌==◌, ◌⊎◌, Bool, List, [], ◌∷◌, ◌++◌, length, count_by, slice_index_or}
use Rattle.hsr_bitset.specs.Numbers.{has}
use Rattle.hsr_routes.specs.declared.heading.Heading.{Heading}
use Rattle.hsr_scenario.specs.declared.steps.Order.{Order}
use Rattle.hsr_plays.specs.Spans.{is_down}
use Rattle.hsr_plays.specs.declared.span.SendSpan.{SendSpan}
use Rattle.hsr_faults.specs.declared.groups.Group.{Group}

-- ---- one send

-- what of a send its routes go by
abbrev pub heading_of : SendSpan → Heading
heading_of span = record { sender = span.asked.node; dst = span.asked.dst; kind = span.asked.kind }

-- the same frame, and just the channels that are down in its span
pub record IsGroupOf (orders : List Order) (span : SendSpan) (group : Group) : Type 0 where
  pub frame : group.frame ≡ heading_of span
  pub down : (n : ℕ) → n < 256 → has group.down.words n ≡ is_down orders span (n / 2)

-- ---- all of them

abbrev pub is_number : ℕ → ℕ → Bool
is_number number n = n == number

-- the index of a group, which was there or is put last
abbrev pub IsPlace : List Group → List Group → ℕ → Group → Type 0
IsPlace old new j group =
    ((new ≡ old) × (j < length old) × ((d : Group) → slice_index_or old j d ≡ group)) ⊎ ((new ≡ old ++ group ∷ []) × (j ≡ length old))

-- a send is of a group with this index, and comes no later than another
pub record IsSentBy (of : List ℕ) (j i : ℕ) : Type 0 where
  pub at : ℕ
  pub low : at ≤ i
  pub is : (d : ℕ) → slice_index_or of at d ≡ j

-- Of the first sends the indexes of their groups. Each group has a send. The groups are in the order of their first sends: no send is of a group before each
-- earlier group had one.
pub record AreGrouped (orders : List Order) (spans : List SendSpan) (n : ℕ) (groups : List Group) (of : List ℕ) : Type 0 where
  pub many : length of ≡ n
  pub below : (i d : ℕ) → i < n → slice_index_or of i d < length groups
  pub each : (i e : ℕ) (d : Group) (span : SendSpan) → i < n → IsGroupOf orders (slice_index_or spans i span) (slice_index_or groups (slice_index_or of i e) d)
  pub some : (j : ℕ) → j < length groups → 0 < count_by (is_number j) of
  pub sent : (j : ℕ) → j < length groups → (h : ℕ) × (h < n) × ((d : ℕ) → slice_index_or of h d ≡ j)
  pub rises : (i j e : ℕ) → i < n → j ≤ slice_index_or of i e → IsSentBy of j i

-- how many sends each group has
pub record AreCounts (groups : ℕ) (of counts : List ℕ) : Type 0 where
  pub many : length counts ≡ groups
  pub each : (j d : ℕ) → j < groups → slice_index_or counts j d ≡ count_by (is_number j) of
