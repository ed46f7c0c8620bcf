-- A ring of DANHs, and all that exactly once rests on.
--     IsDanhRing    nodes and links are a ring of DANHs
--     IsPremised    a ring in modes H and U, and all that exactly once rests on
--     HasPremises   so it is, with some addresses round it
use Rattle.std.specs.Prelude.{ℕ, ◌+◌, ◌%◌, ◌<◌, ◌≤◌, ◌≡◌, Bool, true, false, List, [], length, map}
use Rattle.hsr_frame.specs.declared.node.Mode.{Mode}
use Rattle.hsr_frame.specs.declared.node.Mode.TheVariants.{N}
use Rattle.hsr_node.specs.declared.place.Place.{Place}
use Rattle.hsr_node.specs.declared.place.Place.TheVariants.{Danh, RedBox, QuadBox, Station}
use Rattle.hsr_run_laws.specs.Premises.{IsRing, Joins, NothingForgotten, NothingMistaken, OneLossyLink}
use Rattle.hsr_run_laws.specs.Run.{Run, ends_of, place_of}

-- ---- nodes and links

abbrev pub is_danh : Place → Bool
is_danh (Danh mac mode) = true
is_danh (RedBox mac mode) = false
is_danh QuadBox = false
is_danh (Station macs) = false

-- the address of a DANH
abbrev pub mac_of : Place → List ℕ
mac_of (Danh mac mode) = mac
mac_of (RedBox mac mode) = []
mac_of QuadBox = []
mac_of (Station macs) = []

-- the mode of a DANH
abbrev pub mode_of : Place → Mode
mode_of (Danh mac mode) = mode
mode_of (RedBox mac mode) = N
mode_of QuadBox = N
mode_of (Station macs) = N

-- the addresses round a ring of DANHs
abbrev pub macs_of : List Place → List (List ℕ)
macs_of places = map mac_of places

-- There are two DANHs or more, and as many links: each joins B of its node with A of the next one round the ring.
pub record IsDanhRing (run : Run) : Type 0 where
  pub two : 2 ≤ length run.places
  pub count : length run.links ≡ length run.places
  pub danhs : (k : ℕ) → k < length run.places → is_danh (place_of run k) ≡ true
  pub joined : (k : ℕ) → k < length run.places → Joins (ends_of run k) k ((k + 1) % length run.places)

-- ---- premises

-- a ring, with losses on at most one link, nothing forgotten and nothing mistaken
pub record IsPremised (run : Run) (macs : List (List ℕ)) : Type 0 where
  pub ring : IsRing run macs
  pub losses : OneLossyLink run
  pub forgotten : NothingForgotten run
  pub mistaken : NothingMistaken run

abbrev pub HasPremises : Run → Type 0
HasPremises run = (macs : List (List ℕ)) × IsPremised run macs
