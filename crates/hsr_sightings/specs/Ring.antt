-- What is known of a capture before its copies are looked at: the times, in nanoseconds, and which directions belong together.
use Rattle.std.specs.Prelude.{ℕ, ◌==◌, Bool, List, slice_index}
use Rattle.hsr_frame_groups.specs.Frames.{CaughtFields}

-- how long a node remembers a frame
abbrev pub forget_time : ℕ
forget_time = 400000000

-- the first packet's moment, the end of the capture, whether nothing at its edges is open, and of each direction its point and its way
pub record Ring : Type 0 where
  pub start : ℕ
  pub end : ℕ
  pub is_whole : Bool
  pub points : List ℕ
  pub ways : List ℕ

abbrev pub point_of : Ring → CaughtFields → ℕ
point_of ring c = slice_index ring.points c.direction

abbrev pub way_of : Ring → CaughtFields → ℕ
way_of ring c = slice_index ring.ways c.direction

-- a copy is at a point, goes one way, is in a direction
abbrev pub is_at : Ring → ℕ → CaughtFields → Bool
is_at ring point c = point_of ring c == point

abbrev pub goes : Ring → ℕ → CaughtFields → Bool
goes ring way c = way_of ring c == way

abbrev pub is_in : ℕ → CaughtFields → Bool
is_in direction c = c.direction == direction
