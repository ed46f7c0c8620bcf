-- What is kept of a frame as a point saw it.
use Rattle.std.specs.Prelude.{ℕ, Bool, Option}

-- The index of its first copy there, and that copy's moment; the point; how many frames began there before it; the moments of the first
-- copies on each way; and whether a direction carried it twice or more.
pub record Sighting : Type 0 where
  pub first : ℕ
  pub at : ℕ
  pub point : ℕ
  pub order : ℕ
  pub by_0 : Option ℕ
  pub by_1 : Option ℕ
  pub is_more : Bool
