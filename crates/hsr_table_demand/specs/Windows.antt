-- How crowded the windows of a list of moments are.
--     crowd_in       how many of the moments lie in the window from a moment on
--     most_in        the most that lie in the window of one of them
--     IsMostBelow    the most that lie in the window of one of the first of them
--     IsFirstOver    the first of them whose window has more than there is room for
use Rattle.std.specs.Prelude.{ℕ, ◌-◌, ◌*◌, ◌<◌, ◌≤◌, ◌≡◌, ◌⊎◌, ◌&&◌, max, nat_le, nat_lt, Bool, List, [], ◌∷◌, length, count_by, map, slice_index}
use Rattle.hsr_duptable.specs.Notes.{entry_forget}

-- a moment lies in the window from a start on
abbrev pub lies_in : ℕ → ℕ → Bool
lies_in start m = nat_le start m && nat_lt (m - start) (2 * entry_forget)

abbrev pub crowd_in : List ℕ → ℕ → ℕ
crowd_in ms start = count_by (lies_in start) ms

-- the greatest of numbers; 0 where there is none
abbrev pub greatest : List ℕ → ℕ
greatest [] = 0
greatest (n ∷ ns) = max n (greatest ns)

-- the greatest number of moments that lie in the window from one of them on
abbrev pub most_in : List ℕ → ℕ
most_in ms = greatest (map (crowd_in ms) ms)

-- of the windows of the first n moments none has more, and one has as many
pub record IsMostBelow (ms : List ℕ) (n most : ℕ) : Type 0 where
  pub upper : (i : ℕ) → i < n → crowd_in ms (slice_index ms i) ≤ most
  pub reached : ((i : ℕ) × (i < n) × (crowd_in ms (slice_index ms i) ≡ most)) ⊎ ((n ≡ 0) × (most ≡ 0))

-- the window of this moment has more than there is room for, and those of the moments before it have not
pub record IsFirstOver (room : ℕ) (ms : List ℕ) (m : ℕ) : Type 0 where
  pub index : ℕ
  pub below : index < length ms
  pub is : slice_index ms index ≡ m
  pub crowded : room < crowd_in ms m
  pub before : (j : ℕ) → j < index → crowd_in ms (slice_index ms j) ≤ room
