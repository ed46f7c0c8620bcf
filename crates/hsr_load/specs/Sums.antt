-- The worst millisecond as it is found: by the sums of the first copies, whose moments rise.
use Rattle.std.specs.Prelude.{ℕ, ◌+◌, ◌-◌, ◌<◌, ◌≤◌, ◌≡◌, nat_le, nat_lt, if◌then◌else◌, List, length, take, slice_index, slice_index_or, Option, Some, None}
use Rattle.std.specs.List.{sum_by}
use Rattle.hsr_load.specs.Windows.{octets_from, octets_of}
use Rattle.hsr_load.specs.declared.load.ChannelLoad.{ChannelLoad}
use Rattle.hsr_load.specs.declared.transit.Transit.{Transit}
use Rattle.hsr_load.specs.declared.window.Window.{Window}

-- the octets of a copy, if it goes before a moment; or before the end of the millisecond from it on
abbrev pub octets_before : ℕ → Transit → ℕ
octets_before start t = if nat_lt t.moment start then t.octets else 0

abbrev pub octets_until : ℕ → Transit → ℕ
octets_until start t = if nat_lt (t.moment - start) 1000 then t.octets else 0

-- the octets of the first copies: of none, of one, and so on up to n
pub record AreSums (ts : List Transit) (n : ℕ) (sums : List ℕ) : Type 0 where
  pub many : length sums ≡ n + 1
  pub each : (k : ℕ) → k ≤ n → slice_index sums k ≡ sum_by octets_of (take k ts)

-- the worse of two, of equals the first
abbrev pub worse : Option Window → Window → Window
worse None window = window
worse (Some worst) window = if nat_le window.octets worst.octets then worst else window

-- of the milliseconds from the first n copies on this is the worst, of equals the first
pub record IsWorstAmong (ts : List Transit) (n : ℕ) (w : Window) : Type 0 where
  pub index : ℕ
  pub below : index < n
  pub short : n ≤ length ts
  pub at : (d : Transit) → (slice_index_or ts index d).moment ≡ w.at
  pub octets : w.octets ≡ octets_from ts w.at
  pub no_more : (j : ℕ) (d : Transit) → j < n → octets_from ts (slice_index_or ts j d).moment ≤ w.octets
  pub first : (j : ℕ) (d : Transit) → j < n → (slice_index_or ts j d).moment < w.at → octets_from ts (slice_index_or ts j d).moment < w.octets

abbrev pub IsWorstBelow : List Transit → ℕ → Option Window → Type 0
IsWorstBelow ts n None = n ≡ 0
IsWorstBelow ts n (Some w) = IsWorstAmong ts n w

-- ---- the most, as it is found

-- the one that has the greater worst millisecond, of equals the first
abbrev pub more : Option ChannelLoad → ChannelLoad → Option ChannelLoad
more None load = Some load
more (Some most) load = if nat_lt most.worst load.worst then Some load else Some most
