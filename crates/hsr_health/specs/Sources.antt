-- Who sent frames: addresses as numbers.
use Rattle.std.specs.Prelude.{ℕ, ◌≡◌, ◌<◌, ◌≤◌, ◌==◌, ◌⊎◌, Bool, false, if◌then◌else◌, List, length, slice_get, Option, Some, None}
use Rattle.hsr_address.specs.Numbers.{number_of}
use Rattle.hsr_frame.specs.Address.{IsAddress, is_same_address}
use Rattle.hsr_frame_groups.specs.Frames.{CaughtFields}

-- an address is that of a copy's source
pub record IsSourceOf (copies : List CaughtFields) (mac : List ℕ) : Type 0 where
  pub place : ℕ
  pub copy : CaughtFields
  pub there : slice_get copies place ≡ Some copy
  pub is : copy.copy.src ≡ mac

-- over 1024 sources, each once
pub record HasManySources (copies : List CaughtFields) : Type 0 where
  pub macs : List (List ℕ)
  pub many : 1024 < length macs
  pub there : (k : ℕ) (mac : List ℕ) → slice_get macs k ≡ Some mac → IsSourceOf copies mac
  pub once : (j k : ℕ) (mac : List ℕ) → slice_get macs j ≡ Some mac → slice_get macs k ≡ Some mac → j ≡ k

-- ---- how they are found

abbrev pub source_number : CaughtFields → ℕ
source_number c = number_of c.copy.src

-- addresses rise
abbrev pub Rise : List (List ℕ) → Type 0
Rise macs = (j k : ℕ) (a b : List ℕ) → j < k → slice_get macs j ≡ Some a → slice_get macs k ≡ Some b → number_of a < number_of b

-- it stands from one index on up to another, or would stand there
pub record IsPart (macs : List (List ℕ)) (number low high : ℕ) : Type 0 where
  pub order : low ≤ high
  pub within : high ≤ length macs
  pub below : (k : ℕ) (own : List ℕ) → k < low → slice_get macs k ≡ Some own → number_of own < number
  pub above : (k : ℕ) (own : List ℕ) → high ≤ k → slice_get macs k ≡ Some own → number ≤ number_of own

-- where a number stands, or would stand
pub record IsPlace (macs : List (List ℕ)) (number place : ℕ) : Type 0 where
  pub below : (k : ℕ) (own : List ℕ) → k < place → slice_get macs k ≡ Some own → number_of own < number
  pub above : (k : ℕ) (own : List ℕ) → place ≤ k → slice_get macs k ≡ Some own → number ≤ number_of own

-- a number's index
pub record IsIndex (macs : List (List ℕ)) (number k : ℕ) : Type 0 where
  pub own : List ℕ
  pub there : slice_get macs k ≡ Some own
  pub is : number_of own ≡ number

-- whether this is an address with a number
abbrev pub stands_by : ℕ → Option (List ℕ) → Bool
stands_by number None = false
stands_by number (Some own) = number_of own == number

-- addresses in order are others with one more, which may have been among them
pub record IsWith (before : List (List ℕ)) (mac : List ℕ) (macs : List (List ℕ)) : Type 0 where
  pub rise : Rise macs
  pub kept : (j : ℕ) (own : List ℕ) → slice_get before j ≡ Some own → (k : ℕ) × (slice_get macs k ≡ Some own)
  pub there : (k : ℕ) × IsIndex macs (number_of mac) k
  pub from : (k : ℕ) (own : List ℕ) → slice_get macs k ≡ Some own → (own ≡ mac) ⊎ ((j : ℕ) × (slice_get before j ≡ Some own))

-- the addresses of so many of the copies, in order
pub record AreMacs (copies : List CaughtFields) (many : ℕ) (macs : List (List ℕ)) : Type 0 where
  pub rise : Rise macs
  pub there : (i : ℕ) (c : CaughtFields) → i < many → slice_get copies i ≡ Some c → (k : ℕ) × IsIndex macs (source_number c) k
  pub sources : (k : ℕ) (mac : List ℕ) → slice_get macs k ≡ Some mac → IsSourceOf copies mac × IsAddress mac

-- of each copy the index of its source
pub record AreIndexes (copies : List CaughtFields) (macs : List (List ℕ)) (indexes : List ℕ) : Type 0 where
  pub each : (i k : ℕ) (c : CaughtFields) → slice_get copies i ≡ Some c → slice_get indexes i ≡ Some k → slice_get macs k ≡ Some c.copy.src
  pub long : length indexes ≡ length copies

-- an index, if an address stands there
abbrev pub index_by : ℕ → List ℕ → Option (List ℕ) → Option ℕ
index_by place mac None = None
index_by place mac (Some own) = if is_same_address own mac then Some place else None

abbrev pub index_if : List (List ℕ) → ℕ → List ℕ → Option ℕ
index_if macs place mac = index_by place mac (slice_get macs place)
