-- Which copies are of one frame. A past is the list of the copies that were captured before, the latest first.
--     latest_frame   of the latest frame with a source and a number, the copy that began it
--     first_copy     the copy that began the frame of a copy
--     AreFirst       for each copy, the place of the copy that began its frame
use Rattle.std.specs.Prelude.{ℕ, ◌≡◌, ◌+◌, ◌-◌, ◌*◌, ◌<◌, ◌≤◌, ◌==◌, ◌&&◌, nat_lt, Bool, if◌then◌else◌, List, [], ◌∷◌, length, reverse, take, slice_get, slice_index, Option, Some, None}
use Rattle.hsr_recent_table.specs.Recent.{Knows, Put, horizon_of, moment_of}
use Rattle.hsr_recent_table.specs.declared.table.RecentTable.{RecentTable}
use Rattle.hsr_frame_copies.specs.Contents.{CopyFields}
use Rattle.hsr_frame_copies.specs.Alike.{says_same}

-- a copy that was captured: when, as which packet, and in which direction
pub record CaughtFields : Type 0 where
  pub at : ℕ
  pub packet : ℕ
  pub direction : ℕ
  pub copy : CopyFields

-- a source and a number, as one number: six octets of 8 bits, and 16 bits
abbrev pub key_by : List ℕ → ℕ → ℕ
key_by source number =
    (((((slice_index source 0 * 256 + slice_index source 1) * 256 + slice_index source 2) * 256 + slice_index source 3) * 256
    + slice_index source 4) * 256 + slice_index source 5) * 65536 + number

abbrev pub key_of : CaughtFields → ℕ
key_of c = key_by c.copy.src c.copy.seq

-- how long a frame goes on, in nanoseconds
abbrev pub frame_time : ℕ
frame_time = 2000000000

-- a copy is of a frame that began less than 2 s before, if it says the same
abbrev pub joins : CaughtFields → CaughtFields → Bool
joins first c = nat_lt (c.at - first.at) frame_time && says_same first.copy c.copy

-- a copy joins a frame, or begins one
abbrev pub joined_to : CaughtFields → Option CaughtFields → CaughtFields
joined_to c None = c
joined_to c (Some first) = if joins first c then first else c

abbrev pub latest_frame : ℕ → List CaughtFields → Option CaughtFields
latest_frame key [] = None
latest_frame key (b ∷ past) = if key_of b == key then Some (joined_to b (latest_frame key past)) else latest_frame key past

-- A copy is of the latest frame of its source and number, if that began less than 2 s before and says the same. Else it begins a
-- frame.
abbrev pub first_copy : List CaughtFields → CaughtFields → CaughtFields
first_copy past c = joined_to c (latest_frame (key_of c) past)

-- the past of the copy at a place, in the order of time
abbrev pub past_of : List CaughtFields → ℕ → List CaughtFields
past_of copies i = reverse (take i copies)

-- the copy at a place is of the frame that the copy at another place began
abbrev pub IsFirst : List CaughtFields → ℕ → ℕ → Type 0
IsFirst copies i first = (c : CaughtFields) → slice_get copies i ≡ Some c → slice_get copies first ≡ Some (first_copy (past_of copies i) c)

pub record AreFirst (copies : List CaughtFields) (firsts : List ℕ) : Type 0 where
  pub each : (i : ℕ) → i < length firsts → IsFirst copies i (slice_index firsts i)
  pub long : length firsts ≡ length copies

-- no copy comes before one that stands in front of it
abbrev pub AreInTime : List CaughtFields → Type 0
AreInTime copies = (i : ℕ) (b c : CaughtFields) → slice_get copies i ≡ Some b → slice_get copies (i + 1) ≡ Some c → b.at ≤ c.at

-- ---- what a table tells of the copies before one

-- what was put for a copy: its moment, its key, and the place of the copy that began its frame, which isn't later
pub record IsPutFor (copies past : List CaughtFields) (c : CaughtFields) (put : Put) : Type 0 where
  pub at : put.at ≡ c.at
  pub key : put.key ≡ key_of c
  pub value : slice_get copies put.value ≡ Some (first_copy past c)
  pub before : (first_copy past c).at ≤ c.at

-- for each copy of a past something was put
abbrev pub ArePutFor : List CaughtFields → List CaughtFields → List Put → Type 0
ArePutFor copies [] [] = Unit {0}
ArePutFor copies [] (put ∷ puts) = ⊥
ArePutFor copies (c ∷ past) [] = ⊥
ArePutFor copies (c ∷ past) (put ∷ puts) = IsPutFor copies past c put × ArePutFor copies past puts

-- no copy is later than a moment
abbrev pub AreBefore : ℕ → List CaughtFields → Type 0
AreBefore at [] = Unit {0}
AreBefore at (c ∷ past) = (c.at ≤ at) × AreBefore at past

-- a table into which something was put for each copy before a place
pub record IsReady (copies : List CaughtFields) (table : RecentTable) (i : ℕ) (puts : List Put) : Type 0 where
  pub knows : Knows table puts
  pub puts_for : ArePutFor copies (past_of copies i) puts
  pub before : AreBefore (moment_of table) (past_of copies i)
  pub next : (c : CaughtFields) → slice_get copies i ≡ Some c → moment_of table ≤ c.at
  pub horizon : horizon_of table ≡ frame_time

-- what is put for a copy
abbrev pub put_for : CaughtFields → ℕ → Put
put_for c first = record { at = c.at; key = key_of c; value = first }

-- the place that a table tells of, if the copy there began the frame of the copy at another place, or else that place
abbrev pub chosen : ℕ → ℕ → Option CaughtFields → Option CaughtFields → ℕ
chosen first i (Some began) (Some c) = if joins began c then first else i
chosen first i (Some began) None = i
chosen first i None c = i

abbrev pub first_by : List CaughtFields → ℕ → ℕ → ℕ
first_by copies first i = chosen first i (slice_get copies first) (slice_get copies i)
