-- Entries of a table, the oldest first, in chains: each leads to the next older one of its bucket. Serials count all
-- entries ever made, from 1 on; `gone` of them, the oldest, are no longer held.
use Rattle.std.specs.Prelude.{ℕ, suc, ◌≡◌, ◌≢◌, ◌-◌, ◌<◌, ◌≤◌, List, [], ◌∷◌, length, take, drop, map, slice_get, slice_index, nat_lt, Option, Some, None, if◌then◌else◌}
use Rattle.hsr_duptable.specs.Buckets.{bucket_of}
use Rattle.hsr_duptable.specs.declared.note.Note.{Note}
use Rattle.hsr_duptable.specs.declared.chain.Entry.{Entry}

abbrev pub notes_of : List Entry → List Note
notes_of entries = map (λ entry. entry.note) entries

-- the last `count` entries, all of them where they are fewer
abbrev pub last_entries : ℕ → List Entry → List Entry
last_entries count entries = drop (length entries - count) entries

-- the entry that has a serial, where it is held
abbrev pub entry_of : ℕ → List Entry → ℕ → Option Entry
entry_of gone entries serial = if nat_lt gone serial then slice_get entries (serial - gone - 1) else None

-- the serial is that of the youngest entry of the bucket, or of one that is gone where the bucket has none
abbrev pub IsYoungest : ℕ → ℕ → ℕ → List Entry → ℕ → Type 0
IsYoungest buckets bucket gone [] serial = serial ≤ gone
IsYoungest buckets bucket gone (entry ∷ entries) serial =
    IsYoungest buckets bucket (suc gone) entries serial
    × (serial ≡ suc gone → bucket_of buckets entry.note.key ≡ bucket)
    × (serial ≤ gone → bucket_of buckets entry.note.key ≢ bucket)

-- each entry leads to the youngest of its bucket among those before it
abbrev pub AreLinked : ℕ → ℕ → List Entry → Type 0
AreLinked buckets gone entries =
    (place : ℕ) (entry : Entry) → slice_get entries place ≡ Some entry → IsYoungest buckets (bucket_of buckets entry.note.key) gone (take place entries) entry.older

-- the head of each bucket leads to its youngest entry, and so on down
pub record AreChained (buckets : ℕ) (entries : List Entry) (heads : List ℕ) (noted : ℕ) : Type 0 where
  pub counted : length entries ≤ noted
  pub head_count : length heads ≡ buckets
  pub youngest : (bucket : ℕ) → bucket < buckets → IsYoungest buckets bucket (noted - length entries) entries (slice_index heads bucket)
  pub older : AreLinked buckets (noted - length entries) entries
