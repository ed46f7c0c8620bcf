-- Buckets of notes, and how far a search goes in one.
use Rattle.std.specs.Prelude.{ℕ, ◌+◌, ◌*◌, ◌%◌, ◌==◌, List, [], ◌∷◌, filter, reverse, if◌then◌else◌}
use Rattle.byteorder.specs.Endian.{big_number}
use Rattle.hsr_duptable.specs.Key.{Key, is_same_key}
use Rattle.hsr_duptable.specs.declared.note.Note.{Note}

-- the six octets of the source are a number, the first octet its highest
unfoldable pub bucket_of : ℕ → Key → ℕ
bucket_of buckets key = (31 * big_number 6 key.src + key.seq) % buckets

-- the notes of a bucket
abbrev pub bucket_notes : ℕ → ℕ → List Note → List Note
bucket_notes buckets bucket notes = filter (λ note. bucket_of buckets note.key == bucket) notes

-- how many of the notes there are down to and with the first that has the key; all of them where none has
abbrev pub looks_until : Key → List Note → ℕ
looks_until key [] = 0
looks_until key (note ∷ notes) = if is_same_key note.key key then 1 else looks_until key notes + 1

-- how many notes of the key's bucket are looked at, from the youngest on
abbrev pub looks_of : ℕ → Key → List Note → ℕ
looks_of buckets key notes = looks_until key (reverse (bucket_notes buckets (bucket_of buckets key) notes))
