-- Records that are replayed.
--     IsUnlike     the first entry of a record whose outcome isn't what its past answers, and the number of its line
--     Replayed     what the replay of a record told
use Rattle.std.specs.List.{AllByRecursion}
use Rattle.std.specs.Prelude.{ℕ, ◌≡◌, ◌+◌, ◌<◌, Bool, true, false, List, [], ◌∷◌, ◌++◌, length, take, Result, Ok, Err, slice_index_or}
use Rattle.hsr_node.specs.Kept.{Record, answer_to, owner_of, past_of}
use Rattle.hsr_node.specs.Record.{IsLegal}
use Rattle.hsr_node.specs.declared.entry.Entry.{Entry}
use Rattle.hsr_node.specs.declared.place.Place.{Place}
use Rattle.hsr_transcript_lines.specs.Lines.{line_count}
use Rattle.hsr_transcript.specs.declared.fault.ReadFault.{ReadFault}
use Rattle.hsr_transcript.specs.declared.fault.ReadFault.TheVariants.{BadLine, NoMemory}

-- a record of a node, up to one of its entries
abbrev pub front_of : ℕ → Place → ℕ → List Entry → Record
front_of node place k entries = record { number = node; place = place; entries = take k entries }

-- the entry is not what a record answers to its event: the event is refused, or its outcome is another one
abbrev pub Differs : ℕ → Record → Entry → Type 0
Differs capacity r entry = ¬ (answer_to capacity r entry.at entry.event ≡ Ok entry.outcome)

-- Of entries the first of which stands on line `first` this one is refused, and those before it are what their past answers.
pub record IsUnlike (capacity node : ℕ) (place : Place) (entries : List Entry) (first line : ℕ) : Type 0 where
  pub at : ℕ
  pub entry : Entry
  pub within : at < length entries
  pub there : slice_index_or entries at entry ≡ entry
  pub legal : IsLegal capacity (owner_of (front_of node place at entries)) (past_of (front_of node place at entries))
  pub differs : Differs capacity (front_of node place at entries) entry
  pub number : line ≡ first + at

-- a replayed record is a kept one, or an entry is refused
abbrev pub Replayed : ℕ → ℕ → Place → List Entry → ℕ → Result Record ReadFault → Type 0
Replayed capacity node place entries first (Ok r) = (r ≡ record { number = node; place = place; entries = entries }) × IsLegal capacity (owner_of r) (past_of r)
Replayed capacity node place entries first (Err (BadLine line)) = IsUnlike capacity node place entries first line
Replayed capacity node place entries first (Err NoMemory) = Unit {0}
Replayed capacity node place entries first (Err _) = ⊥

-- an entry that is done again on a record: it is kept, or differs from what the record answers, which is legal
abbrev pub Again : ℕ → Record → Record → Entry → Bool → Type 0
Again capacity old new entry true = new ≡ record old { entries = old.entries ++ entry ∷ [] }
Again capacity old new entry false = IsLegal capacity (owner_of old) (past_of old) × Differs capacity old entry

-- ---- all records

-- the records of nodes that are numbered from n on
abbrev pub records_from : ℕ → List Place → List (List Entry) → List Record
records_from n [] records = []
records_from n (place ∷ places) [] = []
records_from n (place ∷ places) (entries ∷ records) = record { number = n; place = place; entries = entries } ∷ records_from (n + 1) places records

-- each of some records is what the past of its entries answers
abbrev pub AreLegal : ℕ → List Record → Type 0
AreLegal capacity rs = AllByRecursion (λ r. IsLegal capacity (owner_of r) (past_of r)) rs

-- The first entry of all records whose outcome isn't what its past answers; the records begin on line `first`, each with its
-- count.
pub record IsFirstUnlike (capacity : ℕ) (places : List Place) (records : List (List Entry)) (first line : ℕ) : Type 0 where
  pub node : ℕ
  pub place : Place
  pub entries : List Entry
  pub within : node < length places
  pub stands : slice_index_or places node place ≡ place
  pub holds : slice_index_or records node entries ≡ entries
  pub legal : AreLegal capacity (records_from 0 (take node places) (take node records))
  pub unlike : IsUnlike capacity node place entries (first + line_count (take node records) + 1) line

-- all records are replayed, or an entry is refused
abbrev pub ReplayedAll : ℕ → List Place → List (List Entry) → ℕ → Result (List Record) ReadFault → Type 0
ReplayedAll capacity places records first (Ok rs) = (rs ≡ records_from 0 places records) × AreLegal capacity rs
ReplayedAll capacity places records first (Err (BadLine line)) = IsFirstUnlike capacity places records first line
ReplayedAll capacity places records first (Err NoMemory) = Unit {0}
ReplayedAll capacity places records first (Err _) = ⊥
