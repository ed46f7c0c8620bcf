-- What deviates, and in which order it is told.
--     deviations    each observed copy that is late, altered or extra, and each expected copy that is missing
--     IsInOrder     by moment, then packet; what is equal in both stands in the order of the copies
--     IsToldOnce    each copy that deviates is told once, and no other
use Rattle.std.specs.Prelude.{ℕ, ◌≡◌, ◌+◌, ◌<◌, ◌≤◌, ◌==◌, ◌&&◌, ◌⊎◌, Bool, false, if◌then◌else◌, List, ◌++◌, codes, find, length, not, take, slice_get, slice_index_or, Option, Some, None, option_map}
use Rattle.std.specs.List.{count_by, filter, flat_map, range_with_len}
use Rattle.std.specs.List.Sorted.{IsPermutation}
use Rattle.std.specs.Option.{option_or, option_to_list}
use Rattle.hsr_playback.specs.Passages.{us}
use Rattle.hsr_playback.specs.declared.expected.Expected.{Expected}
use Rattle.hsr_playback.specs.declared.passage.Passage.{Passage}
use Rattle.hsr_judging.specs.Fates.{is_found, is_well}
use Rattle.hsr_judging.specs.Judged.{JudgementFields}
use Rattle.hsr_judging.specs.Partition.{one_if}
use Rattle.hsr_judging.specs.Reasons.{is_twice}
use Rattle.hsr_judging.specs.declared.fates.ExpectedFate.{ExpectedFate}
use Rattle.hsr_judging.specs.declared.fates.ExpectedFate.TheVariants as expected
use Rattle.hsr_judging.specs.declared.fates.ObservedFate.{ObservedFate}
use Rattle.hsr_judging.specs.declared.fates.ObservedFate.TheVariants as observed
use Rattle.hsr_judging_text.specs.declared.deviation.Deviation.{Deviation}
use Rattle.hsr_judging_text.specs.declared.deviation.Which.{Which}
use Rattle.hsr_judging_text.specs.declared.deviation.Which.TheVariants as which
use Rattle.hsr_judging_text.specs.declared.deviation.Word.{Word}
use Rattle.hsr_judging_text.specs.declared.deviation.Word.TheVariants.{Twice, Missing, Altered, Late, Stray}

-- ---- words

-- a second copy and a stray one are both extra
abbrev pub word_text : Word → List ℕ
word_text Twice = codes "extra"
word_text Missing = codes "missing"
word_text Altered = codes "altered"
word_text Late = codes "late"
word_text Stray = codes "extra"

-- a number for each, the gravest first
abbrev pub rank : Word → ℕ
rank Twice = 0
rank Missing = 1
rank Altered = 2
rank Late = 3
rank Stray = 4

abbrev pub has_word : Word → Deviation → Bool
has_word w d = rank d.word == rank w

-- the first of the gravest word
abbrev pub gravest : List Deviation → Option Deviation
gravest ds = option_or (find (has_word Twice) ds) (option_or (find (has_word Missing) ds) (option_or (find (has_word Altered) ds)
    (option_or (find (has_word Late) ds) (find (has_word Stray) ds))))

-- ---- observed copies

-- a copy that nothing caused went out a second time, or it didn't
abbrev pub extra_word : List Passage → Passage → Word
extra_word earlier s = if is_twice earlier s then Twice else Stray

-- how an observed copy deviates, if it does
abbrev pub word_by : List Passage → Passage → ObservedFate → Option Word
word_by earlier s observed.Altered = Some Altered
word_by earlier s observed.Late = Some Late
word_by earlier s observed.Extra = Some (extra_word earlier s)
word_by earlier s observed.Same = None
word_by earlier s observed.Ignored = None
word_by earlier s observed.Open = None

abbrev pub seen_deviates : ℕ → Passage → Word → Deviation
seen_deviates k s word = record { at = us s.moment; packet = s.packet; word = word; which = which.Observed k }

abbrev pub observed_by : JudgementFields → ℕ → Option Passage → Option ObservedFate → Option Deviation
observed_by j k (Some s) (Some fate) = option_map (seen_deviates k s) (word_by (take k j.observed) s fate)
observed_by j k _ _ = None

-- the observed copy with this index, if it deviates
unfoldable pub observed_at : JudgementFields → ℕ → Option Deviation
observed_at j k = observed_by j k (slice_get j.observed k) (slice_get j.observed_fates k)

abbrev pub observed_told : JudgementFields → ℕ → List Deviation
observed_told j k = option_to_list (observed_at j k)

-- ---- expected copies

abbrev pub lacking : ℕ → Expected → Deviation
lacking i e = record { at = us e.moment; packet = e.packet; word = Missing; which = which.Expected i }

abbrev pub missing_by : ℕ → Option Expected → Option ExpectedFate → Option Deviation
missing_by i (Some e) (Some expected.Missing) = Some (lacking i e)
missing_by i (Some e) (Some expected.Matched) = None
missing_by i (Some e) (Some expected.Ignored) = None
missing_by i (Some e) (Some expected.Open) = None
missing_by i _ _ = None

-- the expected copy with this index, if it is missing
unfoldable pub missing_at : JudgementFields → ℕ → Option Deviation
missing_at j i = missing_by i (slice_get j.played.expected i) (slice_get j.expected_fates i)

abbrev pub missing_told : JudgementFields → ℕ → List Deviation
missing_told j i = option_to_list (missing_at j i)

-- ---- all

-- each copy that deviates: those that were observed, then those that are missing
unfoldable pub deviations : JudgementFields → List Deviation
deviations j =
    flat_map (observed_told j) (range_with_len 0 (length j.observed)) ++ flat_map (missing_told j) (range_with_len 0 (length j.played.expected))

-- ---- the order

-- an earlier moment, or one moment and no later packet
abbrev pub IsBefore : Deviation → Deviation → Type 0
IsBefore a b = (a.at < b.at) ⊎ ((a.at ≡ b.at) × (a.packet ≤ b.packet))

-- of this moment and packet
abbrev pub is_of : Deviation → Deviation → Bool
is_of x d = (x.at == d.at) && (x.packet == d.packet)

-- those are told that there are, by moment, then packet; what is equal in both keeps its order
pub record IsInOrder (all told : List Deviation) : Type 0 where
  pub same : IsPermutation all told
  pub rises : (k : ℕ) (d : Deviation) → k + 1 < length told → IsBefore (slice_index_or told k d) (slice_index_or told (k + 1) d)
  pub ties : (x : Deviation) → filter (is_of x) told ≡ filter (is_of x) all

-- ---- each once

abbrev pub is_seen : ℕ → Which → Bool
is_seen k (which.Observed n) = n == k
is_seen k (which.Expected n) = false

abbrev pub is_due : ℕ → Which → Bool
is_due i (which.Expected n) = n == i
is_due i (which.Observed n) = false

-- it tells of the observed copy with this index, and of the expected one
abbrev pub tells_seen : ℕ → Deviation → Bool
tells_seen k d = is_seen k d.which

abbrev pub tells_due : ℕ → Deviation → Bool
tells_due i d = is_due i d.which

-- late, altered or extra
abbrev pub deviates : Option ObservedFate → Bool
deviates None = false
deviates (Some fate) = not (is_well fate)

-- missing
abbrev pub lacks : Option ExpectedFate → Bool
lacks None = false
lacks (Some fate) = not (is_found fate)

-- each observed copy that is late, altered or extra, and each expected copy that is missing, is told once; no other is told
pub record IsToldOnce (j : JudgementFields) (told : List Deviation) : Type 0 where
  pub seen : (k : ℕ) → k < length j.observed → count_by (tells_seen k) told ≡ one_if (deviates (slice_get j.observed_fates k))
  pub due : (i : ℕ) → i < length j.played.expected → count_by (tells_due i) told ≡ one_if (lacks (slice_get j.expected_fates i))
