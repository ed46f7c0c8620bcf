-- Runs of group frames that came one way alone at a point, by their first copies: the ring is open between the sources that came by the
-- one way and those that came by the other.
use Rattle.std.specs.Prelude.{ℕ, ◌≡◌, ◌-◌, ◌==◌, ◌&&◌, ◌||◌, Bool, true, false, if◌then◌else◌, List, [], ◌∷◌, ◌++◌, length, filter, map, replicate, reverse, slice_get, slice_index, Some, option_map, unwrap_or}
use Rattle.std.specs.List.{AllZip, flat_map, list_any, range_with_len}
use Rattle.hsr_frame.specs.Address.{is_among, is_group, is_same_address}
use Rattle.hsr_frame_groups.specs.Frames.{CaughtFields}
use Rattle.hsr_sightings.specs.Ring.{Ring, goes, is_at}
use Rattle.hsr_sightings.specs.Seen.{came_both}
use Rattle.hsr_sightings.specs.Sightings.{Sighting, came_both_ways, came_by, is_once, is_to_group, sees_both_ways, sightings}
use Rattle.hsr_sightings.specs.Fields as the_sighting
use Rattle.hsr_health.specs.Counted.{changed, goes_to_group, kept_by}
use Rattle.hsr_health.specs.declared.broken.Going.{Going}
use Rattle.hsr_health.specs.declared.broken.Span as the_span

-- a run: its sightings, the latest first
abbrev pub Span : Type 0
Span = List Sighting

-- a source is among those of a run
abbrev pub is_of_span : List ℕ → Span → Bool
is_of_span source span = list_any (λ s. is_same_address s.first.copy.src source) span

-- The runs, the latest first, and the one that goes on. A group frame that came one way alone goes on with a run or begins one; a group
-- frame of one of its sources that came both ways ends it.
pub record Spans : Type 0 where
  pub ended : List Span
  pub going : Span

abbrev pub end_span : Spans → Spans
end_span spans = record { ended = spans.going ∷ spans.ended; going = [] }

abbrev pub put_sighting : Ring → Sighting → Spans → Spans
put_sighting ring s spans =
    if is_once ring s.copies then record spans { going = s ∷ spans.going } else
    (if came_both_ways ring s.copies && is_of_span s.first.copy.src spans.going then end_span spans else spans)

-- of group frames at a point, the latest first
abbrev pub spans_in : Ring → List Sighting → Spans
spans_in ring [] = record { ended = []; going = [] }
spans_in ring (s ∷ before) = put_sighting ring s (spans_in ring before)

abbrev pub all_spans : Spans → List Span
all_spans spans = if length spans.going == 0 then spans.ended else spans.going ∷ spans.ended

-- a group frame at a point
abbrev pub is_group_at : ℕ → Sighting → Bool
is_group_at point s = is_to_group s && (s.point == point)

abbrev pub broken_at : Ring → ℕ → List Sighting → List Span
broken_at ring point sightings = all_spans (spans_in ring (filter (is_group_at point) sightings))

-- of the sources, in their order, those of which a frame of a run came one way
abbrev pub sources_by : Ring → ℕ → List (List ℕ) → Span → List (List ℕ)
sources_by ring way macs span = filter (λ mac. list_any (λ s. is_same_address s.first.copy.src mac && came_by ring way s.copies) span) macs

-- where both ways have a source in common, or one has none, frames were lost here and there, and nothing is broken
abbrev pub is_thin_by : List (List ℕ) → List (List ℕ) → Bool
is_thin_by by_0 by_1 = (length by_0 == 0) || (length by_1 == 0) || list_any (λ source. is_among by_1 source) by_0

-- ---- the runs of all points

pub record Run : Type 0 where
  pub point : ℕ
  pub frames : Span

abbrev pub run_at : ℕ → Span → Run
run_at point span = record { point = point; frames = span }

-- the runs of a point, in the order of time
abbrev pub runs_at : Ring → List CaughtFields → ℕ → List Run
runs_at ring copies point = map (run_at point) (reverse (broken_at ring point (sightings ring (reverse copies))))

-- the runs of the points that see both ways, point by point
abbrev pub runs_if : Ring → List CaughtFields → ℕ → Bool → List Run
runs_if ring copies point sees_both = if sees_both then runs_at ring copies point else []

abbrev pub runs_of : Ring → List CaughtFields → ℕ → List Run
runs_of ring copies points = flat_map (λ point. runs_if ring copies point (sees_both_ways ring copies point)) (range_with_len 0 points)

-- a run as it is told: the moments of its first and its last frame, how many there are, and the sources that came by each way
pub record IsRun (ring : Ring) (macs : List (List ℕ)) (run : Run) (told : the_span.Span) : Type 0 where
  pub point : told.point ≡ run.point
  pub first : option_map (λ (s : Sighting). s.first.at) (slice_get (reverse run.frames) 0) ≡ Some told.first
  pub last : option_map (λ (s : Sighting). s.first.at) (slice_get run.frames 0) ≡ Some told.last
  pub frames : told.frames ≡ length run.frames
  pub by_0 : told.by_0.items ≡ sources_by ring 0 macs run.frames
  pub by_1 : told.by_1.items ≡ sources_by ring 1 macs run.frames

abbrev pub AreRuns : Ring → List (List ℕ) → List Run → List the_span.Span → Type 0
AreRuns ring macs runs told = AllZip (IsRun ring macs) runs told

-- a copy is of a group frame at a point, and came one way
abbrev pub is_seen : Ring → ℕ → ℕ → CaughtFields → Bool
is_seen ring point way c = is_at ring point c && goes ring way c && is_group c.copy.dst

-- ---- how they are found

-- one of these frames is of a source, by the index of that, and came one way
abbrev pub is_marked : List ℕ → ℕ → List the_sighting.Sighting → ℕ → Bool
is_marked of_copy way seen k = list_any (λ s. (slice_index of_copy s.first == k) && kept_by way s) seen

abbrev pub AreMarked : List ℕ → ℕ → List the_sighting.Sighting → List Bool → Type 0
AreMarked of_copy way seen marks = (k : ℕ) (own : Bool) → slice_get marks k ≡ Some own → own ≡ is_marked of_copy way seen k

-- a test of addresses says what was found for each by its index
abbrev pub IsTestOf : List (List ℕ) → (ℕ → Bool) → (List ℕ → Bool) → Type 0
IsTestOf macs found test = (k : ℕ) (mac : List ℕ) → slice_get macs k ≡ Some mac → found k ≡ test mac

abbrev pub AreTested : List (List ℕ) → List Bool → (List ℕ → Bool) → Type 0
AreTested macs marks test = (k : ℕ) (mac : List ℕ) (own : Bool) → slice_get macs k ≡ Some mac → slice_get marks k ≡ Some own → own ≡ test mac

-- a run, by its frames in the order of time
pub record IsTold (macs : List (List ℕ)) (of_copy : List ℕ) (place : ℕ) (seen : List the_sighting.Sighting) (told : the_span.Span) : Type 0 where
  pub point : told.point ≡ place
  pub first : (s : the_sighting.Sighting) → slice_get seen 0 ≡ Some s → told.first ≡ s.at
  pub last : (s : the_sighting.Sighting) → slice_get seen (length seen - 1) ≡ Some s → told.last ≡ s.at
  pub frames : told.frames ≡ length seen
  pub by_0 : (test : List ℕ → Bool) → IsTestOf macs (is_marked of_copy 0 seen) test → told.by_0.items ≡ filter test macs
  pub by_1 : (test : List ℕ → Bool) → IsTestOf macs (is_marked of_copy 1 seen) test → told.by_1.items ≡ filter test macs

-- The runs so far: those that ended; of the one that goes on its frames in the order of time, and of each source whether it is one of
-- theirs.
pub record Kept : Type 0 where
  pub ended : List the_span.Span
  pub seen : List the_sighting.Sighting
  pub is_of : List Bool

abbrev pub kept : List the_span.Span → Going → Kept
kept spans going = record { ended = spans; seen = going.seen.items; is_of = going.is_of.items }

abbrev pub none_going : List the_span.Span → ℕ → Kept
none_going spans many = record { ended = spans; seen = []; is_of = replicate many false }

-- the frame goes on with the run
abbrev pub grown : List ℕ → the_sighting.Sighting → Kept → Kept
grown of_copy s old = record { ended = old.ended; seen = old.seen ++ s ∷ []; is_of = changed (λ own. own || true) (slice_index of_copy s.first) old.is_of }

-- the run ends
pub record IsEnded (macs : List (List ℕ)) (of_copy : List ℕ) (point : ℕ) (old new : Kept) : Type 0 where
  pub told : the_span.Span
  pub is_told : IsTold macs of_copy point old.seen told
  pub is : new ≡ none_going (old.ended ++ told ∷ []) (length macs)

-- its source is one of the run's, and it came both ways
abbrev pub is_over : List ℕ → List Bool → the_sighting.Sighting → Bool
is_over of_copy is_of s = came_both s && unwrap_or (slice_get is_of (slice_index of_copy s.first)) false

abbrev pub IsStep : List (List ℕ) → List ℕ → ℕ → the_sighting.Sighting → Bool → Bool → Kept → Kept → Type 0
IsStep macs of_copy point s true over old new = new ≡ grown of_copy s old
IsStep macs of_copy point s false true old new = IsEnded macs of_copy point old new
IsStep macs of_copy point s false false old new = new ≡ old

-- what is kept of a frame to a group, at a point
abbrev pub kept_at : List CaughtFields → ℕ → the_sighting.Sighting → Bool
kept_at copies point s = goes_to_group (slice_get copies s.first) && (s.point == point)

-- any other frame leaves them as they are
abbrev pub IsStepIf : Bool → Type 0 → Kept → Kept → Type 0
IsStepIf true is_step old new = is_step
IsStepIf false is_step old new = new ≡ old

-- where a run goes on at the end, it ends
abbrev pub IsClosed : List (List ℕ) → List ℕ → ℕ → Bool → Kept → List the_span.Span → Type 0
IsClosed macs of_copy point true old new = new ≡ old.ended
IsClosed macs of_copy point false old new = (told : the_span.Span) × IsTold macs of_copy point old.seen told × (new ≡ old.ended ++ told ∷ [])
