-- Points, their directions, and when frames came one way alone.
use Rattle.std.specs.Prelude.{ℕ, zero, suc, ◌+◌, ◌-◌, ◌%◌, ◌^◌, ◌==◌, ◌&&◌, not, min, nat_le, nat_lt, Bool, false, if◌then◌else◌, List, [], ◌∷◌, ◌++◌, codes, length, count_by, remove, Option, Some, None, slice_get, unwrap_or}
use Rattle.std.specs.Fmt.{decimal}
use Rattle.std.specs.List.{flat_map, list_any, range_with_len}
use Rattle.hsr_health.specs.Broken.{is_thin_by}
use Rattle.hsr_health.specs.declared.broken.Span.{Span}
use Rattle.hsr_health.specs.declared.directions.DirectionNumbers.{DirectionNumbers}
use Rattle.hsr_health.specs.declared.directions.PointNumbers.{PointNumbers}
use Rattle.hsr_health.specs.declared.health.Health.{Health}
use Rattle.hsr_taps.specs.Directions.{interface_of}
use Rattle.hsr_health_text.specs.Words.{macs_text, name_text, pair_text, us_since}

-- ---- directions

-- which of its interface's directions one is: all of it, one lane, or one that packets' flags tell
abbrev pub part_word : ℕ → List ℕ
part_word part =
    if part == 0 then codes "-" else (if part == 1 then codes "0" else (if part == 2 then codes "1" else (if part == 3 then codes "in" else codes "out")))

abbrev pub numbers_at : Option DirectionNumbers → DirectionNumbers
numbers_at (Some numbers) = numbers
numbers_at None = record { again = 0; most = 0; overtaken = 0; late = 0; others = 0; alone = 0 }

unfoldable pub counted_text : DirectionNumbers → List ℕ
counted_text numbers =
    pair_text (codes "again") numbers.again ++ pair_text (codes "most") numbers.most ++ pair_text (codes "overtaken") numbers.overtaken
    ++ pair_text (codes "late") numbers.late ++ pair_text (codes "alone") numbers.alone ++ pair_text (codes "of") numbers.others

abbrev pub counted_at : List DirectionNumbers → ℕ → List ℕ
counted_at directions d = counted_text (numbers_at (slice_get directions d))

abbrev pub way_at : Health → ℕ → ℕ
way_at health d = unwrap_or (slice_get health.tapped.way_of.items d) 0

abbrev pub carried_at : Health → ℕ → ℕ
carried_at health d = unwrap_or (slice_get health.tapped.carried.items d) 0

-- its interface, and which of that one's directions it is
unfoldable pub direction_name : ℕ → List ℕ
direction_name d = codes "direction " ++ decimal (interface_of d) ++ codes " " ++ part_word (d % 5)

unfoldable pub carried_text : Health → ℕ → List ℕ
carried_text health d = pair_text (codes "way") (way_at health d) ++ pair_text (codes "copies") (carried_at health d)

unfoldable pub direction_line : Health → ℕ → List ℕ
direction_line health d =
    direction_name d ++ carried_text health d ++ counted_at health.directions.items d ++ codes "\n"

-- a direction is of a point
abbrev pub is_of : ℕ → Option ℕ → Bool
is_of p (Some point) = point == p
is_of p None = false

-- a point's direction has a line, if any copies came by it
abbrev pub direction_at : Health → ℕ → ℕ → List ℕ
direction_at health p d =
    if is_of p (slice_get health.tapped.point_of.items d) && nat_lt 0 (carried_at health d) then direction_line health d else []

-- of the first so many directions
unfoldable pub directions_text : Health → ℕ → ℕ → List ℕ
directions_text health p many = flat_map (direction_at health p) (range_with_len 0 many)

-- ---- runs that are told

-- the frames of a run, by its number
abbrev pub frames_if : Option Span → ℕ
frames_if (Some span) = span.frames
frames_if None = 0

abbrev pub frames_at : List Span → ℕ → ℕ
frames_at spans i = frames_if (slice_get spans i)

-- of the first so many of these runs the one with the fewest frames, the last of those: its place among them
abbrev pub shorter_of : List Span → List ℕ → ℕ → ℕ → ℕ
shorter_of spans kept first second =
    if nat_le (frames_at spans (unwrap_or (slice_get kept second) 0)) (frames_at spans (unwrap_or (slice_get kept first) 0)) then second else first

abbrev pub shortest_of : List Span → List ℕ → ℕ → ℕ
shortest_of spans kept zero = 0
shortest_of spans kept (suc n) = shorter_of spans kept (shortest_of spans kept n) n

-- the four with the most frames: a fifth pushes out the shortest, the last of those
abbrev pub pushed_out : List Span → List ℕ → List ℕ
pushed_out spans kept = if nat_lt 4 (length kept) then remove kept (shortest_of spans kept (length kept)) else kept

abbrev pub is_at : ℕ → Option Span → Bool
is_at p (Some span) = span.point == p
is_at p None = false

abbrev pub kept_with : List Span → ℕ → List ℕ → ℕ → List ℕ
kept_with spans p kept i = if is_at p (slice_get spans i) then pushed_out spans (kept ++ i ∷ []) else kept

-- of the first so many runs those of a point that are told, in the order of time
abbrev pub kept_of : List Span → ℕ → ℕ → List ℕ
kept_of spans p zero = []
kept_of spans p (suc n) = kept_with spans p (kept_of spans p n) n

unfoldable pub told_at : List Span → ℕ → List ℕ
told_at spans p = kept_of spans p (length spans)

-- those of all points, point by point
unfoldable pub told_of : List Span → ℕ → List ℕ
told_of spans points = flat_map (told_at spans) (range_with_len 0 points)

-- how many runs a point has
abbrev pub runs_at : List Span → ℕ → ℕ
runs_at spans p = count_by (λ span. span.point == p) spans

-- as far as a number of 64 bits counts them, the frames of those of a point that aren't told, of the first so many
abbrev pub left_with : List Span → ℕ → List ℕ → ℕ → ℕ → ℕ
left_with spans p told left i =
    if is_at p (slice_get spans i) && not (list_any (λ j. j == i) told) then min (left + frames_at spans i) (2 ^ 64 - 1) else left

abbrev pub left_of : List Span → ℕ → List ℕ → ℕ → ℕ
left_of spans p told zero = 0
left_of spans p told (suc n) = left_with spans p told (left_of spans p told n) n

-- ---- their lines

-- where both ways have a source in common, or one has none, frames were lost here and there, and nothing is broken
abbrev pub broken_word : Span → List ℕ
broken_word span = if is_thin_by span.by_0.items span.by_1.items then codes "thin " else codes "broken "

unfoldable pub span_line : ℕ → List ℕ → Span → List ℕ
span_line start name span =
    broken_word span ++ name_text name ++ pair_text (codes "from") (us_since start span.first) ++ pair_text (codes "to") (us_since start span.last)
    ++ pair_text (codes "frames") span.frames ++ codes " way-0 " ++ macs_text span.by_0.items ++ codes " way-1 " ++ macs_text span.by_1.items
    ++ codes "\n"

abbrev pub span_if : ℕ → List ℕ → Option Span → List ℕ
span_if start name (Some span) = span_line start name span
span_if start name None = []

abbrev pub span_at : ℕ → List Span → List ℕ → ℕ → List ℕ
span_at start spans name i = span_if start name (slice_get spans i)

unfoldable pub more_line : List ℕ → ℕ → ℕ → List ℕ
more_line name runs frames = codes "broken " ++ name_text name ++ pair_text (codes "more") runs ++ pair_text (codes "frames") frames ++ codes "\n"

-- how many runs there are besides, if there are any
abbrev pub more_if : List ℕ → ℕ → ℕ → List ℕ
more_if name zero frames = []
more_if name (suc runs) frames = more_line name (suc runs) frames

unfoldable pub spans_text : Health → List ℕ → ℕ → List ℕ
spans_text health name p =
    flat_map (span_at health.outline.start health.spans.items name) (told_at health.spans.items p)
    ++ more_if name (runs_at health.spans.items p - length (told_at health.spans.items p))
    (left_of health.spans.items p (told_at health.spans.items p) (length health.spans.items))

-- ---- points

abbrev pub point_numbers : Option PointNumbers → PointNumbers
point_numbers (Some numbers) = numbers
point_numbers None = record { frames = 0; both_ways = false; needed = 0 }

abbrev pub ways_word : Bool → List ℕ
ways_word both = if both then codes " ways both" else codes " ways one"

unfoldable pub point_line : List ℕ → PointNumbers → List ℕ
point_line name numbers =
    codes "point " ++ name_text name ++ pair_text (codes "frames") numbers.frames ++ ways_word numbers.both_ways
    ++ pair_text (codes "needed") numbers.needed ++ codes "\n"

-- a point with its directions and its runs
unfoldable pub point_text : Health → ℕ → List ℕ → List ℕ
point_text health p name =
    point_line name (point_numbers (slice_get health.points.items p)) ++ directions_text health p 320 ++ spans_text health name p

abbrev pub point_if : Health → ℕ → Option (List ℕ) → List ℕ
point_if health p (Some name) = point_text health p name
point_if health p None = []

abbrev pub point_at : Health → ℕ → List ℕ
point_at health p = point_if health p (slice_get health.tapped.points.items p)

unfoldable pub points_text : Health → List ℕ
points_text health = flat_map (point_at health) (range_with_len 0 (length health.tapped.points.items))

-- a point's runs alone
abbrev pub spans_if : Health → ℕ → Option (List ℕ) → List ℕ
spans_if health p (Some name) = spans_text health name p
spans_if health p None = []

abbrev pub spans_at : Health → ℕ → List ℕ
spans_at health p = spans_if health p (slice_get health.tapped.points.items p)

unfoldable pub all_spans : Health → List ℕ
all_spans health = flat_map (spans_at health) (range_with_len 0 (length health.tapped.points.items))
