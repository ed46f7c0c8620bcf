-- Where several points tell a break: the smallest two groups of sources between which all of them allow it.
use Rattle.std.specs.Prelude.{ℕ, zero, suc, ◌+◌, ◌-◌, ◌==◌, ◌&&◌, not, nat_le, nat_lt, Bool, true, false, if◌then◌else◌, List, [], ◌∷◌, ◌++◌, codes, length, Option, Some, None, slice_get}
use Rattle.std.specs.List.{flat_map, list_any}
use Rattle.hsr_frame.specs.Address.{is_among}
use Rattle.hsr_health.specs.Broken.{is_thin_by}
use Rattle.hsr_health.specs.declared.broken.Span.{Span}
use Rattle.hsr_health.specs.declared.health.Health.{Health}
use Rattle.hsr_health_text.specs.Points.{told_of}
use Rattle.hsr_health_text.specs.Words.{macs_text}

-- two runs tell of one time
abbrev pub overlap : Span → Span → Bool
overlap a b = nat_le a.first b.last && nat_le b.first a.last

-- a run that is told tells of a break
abbrev pub is_break : Option Span → Bool
is_break (Some span) = not (is_thin_by span.by_0.items span.by_1.items)
is_break None = false

abbrev pub if_break : List Span → ℕ → List ℕ
if_break spans i = if is_break (slice_get spans i) then i ∷ [] else []

-- the breaks among the runs that are told, by their numbers
abbrev pub breaks_of : List Span → List ℕ → List ℕ
breaks_of spans told = flat_map (if_break spans) told

-- a run is one of a point, and of a run's time
abbrev pub is_beside : ℕ → Span → Option Span → Bool
is_beside point base (Some span) = (span.point == point) && overlap span base
is_beside point base None = false

abbrev pub if_beside : List Span → ℕ → Span → ℕ → List ℕ
if_beside spans point base i = if is_beside point base (slice_get spans i) then i ∷ [] else []

-- the breaks that a point tells in the time of a run
abbrev pub besides_of : List Span → List ℕ → ℕ → Span → List ℕ
besides_of spans breaks point base = flat_map (if_beside spans point base) breaks

-- a run is one of a point before another run's, and of its time
abbrev pub is_before : Span → Option Span → Bool
is_before base (Some span) = nat_lt span.point base.point && overlap span base
is_before base None = false

abbrev pub is_told_before : List Span → List ℕ → Span → Bool
is_told_before spans breaks base = list_any (λ i. is_before base (slice_get spans i)) breaks

-- the addresses of a list that are in another one too
abbrev pub if_among : List (List ℕ) → List ℕ → List (List ℕ)
if_among others mac = if is_among others mac then mac ∷ [] else []

abbrev pub both : List (List ℕ) → List (List ℕ) → List (List ℕ)
both macs others = flat_map (if_among others) macs

-- the sources on either side of a break, and whether several points tell of it
pub record SidesFields : Type 0 where
  pub by_0 : List (List ℕ)
  pub by_1 : List (List ℕ)
  pub is_shared : Bool

abbrev pub sides_by : Span → SidesFields
sides_by span = record { by_0 = span.by_0.items; by_1 = span.by_1.items; is_shared = false }

-- with what one more run allows
abbrev pub narrowed : SidesFields → Span → SidesFields
narrowed sides span = record { by_0 = both sides.by_0 span.by_0.items; by_1 = both sides.by_1 span.by_1.items; is_shared = true }

abbrev pub narrowed_if : SidesFields → Option Span → SidesFields
narrowed_if sides (Some span) = narrowed sides span
narrowed_if sides None = sides

-- with what the first of some runs allows
abbrev pub narrowed_by : List Span → SidesFields → List ℕ → SidesFields
narrowed_by spans sides [] = sides
narrowed_by spans sides (i ∷ others) = narrowed_if sides (slice_get spans i)

abbrev pub narrowed_at : List Span → List ℕ → Span → SidesFields → ℕ → SidesFields
narrowed_at spans breaks base sides point =
    if nat_lt base.point point then narrowed_by spans sides (besides_of spans breaks point base) else sides

-- what the first so many points allow: those behind a run's own that tell of its time
abbrev pub sides_of : List Span → List ℕ → Span → ℕ → SidesFields
sides_of spans breaks base zero = sides_by base
sides_of spans breaks base (suc n) = narrowed_at spans breaks base (sides_of spans breaks base n) n

unfoldable pub break_line : List (List ℕ) → List (List ℕ) → List ℕ
break_line by_0 by_1 = codes "break between " ++ macs_text by_0 ++ codes " and " ++ macs_text by_1 ++ codes "\n"

-- where several points tell of it, and a source is left on either side
abbrev pub sides_text : SidesFields → List ℕ
sides_text sides =
    if sides.is_shared && (not (length sides.by_0 == 0) && not (length sides.by_1 == 0)) then break_line sides.by_0 sides.by_1 else []

-- each break once: where a point before tells of it, it has told it
abbrev pub break_text : List Span → List ℕ → ℕ → Span → List ℕ
break_text spans breaks points base = if is_told_before spans breaks base then [] else sides_text (sides_of spans breaks base points)

abbrev pub break_if : List Span → List ℕ → ℕ → Option Span → List ℕ
break_if spans breaks points (Some base) = break_text spans breaks points base
break_if spans breaks points None = []

abbrev pub break_at : List Span → List ℕ → ℕ → ℕ → List ℕ
break_at spans breaks points i = break_if spans breaks points (slice_get spans i)

-- among the runs that are told
abbrev pub breaks_in : List Span → ℕ → List ℕ → List ℕ
breaks_in spans points breaks = flat_map (break_at spans breaks points) breaks

unfoldable pub breaks_text : Health → List ℕ
breaks_text health =
    breaks_in health.spans.items (length health.tapped.points.items)
    (breaks_of health.spans.items (told_of health.spans.items (length health.tapped.points.items)))
