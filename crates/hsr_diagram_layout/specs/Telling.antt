-- The sends that aren't complete, below.
--     incomplete    which are listed and aren't complete
--     told_shapes   what is drawn of all
use Rattle.std.specs.Prelude.{ℕ, ◌-◌, nat_lt, not, Bool, false, if◌then◌else◌, List, [], ◌∷◌, ◌++◌, length, map, slice_get, take, Option, Some, None}
use Rattle.std.specs.List.{flat_map}
use Rattle.hsr_deliveries.specs.Delivered.{Delivery, is_complete}
use Rattle.hsr_diagram.specs.declared.sending.Sent.{Sent}
use Rattle.hsr_diagram_text.specs.Told.{more_words, incomplete_words}
use Rattle.hsr_diagram_text.specs.Wrapped.{wrapped}
use Rattle.hsr_svg.specs.Elements.{Shape, text}
use Rattle.hsr_svg.specs.declared.elements.Label.TheVariants as label

-- ---- which

abbrev pub is_open : Option Delivery → Bool
is_open None = false
is_open (Some d) = not (is_complete d)

-- a send that is listed isn't complete
abbrev pub is_incomplete : List Delivery → Sent → Bool
is_incomplete deliveries sent = is_open (slice_get deliveries sent.number)

abbrev pub incomplete_if : List Delivery → Sent → List ℕ
incomplete_if deliveries sent = if is_incomplete deliveries sent then sent.number ∷ [] else []

-- by their indices among the deliveries
abbrev pub incomplete : List Delivery → List Sent → List ℕ
incomplete deliveries sends = flat_map (incomplete_if deliveries) sends

-- ---- the lines

-- a line of a text
abbrev pub line_shape : List ℕ → Shape
line_shape line = text label.Incomplete line

-- a text, line by line
abbrev pub lines_of : List ℕ → List Shape
lines_of words = map line_shape (wrapped words)

abbrev pub told_if : List (List ℕ) → Option Delivery → List Shape
told_if names None = []
told_if names (Some d) = lines_of (incomplete_words names d)

abbrev pub told_at : List (List ℕ) → List Delivery → ℕ → List Shape
told_at names deliveries n = told_if names (slice_get deliveries n)

abbrev pub more_if : ℕ → List Shape
more_if n = if nat_lt 12 n then lines_of (more_words (n - 12)) else []

-- twelve at most, and how many more there are
unfoldable pub told_shapes : List (List ℕ) → List Delivery → List ℕ → List Shape
told_shapes names deliveries numbers = flat_map (told_at names deliveries) (take 12 numbers) ++ more_if (length numbers)
