-- The times in which links are down.
--     shade_shapes    what is drawn behind all else
--     change_shapes   the marks of a cut, and of the mend that follows it
--     sample_shade    what the legend says of them
use Rattle.std.specs.Prelude.{ℕ, nat_lt, not, ◌&&◌, Bool, true, if◌then◌else◌, List, [], ◌∷◌, ◌++◌, codes, Option, Some, None}
use Rattle.std.specs.List.{flat_map, list_any}
use Rattle.hsr_downs.specs.declared.changing.Change.{Change}
use Rattle.hsr_downs.specs.declared.downing.Down.{Down}
use Rattle.hsr_diagram_text.specs.Labels.{change_word, done_words}
use Rattle.hsr_svg.specs.Elements.{Shape, shade, text}
use Rattle.hsr_svg.specs.declared.elements.Label.TheVariants as label

-- ---- which

-- a moment isn't behind all of these
abbrev pub is_by_some : List ℕ → ℕ → Bool
is_by_some moments moment = list_any (λ one. not (nat_lt one moment)) moments

-- a moment isn't before all of these
abbrev pub is_since_some : List ℕ → ℕ → Bool
is_since_some moments moment = list_any (λ one. not (nat_lt moment one)) moments

abbrev pub is_open_since : List ℕ → Option Change → Bool
is_open_since moments None = true
is_open_since moments (Some change) = is_since_some moments change.moment

-- a picture of these moments shows some of a time
abbrev pub is_seen : List ℕ → Down → Bool
is_seen moments down = is_by_some moments down.cut.moment && is_open_since moments down.end

-- the moment of a change is neither behind nor before all of these
abbrev pub is_among : List ℕ → Change → Bool
is_among moments change = is_by_some moments change.moment && is_since_some moments change.moment

-- ---- shades

abbrev pub shade_if : List ℕ → Down → List Shape
shade_if moments down = if is_seen moments down then shade ∷ [] else []

abbrev pub shade_shapes : List ℕ → List Down → List Shape
shade_shapes moments downs = flat_map (shade_if moments) downs

-- ---- marks

-- what was done, in a word
abbrev pub mark_if : List ℕ → List ℕ → Change → List Shape
mark_if moments word change = if is_among moments change then text label.Change (done_words word change.moment) ∷ [] else []

abbrev pub change_if : List ℕ → Change → List Shape
change_if moments change = mark_if moments (change_word change.is_cut) change

-- a cut that ends a time begins another, which has its mark
abbrev pub end_if : List ℕ → Option Change → List Shape
end_if moments None = []
end_if moments (Some change) = if change.is_cut then [] else change_if moments change

abbrev pub change_shapes : List ℕ → Down → List Shape
change_shapes moments down = change_if moments down.cut ++ end_if moments down.end

-- ---- the legend

unfoldable pub down_words : List ℕ
down_words = codes "link down"

unfoldable pub down_shapes : List Shape
down_shapes = shade ∷ text label.Legend down_words ∷ []

abbrev pub sample_shade : List ℕ → List Down → List Shape
sample_shade moments downs = if list_any (is_seen moments) downs then down_shapes else []
