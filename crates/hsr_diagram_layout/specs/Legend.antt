-- What stands below: the legend, and the foot.
use Rattle.std.specs.Prelude.{Bool, true, false, if◌then◌else◌, List, [], ◌∷◌, ◌++◌, codes}
use Rattle.std.specs.List.{flat_map, list_any}
use Rattle.hsr_diagram.specs.declared.arrow.Arrow.{Arrow}
use Rattle.hsr_diagram.specs.declared.arrow.Look.{Look}
use Rattle.hsr_diagram.specs.declared.arrow.Look.TheVariants.{TakenUp, SentOn, Again, Home, Refused, Lost}
use Rattle.hsr_svg.specs.Elements.{Shape, sample, square, text}
use Rattle.hsr_svg.specs.Style.{look_words, looks}
use Rattle.hsr_svg.specs.declared.elements.Label.TheVariants as label

unfoldable pub sent_shapes : List Shape
sent_shapes = square ∷ text label.Legend (codes "sent") ∷ []

unfoldable pub sample_shapes : Look → List Shape
sample_shapes look = sample look ∷ text label.Legend (look_words look) ∷ []

abbrev pub is_look : Look → Look → Bool
is_look TakenUp TakenUp = true
is_look SentOn SentOn = true
is_look Again Again = true
is_look Home Home = true
is_look Refused Refused = true
is_look Lost Lost = true
is_look look other = false

-- there is an arrow of a look
abbrev pub has_look : List Arrow → Look → Bool
has_look arrows look = list_any (λ arrow. is_look look arrow.look) arrows

abbrev pub sample_if : List Arrow → Look → List Shape
sample_if arrows look = if has_look arrows look then sample_shapes look else []

-- what a mark means, and what the arrows of each look mean that there are
unfoldable pub legend_shapes : List Arrow → List Shape
legend_shapes arrows = sent_shapes ++ flat_map (sample_if arrows) looks

unfoldable pub foot_shapes : List Shape
foot_shapes = text label.Foot (codes "Downwards: moments, and within one the steps that must follow each other.") ∷ []
