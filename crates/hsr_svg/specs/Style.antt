-- How arrows of each look are drawn. Dashes and points alone tell the looks apart.
use Rattle.std.specs.Prelude.{ℕ, List, [], ◌∷◌, codes}
use Rattle.hsr_diagram.specs.declared.arrow.Look.{Look}
use Rattle.hsr_diagram.specs.declared.arrow.Look.TheVariants.{TakenUp, SentOn, Again, Home, Refused, Lost}

-- all looks, as the legend lists them
abbrev pub looks : List Look
looks = TakenUp ∷ SentOn ∷ Again ∷ Home ∷ Refused ∷ Lost ∷ []

abbrev pub look_colour : Look → List ℕ
look_colour TakenUp = codes "#14732f"
look_colour SentOn = codes "#1f5fbf"
look_colour Again = codes "#b06a00"
look_colour Home = codes "#6e6e6e"
look_colour Refused = codes "#7b2d8b"
look_colour Lost = codes "#c8102e"

abbrev pub look_dashes : Look → List ℕ
look_dashes TakenUp = codes "none"
look_dashes SentOn = codes "11 2"
look_dashes Again = codes "5 3"
look_dashes Home = codes "1.5 2.5"
look_dashes Refused = codes "7 2 1.5 2"
look_dashes Lost = codes "none"

-- the name of what stands at the point of an arrow
abbrev pub look_point : Look → List ℕ
look_point TakenUp = codes "up"
look_point SentOn = codes "on"
look_point Again = codes "again"
look_point Home = codes "home"
look_point Refused = codes "refused"
look_point Lost = codes "lost"

-- what the legend says
abbrev pub look_words : Look → List ℕ
look_words TakenUp = codes "taken up"
look_words SentOn = codes "only sent on"
look_words Again = codes "second copy, dropped"
look_words Home = codes "back at its sender, dropped"
look_words Refused = codes "not for this way, dropped"
look_words Lost = codes "lost"

-- a head, with a dot where the copy was taken up; a cross where it was lost
unfoldable pub head_path : Look → List ℕ
head_path TakenUp = codes "<path d=\"M0 0L-9 -3.2L-9 3.2Z\"/><circle r=\"3.6\"/>"
head_path Lost = codes "<path d=\"M-4 -4L4 4M-4 4L4 -4\" stroke-width=\"1.8\"/>"
head_path look = codes "<path d=\"M0 0L-8 -3L-8 3Z\"/>"
