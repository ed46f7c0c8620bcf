-- When links are down.
--     next_of   the next change of a link
--     downs     from each cut of a link to the next change of it
use Rattle.std.specs.Prelude.{ℕ, ◌==◌, if◌then◌else◌, List, [], ◌∷◌, ◌++◌, Option, Some, None}
use Rattle.hsr_scenario.specs.declared.steps.Order.{Order}
use Rattle.hsr_downs.specs.Changes.{changes}
use Rattle.hsr_downs.specs.declared.changing.Change.{Change}
use Rattle.hsr_downs.specs.declared.downing.Down.{Down}

abbrev pub next_of : ℕ → List Change → Option Change
next_of link [] = None
next_of link (change ∷ later) = if change.link == link then Some change else next_of link later

-- a cut begins one; a mend begins none
abbrev pub down_by : Change → List Change → List Down
down_by change later = if change.is_cut then record { cut = change; end = next_of change.link later } ∷ [] else []

abbrev pub downs_in : List Change → List Down
downs_in [] = []
downs_in (change ∷ later) = down_by change later ++ downs_in later

abbrev pub downs : List Order → List Down
downs orders = downs_in (changes orders)
