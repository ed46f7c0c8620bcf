-- When nodes go off and come on.
--     is_down    a link is down behind changes
--     has_up     a node has a link that is up behind changes
--     switches   with which changes a node loses the last link that is up, or has one again
use Rattle.std.specs.Prelude.{ℕ, zero, suc, ◌+◌, ◌==◌, ◌&&◌, ◌||◌, not, Bool, false, if◌then◌else◌, List, [], ◌∷◌, ◌++◌, length, take, slice_get, Option, Some, None}
use Rattle.std.specs.List.{list_any}
use Rattle.hsr_scenario.specs.declared.steps.Order.{Order}
use Rattle.hsr_topology.specs.declared.end.End.{End}
use Rattle.hsr_downs.specs.Changes.{changes}
use Rattle.hsr_downs.specs.declared.changing.Change.{Change}
use Rattle.hsr_downs.specs.declared.switching.Switch.{Switch}

-- ---- links

-- the last change of a link counts; behind none it is as it was
abbrev pub is_down_from : ℕ → Bool → List Change → Bool
is_down_from link was [] = was
is_down_from link was (change ∷ later) = is_down_from link (if change.link == link then change.is_cut else was) later

-- all links are up at first
abbrev pub is_down : ℕ → List Change → Bool
is_down link changes = is_down_from link false changes

-- ---- nodes

abbrev pub is_at : ℕ → List End → Bool
is_at node link = list_any (λ end. end.node == node) link

-- of links that have numbers from one on
abbrev pub has_up_from : ℕ → List Change → ℕ → List (List End) → Bool
has_up_from node changes number [] = false
has_up_from node changes number (link ∷ links) = (is_at node link && not (is_down number changes)) || has_up_from node changes (number + 1) links

abbrev pub has_up : ℕ → List Change → List (List End) → Bool
has_up node changes links = has_up_from node changes 0 links

-- ---- switches

-- by whether the node had a link that was up before the change, and whether it has one behind it
abbrev pub switch_between : ℕ → Change → Bool → Bool → List Switch
switch_between node change was_up is_up =
    if (if was_up then not is_up else is_up) then record { node = node; is_off = was_up; change = change } ∷ [] else []

-- of a node, with a change between those before it and these with it
abbrev pub switch_of : List (List End) → List Change → List Change → Change → ℕ → List Switch
switch_of links before after change node = switch_between node change (has_up node before links) (has_up node after links)

-- of the nodes at the ends of a link
abbrev pub switches_with : List (List End) → List Change → List Change → Change → List End → List Switch
switches_with links before after change [] = []
switches_with links before after change (end ∷ ends) = switch_of links before after change end.node ++ switches_with links before after change ends

abbrev pub switches_if : List (List End) → List Change → List Change → Change → Option (List End) → List Switch
switches_if links before after change None = []
switches_if links before after change (Some link) = switches_with links before after change link

-- a change switches no node but those of its link
abbrev pub switches_by : List (List End) → List Change → List Change → Change → List Switch
switches_by links before after change = switches_if links before after change (slice_get links change.link)

abbrev pub switches_of : List (List End) → List Change → ℕ → Option Change → List Switch
switches_of links changes i None = []
switches_of links changes i (Some change) = switches_by links (take i changes) (take (i + 1) changes) change

-- with the change at an index among all
abbrev pub switches_at : List (List End) → List Change → ℕ → List Switch
switches_at links changes i = switches_of links changes i (slice_get changes i)

-- with the changes before one
abbrev pub switches_below : List (List End) → List Change → ℕ → List Switch
switches_below links changes zero = []
switches_below links changes (suc i) = switches_below links changes i ++ switches_at links changes i

abbrev pub switches_in : List (List End) → List Change → List Switch
switches_in links changes = switches_below links changes (length changes)

abbrev pub switches : List (List End) → List Order → List Switch
switches links orders = switches_in links (changes orders)
