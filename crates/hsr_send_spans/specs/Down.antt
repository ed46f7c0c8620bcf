-- Which links are cut at a time, and which are down in a span, as sets of their numbers.
--     AreCutAt    a set has just the links that are cut at a time
--     AreDownIn   a set has just the links that are down at some time of a span
use Rattle.std.specs.Prelude.{ℕ, ◌<◌, ◌≡◌, ◌||◌, Bool, false, List}
use Rattle.hsr_bitset.specs.Numbers.{has}
use Rattle.hsr_scenario.specs.declared.steps.Order.{Order}
use Rattle.hsr_plays.specs.Spans.{cut_after, is_cut_at, is_down}
use Rattle.hsr_plays.specs.declared.span.SendSpan.{SendSpan}

abbrev pub AreCutAt : List Order → ℕ → List ℕ → Type 0
AreCutAt orders time set = (link : ℕ) → link < 512 → has set link ≡ is_cut_at orders time link

abbrev pub AreDownIn : List Order → SendSpan → List ℕ → Type 0
AreDownIn orders span set = (link : ℕ) → link < 512 → has set link ≡ is_down orders span link

-- a link was down, or a step cuts it
abbrev pub is_down_with : ℕ → Bool → Order → Bool
is_down_with link was order = was || cut_after link false order
