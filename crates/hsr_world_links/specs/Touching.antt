-- The links that touch a node: those that have an end at it.
use Rattle.std.specs.Prelude.{ℕ, ◌+◌, ◌==◌, Bool, ◌||◌, ◌≡◌, ◌<◌, if◌then◌else◌, List, [], ◌∷◌, length, map, slice_index_or}
use Rattle.std.specs.List.{range_with_len}
use Rattle.hsr_node.specs.declared.place.Place.{Place}
use Rattle.hsr_world_links.specs.Views.{on_span}
use Rattle.hsr_world_laws.specs.Spans.{Span}

abbrev pub touches : ℕ → Span → Bool
touches n span = span.forth.from.node == n || (span.forth.to.node == n || (span.back.from.node == n || span.back.to.node == n))

-- by their numbers, among the spans from the k-th on
abbrev pub touching_from : ℕ → ℕ → List Span → List ℕ
touching_from n k [] = []
touching_from n k (span ∷ spans) = if touches n span then k ∷ touching_from n (k + 1) spans else touching_from n (k + 1) spans

-- of each node below a number
abbrev pub touching_in : ℕ → List Span → List (List ℕ)
touching_in nodes spans = map (λ n. touching_from n 0 spans) (range_with_len 0 nodes)

abbrev pub touching_of : List (List ℕ) → ℕ → List ℕ
touching_of all n = slice_index_or all n []

-- a change at each of these links, one after another
abbrev pub at_each : (Span → Span) → List ℕ → List Span → List Span
at_each f [] spans = spans
at_each f (l ∷ links) spans = at_each f links (on_span f l spans)

-- these are links below `count`, each once, the lowest first
pub record AreRising (count : ℕ) (links : List ℕ) : Type 0 where
  pub below : (j d : ℕ) → j < length links → slice_index_or links j d < count
  pub rising : (i j d e : ℕ) → i < j → j < length links → slice_index_or links i d < slice_index_or links j e

-- the links are those that touch each of these nodes
abbrev pub AreTouching : List Place → List Span → List (List ℕ) → Type 0
AreTouching places spans all = all ≡ touching_in (length places) spans
