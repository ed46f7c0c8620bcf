-- A link apart from its rows, and with them again.
--     bare_of   what a link is but its rows, with what the ports at its ends keep
--     whole     the link that rows and all else are
--     AreWhole  rows, and all else, that are of links
--     joined    these links
use Rattle.std.specs.Prelude.{◌≡◌, ◌≤◌, ⊤, List, [], ◌∷◌, map, vec_capacity, vec_len}
use Rattle.hsr_link.specs.Parts.{Queues, link_of, queues_of}
use Rattle.hsr_link.specs.declared.row.Row.{Row}
use Rattle.hsr_finished_run.specs.Finished.{items_of}
use Rattle.hsr_world_laws.specs.Spans.{Lane, Span}
use Rattle.hsr_world_links.specs.Views.{lane_view}
use Rattle.hsr_world_links.specs.declared.parting.Bare as code
use Rattle.hsr_world_links.specs.declared.parting.Parted.{Parted}

pub record Bare : Type 0 where
  pub queues : Queues
  pub forth : Lane
  pub back : Lane

abbrev pub bare_view : code.Bare → Bare
bare_view bare = record { queues = bare.queues; forth = lane_view bare.forth; back = lane_view bare.back }

abbrev pub rows_in : Span → List Row
rows_in span = span.link.rows

abbrev pub bare_of : Span → Bare
bare_of span = record { queues = queues_of span.link; forth = span.forth; back = span.back }

abbrev pub whole : List Row → Bare → Span
whole rows bare = record { link = link_of rows bare.queues; forth = bare.forth; back = bare.back }

-- the queues of each are those of its rows
abbrev pub AreWhole : List (List Row) → List Bare → Type 0
AreWhole [] [] = ⊤
AreWhole [] (bare ∷ bares) = ⊥
AreWhole (rows ∷ all) [] = ⊥
AreWhole (rows ∷ all) (bare ∷ bares) = (bare.queues ≡ queues_of (link_of rows bare.queues)) × AreWhole all bares

abbrev pub joined : List (List Row) → List Bare → List Span
joined [] bares = []
joined (rows ∷ all) [] = []
joined (rows ∷ all) (bare ∷ bares) = whole rows bare ∷ joined all bares

-- the parts of these links, and room for as many links
pub record IsParted (spans : List Span) (parted : Parted) : Type 0 where
  pub rows : map items_of parted.rows.items ≡ map rows_in spans
  pub bares : map bare_view parted.bares.items ≡ map bare_of spans
  pub room : (parted.home.items ≡ []) × (vec_len parted.home ≡ 0) × (vec_len parted.bares ≤ vec_capacity parted.home)
