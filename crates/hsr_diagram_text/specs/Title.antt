-- The title of a picture.
use Rattle.std.specs.Prelude.{ℕ, Bool, false, List, ◌++◌, codes, count_by, length, slice_get, Option, Some, None}
use Rattle.std.specs.Fmt.{decimal}
use Rattle.hsr_run_laws.specs.Run.{Run}
use Rattle.hsr_deliveries.specs.Delivered.{Delivery, is_complete}
use Rattle.hsr_diagram.specs.Pictures.{Picture}
use Rattle.hsr_diagram.specs.declared.sending.Sent.{Sent}

abbrev pub complete_if : Option Delivery → Bool
complete_if None = false
complete_if (Some d) = is_complete d

-- a send that is listed is complete
abbrev pub is_complete_in : List Delivery → Sent → Bool
is_complete_in deliveries sent = complete_if (slice_get deliveries sent.number)

-- how large a run is: its nodes, its links, and the entries of its tables
unfoldable pub run_words : ℕ → ℕ → ℕ → List ℕ
run_words nodes links entries =
    codes "HSR run: " ++ decimal nodes ++ codes " nodes, " ++ decimal links ++ codes " links, tables of " ++ decimal entries

-- how much of it is shown: sends, how many of these are complete, and copies
unfoldable pub shown_words : ℕ → ℕ → ℕ → List ℕ
shown_words sends complete copies =
    codes "; shown: sends " ++ decimal sends ++ codes ", complete " ++ decimal complete ++ codes ", copies " ++ decimal copies

abbrev pub title_words : Run → Picture → List ℕ
title_words run picture =
    run_words (length run.places) (length run.links) run.capacity
    ++ shown_words (length picture.sends) (count_by (is_complete_in picture.deliveries) picture.sends) (length picture.arrows)
