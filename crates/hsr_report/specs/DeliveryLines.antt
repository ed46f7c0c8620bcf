-- The lines of deliveries in a report: one for each send that isn't complete, then how many there are and how many are
-- complete.
use Rattle.std.specs.Prelude.{ℕ, List, [], ◌∷◌, ◌++◌, length, count_by, codes, if◌then◌else◌}
use Rattle.std.specs.Fmt.{decimal}
use Rattle.std.specs.List.{flat_map}
use Rattle.hsr_text.specs.Words.{mac_text}
use Rattle.hsr_link.specs.Words.{dir_word, fate_word}
use Rattle.hsr_naming.specs.Naming.{node_text, send_text}
use Rattle.hsr_naming.specs.declared.naming.Naming.{Naming}
use Rattle.hsr_deliveries.specs.Delivered.{Delivery, is_complete}
use Rattle.hsr_deliveries.specs.declared.loss.Loss.{Loss}

-- a comma, and a text
abbrev pub behind : {X : Type 0} → (X → List ℕ) → X → List ℕ
behind text x = codes "," ++ text x

-- texts parted by commas; a hyphen where there are none
abbrev pub parted : {X : Type 0} → (X → List ℕ) → List X → List ℕ
parted text [] = codes "-"
parted text (x ∷ xs) = text x ++ flat_map (behind text) xs

-- a loss: link, direction and fate
unfoldable pub loss_text : Loss → List ℕ
loss_text loss = decimal loss.link ++ codes ":" ++ dir_word loss.dir ++ codes ":" ++ fate_word loss.fate

-- which send it is, its moment in microseconds as it was given, and its destination
unfoldable pub sent_text : Naming → Delivery → List ℕ
sent_text naming d = codes "send " ++ send_text naming d.send ++ codes " at " ++ decimal d.at ++ codes " to " ++ mac_text d.dst

-- who got it: how many nodes it was due at, then which missed it, took it up twice, or took it up though it wasn't due there
unfoldable pub nodes_text : Naming → Delivery → List ℕ
nodes_text naming d =
    codes " due " ++ decimal (length d.due) ++ codes " missed " ++ parted (node_text naming) d.missed ++ codes " twice "
    ++ parted (node_text naming) d.twice ++ codes " strayed " ++ parted (node_text naming) d.strayed

unfoldable pub delivery_line : Naming → Delivery → List ℕ
delivery_line naming d = sent_text naming d ++ nodes_text naming d ++ codes " lost " ++ parted loss_text d.lost ++ codes "\n"

-- the line of a send, if it isn't complete
abbrev pub line_if : Naming → Delivery → List ℕ
line_if naming d = if is_complete d then [] else delivery_line naming d

-- how many sends there are, and how many of them are complete
unfoldable pub tally_text : ℕ → ℕ → List ℕ
tally_text sends complete = codes "deliveries " ++ decimal sends ++ codes " complete " ++ decimal complete

unfoldable pub summary_line : List Delivery → List ℕ
summary_line ds = tally_text (length ds) (count_by is_complete ds) ++ codes "\n"

abbrev pub delivery_lines : Naming → List Delivery → List ℕ
delivery_lines naming ds = flat_map (line_if naming) ds ++ summary_line ds
