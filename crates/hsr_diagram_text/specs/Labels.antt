-- Nodes, ports, links, and their changes.
use Rattle.std.specs.Prelude.{ℕ, Bool, true, false, List, [], ◌++◌, codes, Option, Some, None}
use Rattle.std.specs.Fmt.{decimal}
use Rattle.hsr_node.specs.Words.{letter}
use Rattle.hsr_node.specs.declared.place.Place.{Place}
use Rattle.hsr_node.specs.declared.place.Place.TheVariants.{Danh, RedBox, QuadBox, Station}
use Rattle.hsr_diagram_text.specs.Moments.{moment_text}

-- what kind of node it is; nothing of a DANH
abbrev pub kind_word : Place → List ℕ
kind_word (Danh mac mode) = []
kind_word (RedBox mac mode) = codes "redbox"
kind_word QuadBox = codes "quadbox"
kind_word (Station macs) = codes "station"

-- the letter of a port; a space, where there is no such node
abbrev pub letter_at : Option Place → ℕ → ℕ
letter_at None port = 32
letter_at (Some place) port = letter place port

abbrev pub link_words : ℕ → List ℕ
link_words link = codes "link " ++ decimal link

-- that a link was cut or mended
abbrev pub change_word : Bool → List ℕ
change_word true = codes "cut"
change_word false = codes "mend"

-- that a node went off or came on
abbrev pub switch_word : Bool → List ℕ
switch_word true = codes "off"
switch_word false = codes "on"

-- what was done, in a word, and when
abbrev pub done_words : List ℕ → ℕ → List ℕ
done_words word moment = word ++ codes " " ++ moment_text moment
