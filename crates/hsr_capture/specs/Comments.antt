-- What a capture says of links and rows, in words.
--     interface_name, interface_description    of a link's direction
--     comment                                  of a row: what became of its copy, by which entry, of which send it is, and the number
--                                              of its frame
use Rattle.std.specs.Prelude.{ℕ, ◌+◌, Bool, if◌then◌else◌, List, [], ◌∷◌, ◌++◌, codes, slice_get, Option, Some, None, Result, Ok, Err}
use Rattle.std.specs.Fmt.{decimal}
use Rattle.hsr_frame.specs.Words.{cause_word}
use Rattle.hsr_frame.specs.declared.node.Cause.{Cause}
use Rattle.hsr_frame.specs.declared.node.Cause.TheVariants.{Passed}
use Rattle.hsr_frame.specs.declared.fault.FrameFault.{FrameFault}
use Rattle.hsr_tag.specs.Seen.{classified}
use Rattle.hsr_tag.specs.declared.seen.Seen.{Seen}
use Rattle.hsr_tag.specs.declared.seen.Seen.TheVariants.{Plain, Tagged}
use Rattle.hsr_node.specs.Words.{letter}
use Rattle.hsr_node.specs.declared.entry.Entry.{Entry}
use Rattle.hsr_node.specs.declared.event.Outcome.{Outcome}
use Rattle.hsr_node.specs.declared.event.Outcome.TheVariants.{Judged}
use Rattle.hsr_node.specs.declared.event.Probe.{Probe}
use Rattle.hsr_node.specs.declared.place.Place.{Place}
use Rattle.hsr_link.specs.Words.{dir_word, fate_word}
use Rattle.hsr_link.specs.declared.row.Dir.{Dir}
use Rattle.hsr_link.specs.declared.row.Fate.{Fate}
use Rattle.hsr_link.specs.declared.row.Fate.TheVariants.{LostDown, LostCut, LostOverrun}
use Rattle.hsr_link.specs.declared.row.Row.{Row}
use Rattle.hsr_run_laws.specs.Run.{Run, ends_of, from_end, record_of, rows_of, to_end}
use Rattle.hsr_topology.specs.declared.end.End.{End}
use Rattle.hsr_timeline.specs.Names.{name_of, port_text}
use Rattle.hsr_timeline.specs.declared.shown.Shown.{Shown}

-- ---- interfaces

abbrev pub name_from : List (List ℕ) → List Place → End → End → List ℕ
name_from names places from to = port_text (codes ".") names places from ++ codes ">" ++ port_text (codes ".") names places to

abbrev pub interface_name : List (List ℕ) → Run → ℕ → Dir → List ℕ
interface_name names run l dir = name_from names run.places (from_end dir (ends_of run l)) (to_end dir (ends_of run l))

unfoldable pub interface_description : ℕ → Dir → List ℕ
interface_description l dir = codes "link " ++ decimal l ++ codes " " ++ dir_word dir

-- ---- comments

unfoldable pub send_words : List ℕ
send_words = codes "; copy of send "

-- an entry: its node, and its place in that node's record
unfoldable pub entry_text : List (List ℕ) → ℕ → ℕ → List ℕ
entry_text names node place = name_of names node ++ codes ":" ++ decimal place

-- of which send a copy is
unfoldable pub send_text : List (List ℕ) → Probe → List ℕ
send_text names send = send_words ++ entry_text names send.node send.place

abbrev pub send_if : List (List ℕ) → Option Probe → List ℕ
send_if names None = []
send_if names (Some send) = send_text names send

abbrev pub loss_reason : Fate → List ℕ
loss_reason LostDown = codes "the link was cut"
loss_reason LostCut = codes "the link was cut while it waited"
loss_reason LostOverrun = codes "no room on the link"
loss_reason fate = []

unfoldable pub loss_text : Fate → List ℕ
loss_text fate = codes "lost (" ++ fate_word fate ++ codes ": " ++ loss_reason fate ++ codes ")"

-- the ports by which a copy was passed on, each behind a space
abbrev pub letters_from : Place → ℕ → List Bool → List ℕ
letters_from place n [] = []
letters_from place n (leaves ∷ more) = (if leaves then codes " " ++ letter place n ∷ [] else []) ++ letters_from place (n + 1) more

abbrev pub number_text : Option ℕ → List ℕ
number_text None = []
number_text (Some seq) = codes ", numbered " ++ decimal seq

-- what became of an arrival
abbrev pub judgement : Place → Bool → List Bool → Option ℕ → Cause → List ℕ
judgement place up ports seq Passed = codes "passed" ++ (if up then codes " up" else []) ++ letters_from place 0 ports ++ number_text seq
judgement place up ports seq cause = cause_word cause

abbrev pub outcome_text : Place → Outcome → List ℕ
outcome_text place (Judged up ports seq cause) = judgement place up ports seq cause
outcome_text place outcome = []

abbrev pub judged_if : Option Place → Option Entry → List ℕ
judged_if None x = []
judged_if (Some place) None = []
judged_if (Some place) (Some x) = outcome_text place x.outcome

-- where a copy came, and what became of it by the entry at a place of that node's record
abbrev pub judged_text : List (List ℕ) → Run → End → ℕ → List ℕ
judged_text names run end place = port_text (codes " ") names run.places end ++ codes ": " ++ judged_if (slice_get run.places end.node) (slice_get (record_of run end.node) place)

-- what became of the copy of a row: by the entry that judged it, or by its fate
abbrev pub became : List (List ℕ) → Run → Shown → Row → List ℕ
became names run shown row =
    if shown.is_lost then loss_text row.fate else judged_text names run (to_end row.dir (ends_of run shown.link)) shown.place

unfoldable pub judge_words : List ℕ
judge_words = codes "; judged by entry "

-- the entry that judged a copy
unfoldable pub judge_text : List (List ℕ) → ℕ → ℕ → List ℕ
judge_text names node place = judge_words ++ entry_text names node place

-- none did where it was lost
abbrev pub judge_if : List (List ℕ) → Shown → List ℕ
judge_if names shown = if shown.is_lost then [] else judge_text names shown.node shown.place

-- the sequence number of a frame; none where it has no tag
abbrev pub sequence_text : Result Seen FrameFault → List ℕ
sequence_text (Err fault) = []
sequence_text (Ok (Plain frame)) = []
sequence_text (Ok (Tagged frame)) = codes "; sequence number " ++ decimal frame.seq

abbrev pub comment : List (List ℕ) → Run → Shown → Row → List ℕ
comment names run shown row =
    became names run shown row ++ send_if names row.carried.probe ++ judge_if names shown ++ sequence_text (classified row.carried.octets)

-- that of the row that stands somewhere, if there is one
abbrev pub comment_if : List (List ℕ) → Run → Shown → Option Row → List ℕ
comment_if names run shown None = []
comment_if names run shown (Some row) = comment names run shown row

abbrev pub comment_of : List (List ℕ) → Run → Shown → List ℕ
comment_of names run shown = comment_if names run shown (slice_get (rows_of run shown.link) shown.number)
