-- A whole text is read from its lines, and only from them.
use Rattle.std.proofs.Common.{◌≡◌, ℕ, List, [], ◌∷◌, ◌++◌, length, Option, Some, Ok, refl, sym, subst, codes, append_assoc}
use Rattle.std.specs.List.{AllByRecursion}
use Rattle.std.specs.Fmt.{decimal}
use Rattle.hsr_link.specs.declared.row.Row.{Row}
use Rattle.hsr_node.specs.declared.entry.Entry.{Entry}
use Rattle.hsr_node.specs.declared.place.Place.{Place}
use Rattle.hsr_topology.specs.declared.end.End.{End}
use Rattle.hsr_transcript.specs.Form.{carried_at, carried_on, end_on, form_of, links_on, main_on, nodes_on, only_at, record_at, records_at, records_on, rows_at, said_at, section_at, table_on, version_at}
use Rattle.hsr_transcript_lines.specs.Parsed.{only, count_of, entry_of, link_of, number_in, place_of, row_of, turn_of, version_of, read_entry, read_link, read_place, read_row, read_version}
use Rattle.hsr_transcript_lines.specs.Lines.{head, lines_counted, lines_each, one, section, text_of}
use Rattle.hsr_text.specs.declared.time_unit.TimeUnit.{TimeUnit}
use Rattle.hsr_text.specs.Words.{cut, decimal_of}
use Rattle.hsr_transcript.specs.Reading.{line_of, line_or}
use Rattle.hsr_transcript.specs.Readable.{AreLines, FitEach, IsFixed, IsSection}
use Rattle.hsr_transcript_lines.specs.Readable.{IsLineOf}
use Rattle.hsr_transcript_lines.specs.Spelled.{entry_text, link_text, place_text, row_text, version_text}
use Rattle.hsr_transcript.specs.Transcript.{Said, carried_lines, record_lines, said_front, said_lines}
use Rattle.hsr_transcript.specs.declared.fault.ReadFault.{ReadFault}
use Rattle.hsr_transcript.specs.declared.fault.ReadFault.TheVariants.{Version, BadLine}
use Rattle.hsr_transcript.proofs.OfKind.{Both, Kind, exactly_kind}
use Rattle.hsr_transcript.proofs.Readers.{bind_both, both_by, counted_both, each_both, gives_both, line_both, whole_again, whole_spells}

-- ---- kinds of line

version_kind : Kind version_of version_text
unfolding version_of
version_kind = exactly_kind version_text read_version

place_kind : Kind place_of place_text
unfolding place_of
place_kind = exactly_kind place_text read_place

link_kind : (places : List Place) → Kind (link_of places) (link_text places)
unfolding link_of
link_kind places = exactly_kind (link_text places) (read_link places)

turn_kind : Kind turn_of decimal
unfolding turn_of
turn_kind = exactly_kind decimal decimal_of

entry_kind : (unit : TimeUnit) (place : Place) → Kind (entry_of unit place) (entry_text unit place)
unfolding entry_of
entry_kind unit place = exactly_kind (entry_text unit place) (read_entry unit place)

row_kind : Kind row_of row_text
unfolding row_of
row_kind = exactly_kind row_text read_row

count_kind : (name : List ℕ) → Kind (count_of name) (head name)
unfolding count_of
count_kind name = exactly_kind (head name) (λ line. number_in (cut 32 line).1)

-- ---- sections

section_both : {Y : Type 0} (name : List ℕ) (of : List ℕ → Option Y) (spelled : Y → List ℕ) → Kind of spelled → Both (section_at name of) (section name spelled) (IsSection name of spelled)
unfolding section_at section
section_both name of spelled kind =
    both_by (section_at name of) (lines_counted (head name) (one spelled)) (section name spelled) (λ ys. IsLineOf (count_of name) (head name) (length ys) × AllByRecursion (IsLineOf of spelled) ys) (IsSection name of spelled)
    (λ ys f. record { count = f.0; lines = f.1 }) (λ ys f. (f.count, f.lines)) (λ ys f. refl)
    (counted_both (count_of name) (head name) (line_of of) (one spelled) (IsLineOf of spelled) (count_kind name) (line_both BadLine of spelled kind))

-- a line that stands in each text
fixed_both : (fault : ℕ → ReadFault) (word : List ℕ) → Both (line_or fault (only word)) (λ _. word ∷ []) (λ _. IsFixed word)
fixed_both fault word =
    both_by (line_or fault (only word)) (λ _. word ∷ []) (λ _. word ∷ []) (IsLineOf (only word) (λ _. word)) (λ _. IsFixed word)
    (λ y f. f) (λ y f. f) (λ y f. refl) (line_both fault (only word) (λ _. word) (exactly_kind (λ _. word) (λ _. Some tt)))

-- ---- whole texts

from_parts : (t : Said) (unit : TimeUnit) (nodes : List Place) (links : List (List End)) (main : List ℕ) (records : List (List Entry)) (carried : List (List Row))
    → t.unit ≡ unit → t.nodes ≡ nodes → t.links ≡ links → t.main ≡ main → t.records ≡ records → t.carried ≡ carried
    → record { unit = unit; nodes = nodes; links = links; main = main; records = records; carried = carried } ≡ t
from_parts t unit nodes links main records carried u a b c d e =
    λ i. record { unit = sym u i; nodes = sym a i; links = sym b i; main = sym c i; records = sym d i; carried = sym e i }

-- the lines, one section behind another
abbrev in_row : ℕ → Said → List (List ℕ)
in_row capacity t =
    version_text t.unit ∷ head (codes "table") capacity
    ∷ (section (codes "nodes") place_text t.nodes
    ++ (section (codes "links") (link_text t.nodes) t.links
    ++ (section (codes "main") decimal t.main
    ++ (lines_each (record_lines t.unit) t.nodes t.records
    ++ (lines_each (λ _. carried_lines) t.links t.carried
    ++ codes "end" ∷ [])))))

lines_in_row : (capacity : ℕ) (t : Said) → said_lines capacity t ≡ in_row capacity t
unfolding said_lines said_front
lines_in_row capacity t = simp append_assoc

-- the section of a record
abbrev Recorded : TimeUnit → Place → List Entry → Type 0
Recorded unit place = IsSection (codes "record") (entry_of unit place) (entry_text unit place)

row_both : (capacity : ℕ) → Both (said_at capacity) (in_row capacity) (AreLines capacity)
unfolding said_at table_on nodes_on links_on main_on records_on carried_on end_on version_at only_at records_at rows_at
row_both capacity =
    let end : List (List ℕ) = codes "end" ∷ [] in
    let t6 = λ (ls : List (List End)) (t : Said). lines_each (λ _. carried_lines) ls t.carried ++ end in
    let t5 = λ (unit : TimeUnit) (xs : List Place) (ls : List (List End)) (t : Said). lines_each (record_lines unit) xs t.records ++ t6 ls t in
    let t4 = λ (unit : TimeUnit) (xs : List Place) (ls : List (List End)) (t : Said). section (codes "main") decimal t.main ++ t5 unit xs ls t in
    let t3 = λ (unit : TimeUnit) (xs : List Place) (t : Said). section (codes "links") (link_text xs) t.links ++ t4 unit xs t.links t in
    let t2 = λ (unit : TimeUnit) (t : Said). section (codes "nodes") place_text t.nodes ++ t3 unit t.nodes t in
    let t1 = λ (unit : TimeUnit) (t : Said). head (codes "table") capacity ∷ t2 unit t in
    let no : Said → Unit {0} = λ t. tt in
    bind_both _ (λ unit. version_text unit ∷ []) (IsLineOf version_of version_text) _ t1 (AreLines capacity) (λ t. t.unit) (line_both (λ _. Version) version_of version_text version_kind) (λ t w. w.version) (λ unit h1.
    bind_both _ (λ _. head (codes "table") capacity ∷ []) (λ _. IsFixed (head (codes "table") capacity)) _ (λ _. t2 unit) _ no (fixed_both BadLine (head (codes "table") capacity)) (λ t w. w.0.table) (λ table h2.
    bind_both _ _ _ _ (t3 unit) _ (λ t. t.nodes) (section_both (codes "nodes") place_of place_text place_kind) (λ t w. w.0.0.said.nodes) (λ nodes h3.
    bind_both _ _ _ _ (t4 unit nodes) _ (λ t. t.links) (section_both (codes "links") (link_of nodes) (link_text nodes) (link_kind nodes))
    (λ t w. subst (λ xs. IsSection (codes "links") (link_of xs) (link_text xs) t.links) w.1 w.0.0.0.said.links) (λ links h4.
    bind_both _ _ _ _ (λ _. t5 unit nodes links) _ (λ t. t.main) (section_both (codes "main") turn_of decimal turn_kind) (λ t w. w.0.0.0.0.said.main) (λ main h5.
    bind_both _ _ _ _ (λ _. t6 links) _ (λ t. t.records)
    (each_both (record_at unit) (record_lines unit) (Recorded unit) (λ place. section_both (codes "record") (entry_of unit place) (entry_text unit place) (entry_kind unit place)) nodes)
    (λ t w. subst (λ xs. FitEach (Recorded unit) xs t.records) w.0.0.1 (subst (λ u. FitEach (Recorded u) t.nodes t.records) w.0.0.0.0.1 w.0.0.0.0.0.said.records)) (λ records h6.
    bind_both _ _ _ _ (λ _ t. end) _ (λ t. t.carried)
    (each_both carried_at (λ _. carried_lines) (λ _. IsSection (codes "carried") row_of row_text) (λ _. section_both (codes "carried") row_of row_text row_kind) links)
    (λ t w. subst (λ ls. FitEach (λ _. IsSection (codes "carried") row_of row_text) ls t.carried) w.0.0.1 w.0.0.0.0.0.0.said.carried) (λ carried h7.
    bind_both _ (λ _. end) (λ _. IsFixed (codes "end")) _ (λ _ t. []) _ no (fixed_both BadLine (codes "end")) (λ t w. w.0.0.0.0.0.0.0.last) (λ last h8.
    gives_both (record { unit = unit; nodes = nodes; links = links; main = main; records = records; carried = carried }) _
    ((((((((record { version = h1; table = h2; said = record { nodes = h3; links = h4; main = h5; records = h6; carried = h7 }; last = h8 }, refl), refl), refl), refl), refl), refl), refl), refl)
    (λ t w. from_parts t unit nodes links main records carried w.0.0.0.0.0.0.0.1 w.0.0.0.0.0.1 w.0.0.0.0.1 w.0.0.0.1 w.0.0.1 w.0.1)))))))))

said_both : (capacity : ℕ) → Both (said_at capacity) (said_lines capacity) (AreLines capacity)
said_both capacity =
    both_by (said_at capacity) (in_row capacity) (said_lines capacity) (AreLines capacity) (AreLines capacity) (λ t f. f) (λ t f. f) (λ t f. lines_in_row capacity t) (row_both capacity)

-- what is said in lines is read again from its text
pub form_again : (capacity : ℕ) (t : Said) → AreLines capacity t → form_of capacity (text_of (said_lines capacity t)) ≡ Ok t
unfolding form_of
form_again capacity t f = whole_again (said_at capacity) (said_lines capacity) (AreLines capacity) (said_both capacity) t f

-- and what is read of a text is what has this text
pub form_spells : (capacity : ℕ) (text : List ℕ) (t : Said) → form_of capacity text ≡ Ok t → AreLines capacity t × (text ≡ text_of (said_lines capacity t))
unfolding form_of
form_spells capacity text t e = whole_spells (said_at capacity) (said_lines capacity) (AreLines capacity) (said_both capacity) text t e
