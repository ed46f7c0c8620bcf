-- Texts whose lines are spelled, and are not too long.
use Rattle.std.proofs.Common.{ℕ, List, [], ◌∷◌, ◌++◌, Option, length, codes}
use Rattle.std.specs.List.{AllByRecursion}
use Rattle.std.specs.Fmt.{decimal}
use Rattle.hsr_transcript.specs.Answers.{AreShort}
use Rattle.hsr_transcript_lines.specs.Parsed.{only, count_of, entry_of, link_of, place_of, row_of, turn_of, version_of}
use Rattle.hsr_transcript_lines.specs.Lines.{head, lines_by, lines_each, one, section}
use Rattle.hsr_transcript.specs.Readable.{AreLines, FitEach, IsReadable, IsSection}
use Rattle.hsr_transcript_lines.specs.Readable.{IsLineOf, IsSpelled}
use Rattle.hsr_transcript_lines.specs.Spelled.{entry_text, link_text, place_text, row_text, version_text}
use Rattle.hsr_transcript.specs.Transcript.{Said, carried_lines, record_lines, said_front, said_lines}

-- a section whose count and lines are spelled
pub record IsSpelledSection {Y : Type 0} (name : List ℕ) (of : List ℕ → Option Y) (spelled : Y → List ℕ) (ys : List Y) : Type 0 where
  pub count : IsSpelled (count_of name) (head name) (length ys)
  pub lines : AllByRecursion (IsSpelled of spelled) ys

-- a text all of whose lines are spelled, of tables with `capacity` entries
pub record AreSpelled (capacity : ℕ) (t : Said) : Type 0 where
  pub version : IsSpelled version_of version_text t.unit
  pub table : IsSpelled (only (head (codes "table") capacity)) (λ _. head (codes "table") capacity) tt
  pub nodes : IsSpelledSection (codes "nodes") place_of place_text t.nodes
  pub links : IsSpelledSection (codes "links") (link_of t.nodes) (link_text t.nodes) t.links
  pub main : IsSpelledSection (codes "main") turn_of decimal t.main
  pub records : FitEach (λ place. IsSpelledSection (codes "record") (entry_of t.unit place) (entry_text t.unit place)) t.nodes t.records
  pub carried : FitEach (λ _. IsSpelledSection (codes "carried") row_of row_text) t.links t.carried
  pub last : IsSpelled (only (codes "end")) (λ _. codes "end") tt

-- ---- lines behind others

short_parts : (a b : List (List ℕ)) → AreShort (a ++ b) → AreShort a × AreShort b
short_parts [] b h = (tt, h)
short_parts (line ∷ lines) b h = let more = short_parts lines b h.1 in ((h.0, more.0), more.1)

short_both : (a b : List (List ℕ)) → AreShort a → AreShort b → AreShort (a ++ b)
short_both [] b h k = k
short_both (line ∷ lines) b h k = (h.0, short_both lines b h.1 k)

-- ---- the lines of a section

lines_fit : {Y : Type 0} (of : List ℕ → Option Y) (spelled : Y → List ℕ) (ys : List Y) → AllByRecursion (IsSpelled of spelled) ys → AreShort (lines_by (one spelled) ys)
    → AllByRecursion (IsLineOf of spelled) ys
lines_fit of spelled [] f h = tt
lines_fit of spelled (y ∷ ys) f h = ((f.0, h.0), lines_fit of spelled ys f.1 h.1)

lines_short : {Y : Type 0} (of : List ℕ → Option Y) (spelled : Y → List ℕ) (ys : List Y) → AllByRecursion (IsLineOf of spelled) ys → AreShort (lines_by (one spelled) ys)
lines_short of spelled [] f = tt
lines_short of spelled (y ∷ ys) f = (f.0.1, lines_short of spelled ys f.1)

section_fits : {Y : Type 0} (name : List ℕ) (of : List ℕ → Option Y) (spelled : Y → List ℕ) (ys : List Y) → IsSpelledSection name of spelled ys → AreShort (section name spelled ys)
    → IsSection name of spelled ys
unfolding section
section_fits name of spelled ys f h = record { count = (f.count, h.0); lines = lines_fit of spelled ys f.lines h.1 }

section_short : {Y : Type 0} (name : List ℕ) (of : List ℕ → Option Y) (spelled : Y → List ℕ) (ys : List Y) → IsSection name of spelled ys → AreShort (section name spelled ys)
unfolding section
section_short name of spelled ys f = (f.count.1, lines_short of spelled ys f.lines)

-- ---- a section for each of some values

each_fits : {X Y : Type 0} (name : List ℕ) (of : X → List ℕ → Option Y) (spelled : X → Y → List ℕ) (xs : List X) (yss : List (List Y))
    → FitEach (λ x. IsSpelledSection name (of x) (spelled x)) xs yss → AreShort (lines_each (λ x. section name (spelled x)) xs yss)
    → FitEach (λ x. IsSection name (of x) (spelled x)) xs yss
each_fits name of spelled [] [] f h = tt
each_fits name of spelled [] (ys ∷ yss) f h = absurd f
each_fits name of spelled (x ∷ xs) [] f h = absurd f
each_fits name of spelled (x ∷ xs) (ys ∷ yss) f h =
    let parts = short_parts (section name (spelled x) ys) (lines_each (λ x. section name (spelled x)) xs yss) h in
    (section_fits name (of x) (spelled x) ys f.0 parts.0, each_fits name of spelled xs yss f.1 parts.1)

each_short : {X Y : Type 0} (name : List ℕ) (of : X → List ℕ → Option Y) (spelled : X → Y → List ℕ) (xs : List X) (yss : List (List Y))
    → FitEach (λ x. IsSection name (of x) (spelled x)) xs yss → AreShort (lines_each (λ x. section name (spelled x)) xs yss)
each_short name of spelled [] [] f = tt
each_short name of spelled [] (ys ∷ yss) f = absurd f
each_short name of spelled (x ∷ xs) [] f = absurd f
each_short name of spelled (x ∷ xs) (ys ∷ yss) f =
    short_both (section name (spelled x) ys) (lines_each (λ x. section name (spelled x)) xs yss) (section_short name (of x) (spelled x) ys f.0) (each_short name of spelled xs yss f.1)

-- ---- whole texts

pub are_lines : (capacity : ℕ) (t : Said) → AreSpelled capacity t → AreShort (said_lines capacity t) → AreLines capacity t
unfolding said_lines said_front
are_lines capacity t f h =
    let nodes = section (codes "nodes") place_text t.nodes in
    let links = section (codes "links") (link_text t.nodes) t.links in
    let main = section (codes "main") decimal t.main in
    let records = lines_each (record_lines t.unit) t.nodes t.records in
    let carried = lines_each (λ _. carried_lines) t.links t.carried in
    let end : List (List ℕ) = codes "end" ∷ [] in
    let all = short_parts (said_front capacity t) (records ++ (carried ++ end)) h in
    let in_front = short_parts nodes (links ++ main) all.0.1.1 in
    let in_middle = short_parts links main in_front.1 in
    let behind = short_parts records (carried ++ end) all.1 in
    let at_end = short_parts carried end behind.1 in
    let readable : IsReadable t = record {
      nodes = section_fits (codes "nodes") place_of place_text t.nodes f.nodes in_front.0;
      links = section_fits (codes "links") (link_of t.nodes) (link_text t.nodes) t.links f.links in_middle.0;
      main = section_fits (codes "main") turn_of decimal t.main f.main in_middle.1;
      records = each_fits (codes "record") (entry_of t.unit) (entry_text t.unit) t.nodes t.records f.records behind.0;
      carried = each_fits (codes "carried") (λ _. row_of) (λ _. row_text) t.links t.carried f.carried at_end.0;
    } in
    record { version = (f.version, all.0.0); table = (f.table, all.0.1.0); said = readable; last = (f.last, at_end.1.0) }

pub short_of : (capacity : ℕ) (t : Said) → AreLines capacity t → AreShort (said_lines capacity t)
unfolding said_lines said_front
short_of capacity t f =
    let nodes = section (codes "nodes") place_text t.nodes in
    let links = section (codes "links") (link_text t.nodes) t.links in
    let main = section (codes "main") decimal t.main in
    let records = lines_each (record_lines t.unit) t.nodes t.records in
    let carried = lines_each (λ _. carried_lines) t.links t.carried in
    let end : List (List ℕ) = codes "end" ∷ [] in
    let nodes_short : AreShort nodes = section_short (codes "nodes") place_of place_text t.nodes f.said.nodes in
    let links_short : AreShort links = section_short (codes "links") (link_of t.nodes) (link_text t.nodes) t.links f.said.links in
    let main_short : AreShort main = section_short (codes "main") turn_of decimal t.main f.said.main in
    let records_short : AreShort records = each_short (codes "record") (entry_of t.unit) (entry_text t.unit) t.nodes t.records f.said.records in
    let carried_short : AreShort carried = each_short (codes "carried") (λ _. row_of) (λ _. row_text) t.links t.carried f.said.carried in
    let front_short : AreShort (said_front capacity t) = (f.version.1, (f.table.1, short_both nodes (links ++ main) nodes_short (short_both links main links_short main_short))) in
    short_both (said_front capacity t) (records ++ (carried ++ end)) front_short
    (short_both records (carried ++ end) records_short (short_both carried end carried_short (f.last.1, tt)))
