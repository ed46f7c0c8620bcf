-- What is read again from its lines.
--     IsReadable   what is said is read again, line by line
--     AreLines     and so are the lines that each text has
use Rattle.std.specs.Prelude.{ℕ, List, [], ◌∷◌, length, Option, codes}
use Rattle.std.specs.List.{AllByRecursion}
use Rattle.std.specs.Fmt.{decimal}
use Rattle.hsr_transcript_lines.specs.Readable.{IsLineOf}
use Rattle.hsr_transcript_lines.specs.Lines.{head}
use Rattle.hsr_transcript_lines.specs.Parsed.{count_of, entry_of, link_of, place_of, row_of, turn_of, version_of, only}
use Rattle.hsr_transcript_lines.specs.Spelled.{entry_text, link_text, place_text, row_text, version_text}
use Rattle.hsr_transcript.specs.Transcript.{Said}

-- each of some values, and each beside its own
abbrev pub FitEach : {X Y : Type 0} → (X → Y → Type 0) → List X → List Y → Type 0
FitEach F [] [] = Unit {0}
FitEach F [] (y ∷ ys) = ⊥
FitEach F (x ∷ xs) [] = ⊥
FitEach F (x ∷ xs) (y ∷ ys) = F x y × FitEach F xs ys

-- a section: its count is read again, and each of its lines
pub record IsSection {Y : Type 0} (name : List ℕ) (of : List ℕ → Option Y) (spelled : Y → List ℕ) (ys : List Y) : Type 0 where
  pub count : IsLineOf (count_of name) (head name) (length ys)
  pub lines : AllByRecursion (IsLineOf of spelled) ys

pub record IsReadable (t : Said) : Type 0 where
  pub nodes : IsSection (codes "nodes") place_of place_text t.nodes
  pub links : IsSection (codes "links") (link_of t.nodes) (link_text t.nodes) t.links
  pub main : IsSection (codes "main") turn_of decimal t.main
  pub records : FitEach (λ place. IsSection (codes "record") (entry_of t.unit place) (entry_text t.unit place)) t.nodes t.records
  pub carried : FitEach (λ _. IsSection (codes "carried") row_of row_text) t.links t.carried

-- a line that stands in each text
abbrev pub IsFixed : List ℕ → Type 0
IsFixed word = IsLineOf (only word) (λ _. word) tt

-- all lines of a text, of tables with `capacity` entries
pub record AreLines (capacity : ℕ) (t : Said) : Type 0 where
  pub version : IsLineOf version_of version_text t.unit
  pub table : IsFixed (head (codes "table") capacity)
  pub said : IsReadable t
  pub last : IsFixed (codes "end")
