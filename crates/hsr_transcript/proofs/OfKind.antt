-- Kinds of line, and readers of the lines that a writer writes.
use Rattle.std.proofs.Common.{◌≡◌, ℕ, ◌+◌, List, ◌++◌, ◌∙◌, length, Option, Some, None, Ok, refl, sym, ap, subst, cond, Bool, true, false}
use Rattle.std.proofs.lemmas.Slice.Eq.{bytes_eq-Decides}
use Rattle.std.specs.Str.{bytes_eq}
use Rattle.hsr_transcript_lines.specs.Lines.{text_of}
use Rattle.hsr_transcript.specs.Reading.{At, Reader}
use Rattle.hsr_transcript_lines.specs.Exact.{checked, exactly}
use Rattle.hsr_transcript_lines.specs.Readable.{IsSpelled, Lacks}

-- what is read of a line is what has this line
pub record Kind {Y : Type 0} (of : List ℕ → Option Y) (spelled : Y → List ℕ) : Type 0 where
  pub spells : (line : List ℕ) (y : Y) → Lacks 10 line → of line ≡ Some y → IsSpelled of spelled y × (line ≡ spelled y)

-- a reader of the lines that a writer writes: what fits is read again from its lines, and only from them
pub record Both {Y : Type 0} (p : Reader Y) (lines : Y → List (List ℕ)) (Fits : Y → Type 0) : Type 0 where
  pub again : (y : Y) → Fits y → (n : ℕ) (rest : List ℕ)
      → p (record { number = n; text = text_of (lines y) ++ rest }) ≡ Ok (y, record { number = n + length (lines y); text = rest })
  pub spells : (a b : At) (y : Y) → p a ≡ Ok (y, b)
      → Fits y × (a.text ≡ text_of (lines y) ++ b.text) × (b.number ≡ a.number + length (lines y))

-- a line that is read freely, written again and compared
pub exactly_kind : {Y : Type 0} (spelled : Y → List ℕ) (said : List ℕ → Option Y) → Kind (exactly spelled said) spelled
exactly_kind {Y} spelled said = record { spells = λ line y lacks e. go line y lacks (said line) refl e }
  where
    on : (line : List ℕ) (y z : Y) → Lacks 10 line → exactly spelled said line ≡ Some y → (t : Bool) → bytes_eq (spelled z) line ≡ t → cond t (Some z) None ≡ Some y
        → IsSpelled (exactly spelled said) spelled y × (line ≡ spelled y)
    on line y z lacks h true b e =
        let same : z ≡ y = cc in
        let is : line ≡ spelled y = sym ((bytes_eq-Decides (spelled z) line).0 b) ∙ ap spelled same in
        (record { read = subst (λ l. exactly spelled said l ≡ Some y) is h; line = subst (Lacks 10) is lacks }, is)
    on line y z lacks h false b e = absurd (cc)

    go : (line : List ℕ) (y : Y) → Lacks 10 line → (o : Option Y) → said line ≡ o → checked spelled line o ≡ Some y → IsSpelled (exactly spelled said) spelled y × (line ≡ spelled y)
    go line y lacks None h e = absurd (cc)
    go line y lacks (Some z) h e = on line y z lacks (ap (checked spelled line) h ∙ e) (bytes_eq (spelled z) line) refl e
