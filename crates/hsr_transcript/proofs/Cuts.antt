-- The first line of a text, both ways.
use Rattle.std.proofs.Common.{◌≡◌, ℕ, ◌+◌, ◌≤◌, nat_lt, List, ◌∷◌, ◌++◌, ◌∙◌, length, Option, Some, None, Ok, Err, refl, sym, ap, cond, arith, Bool, true, false}
use Rattle.std.proofs.lemmas.Bool.Decides.{nat_tests}
use Rattle.hsr_text.specs.Words.{cut}
use Rattle.hsr_transcript_lines.specs.Readable.{Lacks}
use Rattle.hsr_transcript_lines.proofs.CutWords.{cut_lacks, cut_spells, cut_word}
use Rattle.hsr_transcript.specs.Reading.{At, gives, behind, line_at}
use Rattle.hsr_transcript.specs.declared.fault.ReadFault.{ReadFault}

-- two readings that are one
pub ok_parts : {Y : Type 0} {x y : Y} {a b : At} → gives x a ≡ Ok (y, b) → (x ≡ y) × (a ≡ b)
ok_parts {Y} {x} {y} {a} {b} e = let p : ◌≡◌ {A = Y × At} (x, a) (y, b) = cc in (ap (λ q. q.0) p, ap (λ q. q.1) p)

-- a line and its line feed
pub line_again : (fault : ℕ → ReadFault) (line rest : List ℕ) (n : ℕ) → Lacks 10 line → length line ≤ 8192
    → line_at fault (record { number = n; text = line ++ 10 ∷ rest }) ≡ Ok (line, record { number = n + 1; text = rest })
line_again fault line rest n h k =
    let c : cut 10 (line ++ 10 ∷ rest) ≡ (line, Some rest) = cut_word 10 line rest h in
    let short : nat_lt 8192 (length line) ≡ false = grind (arith, nat_tests) in
    ap (λ c. cond (nat_lt 8192 (length c.0)) (Err (fault n)) (behind n c.0 c.1)) c
    ∙ ap (λ t. cond t (Err (fault n)) (Ok (line, record { number = n + 1; text = rest }))) short

pub record IsLine (a : At) (line : List ℕ) (b : At) : Type 0 where
  pub lacks : Lacks 10 line
  pub bound : length line ≤ 8192
  pub text : a.text ≡ line ++ 10 ∷ b.text
  pub number : b.number ≡ a.number + 1

pub line_spells : (fault : ℕ → ReadFault) (a b : At) (line : List ℕ) → line_at fault a ≡ Ok (line, b) → IsLine a line b
line_spells fault a b line e = go (nat_lt 8192 (length (cut 10 a.text).0)) refl e
  where
    on : nat_lt 8192 (length (cut 10 a.text).0) ≡ false → (o : Option (List ℕ)) → (cut 10 a.text).1 ≡ o → behind a.number (cut 10 a.text).0 o ≡ Ok (line, b) → IsLine a line b
    on short None f e = absurd (cc)
    on short (Some rest) f e =
        let parts = ok_parts e in
        let is : (cut 10 a.text).0 ≡ line = parts.0 in
        let left : record { number = a.number + 1; text = rest } ≡ b = parts.1 in
        record {
          lacks = rw (sym is) (cut_lacks 10 a.text);
          bound = rw (sym is) (grind (arith, nat_tests));
          text = cut_spells 10 a.text rest f ∙ ap (λ l. l ++ 10 ∷ rest) is ∙ ap (λ at. line ++ 10 ∷ at.text) left;
          number = sym (ap (λ at. at.number) left);
        }

    go : (t : Bool) → nat_lt 8192 (length (cut 10 a.text).0) ≡ t → cond t (Err (fault a.number)) (behind a.number (cut 10 a.text).0 (cut 10 a.text).1) ≡ Ok (line, b) → IsLine a line b
    go true h e = absurd (cc)
    go false h e = on h (cut 10 a.text).1 refl e
