-- Texts that grow by sections.
use Rattle.std.proofs.Common.{◌≡◌, ℕ, List, [], ◌∷◌, ◌++◌, ◌∙◌, sym, ap, append_assoc}
use Rattle.hsr_transcript_lines.specs.Lines.{lines_each, text_of}
use Rattle.hsr_transcript_lines.proofs.Grown.{text_append}

-- one more section of what is left
pub lines_grown : {A B : Type 0} (spelled : A → B → List (List ℕ)) (xs more : List A) (ys rest : List B) (x : A) (y : B) (old new whole : List ℕ) → xs ≡ x ∷ more → ys ≡ y ∷ rest
    → new ≡ old ++ text_of (spelled x y) → old ++ text_of (lines_each spelled xs ys) ≡ whole → new ++ text_of (lines_each spelled more rest) ≡ whole
lines_grown spelled xs more ys rest x y old new whole e f n h =
    ap (λ l. l ++ text_of (lines_each spelled more rest)) n
    ∙ append_assoc old (text_of (spelled x y)) (text_of (lines_each spelled more rest))
    ∙ sym (ap (λ l. old ++ l) (text_append (spelled x y) (lines_each spelled more rest)))
    ∙ sym (ap (λ l. old ++ text_of (lines_each spelled (x ∷ more) l)) f)
    ∙ sym (ap (λ l. old ++ text_of (lines_each spelled l ys)) e)
    ∙ h

-- ---- whole texts

pub front_text : (old t1 t2 t3 t4 t5 first head : List ℕ) (a b c : List (List ℕ)) → t1 ≡ old ++ (first ++ 10 ∷ []) → t2 ≡ t1 ++ text_of (head ∷ [])
    → t3 ≡ t2 ++ text_of a → t4 ≡ t3 ++ text_of b → t5 ≡ t4 ++ text_of c → t5 ≡ old ++ text_of (first ∷ head ∷ (a ++ (b ++ c)))
front_text old t1 t2 t3 t4 t5 first head a b c e1 e2 e3 e4 e5 =
    e5 ∙ ap (λ l. l ++ text_of c) (e4 ∙ ap (λ l. l ++ text_of b) (e3 ∙ ap (λ l. l ++ text_of a) (e2 ∙ ap (λ l. l ++ text_of (head ∷ [])) e1)))
    ∙ joined
  where
    joined : ((((old ++ (first ++ 10 ∷ [])) ++ (head ++ 10 ∷ [])) ++ text_of a) ++ text_of b) ++ text_of c ≡ old ++ (first ++ 10 ∷ (head ++ 10 ∷ text_of (a ++ (b ++ c))))
    joined = simp (text_append, append_assoc)

pub whole_text : (t0 t1 t2 t3 t4 end : List ℕ) (a b c : List (List ℕ)) → t0 ≡ [] → t1 ≡ t0 ++ text_of a → t2 ≡ t1 ++ text_of b → t3 ≡ t2 ++ text_of c → t4 ≡ t3 ++ (end ++ 10 ∷ [])
    → t4 ≡ text_of (a ++ (b ++ (c ++ end ∷ [])))
whole_text t0 t1 t2 t3 t4 end a b c e0 e1 e2 e3 e4 =
    e4 ∙ ap (λ l. l ++ (end ++ 10 ∷ [])) (e3 ∙ ap (λ l. l ++ text_of c) (e2 ∙ ap (λ l. l ++ text_of b) (e1 ∙ ap (λ l. l ++ text_of a) e0)))
    ∙ joined
  where
    joined : ((text_of a ++ text_of b) ++ text_of c) ++ (end ++ 10 ∷ []) ≡ text_of (a ++ (b ++ (c ++ end ∷ [])))
    joined = simp (text_append, append_assoc)
