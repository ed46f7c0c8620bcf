-- Texts that grow by lines.
use Rattle.std.proofs.Common.{◌≡◌, ℕ, suc, ◌+◌, ◌<◌, List, [], ◌∷◌, ◌++◌, ◌∙◌, length, map, drop, drop-cons, get_or, refl, sym, ap, arith, append_assoc}
use Rattle.std.proofs.lemmas.List.{append-nil}
use Rattle.hsr_transcript_lines.specs.Lines.{line_count, lines_by, one, text_of}
use Rattle.hsr_transcript_lines.specs.Spelled.{spaced}

-- an element, and those behind it
pub drop_next : {A : Type 0} (xs : List A) (i : ℕ) (d : A) → i < length xs → drop i xs ≡ get_or xs i d ∷ drop (i + 1) xs
drop_next xs i d h = drop-cons xs i d h ∙ ap (λ k. get_or xs i d ∷ drop k xs) (let e : suc i ≡ i + 1 = omega arith in e)

-- words, with a space before each
abbrev pub behind : List (List ℕ) → List ℕ
behind [] = []
behind (word ∷ words) = 32 ∷ (word ++ behind words)

pub spaced_behind : (word : List ℕ) (words : List (List ℕ)) → spaced word words ≡ word ++ behind words
spaced_behind word [] = sym (append-nil word)
spaced_behind word (next ∷ words) = ap (λ l. word ++ 32 ∷ l) (spaced_behind next words)

pub text_append : (a b : List (List ℕ)) → text_of (a ++ b) ≡ text_of a ++ text_of b
text_append [] b = refl
text_append (l ∷ ls) b = ap (λ x. l ++ 10 ∷ x) (text_append ls b) ∙ sym (append_assoc l (10 ∷ text_of ls) (text_of b))

-- one more line of what is left
pub line_grown : {A : Type 0} (spelled : A → List ℕ) (left rest : List A) (x : A) (old new whole : List ℕ) → left ≡ x ∷ rest → new ≡ (old ++ spelled x) ++ 10 ∷ []
    → old ++ text_of (lines_by (one spelled) left) ≡ whole → new ++ text_of (lines_by (one spelled) rest) ≡ whole
line_grown spelled left rest x old new whole e n h =
    ap (λ l. l ++ text_of (lines_by (one spelled) rest)) n
    ∙ append_assoc (old ++ spelled x) (10 ∷ []) (text_of (lines_by (one spelled) rest))
    ∙ append_assoc old (spelled x) (10 ∷ text_of (lines_by (one spelled) rest))
    ∙ sym (ap (λ l. old ++ text_of (lines_by (one spelled) l)) e)
    ∙ h

-- one more word of what is left
pub word_grown : {A : Type 0} (text : A → List ℕ) (left rest : List A) (x : A) (old new whole : List ℕ) → left ≡ x ∷ rest → new ≡ old ++ 32 ∷ text x
    → old ++ behind (map text left) ≡ whole → new ++ behind (map text rest) ≡ whole
word_grown text left rest x old new whole e n h =
    ap (λ l. l ++ behind (map text rest)) n
    ∙ append_assoc old (32 ∷ text x) (behind (map text rest))
    ∙ sym (ap (λ l. old ++ behind (map text l)) e)
    ∙ h

-- one more section has its head and its lines more
pub line_count_push : {Y : Type 0} (yss : List (List Y)) (ys : List Y) → line_count (yss ++ ys ∷ []) ≡ line_count yss + (1 + length ys)
line_count_push [] ys = omega arith
line_count_push (zs ∷ yss) ys = let h : line_count (yss ++ ys ∷ []) ≡ line_count yss + (1 + length ys) = line_count_push yss ys in omega (arith, h)
