-- A word that was written is cut from its line, and what is cut tells the line.
use Rattle.std.proofs.Common.{◌≡◌, ℕ, ◌==◌, Option, None, Some, List, [], ◌∷◌, ◌++◌, ◌∙◌, refl, ap, arith, cond, Bool, true, false}
use Rattle.std.proofs.lemmas.Bool.Decides.{nat_tests}
use borrow.Author.Tests.{eqb-true}
use Rattle.hsr_text.specs.Words.{cut}
use Rattle.hsr_transcript_lines.specs.Readable.{Lacks}

same : (s : ℕ) → (s == s) ≡ true
same s = grind (arith, nat_tests)

pub cut_word : (s : ℕ) (w rest : List ℕ) → Lacks s w → cut s (w ++ s ∷ rest) ≡ (w, Some rest)
cut_word s [] rest h = ap (λ t. cond t ([], Some rest) (s ∷ (cut s rest).0, (cut s rest).1)) (same s)
cut_word s (b ∷ bs) rest h =
    ap (λ t. cond t ([], Some (bs ++ s ∷ rest)) (b ∷ (cut s (bs ++ s ∷ rest)).0, (cut s (bs ++ s ∷ rest)).1)) h.0
    ∙ ap (λ c. (b ∷ c.0, c.1)) (cut_word s bs rest h.1)

pub cut_end : (s : ℕ) (w : List ℕ) → Lacks s w → cut s w ≡ (w, None)
cut_end s [] h = refl
cut_end s (b ∷ bs) h =
    ap (λ t. cond t ([], Some bs) (b ∷ (cut s bs).0, (cut s bs).1)) h.0 ∙ ap (λ c. (b ∷ c.0, c.1)) (cut_end s bs h.1)

pub lacks_more : (s : ℕ) (a b : List ℕ) → Lacks s a → Lacks s b → Lacks s (a ++ b)
lacks_more s [] b h k = k
lacks_more s (x ∷ xs) b h k = (h.0, lacks_more s xs b h.1 k)

pub cut_lacks : (s : ℕ) (xs : List ℕ) → Lacks s (cut s xs).0
cut_lacks s [] = tt
cut_lacks s (b ∷ bs) = go (cut_lacks s bs) (b == s) refl
  where
    go : Lacks s (cut s bs).0 → (t : Bool) → (b == s) ≡ t → Lacks s (cond {A = List ℕ × Option (List ℕ)} t ([], Some bs) (b ∷ (cut s bs).0, (cut s bs).1)).0
    go more true e = tt
    go more false e = (e, more)

pub cut_spells : (s : ℕ) (xs rest : List ℕ) → (cut s xs).1 ≡ Some rest → xs ≡ (cut s xs).0 ++ s ∷ rest
cut_spells s [] rest e = absurd (cc)
cut_spells s (b ∷ bs) rest e = go (λ f. cut_spells s bs rest f) (b == s) refl e
  where
    go : ((cut s bs).1 ≡ Some rest → bs ≡ (cut s bs).0 ++ s ∷ rest) → (t : Bool) → (b == s) ≡ t → (cond {A = List ℕ × Option (List ℕ)} t ([], Some bs) (b ∷ (cut s bs).0, (cut s bs).1)).1 ≡ Some rest
        → b ∷ bs ≡ (cond {A = List ℕ × Option (List ℕ)} t ([], Some bs) (b ∷ (cut s bs).0, (cut s bs).1)).0 ++ s ∷ rest
    go more true e f = let same : b ≡ s = eqb-true b s e in cc
    go more false e f = ap (λ l. b ∷ l) (more f)
