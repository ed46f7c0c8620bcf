-- The lines of a text, by its first cut.
use Rattle.std.proofs.Common.{◌≡◌, ℕ, ◌<◌, ◌==◌, Option, None, Some, List, [], ◌∷◌, ◌∙◌, length, refl, ap, arith, Bool, true, false}
use Rattle.hsr_text.specs.Words.{cut}
use Rattle.hsr_text.specs.Lines.{lines_of, on_first}

-- the lines behind the first cut, with the first line in front
joined : List ℕ → Option (List ℕ) → List (List ℕ)
joined line None = if_any line
  where
    if_any : List ℕ → List (List ℕ)
    if_any [] = []
    if_any (b ∷ bs) = (b ∷ bs) ∷ []
joined line (Some left) = line ∷ lines_of left

-- a byte on the first line is a byte on the first cut
grown : (b : ℕ) (line : List ℕ) (left : Option (List ℕ)) → on_first b (joined line left) ≡ joined (b ∷ line) left
unfolding joined
grown b [] None = refl
grown b (c ∷ cs) None = refl
grown b line (Some left) = refl

lines_cut : (text : List ℕ) → lines_of text ≡ joined (cut 10 text).0 (cut 10 text).1
unfolding joined
lines_cut [] = refl
lines_cut (b ∷ bs) = go (b == 10) refl (lines_cut bs)
  where
    go : (t : Bool) → (b == 10) ≡ t → lines_of bs ≡ joined (cut 10 bs).0 (cut 10 bs).1 → lines_of (b ∷ bs) ≡ joined (cut 10 (b ∷ bs)).0 (cut 10 (b ∷ bs)).1
    go true e more = rw e refl
    go false e more = rw e (ap (on_first b) more ∙ grown b (cut 10 bs).0 (cut 10 bs).1)

-- a line with its line feed comes first
pub lines_line : (text line left : List ℕ) → cut 10 text ≡ (line, Some left) → lines_of text ≡ line ∷ lines_of left
unfolding joined
lines_line text line left e = lines_cut text ∙ ap (λ c. joined c.0 c.1) e

-- a text without a line feed is one line
pub lines_last : (text : List ℕ) (b : ℕ) (line : List ℕ) → cut 10 text ≡ (b ∷ line, None) → lines_of text ≡ (b ∷ line) ∷ []
unfolding joined
lines_last text b line e = lines_cut text ∙ ap (λ c. joined c.0 c.1) e

-- or none, if it is empty
pub lines_none : (text : List ℕ) → cut 10 text ≡ ([], None) → lines_of text ≡ []
unfolding joined
lines_none text e = lines_cut text ∙ ap (λ c. joined c.0 c.1) e

-- a first line that isn't empty is the first cut
pub lines_long : (text : List ℕ) → 0 < length (cut 10 text).0 → (ls : List (List ℕ)) × (lines_of text ≡ (cut 10 text).0 ∷ ls)
unfolding joined
lines_long text h = go (cut 10 text).0 (cut 10 text).1 h (lines_cut text)
  where
    go : (line : List ℕ) (left : Option (List ℕ)) → 0 < length line → lines_of text ≡ joined line left → (ls : List (List ℕ)) × (lines_of text ≡ line ∷ ls)
    go [] left h e = absurd (omega arith)
    go (b ∷ bs) None h e = ([], e)
    go (b ∷ bs) (Some left) h e = (lines_of left, e)
