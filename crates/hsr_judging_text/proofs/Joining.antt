-- Pieces of text, one put behind the other.
use Rattle.std.proofs.Common.{◌≡◌, ℕ, List, ◌++◌, Result, Ok, Err, OnOk, sym, ap, ◌∙◌, append_assoc}
use Rattle.std.specs.Fmt.{decimal}

-- a name and a number
pub first_count : (old new name : List ℕ) (x y : ℕ) → x ≡ y → new ≡ old ++ (name ++ decimal x) → new ≡ old ++ (name ++ decimal y)
first_count old new name x y is put = put ∙ ap (λ (n : ℕ). old ++ (name ++ decimal n)) is

-- one more piece
pub next_piece : (old mid new done piece : List ℕ) → mid ≡ old ++ done → new ≡ mid ++ piece → new ≡ old ++ (done ++ piece)
next_piece old mid new done piece first second = second ∙ ap (λ (t : List ℕ). t ++ piece) first ∙ append_assoc old done piece

-- one more name and number
pub next_count : (old mid new done name : List ℕ) (x y : ℕ) → x ≡ y → mid ≡ old ++ done → new ≡ mid ++ (name ++ decimal x) → new ≡ old ++ ((done ++ name) ++ decimal y)
next_count old mid new done name x y is first second =
    next_piece old mid new done (name ++ decimal x) first second ∙ ap (λ (t : List ℕ). old ++ t) (sym (append_assoc done name (decimal x)))
    ∙ ap (λ (n : ℕ). old ++ ((done ++ name) ++ decimal n)) is

-- the last one, which may be refused
pub last_piece : {E : Type 0} (r : Result (Unit {0}) E) (old mid new done piece : List ℕ) → mid ≡ old ++ done → OnOk r (new ≡ mid ++ piece) → OnOk r (new ≡ old ++ (done ++ piece))
last_piece (Ok u) old mid new done piece first second = next_piece old mid new done piece first second
last_piece (Err e) old mid new done piece first second = tt

pub last_count : {E : Type 0} (r : Result (Unit {0}) E) (old mid new done name : List ℕ) (x y : ℕ) → x ≡ y → mid ≡ old ++ done → OnOk r (new ≡ mid ++ (name ++ decimal x))
    → OnOk r (new ≡ old ++ ((done ++ name) ++ decimal y))
last_count (Ok u) old mid new done name x y is first second = next_count old mid new done name x y is first second
last_count (Err e) old mid new done name x y is first second = tt
