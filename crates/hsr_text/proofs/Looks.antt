-- A cut at the first space, found by a look at one octet after the other, or at 16 at once.
use Rattle.std.proofs.Common.{◌≡◌, ℕ, suc, ◌≤◌, arith, not, Bool, ◌+◌, ◌-◌, ◌<◌, ◌==◌, Some, Option, List, [], ◌∷◌, ◌++◌, ◌∙◌, length, take, drop, slice_index, refl, sym, ap, true, false}
use Rattle.std.proofs.lemmas.List.{append-nil, append_assoc, drop_more, take_more, take_rest}
use Rattle.std.proofs.lemmas.Simd.{run_in_chunk_fails, run_in_chunk_stops}
use Rattle.std.specs.List.{prefix_len}
use Rattle.hsr_text.proofs.Cuts.{first}
use Rattle.hsr_text.specs.Words.{cut}

-- the octets before i are before the first space
abbrev pub NoneBefore : List ℕ → ℕ → Type 0
NoneBefore text i = cut 32 text ≡ (take i text ++ (cut 32 (drop i text)).0, (cut 32 (drop i text)).1)

pub none_yet : (text : List ℕ) → NoneBefore text 0
none_yet text = refl

cut_at : (text : List ℕ) (i : ℕ) → i < length text → cut 32 (drop i text) ≡ cut 32 (slice_index text i ∷ drop (i + 1) text)
cut_at text i fits = ap (cut 32) (drop_more text i 0 fits)

-- the octet at i is no space
pub one_more : (text : List ℕ) (i : ℕ) → i < length text → (slice_index text i == 32) ≡ false → NoneBefore text i → NoneBefore text (i + 1)
one_more text i fits other before =
    let rest = drop (i + 1) text in
    let here : cut 32 (drop i text) ≡ (slice_index text i ∷ (cut 32 rest).0, (cut 32 rest).1) = cut_at text i fits ∙ rw other refl in
    before ∙ ap (λ (c : List ℕ × Option (List ℕ)). (take i text ++ c.0, c.1)) here
    ∙ ap (λ (l : List ℕ). (l, (cut 32 rest).1)) (sym (append_assoc (take i text) (slice_index text i ∷ []) (cut 32 rest).0) ∙ ap (λ (l : List ℕ). l ++ (cut 32 rest).0) (sym (take_more text i 0 fits)))

-- it is one
pub found_there : (text : List ℕ) (i : ℕ) → i < length text → (slice_index text i == 32) ≡ true → NoneBefore text i
    → cut 32 text ≡ (take i text, Some (take (length text - (i + 1)) (drop (i + 1) text)))
found_there text i fits space before =
    let rest = drop (i + 1) text in
    let here : cut 32 (drop i text) ≡ ([], Some rest) = cut_at text i fits ∙ rw space refl in
    before ∙ ap (λ (c : List ℕ × Option (List ℕ)). (take i text ++ c.0, c.1)) here
    ∙ ap (λ (l : List ℕ). (l, Some rest)) (append-nil (take i text)) ∙ ap (λ (l : List ℕ). (take i text, Some l)) (sym (take_rest text (i + 1)))

-- it is the first of 16 octets that is one
pub found_near : (text : List ℕ) (i : ℕ) → 16 ≤ length text → i ≡ prefix_len (λ octet. not (octet == 32)) (take 16 text) → i < 16
    → cut 32 text ≡ (take i text, Some (take (length text - (i + 1)) (drop (i + 1) text)))
found_near text i fits is near =
    let next : suc i ≡ i + 1 = omega arith in
    let here : (slice_index text (0 + i) == 32) ≡ true = run_in_chunk_stops (λ (octet : ℕ). octet == 32) text 0 16 i 0 fits is near in
    let same : 0 + i ≡ i = omega arith in
    first 32 text i (omega arith)
    (λ k lt e. absurd (other (run_in_chunk_fails (λ (octet : ℕ). octet == 32) text 0 16 i 0 fits is k (omega arith) (omega arith)) e)) (rw same at here)
    ∙ ap (λ (l : List ℕ). (take i text, Some l)) (ap (λ (n : ℕ). drop n text) next ∙ sym (take_rest text (i + 1)))
  where
    other : {b : Bool} → b ≡ false → b ≡ true → ⊥
    other e f = cc
