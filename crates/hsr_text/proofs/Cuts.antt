-- A cut at a separator, by a search for it.
use Rattle.std.proofs.Common.{◌≡◌, ℕ, zero, suc, ◌+◌, ◌-◌, ◌<◌, ◌==◌, None, Some, List, [], ◌∷◌, ◌++◌, ◌∙◌, length, take, drop, slice_index, refl, sym, ap, arith, Bool, true, false}
use Rattle.std.proofs.lemmas.Bool.{eqb-true}
use Rattle.std.proofs.lemmas.List.{take_rest}
use Rattle.std.proofs.lemmas.Option.{same_Some}
use Rattle.memchr.specs.Find.{IsFirstByte, is_byte}
use Rattle.hsr_text.specs.Words.{cut}

pub none≢some : {X : Type 0} {x : X} → None ≡ Some x → ⊥
none≢some e = cc

-- no byte is the separator
lacking : (s : ℕ) (text : List ℕ) → ((k : ℕ) → k < length text → ¬ ((slice_index text k == s) ≡ true)) → cut s text ≡ (text, None)
lacking s [] none = refl
lacking s (b ∷ bs) none = go (b == s) refl (lacking s bs (λ k lt. none (suc k) (omega arith)))
  where
    go : (t : Bool) → (b == s) ≡ t → cut s bs ≡ (bs, None) → cut s (b ∷ bs) ≡ (b ∷ bs, None)
    go true e more = absurd (none 0 (omega arith) e)
    go false e more = rw (e, more) refl

-- the byte at i is the first one
pub first : (s : ℕ) (text : List ℕ) (i : ℕ) → i < length text → ((k : ℕ) → k < i → ¬ ((slice_index text k == s) ≡ true))
    → (slice_index text i == s) ≡ true → cut s text ≡ (take i text, Some (drop (suc i) text))
first s [] i within before here = absurd (omega arith)
first s (b ∷ bs) zero within before here = rw here refl
first s (b ∷ bs) (suc i) within before here = go (b == s) refl (first s bs i (omega arith) (λ k lt. before (suc k) (omega arith)) here)
  where
    go : (t : Bool) → (b == s) ≡ t → cut s bs ≡ (take i bs, Some (drop (suc i) bs)) → cut s (b ∷ bs) ≡ (b ∷ take i bs, Some (drop (suc i) bs))
    go true e more = absurd (before 0 (omega arith) e)
    go false e more = rw (e, more) refl

pub missing : (s : ℕ) (text : List ℕ) → IsFirstByte (is_byte s) text None → cut s text ≡ (text, None)
missing s text none = lacking s text (λ k lt. none k (omega arith) lt)

pub found : (s : ℕ) (text : List ℕ) (i : ℕ) → IsFirstByte (is_byte s) text (Some i)
    → cut s text ≡ (take i text, Some (take (length text - (i + 1)) (drop (i + 1) text)))
found s text i (at, here) =
    let next : suc i ≡ i + 1 = omega arith in
    first s text i at.high (λ k lt. at.before k (omega arith) lt) here
    ∙ ap (λ l. (take i text, Some l)) (ap (λ n. drop n text) next ∙ sym (take_rest text (i + 1)))

-- what was cut has no separator, and with it and what follows it is the text
pub cut_found : (s : ℕ) (text front rest : List ℕ) → cut s text ≡ (front, Some rest) → (text ≡ front ++ s ∷ rest) × (cut s front ≡ (front, None))
cut_found s [] front rest e = let no : None ≡ Some rest = ap (λ c. c.1) e in absurd (none≢some no)
cut_found s (b ∷ bs) front rest e = go (b == s) refl front e (cut_found s bs (cut s bs).0 rest)
  where
    go : (t : Bool) → (b == s) ≡ t → (front : List ℕ) → cut s (b ∷ bs) ≡ (front, Some rest)
        → (cut s bs ≡ ((cut s bs).0, Some rest) → (bs ≡ (cut s bs).0 ++ s ∷ rest) × (cut s (cut s bs).0 ≡ ((cut s bs).0, None)))
        → (b ∷ bs ≡ front ++ s ∷ rest) × (cut s front ≡ (front, None))
    go true e front f more =
        let here : ([], Some bs) ≡ (front, Some rest) = rw e at f in
        let front_is : [] ≡ front = ap (λ c. c.0) here in
        let rest_is : bs ≡ rest = same_Some bs rest (ap (λ c. c.1) here) in
        let byte : b ≡ s = eqb-true b s e in
        (rw (← front_is, byte, rest_is) refl, rw (← front_is) refl)
    go false e front f more =
        let here : (b ∷ (cut s bs).0, (cut s bs).1) ≡ (front, Some rest) = rw e at f in
        let front_is : b ∷ (cut s bs).0 ≡ front = ap (λ c. c.0) here in
        let rest_is : (cut s bs).1 ≡ Some rest = ap (λ c. c.1) here in
        let later = more (ap (λ r. ((cut s bs).0, r)) rest_is) in
        (ap (λ l. b ∷ l) later.0 ∙ ap (λ l. l ++ s ∷ rest) front_is, rw (← front_is, e, later.1) refl)

pub cut_missing : (s : ℕ) (text front : List ℕ) → cut s text ≡ (front, None) → front ≡ text
cut_missing s [] front e = ap (λ c. c.0) (sym e)
cut_missing s (b ∷ bs) front e = go (b == s) refl front e (cut_missing s bs (cut s bs).0)
  where
    go : (t : Bool) → (b == s) ≡ t → (front : List ℕ) → cut s (b ∷ bs) ≡ (front, None) → (cut s bs ≡ ((cut s bs).0, None) → (cut s bs).0 ≡ bs) → front ≡ b ∷ bs
    go true e front f more = let here : ([], Some bs) ≡ (front, None) = rw e at f in absurd (none≢some (sym (ap (λ c. c.1) here)))
    go false e front f more =
        let here : (b ∷ (cut s bs).0, (cut s bs).1) ≡ (front, None) = rw e at f in
        sym (ap (λ c. c.0) here) ∙ ap (λ l. b ∷ l) (more (ap (λ r. ((cut s bs).0, r)) (ap (λ c. c.1) here)))
