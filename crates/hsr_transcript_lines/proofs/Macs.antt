-- Addresses, one after another.
use Rattle.std.proofs.Common.{◌≡◌, ℕ, zero, suc, List, [], ◌∷◌, ◌++◌, ◌∙◌, Option, Some, None, option_map, refl, sym, ap, append_assoc}
use Rattle.std.proofs.lemmas.List.{append-nil}
use Rattle.std.specs.Result.{result_ok}
use Rattle.hsr_frame.specs.Address.{address_of}
use Rattle.hsr_text.specs.Words.{◌>>=◌, cut, word_at}
use Rattle.hsr_transcript_lines.specs.Parsed.{read_macs}

-- those so far, and those behind them
abbrev pub with_front : List (List ℕ) → Option (List (List ℕ)) → Option (List (List ℕ))
with_front front more = option_map (λ macs. front ++ macs) more

front_more : (front : List (List ℕ)) (mac : List ℕ) (more : Option (List (List ℕ))) → with_front front (more >>= λ macs. Some (mac ∷ macs)) ≡ with_front (front ++ mac ∷ []) more
front_more front mac None = refl
front_more front mac (Some macs) = ap Some (sym (append_assoc front (mac ∷ []) macs))

pub macs_full : (front : List (List ℕ)) (n : ℕ) (o : Option (List ℕ)) (all : Option (List (List ℕ))) (a : List ℕ) (r : Option (List ℕ)) → n ≡ 0 → Some (a, r) ≡ word_at o → with_front front (read_macs n o) ≡ all → None ≡ all
unfolding read_macs
macs_full front n None all a r z e h = absurd (cc)
macs_full front n (Some text) all a r z e h = sym (ap (λ n. with_front front (read_macs n (Some text))) z) ∙ h

pub macs_bad : (front : List (List ℕ)) (n : ℕ) (o : Option (List ℕ)) (all : Option (List (List ℕ))) (a : List ℕ) (r : Option (List ℕ)) → Some (a, r) ≡ word_at o → result_ok (address_of a) ≡ None → with_front front (read_macs n o) ≡ all → None ≡ all
unfolding read_macs
macs_bad front n None all a r e b h = absurd (cc)
macs_bad front zero (Some text) all a r e b h = h
macs_bad front (suc n) (Some text) all a r e b h =
    let same : ◌≡◌ {A = List ℕ × Option (List ℕ)} (a, r) (cut 32 text) = cc in
    let none : result_ok (address_of (cut 32 text).0) ≡ None = sym (ap (λ c. result_ok (address_of c.0)) same) ∙ b in
    sym (ap (λ o. with_front front (o >>= λ mac. read_macs n (cut 32 text).1 >>= λ macs. Some (mac ∷ macs))) none) ∙ h

pub macs_more : (front next : List (List ℕ)) (n m : ℕ) (o : Option (List ℕ)) (all : Option (List (List ℕ))) (a mac : List ℕ) (r : Option (List ℕ)) → n ≡ suc m → Some (a, r) ≡ word_at o → result_ok (address_of a) ≡ Some mac
    → next ≡ front ++ mac ∷ [] → with_front front (read_macs n o) ≡ all → with_front next (read_macs m r) ≡ all
unfolding read_macs
macs_more front next n m None all a mac r z e b p h = absurd (cc)
macs_more front next n m (Some text) all a mac r z e b p h =
    let same : ◌≡◌ {A = List ℕ × Option (List ℕ)} (a, r) (cut 32 text) = cc in
    let one : result_ok (address_of (cut 32 text).0) ≡ Some mac = sym (ap (λ c. result_ok (address_of c.0)) same) ∙ b in
    ap (λ l. with_front l (read_macs m r)) p
    ∙ sym (front_more front mac (read_macs m r))
    ∙ ap (λ c. with_front front (read_macs m c.1 >>= λ macs. Some (mac ∷ macs))) same
    ∙ sym (ap (λ o. with_front front (o >>= λ mac. read_macs m (cut 32 text).1 >>= λ macs. Some (mac ∷ macs))) one)
    ∙ sym (ap (λ n. with_front front (read_macs n (Some text))) z)
    ∙ h

pub macs_done : (front : List (List ℕ)) (n : ℕ) (o : Option (List ℕ)) (all : Option (List (List ℕ))) → None ≡ word_at o → with_front front (read_macs n o) ≡ all → Some front ≡ all
unfolding read_macs
macs_done front n None all e h = ap Some (sym (append-nil front)) ∙ h
macs_done front n (Some text) all e h = absurd (cc)
