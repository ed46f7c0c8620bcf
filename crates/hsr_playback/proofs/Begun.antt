-- One more passage that may begin a frame.
use Rattle.std.proofs.Common.{◌≡◌, ℕ, ◌+◌, ◌<◌, ◌≤◌, ◌∙◌, ◌++◌, Bool, List, [], ◌∷◌, length, get_or, take, drop, Option, ap, sym, append_assoc}
use Rattle.std.proofs.lemmas.List.{at_drop_more, at_drop_all, take_more}
use Rattle.std.specs.Prelude.{reverse}
use Rattle.hsr_playback.proofs.Backwards.{pushed_back}
use Rattle.hsr_playback.specs.Own.{begin_one, begins_from}
use Rattle.hsr_playback.specs.declared.passage.Passage.{Passage}

before_more : (ps : List Passage) (i : ℕ) (p : Passage) → i < length ps → p ≡ get_or ps i p → reverse (take (i + 1) ps) ≡ p ∷ reverse (take i ps)
before_more ps i p h here =
    ap reverse (take_more ps i p h ∙ ap (λ (x : Passage). take i ps ++ x ∷ []) (sym here)) ∙ pushed_back (take i ps) p

pub begins_more : (own : Option (List ℕ)) (has_host : Bool) (within : ℕ) (ps : List Passage) (i : ℕ) (p : Passage) (table after : List (Option ℕ)) (begun : Bool)
    (begins next whole : List Bool) → i < length ps → p ≡ get_or ps i p → (begun, after) ≡ begin_one own has_host within (reverse (take i ps)) table p
    → next ≡ begins ++ begun ∷ []
    → begins ++ begins_from own has_host within (reverse (take i ps)) table (drop i ps) ≡ whole
    → next ++ begins_from own has_host within (reverse (take (i + 1) ps)) after (drop (i + 1) ps) ≡ whole
begins_more own has_host within ps i p table after begun begins next whole h here is put same =
    let past : List Passage = reverse (take i ps) in
    ap (λ (front : List Bool). front ++ begins_from own has_host within (reverse (take (i + 1) ps)) after (drop (i + 1) ps)) put
    ∙ append_assoc begins (begun ∷ []) (begins_from own has_host within (reverse (take (i + 1) ps)) after (drop (i + 1) ps))
    ∙ ap (λ (past : List Passage). begins ++ begun ∷ begins_from own has_host within past after (drop (i + 1) ps)) (before_more ps i p h here)
    ∙ ap (λ (y : Bool × List (Option ℕ)). begins ++ y.0 ∷ begins_from own has_host within (p ∷ past) y.1 (drop (i + 1) ps)) is
    ∙ ap (λ (x : Passage). begins ++ begins_from own has_host within past table (x ∷ drop (i + 1) ps)) here
    ∙ ap (λ (rest : List Bool). begins ++ rest) (sym (at_drop_more (begins_from own has_host within past table) ps i p h)) ∙ same

pub begins_all : (own : Option (List ℕ)) (has_host : Bool) (within : ℕ) (past : List Passage) (table : List (Option ℕ)) (ps : List Passage) (i : ℕ)
    → length ps ≤ i → begins_from own has_host within past table (drop i ps) ≡ []
begins_all own has_host within past table ps i h = at_drop_all (begins_from own has_host within past table) ps i h
