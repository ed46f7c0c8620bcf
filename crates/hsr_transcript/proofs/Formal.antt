-- Form alone says version, bad line or end, and nothing else.
use Rattle.std.proofs.Common.{◌≡◌, ◌∙◌, ℕ, zero, suc, nat_lt, List, [], ◌∷◌, length, Option, Some, None, Result, Ok, Err, refl, subst, cond, Bool, true, false}
use Rattle.hsr_text.specs.Words.{cut}
use Rattle.hsr_transcript.specs.Form.{carried_on, end_on, form_of, links_on, main_on, nodes_on, only_at, records_at, records_on, rows_at, said_at, section_at, table_on, version_at}
use Rattle.hsr_transcript.specs.Reading.{At, Reader, on_with, gives, ◌>>=◌, behind, closes, each, line_or, many, taken}
use Rattle.hsr_transcript.specs.Transcript.{Said}
use Rattle.hsr_transcript.specs.declared.fault.ReadFault.{ReadFault}
use Rattle.hsr_transcript.specs.declared.fault.ReadFault.TheVariants.{Version, BadLine, End}

abbrev pub IsOfForm : ReadFault → Type 0
IsOfForm Version = Unit {0}
IsOfForm (BadLine n) = Unit {0}
IsOfForm End = Unit {0}
IsOfForm _ = ⊥

-- a reader that has no other faults
abbrev Formal : {Y : Type 0} → Reader Y → Type 0
Formal p = (a : At) (e : ReadFault) → p a ≡ Err e → IsOfForm e

bind_formal : {Y Z : Type 0} (p : Reader Y) (f : Y → Reader Z) → Formal p → ((y : Y) → Formal (f y)) → Formal (p >>= f)
bind_formal {Y} p f one more a e h = go (p a) refl h
  where
    go : (r : Result (Y × At) ReadFault) → p a ≡ r → on_with r f ≡ Err e → IsOfForm e
    go (Err x) is h = one a e (is ∙ let same : Err x ≡ Err e = h in cc)
    go (Ok x) is h = more x.0 x.1 e h

gives_formal : {Y : Type 0} (y : Y) → Formal (gives y)
gives_formal y a e h = absurd (cc)

line_formal : {Y : Type 0} (fault : ℕ → ReadFault) (of : List ℕ → Option Y) → ((n : ℕ) → IsOfForm (fault n)) → Formal (line_or fault of)
line_formal {Y} fault of is a e h = go (nat_lt 8192 (length (cut 10 a.text).0)) (cut 10 a.text).1 h
  where
    said : (o : Option Y) (b : At) → taken o b (fault a.number) ≡ Err e → IsOfForm e
    said None b h = subst IsOfForm (let same : fault a.number ≡ e = cc in same) (is a.number)
    said (Some y) b h = absurd (cc)

    go : (long : Bool) (left : Option (List ℕ)) → on_with (cond long (Err (fault a.number)) (behind a.number (cut 10 a.text).0 left)) (λ l b. taken (of l) b (fault a.number)) ≡ Err e → IsOfForm e
    go true left h = subst IsOfForm (let same : fault a.number ≡ e = cc in same) (is a.number)
    go false None h = subst IsOfForm (let same : End ≡ e = cc in same) tt
    go false (Some rest) h = said (of (cut 10 a.text).0) _ h

many_formal : {Y : Type 0} (p : Reader Y) → Formal p → (k : ℕ) → Formal (many p k)
many_formal p one zero = gives_formal []
many_formal p one (suc k) = bind_formal p _ one (λ y. bind_formal (many p k) _ (many_formal p one k) (λ ys. gives_formal (y ∷ ys)))

each_formal : {X Y : Type 0} (p : X → Reader Y) → ((x : X) → Formal (p x)) → (xs : List X) → Formal (each p xs)
each_formal p one [] = gives_formal []
each_formal p one (x ∷ xs) = bind_formal (p x) _ (one x) (λ y. bind_formal (each p xs) _ (each_formal p one xs) (λ ys. gives_formal (y ∷ ys)))

section_formal : {Y : Type 0} (name : List ℕ) (of : List ℕ → Option Y) → Formal (section_at name of)
unfolding section_at
section_formal name of = bind_formal _ _ (line_formal BadLine _ (λ n. tt)) (λ k. many_formal _ (line_formal BadLine of (λ n. tt)) k)

said_formal : (capacity : ℕ) → Formal (said_at capacity)
unfolding said_at table_on nodes_on links_on main_on records_on carried_on end_on version_at only_at records_at rows_at
said_formal capacity =
    bind_formal _ _ (line_formal (λ _. Version) _ (λ n. tt)) (λ version.
    bind_formal _ _ (line_formal BadLine _ (λ n. tt)) (λ table.
    bind_formal _ _ (section_formal _ _) (λ nodes.
    bind_formal _ _ (section_formal _ _) (λ links.
    bind_formal _ _ (section_formal _ _) (λ main.
    bind_formal _ _ (each_formal _ (λ place. section_formal _ _) nodes) (λ records.
    bind_formal _ _ (each_formal _ (λ ends. section_formal _ _) links) (λ carried.
    bind_formal _ _ (line_formal BadLine _ (λ n. tt)) (λ last.
    gives_formal _))))))))

pub form_formal : (capacity : ℕ) (text : List ℕ) (e : ReadFault) → form_of capacity text ≡ Err e → IsOfForm e
unfolding form_of
form_formal capacity text e h = go (said_at capacity (record { number = 1; text = text })) refl h
  where
    left : (t : Said) (n : ℕ) (rest : List ℕ) → closes (Ok (t, record { number = n; text = rest })) ≡ Err e → IsOfForm e
    left t n [] h = absurd (cc)
    left t n (b ∷ bs) h = subst IsOfForm (let same : BadLine n ≡ e = cc in same) tt

    go : (r : Result (Said × At) ReadFault) → said_at capacity (record { number = 1; text = text }) ≡ r → closes r ≡ Err e → IsOfForm e
    go (Err x) is h = said_formal capacity _ e (is ∙ let same : Err x ≡ Err e = cc in same)
    go (Ok x) is h = left x.0 x.1.number x.1.text h
