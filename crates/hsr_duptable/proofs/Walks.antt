-- A walk along the chain of a bucket.
use Rattle.std.proofs.Common.{◌≡◌, ◌≢◌, ℕ, zero, suc, ◌+◌, ◌-◌, ◌<◌, ◌≤◌, ◌==◌, Bool, true, false, true≢false, cond, ◌&&◌, ◌||◌, List, [], ◌∷◌, ◌++◌, length, take, Some, None, refl, ap, sym, ◌∙◌, subst, inl, inr, reverse, length-take, arith, rules}
use Rattle.std.specs.Prelude.{slice_get}
use Rattle.std.proofs.lemmas.Bool.{cases_lt}
use Rattle.std.proofs.lemmas.List.{reverse-append, length-reverse}
use Rattle.std.proofs.lemmas.List.Elements.{filter-append}
use Rattle.std.proofs.lemmas.Slice.Eq.{bytes_eq-Decides}
use Rattle.circular_buffer.proofs.Places.{slice_get-take}
use Rattle.hsr_duptable.specs.Notes.{has_key, is_unexpired, unexpired_notes}
use Rattle.hsr_duptable.specs.Buckets.{bucket_of, bucket_notes, looks_until, looks_of}
use Rattle.hsr_duptable.specs.Chains.{notes_of, entry_of, IsYoungest, AreLinked}
use Rattle.hsr_duptable.specs.Key.{Key, is_same_key}
use Rattle.hsr_duptable.specs.declared.note.Note.{Note}
use Rattle.hsr_duptable.specs.declared.chain.Entry.{Entry}
use Rattle.hsr_duptable.proofs.Chains.{notes_of-push, length-notes_of, IsYoungest-bound}

-- ---- buckets

both_true : (p q : Bool) → (p && q) ≡ true → (p ≡ true) × (q ≡ true)
both_true true q h = (refl, h)
both_true false q h = absurd (cc)

-- equal keys lie in one bucket
bucket_of-same : (c : ℕ) (a b : Key) → is_same_key a b ≡ true → bucket_of c a ≡ bucket_of c b
unfolding bucket_of
bucket_of-same c a b h =
    let parts = both_true _ _ h in
    let src = (bytes_eq-Decides a.src b.src).0 parts.0 in
    let seq : a.seq ≡ b.seq = search (rules, arith) in
    rw (src, seq) refl

other_key : (c : ℕ) (a b : Key) → bucket_of c a ≢ bucket_of c b → is_same_key a b ≡ false
other_key c a b other = by_case (is_same_key a b) refl
  where
    by_case : (t : Bool) → is_same_key a b ≡ t → t ≡ false
    by_case true h = absurd (other (bucket_of-same c a b h))
    by_case false h = refl

differ : (m n : ℕ) → m ≢ n → (m == n) ≡ false
differ m n other = search (rules, arith)

agree : (m n : ℕ) → m ≡ n → (m == n) ≡ true
agree m n same = search (rules, arith)

-- a note of another bucket is left out, and one of this bucket is not
bucket_notes-other : (c b : ℕ) (x : Note) (xs : List Note) → bucket_of c x.key ≢ b → bucket_notes c b (x ∷ xs) ≡ bucket_notes c b xs
bucket_notes-other c b x xs other = rw (differ (bucket_of c x.key) b other) refl

bucket_notes-push : (c b : ℕ) (xs : List Note) (x : Note) → bucket_of c x.key ≡ b → bucket_notes c b (xs ++ x ∷ []) ≡ bucket_notes c b xs ++ x ∷ []
bucket_notes-push c b xs x own =
    filter-append (λ (n : Note). bucket_of c n.key == b) xs (x ∷ []) ∙ rw (agree (bucket_of c x.key) b own) refl

-- whoever looks for a key finds it in its bucket
pub has_key-bucket_notes : (c forget at : ℕ) (key : Key) (xs : List Note)
    → has_key key (unexpired_notes forget at (bucket_notes c (bucket_of c key) xs)) ≡ has_key key (unexpired_notes forget at xs)
has_key-bucket_notes c forget at key [] = refl
has_key-bucket_notes c forget at key (x ∷ xs) = by_case (bucket_of c x.key == bucket_of c key) refl (has_key-bucket_notes c forget at key xs)
  where
    by_case : (t : Bool) → (bucket_of c x.key == bucket_of c key) ≡ t
        → has_key key (unexpired_notes forget at (bucket_notes c (bucket_of c key) xs)) ≡ has_key key (unexpired_notes forget at xs)
        → has_key key (unexpired_notes forget at (cond t (x ∷ bucket_notes c (bucket_of c key) xs) (bucket_notes c (bucket_of c key) xs))) ≡ has_key key (unexpired_notes forget at (x ∷ xs))
    by_case true e rest = elim (is_unexpired forget at x) as (λ u.
        has_key key (cond u (x ∷ unexpired_notes forget at (bucket_notes c (bucket_of c key) xs)) (unexpired_notes forget at (bucket_notes c (bucket_of c key) xs)))
        ≡ has_key key (cond u (x ∷ unexpired_notes forget at xs) (unexpired_notes forget at xs))) [
          | true ↦ ap (λ (b : Bool). is_same_key x.key key || b) rest
          | false ↦ rest
        ]
    by_case false e rest =
        let other : bucket_of c x.key ≢ bucket_of c key = λ same. absurd (true≢false (sym (agree (bucket_of c x.key) (bucket_of c key) same) ∙ e)) in
        let no = other_key c x.key key other in
        elim (is_unexpired forget at x) as (λ u. has_key key (unexpired_notes forget at (bucket_notes c (bucket_of c key) xs)) ≡ has_key key (cond u (x ∷ unexpired_notes forget at xs) (unexpired_notes forget at xs))) [
          | true ↦ rest ∙ sym (ap (λ (b : Bool). b || has_key key (unexpired_notes forget at xs)) no)
          | false ↦ rest
        ]

-- ---- looks

looks_until-le : (key : Key) (xs : List Note) → looks_until key xs ≤ length xs
looks_until-le key [] = omega arith
looks_until-le key (x ∷ xs) =
    let rest = looks_until-le key xs in
    elim (is_same_key x.key key) as (λ t. cond t 1 (looks_until key xs + 1) ≤ length (x ∷ xs)) [ true ↦ omega arith | false ↦ omega (arith, rest) ]

bucket_notes-le : (c b : ℕ) (xs : List Note) → length (bucket_notes c b xs) ≤ length xs
bucket_notes-le c b [] = omega arith
bucket_notes-le c b (x ∷ xs) =
    let rest = bucket_notes-le c b xs in
    elim (bucket_of c x.key == b) as (λ t. length (cond t (x ∷ bucket_notes c b xs) (bucket_notes c b xs)) ≤ length (x ∷ xs)) [ true ↦ omega (arith, rest) | false ↦ omega (arith, rest) ]

-- no more looks than entries
pub looks_of-le : (c : ℕ) (key : Key) (es : List Entry) → looks_of c key (notes_of es) ≤ length es
looks_of-le c key es =
    let kept = bucket_notes c (bucket_of c key) (notes_of es) in
    let looks = looks_until-le key (reverse kept) in
    let size = length-reverse kept in
    let fewer = bucket_notes-le c (bucket_of c key) (notes_of es) in
    omega (arith, looks, size, fewer, length-notes_of es)

-- the youngest has the key
pub looks_until-found : (key : Key) (left xs : List Note) (x : Note) → left ≡ xs ++ x ∷ [] → is_same_key x.key key ≡ true → looks_until key (reverse left) ≡ 1
looks_until-found key left xs x cut same = rw (cut, reverse-append xs (x ∷ []), same) refl

-- or the others are looked at too
pub looks_until-other : (key : Key) (left xs : List Note) (x : Note) → left ≡ xs ++ x ∷ [] → is_same_key x.key key ≡ false → looks_until key (reverse left) ≡ looks_until key (reverse xs) + 1
looks_until-other key left xs x cut other = rw (cut, reverse-append xs (x ∷ []), other) refl

pub looks_until-some : (key : Key) (left xs : List Note) (x : Note) → left ≡ xs ++ x ∷ [] → 1 ≤ looks_until key (reverse left)
looks_until-some key left xs x cut = by_case (is_same_key x.key key) refl
  where
    by_case : (t : Bool) → is_same_key x.key key ≡ t → 1 ≤ looks_until key (reverse left)
    by_case true h = omega (arith, looks_until-found key left xs x cut h)
    by_case false h = omega (arith, looks_until-other key left xs x cut h)

-- ---- where a serial leads

-- where it leads to none that is held, the bucket is empty
bucket_notes-none : (c b gone : ℕ) (es : List Entry) (serial : ℕ) → serial ≤ gone → IsYoungest c b gone es serial → bucket_notes c b (notes_of es) ≡ []
bucket_notes-none c b gone [] serial low y = refl
bucket_notes-none c b gone (x ∷ es) serial low y =
    bucket_notes-other c b x.note (notes_of es) (y.2 low) ∙ bucket_notes-none c b (suc gone) es serial (omega arith) y.0

-- what is younger lies in other buckets
pub bucket_notes-take : (c b gone k : ℕ) (es : List Entry) (serial : ℕ) → k ≡ serial - gone → IsYoungest c b gone es serial
    → bucket_notes c b (notes_of (take k es)) ≡ bucket_notes c b (notes_of es)
bucket_notes-take c b gone zero es serial e y = sym (bucket_notes-none c b gone es serial (omega arith) y)
bucket_notes-take c b gone (suc k) [] serial e y = refl
bucket_notes-take c b gone (suc k) (x ∷ es) serial e y =
    let rest = bucket_notes-take c b (suc gone) k es serial (omega arith) y.0 in
    elim (bucket_of c x.note.key == b) as (λ t. cond t (x.note ∷ bucket_notes c b (notes_of (take k es))) (bucket_notes c b (notes_of (take k es))) ≡ cond t (x.note ∷ bucket_notes c b (notes_of es)) (bucket_notes c b (notes_of es))) [
      | true ↦ ap (λ (ys : List Note). x.note ∷ ys) rest
      | false ↦ rest
    ]

pub IsYoungest-take : (c b gone k : ℕ) (es : List Entry) (serial : ℕ) → k ≡ serial - gone → IsYoungest c b gone es serial → IsYoungest c b gone (take k es) serial
IsYoungest-take c b gone zero [] serial e y = y
IsYoungest-take c b gone (suc k) [] serial e y = y
IsYoungest-take c b gone zero (x ∷ es) serial e y = omega arith
IsYoungest-take c b gone (suc k) (x ∷ es) serial e y = (IsYoungest-take c b (suc gone) k es serial (omega arith) y.0, y.1, y.2)

-- the entry that it leads to
linked_entry : (c b gone i : ℕ) (es : List Entry) (serial : ℕ) → serial ≡ suc (gone + i) → IsYoungest c b gone es serial → (e : Entry) × (slice_get es i ≡ Some e) × (bucket_of c e.note.key ≡ b)
linked_entry c b gone i [] serial e y = absurd (omega (arith, y))
linked_entry c b gone zero (x ∷ es) serial e y = (x, refl, y.1 (omega arith))
linked_entry c b gone (suc i) (x ∷ es) serial e y = linked_entry c b (suc gone) i es serial (omega arith) y.0

take-suc : (es : List Entry) (i : ℕ) (e : Entry) → slice_get es i ≡ Some e → take (suc i) es ≡ take i es ++ e ∷ []
take-suc [] i e h = absurd (cc)
take-suc (x ∷ es) zero e h = let same : x ≡ e = cc in ap (λ (y : Entry). y ∷ []) same
take-suc (x ∷ es) (suc i) e h = ap (λ (ys : List Entry). x ∷ ys) (take-suc es i e h)

take-fewer : (j i : ℕ) (es : List Entry) → j ≤ i → take j (take i es) ≡ take j es
take-fewer zero i es h = refl
take-fewer (suc j) zero es h = absurd (omega arith)
take-fewer (suc j) (suc i) [] h = refl
take-fewer (suc j) (suc i) (x ∷ es) h = ap (λ (ys : List Entry). x ∷ ys) (take-fewer j i es (omega arith))

-- ---- a step along the chain

-- What is left of a bucket ends with the entry that the serial leads to, and before it stands what that one's link leads to.
pub record StepsDown (c b gone : ℕ) (es : List Entry) (serial : ℕ) (entry : Entry) : Type 0 where
  pub last : bucket_notes c b (notes_of (take (serial - gone) es)) ≡ bucket_notes c b (notes_of (take (entry.older - gone) es)) ++ entry.note ∷ []
  pub youngest : IsYoungest c b gone (take (entry.older - gone) es) entry.older
  pub falls : entry.older < serial

-- an entry that is found stands at its place
entry_of-place : (gone : ℕ) (es : List Entry) (serial : ℕ) (entry : Entry) → entry_of gone es serial ≡ Some entry → (gone < serial) × (slice_get es (serial - gone - 1) ≡ Some entry)
entry_of-place gone es serial entry h = elim (cases_lt gone serial) [
  | inl held ↦ (held, search (rules, arith))
  | inr low ↦ absurd (search (rules, arith))
]

pub steps_down : (c b gone : ℕ) (es : List Entry) (serial : ℕ) (entry : Entry) → AreLinked c gone es → IsYoungest c b gone (take (serial - gone) es) serial → entry_of gone es serial ≡ Some entry
    → StepsDown c b gone es serial entry
steps_down c b gone es serial entry linked y found =
    let spot = entry_of-place gone es serial entry found in
    let i = serial - gone - 1 in
    let k = serial - gone in
    let there = linked_entry c b gone i (take k es) serial (omega (arith, spot.0)) y in
    let same : Some there.0 ≡ Some entry = sym there.1 ∙ slice_get-take k es i (omega (arith, spot.0)) ∙ spot.1 in
    let one : there.0 ≡ entry = cc in
    let own = subst (λ (e : Entry). bucket_of c e.note.key ≡ b) one there.2 in
    let next : k ≡ suc i = omega (arith, spot.0) in
    let cut : take k es ≡ take i es ++ entry ∷ [] = ap (λ (n : ℕ). take n es) next ∙ take-suc es i entry spot.1 in
    let link = subst (λ (n : ℕ). IsYoungest c n gone (take i es) entry.older) own (linked i entry spot.1) in
    let bound = IsYoungest-bound c b gone (take i es) entry.older link in
    let size = length-take i es in
    let fewer : entry.older - gone ≤ i = omega arith in
    let before = take-fewer (entry.older - gone) i es fewer in
    record {
      last = ap (bucket_notes c b) (ap notes_of cut ∙ notes_of-push (take i es) entry) ∙ bucket_notes-push c b (notes_of (take i es)) entry.note own
          ∙ ap (λ (ys : List Note). ys ++ entry.note ∷ []) (sym (bucket_notes-take c b gone (entry.older - gone) (take i es) entry.older refl link) ∙ ap (λ (ys : List Entry). bucket_notes c b (notes_of ys)) before);
      youngest = rw before at (IsYoungest-take c b gone (entry.older - gone) (take i es) entry.older refl link);
      falls = omega (arith, spot.0);
    }

-- no entry stands there: nothing is left of the bucket
pub none_left : (c b gone : ℕ) (es : List Entry) (serial : ℕ) → IsYoungest c b gone (take (serial - gone) es) serial → entry_of gone es serial ≡ None
    → bucket_notes c b (notes_of (take (serial - gone) es)) ≡ []
none_left c b gone es serial y none = elim (cases_lt gone serial) [
  | inl held ↦
      let i = serial - gone - 1 in
      let there = linked_entry c b gone i (take (serial - gone) es) serial (omega (arith, held)) y in
      let spot : slice_get es i ≡ None = search (rules, arith) in
      let same : Some there.0 ≡ None = sym there.1 ∙ slice_get-take (serial - gone) es i (omega (arith, held)) ∙ spot in
      absurd (cc)
  | inr low ↦ bucket_notes-none c b gone (take (serial - gone) es) serial low y
]
