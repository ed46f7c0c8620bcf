-- Entries in chains, as entries come and go.
use Rattle.std.proofs.Common.{◌≡◌, ◌≢◌, ℕ, zero, suc, ◌+◌, ◌-◌, ◌<◌, ◌≤◌, List, [], ◌∷◌, ◌++◌, length, take, drop, Some, None, refl, ap, sym, ◌∙◌, subst, ◌⊎◌, inl, inr, arith, length-append, length-drop}
use Rattle.std.specs.Prelude.{slice_get, slice_index, slice_set}
use Rattle.std.proofs.lemmas.List.{drop-drop, drop-map, drop-take, get_or-set_same, get_or-set_other, length-map, length-set, map-append}
use Rattle.std.proofs.lemmas.Bool.{cases_eq}
use Rattle.std.proofs.lemmas.Option.{slice_get-map}
use Rattle.std.specs.Option.{option_map}
use Rattle.circular_buffer.specs.Buffer.{keep_last}
use Rattle.circular_buffer.proofs.Places.{slice_get-drop}
use Rattle.hsr_duptable.specs.Notes.{last_notes}
use Rattle.hsr_duptable.specs.Buckets.{bucket_of}
use Rattle.hsr_duptable.specs.Chains.{notes_of, last_entries, IsYoungest, AreChained}
use Rattle.hsr_duptable.specs.declared.chain.Entry.{Entry}

-- ---- the notes of the entries

pub notes_of-push : (es : List Entry) (new : Entry) → notes_of (es ++ new ∷ []) ≡ notes_of es ++ new.note ∷ []
notes_of-push es new = map-append (λ (e : Entry). e.note) es (new ∷ [])

pub notes_of-drop : (d : ℕ) (es : List Entry) → notes_of (drop d es) ≡ drop d (notes_of es)
notes_of-drop d es = sym (drop-map (λ (e : Entry). e.note) d es)

pub length-notes_of : (es : List Entry) → length (notes_of es) ≡ length es
length-notes_of es = length-map es (λ (e : Entry). e.note)

pub notes_of-front : (es : List Entry) (e : Entry) → slice_get es 0 ≡ Some e → slice_get (notes_of es) 0 ≡ Some e.note
notes_of-front es e h = slice_get-map (λ (e : Entry). e.note) es 0 ∙ ap (option_map (λ (e : Entry). e.note)) h

pub notes_of-no_front : (es : List Entry) → slice_get es 0 ≡ None → slice_get (notes_of es) 0 ≡ None
notes_of-no_front es h = slice_get-map (λ (e : Entry). e.note) es 0 ∙ ap (option_map (λ (e : Entry). e.note)) h

pub has_front : (es : List Entry) (e : Entry) → slice_get es 0 ≡ Some e → 1 ≤ length es
has_front [] e h = absurd (cc)
has_front (x ∷ es) e h = omega arith

-- what the ring keeps of the entries are the notes that the table keeps
pub notes_of-keep_last : (n : ℕ) (es : List Entry) (new : Entry) → notes_of (keep_last n (es ++ new ∷ [])) ≡ last_notes n (notes_of es ++ new.note ∷ [])
notes_of-keep_last n es new =
    let all = es ++ new ∷ [] in
    notes_of-drop (length all - n) all ∙ ap (λ (k : ℕ). drop (k - n) (notes_of all)) (sym (length-notes_of all)) ∙ ap (last_notes n) (notes_of-push es new)

-- the last of the last entries
pub last_entries-drop_front : (left all : List Entry) → length left ≤ length all → 1 ≤ length left → left ≡ last_entries (length left) all → drop 1 left ≡ last_entries (length (drop 1 left)) all
last_entries-drop_front left all fewer some last =
    let size = length-drop 1 left in
    let sum : (length all - length left) + 1 ≡ length all - length (drop 1 left) = omega arith in
    ap (drop 1) last ∙ drop-drop 1 (length all - length left) all ∙ ap (λ (n : ℕ). drop n all) sum

-- ---- the youngest of a bucket

-- no serial leads past the youngest of all
pub IsYoungest-bound : (c b gone : ℕ) (es : List Entry) (serial : ℕ) → IsYoungest c b gone es serial → serial ≤ gone + length es
IsYoungest-bound c b gone [] serial y = omega (arith, y)
IsYoungest-bound c b gone (e ∷ es) serial y = let rest = IsYoungest-bound c b (suc gone) es serial y.0 in omega (arith, rest)

-- the oldest ones go
pub IsYoungest-drop : (d c b gone after : ℕ) (es : List Entry) (serial : ℕ) → after ≡ gone + d → IsYoungest c b gone es serial → IsYoungest c b after (drop d es) serial
IsYoungest-drop zero c b gone after es serial e y = let same : gone ≡ after = omega arith in subst (λ (n : ℕ). IsYoungest c b n es serial) same y
IsYoungest-drop (suc d) c b gone after [] serial e y = omega (arith, y)
IsYoungest-drop (suc d) c b gone after (x ∷ es) serial e y = IsYoungest-drop d c b (suc gone) after es serial (omega arith) y.0

-- one of another bucket comes
IsYoungest-other : (c b gone : ℕ) (es : List Entry) (serial : ℕ) (new : Entry) → bucket_of c new.note.key ≢ b → IsYoungest c b gone es serial → IsYoungest c b gone (es ++ new ∷ []) serial
IsYoungest-other c b gone [] serial new other y = (omega (arith, y), λ same. absurd (omega (arith, y)), λ low. other)
IsYoungest-other c b gone (e ∷ es) serial new other y = (IsYoungest-other c b (suc gone) es serial new other y.0, y.1, y.2)

-- one of this bucket comes
IsYoungest-own : (c b gone : ℕ) (es : List Entry) (serial : ℕ) (new : Entry) → bucket_of c new.note.key ≡ b → serial ≡ suc (gone + length es) → IsYoungest c b gone (es ++ new ∷ []) serial
IsYoungest-own c b gone [] serial new own e = (omega arith, λ same. own, λ low. absurd (omega arith))
IsYoungest-own c b gone (x ∷ es) serial new own e = (IsYoungest-own c b (suc gone) es serial new own (omega arith), λ same. absurd (omega arith), λ low. absurd (omega arith))

-- ---- all chains

-- with one more entry at the end: what stands at an index, and what before it
last_or_before : (es : List Entry) (new : Entry) (index : ℕ) (entry : Entry) → slice_get (es ++ new ∷ []) index ≡ Some entry
    → (slice_get es index ≡ Some entry) × (take index (es ++ new ∷ []) ≡ take index es) ⊎ (entry ≡ new) × (take index (es ++ new ∷ []) ≡ es)
last_or_before [] new zero entry h = inr (cc, refl)
last_or_before [] new (suc index) entry h = absurd (cc)
last_or_before (x ∷ es) new zero entry h = inl (h, refl)
last_or_before (x ∷ es) new (suc index) entry h = elim (last_or_before es new index entry h) [
  | inl before ↦ inl (before.0, ap (λ (ys : List Entry). x ∷ ys) before.1)
  | inr last ↦ inr (last.0, ap (λ (ys : List Entry). x ∷ ys) last.1)
]

-- the oldest ones go, and nothing else changes
pub AreChained-drop : (c : ℕ) (es : List Entry) (heads : List ℕ) (noted d : ℕ) → d ≤ length es → AreChained c es heads noted → AreChained c (drop d es) heads noted
AreChained-drop c es heads noted d few s =
    let kept : length (drop d es) ≡ length es - d = length-drop d es in
    let gone = noted - length es in
    let after = noted - length (drop d es) in
    let moved : after ≡ gone + d = omega (arith, s.counted) in
    record {
      counted = omega (arith, s.counted);
      head_count = s.head_count;
      youngest = λ k inside. IsYoungest-drop d c k gone after es (slice_index heads k) moved (s.youngest k inside);
      older = λ index entry h.
          let there : slice_get es (d + index) ≡ Some entry = sym (slice_get-drop d es index (d + index) refl) ∙ h in
          rw (sym (drop-take d index es)) (IsYoungest-drop d c (bucket_of c entry.note.key) gone after (take (d + index) es) entry.older moved (s.older (d + index) entry there));
    }

-- an entry comes, and none goes
AreChained-push : (c : ℕ) (es : List Entry) (heads : List ℕ) (noted b : ℕ) (new : Entry) → b < c → b ≡ bucket_of c new.note.key → new.older ≡ slice_index heads b
    → AreChained c es heads noted → AreChained c (es ++ new ∷ []) (slice_set heads b (noted + 1)) (noted + 1)
AreChained-push c es heads noted b new within bucket link s =
    let size : length (es ++ new ∷ []) ≡ length es + 1 = length-append es (new ∷ []) in
    let gone : (noted + 1) - length (es ++ new ∷ []) ≡ noted - length es = omega arith in
    record {
      counted = omega (arith, s.counted);
      head_count = length-set heads b (noted + 1) ∙ s.head_count;
      youngest = λ k inside. rw gone (youngest_of k inside (cases_eq k b));
      older = λ index entry h. rw gone (older_of index entry (last_or_before es new index entry h));
    }
  where
    youngest_of : (k : ℕ) → k < c → (k ≡ b) ⊎ (k ≡ b → ⊥) → IsYoungest c k (noted - length es) (es ++ new ∷ []) (slice_index (slice_set heads b (noted + 1)) k)
    youngest_of k inside (inl same) =
        let read : slice_index (slice_set heads b (noted + 1)) k ≡ noted + 1 = ap (λ (j : ℕ). slice_index (slice_set heads b (noted + 1)) j) same ∙ get_or-set_same heads b (noted + 1) 0 (omega (arith, s.head_count)) in
        rw read (IsYoungest-own c k (noted - length es) es (noted + 1) new (sym (same ∙ bucket)) (omega (arith, s.counted)))
    youngest_of k inside (inr other) =
        let read : slice_index (slice_set heads b (noted + 1)) k ≡ slice_index heads k = get_or-set_other heads b k (noted + 1) 0 other in
        rw read (IsYoungest-other c k (noted - length es) es (slice_index heads k) new (λ e. other (sym e ∙ sym bucket)) (s.youngest k inside))

    older_of : (index : ℕ) (entry : Entry)
        → (slice_get es index ≡ Some entry) × (take index (es ++ new ∷ []) ≡ take index es) ⊎ (entry ≡ new) × (take index (es ++ new ∷ []) ≡ es)
        → IsYoungest c (bucket_of c entry.note.key) (noted - length es) (take index (es ++ new ∷ [])) entry.older
    older_of index entry (inl before) = rw before.1 (s.older index entry before.0)
    older_of index entry (inr last) = rw (last.1, last.0, link, sym bucket) (s.youngest b within)

-- an entry comes, and the oldest goes where there is no room
pub AreChained-note : (c : ℕ) (es : List Entry) (heads : List ℕ) (noted b : ℕ) (new : Entry) → b < c → b ≡ bucket_of c new.note.key → new.older ≡ slice_index heads b
    → AreChained c es heads noted → AreChained c (keep_last c (es ++ new ∷ [])) (slice_set heads b (noted + 1)) (noted + 1)
AreChained-note c es heads noted b new within bucket link s =
    let all = es ++ new ∷ [] in
    AreChained-drop c all (slice_set heads b (noted + 1)) (noted + 1) (length all - c) (omega arith) (AreChained-push c es heads noted b new within bucket link s)
