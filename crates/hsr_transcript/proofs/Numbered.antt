-- Records of nodes that are numbered one after another.
use Rattle.std.proofs.Common.{◌≡◌, ℕ, zero, suc, ◌+◌, ◌<◌, List, [], ◌∷◌, length, map, get_or, refl, ap, ◌∙◌, arith}
use Rattle.hsr_node.specs.Kept.{Record}
use Rattle.hsr_node.specs.declared.entry.Entry.{Entry}
use Rattle.hsr_node.specs.declared.place.Place.{Place}
use Rattle.hsr_transcript.specs.Replay.{records_from}

pub places_from : (n : ℕ) (places : List Place) (records : List (List Entry)) → length records ≡ length places → map (λ (r : Record). r.place) (records_from n places records) ≡ places
places_from n [] records e = refl
places_from n (place ∷ places) [] e = absurd (omega arith)
places_from n (place ∷ places) (entries ∷ records) e = ap (λ ps. place ∷ ps) (places_from (n + 1) places records (omega (arith, e)))

pub entries_from : (n : ℕ) (places : List Place) (records : List (List Entry)) → length records ≡ length places → map (λ (r : Record). r.entries) (records_from n places records) ≡ records
entries_from n [] [] e = refl
entries_from n [] (entries ∷ records) e = absurd (omega arith)
entries_from n (place ∷ places) [] e = absurd (omega arith)
entries_from n (place ∷ places) (entries ∷ records) e = ap (λ es. entries ∷ es) (entries_from (n + 1) places records (omega (arith, e)))

pub many_from : (n : ℕ) (places : List Place) (records : List (List Entry)) → length records ≡ length places → length (records_from n places records) ≡ length places
many_from n [] records e = refl
many_from n (place ∷ places) [] e = absurd (omega arith)
many_from n (place ∷ places) (entries ∷ records) e = ap suc (many_from (n + 1) places records (omega (arith, e)))

-- the record of a node
pub record_from : (n k : ℕ) (places : List Place) (records : List (List Entry)) (d : Record) (p : Place) → length records ≡ length places → k < length places
    → get_or (records_from n places records) k d ≡ record { number = n + k; place = get_or places k p; entries = get_or records k [] }
record_from n k [] records d p e below = absurd (omega arith)
record_from n k (place ∷ places) [] d p e below = absurd (omega arith)
record_from n zero (place ∷ places) (entries ∷ records) d p e below =
    ap (λ m. let r : Record = record { number = m; place = place; entries = entries } in r) (let s : n ≡ n + 0 = omega arith in s)
record_from n (suc k) (place ∷ places) (entries ∷ records) d p e below =
    record_from (n + 1) k places records d p (omega (arith, e)) (omega (arith, below))
    ∙ ap (λ m. let r : Record = record { number = m; place = get_or places k p; entries = get_or records k [] } in r) (let s : n + 1 + k ≡ n + suc k = omega arith in s)
