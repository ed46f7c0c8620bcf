-- A fact of each entry and its past, by places.
use Rattle.std.proofs.Common.{◌≡◌, ℕ, ◌+◌, ◌<◌, ◌≤◌, List, [], ◌∷◌, length, take, reverse, slice_index_or, zero, suc, sym, ap, ◌∙◌, subst, arith, take_all, ⊎_elim}
use Rattle.std.proofs.lemmas.Bool.{cases_lt}
use Rattle.std.proofs.lemmas.List.{reverse-append, length-reverse, length-take, take_more}
use Rattle.hsr_node.specs.Record.{Each}
use Rattle.hsr_node.specs.declared.entry.Entry.{Entry}
use Rattle.hsr_node.specs.declared.event.Probe.{Probe}
use Rattle.hsr_node.specs.declared.event.Event.TheVariants.{Age}
use Rattle.hsr_node.specs.declared.event.Outcome.TheVariants.{Aged}
use Rattle.hsr_finished_run.specs.Places.{HoldsAt}

-- an entry, where one has to be named
pub no_entry : Entry
no_entry = record { worker = 0; at = 0; event = Age; outcome = Aged }

pub past_more : (xs : List Entry) (i : ℕ) (d : Entry) → i < length xs → reverse (take (i + 1) xs) ≡ slice_index_or xs i d ∷ reverse (take i xs)
past_more xs i d below = ap reverse (take_more xs i d below) ∙ reverse-append (take i xs) (slice_index_or xs i d ∷ [])

pub past_length : (xs : List Entry) (i : ℕ) → i ≤ length xs → length (reverse (take i xs)) ≡ i
past_length xs i below = let taken = length-take i xs in length-reverse (take i xs) ∙ (let e : length (take i xs) ≡ i = omega (arith, taken, below) in e)

-- an entry that stands here stands after its past
pub here_is : (xs : List Entry) (k i : ℕ) (here : Probe) → i < length xs → here ≡ record { node = k; place = i } → here ≡ record { node = k; place = length (reverse (take i xs)) }
here_is xs k i here below at_here =
    let long = past_length xs i (omega (arith, below)) in
    let P : ℕ → Type 0 = λ n. here ≡ record { node = k; place = n } in
    subst P (sym long) at_here

-- the past with the entry at a place
pub past_with : (xs : List Entry) (i : ℕ) (x : Entry) → i < length xs → x ≡ slice_index_or xs i x → reverse (take (i + 1) xs) ≡ x ∷ reverse (take i xs)
past_with xs i x below x_is = past_more xs i x below ∙ ap (λ y. y ∷ reverse (take i xs)) (sym x_is)

pub each_from : (P : Entry → List Entry → Type 0) (xs : List Entry) → ((i : ℕ) → i < length xs → HoldsAt P xs i) → Each P (reverse xs)
each_from P xs all =
    let Q : List Entry → Type 0 = λ ys. Each P (reverse ys) in
    subst Q (take_all (length xs) xs (omega arith)) (below (length xs) (omega arith))
  where
    below : (n : ℕ) → n ≤ length xs → Each P (reverse (take n xs))
    below zero h = tt
    below (suc n) h =
        let R : ℕ → Type 0 = λ m. Each P (reverse (take m xs)) in
        let Q : List Entry → Type 0 = Each P in
        let e : n + 1 ≡ suc n = omega arith in
        subst R e (subst Q (sym (past_more xs n no_entry (omega (arith, h)))) (all n (omega (arith, h)) no_entry, below n (omega (arith, h))))

pub from_each : (P : Entry → List Entry → Type 0) (xs : List Entry) → Each P (reverse xs) → (i : ℕ) → i < length xs → HoldsAt P xs i
from_each P xs each i under = λ d.
    let Q : List Entry → Type 0 = Each P in
    (subst Q (past_more xs i d under) (front (length xs) (omega arith) (subst Q (ap reverse (sym (take_all (length xs) xs (omega arith)))) each) (i + 1) (omega (arith, under)))).0
  where
    front : (n : ℕ) → n ≤ length xs → Each P (reverse (take n xs)) → (m : ℕ) → m ≤ n → Each P (reverse (take m xs))
    front zero h each m low = let Q : ℕ → Type 0 = λ k. Each P (reverse (take k xs)) in subst Q (let e : zero ≡ m = omega (arith, low) in e) each
    front (suc n) h each m low =
        ⊎_elim
        (λ lower.
        let e : suc n ≡ n + 1 = omega arith in
        let Q : List Entry → Type 0 = Each P in
        front n (omega (arith, h)) (subst Q (past_more xs n no_entry (omega (arith, h))) (subst (λ k. Each P (reverse (take k xs))) e each)).1 m (omega (arith, lower)))
        (λ same. let e : suc n ≡ m = omega (arith, low, same) in subst (λ k. Each P (reverse (take k xs))) e each)
        (cases_lt m (suc n))
