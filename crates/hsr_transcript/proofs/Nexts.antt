-- A worker's next place, for the main worker and what is planned.
use Rattle.std.proofs.Common.{◌≡◌, ℕ, suc, ◌+◌, ◌-◌, ◌<◌, ◌==◌, ◌∙◌, List, [], ◌∷◌, length, drop, get_or, Option, Some, None, Bool, true, false, refl, sym, ap, subst, arith}
use Rattle.std.proofs.lemmas.List.{length-drop}
use Rattle.std.specs.Prelude.{filter_map, MatchOption}
use Rattle.hsr_node.specs.declared.entry.Entry.{Entry}
use Rattle.hsr_finished_run.specs.Finished.{planned_by}
use Rattle.hsr_finished_run.specs.Next as audit
use Rattle.hsr_finished_run.specs.Next.{holds_from}
use Rattle.hsr_finished_run.specs.Receipts.{holds_of}
use Rattle.hsr_transcript.specs.Order.{IsNext, planned_at}
use Rattle.hsr_transcript_lines.proofs.Grown.{drop_next}
use Rattle.hsr_transcript.proofs.Orders.{found_here, passed_over}

held_over : (x : Entry) (xs : List Entry) (n : ℕ) → (x.worker == 0) ≡ false → holds_of 0 n (x ∷ xs) ≡ holds_of 0 (n + 1) xs
held_over x xs n e = rw e refl

held_here : (x : Entry) (xs : List Entry) (n : ℕ) → (x.worker == 0) ≡ true → holds_of 0 n (x ∷ xs) ≡ n ∷ holds_of 0 (n + 1) xs
held_here x xs n e = rw e refl

none_held : (k n : ℕ) (xs : List Entry) → holds_of 0 n xs ≡ [] → filter_map (planned_by k) xs ≡ []
none_held k n [] none = refl
none_held k n (x ∷ xs) none = go (x.worker == 0) refl (none_held k (n + 1) xs)
  where
    go : (t : Bool) → (x.worker == 0) ≡ t → (holds_of 0 (n + 1) xs ≡ [] → filter_map (planned_by k) xs ≡ []) → filter_map (planned_by k) (x ∷ xs) ≡ []
    go true e behind = let here = held_here x xs n e in absurd (cc)
    go false e behind = passed_over k x xs e ∙ behind (sym (held_over x xs n e) ∙ none)

next_held : (k : ℕ) (d : Entry) (entries xs : List Entry) (n place : ℕ) (more : List ℕ) → drop n entries ≡ xs → holds_of 0 n xs ≡ place ∷ more
    → filter_map (planned_by k) xs ≡ planned_at k (get_or entries place d) ∷ filter_map (planned_by k) (drop (place + 1) entries)
next_held k d entries [] n place more at held = absurd (cc)
next_held k d entries (x ∷ xs) n place more at held = go (x.worker == 0) refl (next_held k d entries xs (n + 1) place more)
  where
    below : n < length entries
    below =
        let left : length (drop n entries) ≡ length entries - n = length-drop n entries in
        let some : length (drop n entries) ≡ suc (length xs) = ap length at in
        omega (arith, left, some)

    parts : get_or entries n d ∷ drop (n + 1) entries ≡ x ∷ xs
    parts = sym (drop_next entries n d below) ∙ at

    first : get_or entries n d ≡ x
    first = let both = parts in cc

    rest : drop (n + 1) entries ≡ xs
    rest = let both = parts in cc

    found : ℕ → List Entry → Type 0
    found m ys = filter_map (planned_by k) ys ≡ planned_at k (get_or entries m d) ∷ filter_map (planned_by k) (drop (m + 1) entries)

    go : (t : Bool) → (x.worker == 0) ≡ t → (drop (n + 1) entries ≡ xs → holds_of 0 (n + 1) xs ≡ place ∷ more → found place xs) → found place (x ∷ xs)
    go true e behind =
        let here = held_here x xs n e in
        let same : n ≡ place = cc in
        subst (λ m. found m (x ∷ xs)) same
        (found_here k x xs e ∙ sym (ap (λ (y : Entry). planned_at k y ∷ filter_map (planned_by k) xs) first) ∙ sym (ap (λ ys. planned_at k (get_or entries n d) ∷ filter_map (planned_by k) ys) rest))
    go false e behind = passed_over k x xs e ∙ behind rest (sym (held_over x xs n e) ∙ held)

-- the next place of the main worker is where what is planned next stands
pub next_main : (entries : List Entry) (from : ℕ) (o : Option ℕ)
    → MatchOption o (holds_from 0 entries from ≡ []) (λ place. audit.IsNext 0 entries from place) → IsNext entries from o
next_main entries from None none = λ k. none_held k from (drop from entries) none
next_main entries from (Some place) is = (is.below, λ k d. next_held k d entries (drop from entries) from place (holds_from 0 entries (place + 1)) refl is.holds)
