-- Ends that interfaces show.
use Rattle.std.proofs.Common.{◌≡◌, ℕ, ◌+◌, ◌<◌, ◌≤◌, ◌∙◌, ◌&&◌, ◌||◌, Bool, true, false, List, length, get_or, drop, ap, sym, refl}
use Rattle.std.proofs.lemmas.List.{at_drop_more, at_drop_all}
use Rattle.std.specs.List.{list_any}

-- an end is shown that was asked for, beside those that were shown before
pub with_it : (here lets before : Bool) → lets ≡ true → (here || before) ≡ ((here && lets) || before)
with_it here false before h = absurd (cc)
with_it true true before h = refl
with_it false true before h = refl

pub without_it : (here lets before : Bool) → lets ≡ false → before ≡ ((here && lets) || before)
without_it here true before h = absurd (cc)
without_it true false before h = refl
without_it false false before h = refl

moved : (here before rest : Bool) → ((here || before) || rest) ≡ (before || (here || rest))
moved true true rest = refl
moved true false rest = refl
moved false before rest = refl

-- one more interface
pub one_more : {X : Type 0} (shows : X → Bool) (xs : List X) (k : ℕ) (d : X) (before after whole : Bool) → k < length xs
    → after ≡ (shows (get_or xs k d) || before) → (before || list_any shows (drop k xs)) ≡ whole → (after || list_any shows (drop (k + 1) xs)) ≡ whole
one_more shows xs k d before after whole h is same =
    ap (λ b. b || list_any shows (drop (k + 1) xs)) is
    ∙ moved (shows (get_or xs k d)) before (list_any shows (drop (k + 1) xs))
    ∙ ap (λ b. before || b) (sym (at_drop_more (list_any shows) xs k d h)) ∙ same

or_false : (b : Bool) → (b || false) ≡ b
or_false true = refl
or_false false = refl

-- and no more
pub no_more : {X : Type 0} (shows : X → Bool) (xs : List X) (k : ℕ) (before whole : Bool) → length xs ≤ k → (before || list_any shows (drop k xs)) ≡ whole → before ≡ whole
no_more shows xs k before whole h same = sym (or_false before) ∙ ap (λ b. before || b) (sym (at_drop_all (list_any shows) xs k h)) ∙ same
