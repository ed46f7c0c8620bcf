-- Sends without those at their front that are over, and the most of them.
use Rattle.std.proofs.Common.{◌≡◌, ◌∙◌, ℕ, zero, suc, ◌+◌, ◌∷◌, [], List, Some, Option, length, true, false, cond, max, slice_get, drop, ap, refl, sym, arith}
use Rattle.std.proofs.Math.Seq.{drop-length}
use Rattle.std.proofs.lemmas.List.{drop-drop}
use Rattle.hsr_scenario.specs.declared.steps.Order.{Order}
use Rattle.hsr_plan_schedule.specs.Room.{is_young, moment_behind, most_open, open_behind, young}

first_young : (age now : ℕ) (sends : List ℕ) (at : ℕ) → slice_get sends 0 ≡ Some at → is_young age now at ≡ true → young age now sends ≡ sends
first_young age now [] at is yes_it_is = absurd (cc)
first_young age now (m ∷ more) at is yes_it_is =
    let same : m ≡ at = cc in
    ap (λ b. cond b (m ∷ more) (young age now more)) (ap (is_young age now) same ∙ yes_it_is)

first_old : (age now : ℕ) (sends : List ℕ) (at : ℕ) → slice_get sends 0 ≡ Some at → is_young age now at ≡ false → young age now (drop 1 sends) ≡ young age now sends
first_old age now [] at is gone = absurd (cc)
first_old age now (m ∷ more) at is gone =
    let same : m ≡ at = cc in
    sym (ap (λ b. cond b (m ∷ more) (young age now more)) (ap (is_young age now) same ∙ gone))

-- ---- at a place

get_front : {A : Type 0} (xs : List A) (i : ℕ) → slice_get (drop i xs) 0 ≡ slice_get xs i
get_front [] zero = refl
get_front [] (suc i) = refl
get_front (x ∷ xs) zero = refl
get_front (x ∷ xs) (suc i) = get_front xs i

pub young_at : (age now : ℕ) (sends : List ℕ) (i at : ℕ) → slice_get sends i ≡ Some at → is_young age now at ≡ true
    → young age now (drop i sends) ≡ young age now sends → drop i sends ≡ young age now sends
young_at age now sends i at is still h = sym (first_young age now (drop i sends) at (get_front sends i ∙ is) still) ∙ h

pub old_at : (age now : ℕ) (sends : List ℕ) (i at : ℕ) → slice_get sends i ≡ Some at → is_young age now at ≡ false
    → young age now (drop i sends) ≡ young age now sends → young age now (drop (i + 1) sends) ≡ young age now sends
old_at age now sends i at is gone h = ap (young age now) (sym (drop-drop 1 i sends)) ∙ (first_old age now (drop i sends) at (get_front sends i ∙ is) gone ∙ h)

pub all_old : (age now : ℕ) (sends : List ℕ) → young age now (drop (length sends) sends) ≡ young age now sends → drop (length sends) sends ≡ young age now sends
all_old age now sends h = drop-length sends ∙ (ap (young age now) (sym (drop-length sends)) ∙ h)

-- ---- one order more

pub most_step : (limit : Option ℕ) (now next most more whole : ℕ) (before after : List ℕ) (o : Order) (rest left : List Order) → left ≡ o ∷ rest
    → next ≡ moment_behind now o → after ≡ open_behind limit now o before → more ≡ max most (length before)
    → max most (most_open limit now before left) ≡ whole → max more (most_open limit next after rest) ≡ whole
most_step limit now next most more whole before after o rest left split is_next is_after is_more so_far =
    let one : most_open limit now before left ≡ max (length before) (most_open limit next after rest) =
    ap (most_open limit now before) split ∙ ap (λ n. max (length before) (most_open limit n (open_behind limit now o before) rest)) (sym is_next)
    ∙ ap (λ os. max (length before) (most_open limit next os rest)) (sym is_after) in
    let same : max (max most (length before)) (most_open limit next after rest) ≡ max most (max (length before) (most_open limit next after rest)) = omega arith in
    ap (λ n. max n (most_open limit next after rest)) is_more ∙ (same ∙ (ap (max most) (sym one) ∙ so_far))
