-- How many entries of a record the main worker brought about, and how many steps ask a node for something.
use Rattle.std.proofs.Common.{◌≡◌, ◌⊎◌, ℕ, ◌+◌, ◌-◌, ◌<◌, ◌≤◌, ◌==◌, Bool, true, false, cond, if◌then◌else◌, List, [], ◌∷◌, length, drop, take, count_by, Option, Some, None, refl, sym, ap, ◌∙◌, subst, arith, ⊎_elim, zero, suc, eq-eqb, eqb-true, ne_eqb}
use Rattle.std.specs.Prelude.{slice_get}
use Rattle.std.proofs.lemmas.Bool.{cases_Bool, cases_eq, cases_lt, cond-false, cond-true, eqb-false, false≢true}
use Rattle.hsr_node.specs.declared.entry.Entry.{Entry}
use Rattle.hsr_run_laws.proofs.Lists.{count_more, one_if}
use Rattle.hsr_plays.specs.Law.{is_main, mains_below}
use Rattle.hsr_plays.specs.Plays.{given_moment}
use Rattle.hsr_play_laws.specs.Told.{is_main_at}

-- ---- entries of the main worker

pub main_below : (n : ℕ) (h : List Entry) → is_main_at n h ≡ true → n < length h
main_below n [] is = absurd (false≢true is)
main_below n (x ∷ past) is = by_test (n == length past) (eqb-true n (length past)) is (main_below n past)
  where
    by_test : (b : Bool) → (b ≡ true → n ≡ length past) → (if b then is_main x else is_main_at n past) ≡ true → (is_main_at n past ≡ true → n < length past) → n < length (x ∷ past)
    by_test true same is rest = let e = same refl in omega (arith, e)
    by_test false same is rest = let e = rest is in omega (arith, e)

-- the entry of a place below stays
other_place : (n : ℕ) (past : List Entry) → n < length past → (n == length past) ≡ false
other_place n past below = ne_eqb n (length past) (λ e. omega (arith, e, below))

pub main_stays : (n : ℕ) (x : Entry) (past : List Entry) → is_main_at n past ≡ true → is_main_at n (x ∷ past) ≡ true
main_stays n x past is = cond-false (n == length past) (is_main x) (is_main_at n past) (other_place n past (main_below n past is)) ∙ is

pub given_stays : (n : ℕ) (x : Entry) (past : List Entry) → n < length past → given_moment n (x ∷ past) ≡ given_moment n past
given_stays n x past below = cond-false (n == length past) x.at (given_moment n past) (other_place n past below)

-- the newest entry
pub main_here : (x : Entry) (past : List Entry) → x.worker ≡ 0 → is_main_at (length past) (x ∷ past) ≡ true
main_here x past main = cond-true (length past == length past) (is_main x) (is_main_at (length past) past) (eq-eqb (length past) (length past) refl) ∙ eq-eqb x.worker 0 main

pub given_here : (x : Entry) (past : List Entry) → given_moment (length past) (x ∷ past) ≡ x.at
given_here x past = cond-true (length past == length past) x.at (given_moment (length past) past) (eq-eqb (length past) (length past) refl)

-- ---- how many are below a place

pub mains_stay : (n : ℕ) (x : Entry) (past : List Entry) → n ≤ length past → mains_below n (x ∷ past) ≡ mains_below n past
mains_stay n x past low =
    let e : length (x ∷ past) - n ≡ suc (length past - n) = omega (arith, low) in
    ap (λ m. count_by is_main (drop m (x ∷ past))) e

pub mains_all : (h : List Entry) → mains_below (length h) h ≡ count_by is_main h
mains_all h = let e : length h - length h ≡ 0 = omega arith in ap (λ m. count_by is_main (drop m h)) e

-- below a later place there are more
pub mains_more : (lo hi : ℕ) (h : List Entry) → is_main_at lo h ≡ true → lo < hi → hi ≤ length h → mains_below lo h + 1 ≤ mains_below hi h
mains_more lo hi [] is before below = absurd (false≢true is)
mains_more lo hi (x ∷ past) is before below =
    ⊎_elim
    (λ inside. within (omega (arith, inside)) (λ there low. mains_more lo hi past there before low))
    (λ whole.
    let here : hi ≡ length (x ∷ past) = omega (arith, whole, below) in
    let all : mains_below hi (x ∷ past) ≡ count_by is_main (x ∷ past) = ap (λ m. mains_below m (x ∷ past)) here ∙ mains_all (x ∷ past) in
    let more = count_more is_main x past in
    let rest = mains_all past in
    ⊎_elim
    (λ same.
    let stays = mains_stay lo x past (omega (arith, same)) in
    let below_it : mains_below lo past ≡ count_by is_main past = ap (λ m. mains_below m past) same ∙ rest in
    let mine : is_main x ≡ true = sym (cond-true (lo == length past) (is_main x) (is_main_at lo past) (eq-eqb lo (length past) same)) ∙ is in
    let one = one_if (is_main x) mine in
    omega (arith, all, more, stays, below_it, one))
    (λ other.
    let there : is_main_at lo past ≡ true = sym (cond-false (lo == length past) (is_main x) (is_main_at lo past) (ne_eqb lo (length past) other)) ∙ is in
    let low = main_below lo past there in
    let stays = mains_stay lo x past (omega (arith, low)) in
    let less = mains_more lo (length past) past there low (omega arith) in
    omega (arith, all, more, stays, rest, less))
    (cases_eq lo (length past)))
    (cases_lt hi (length (x ∷ past)))
  where
    within : hi ≤ length past → (is_main_at lo past ≡ true → hi ≤ length past → mains_below lo past + 1 ≤ mains_below hi past) → mains_below lo (x ∷ past) + 1 ≤ mains_below hi (x ∷ past)
    within inside less =
        let not_here : (lo == length past) ≡ false = ne_eqb lo (length past) (λ e. omega (arith, e, before, inside)) in
        let there : is_main_at lo past ≡ true = sym (cond-false (lo == length past) (is_main x) (is_main_at lo past) not_here) ∙ is in
        let a = mains_stay lo x past (omega (arith, before, inside)) in
        let b = mains_stay hi x past inside in
        let rest = less there inside in
        omega (arith, a, b, rest)

-- ---- lists of steps

-- behind one more step
pub count_next : {X : Type 0} (p : X → Bool) (n : ℕ) (xs : List X) (x : X) → slice_get xs n ≡ Some x → count_by p (take (suc n) xs) ≡ count_by p (take n xs) + cond {A = ℕ} (p x) 1 0
count_next p n [] x got = absurd cc
count_next p zero (y ∷ ys) x got =
    let same : y ≡ x = let e : Some y ≡ Some x = got in cc in
    let a = count_more p y [] in
    let b = ap (λ z. cond {A = ℕ} (p z) 1 0) same in
    omega (arith, a, b)
count_next p (suc n) (y ∷ ys) x got =
    let a = count_more p y (take (suc n) ys) in
    let b = count_more p y (take n ys) in
    let rest = count_next p n ys x got in
    omega (arith, a, b, rest)

-- behind a step that counts there are more
pub count_later : {X : Type 0} (p : X → Bool) (i j : ℕ) (xs : List X) (x : X) → i < j → slice_get xs i ≡ Some x → p x ≡ true → count_by p (take i xs) + 1 ≤ count_by p (take j xs)
count_later p i j [] x before got is = absurd cc
count_later p i zero (y ∷ ys) x before got is = absurd (omega (arith, before))
count_later p zero (suc j) (y ∷ ys) x before got is =
    let same : y ≡ x = let e : Some y ≡ Some x = got in cc in
    let more = count_more p y (take j ys) in
    let one = one_if (p y) (ap p same ∙ is) in
    omega (arith, more, one)
count_later p (suc i) (suc j) (y ∷ ys) x before got is =
    let a = count_more p y (take i ys) in
    let b = count_more p y (take j ys) in
    let rest = count_later p i j ys x (omega (arith, before)) got is in
    omega (arith, a, b, rest)
