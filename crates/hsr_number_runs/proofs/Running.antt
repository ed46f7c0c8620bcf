-- Numbers that are put into runs, one after the other.
use Rattle.std.proofs.Common.{◌≡◌, ℕ, ◌+◌, ◌*◌, ◌-◌, ◌<◌, ◌≤◌, ◌^◌, Bool, true, false, cond, max, true≢false, List, [], ◌∷◌, ◌++◌, length, reverse, take, get_or, set, refl, sym, ap, subst, ◌∙◌, arith, Option, Some, None}
use Rattle.std.specs.Prelude.{◌/◌, ◌==◌, ◌&&◌, ◌||◌, ◌%◌, nat_eq, nat_lt, nat_le, IfSome, unwrap_or, option_to_list}
use Rattle.std.specs.HashMap.{get}
use Rattle.std.proofs.lemmas.Bool.{eq-eqb, eqb-true, ltb-true}
use Rattle.std.proofs.lemmas.Bool.Decides.{nat_tests}
use Rattle.std.proofs.lemmas.Grind.{get_or-set_at}
use Rattle.std.proofs.lemmas.List.{get_or-set_other, take_more, reverse-append}
use Rattle.hsr_number_runs.specs.declared.run.Counting.{Counting}
use Rattle.hsr_number_runs.specs.declared.run.InRun.{InRun}
use Rattle.hsr_number_runs.specs.declared.run.Numbered.{Numbered}
use Rattle.hsr_number_runs.specs.declared.run.Restart.{Restart}
use Rattle.hsr_number_runs.specs.Counting.{AreMarked, AreMarkedBy, IsPlaced, Knows, is_marked, same_block}
use Rattle.hsr_number_runs.specs.Runs.{begun, extended_by, gone_on, greater, in_run, in_runs, is_there, put_in, restart_by, restart_of, restarts, restarts_by, restarts_in, run_count, top_of}

-- ---- lists

pub past_more : {X : Type 0} (xs : List X) (i : ℕ) (d : X) → i < length xs → reverse (take (i + 1) xs) ≡ get_or xs i d ∷ reverse (take i xs)
past_more xs i d lt = ap reverse (take_more xs i d lt) ∙ reverse-append (take i xs) (get_or xs i d ∷ [])

-- ---- what is kept

one_more_top : (p top : InRun) (own : Option InRun) (g : ℕ) (before : List InRun) (kept new : Option InRun) → new ≡ cond (nat_eq p.group g) (Some top) kept
    → top ≡ greater p own → own ≡ top_of p.group before → kept ≡ top_of g before → new ≡ top_of g (p ∷ before)
one_more_top p top own g before kept new is top_is own_is kept_is = is ∙ by_case (nat_eq p.group g) refl
  where
    by_case : (b : Bool) → nat_eq p.group g ≡ b → cond b (Some top) kept ≡ cond b (Some (greater p (top_of g before))) (top_of g before)
    by_case true same = ap Some (top_is ∙ ap (greater p) (own_is ∙ ap (λ k. top_of k before) (eqb-true p.group g same)))
    by_case false other = kept_is

-- the marks of a block, with one more
one_more_mark : (marks : List Bool) (j k : ℕ) → j < length marks → get_or (set marks j true) k false ≡ (nat_eq j k || get_or marks k false)
one_more_mark marks j k below = by_case (nat_eq j k) refl
  where
    by_case : (b : Bool) → nat_eq j k ≡ b → get_or (set marks j true) k false ≡ (b || get_or marks k false)
    by_case true same = get_or-set_at marks j k true false (sym (eqb-true j k same)) below
    by_case false other = get_or-set_other marks j k true false (λ is. absurd (true≢false (sym (eq-eqb j k (sym is)) ∙ other)))

-- a number of a block is the one that is put, or another one
same_mark : (run r put extended e : ℕ) → run ≡ r → put ≡ extended → extended / 8 ≡ e / 8 → nat_eq (extended % 8) (e % 8) ≡ ((run == r) && (put == e))
same_mark run r put extended e run_is put_is block = grind (arith, nat_tests)

other_mark : (own run r put extended e : ℕ) → own ≡ run → put ≡ extended → (nat_eq run r && nat_eq (extended / 8) (e / 8)) ≡ false → ((own == r) && (put == e)) ≡ false
other_mark own run r put extended e own_is put_is other = grind (arith, nat_tests)

both_true : (a b : Bool) → (a && b) ≡ true → (a ≡ true) × (b ≡ true)
both_true true b is = (refl, is)
both_true false b is = absurd cc

pub put_marked : (old new : ℕ × ℕ → Option (List Bool)) (p : InRun) (run extended : ℕ) (marks : List Bool) (before : List InRun) → extended % 8 < length marks
    → ((k : ℕ) → get_or marks k false ≡ is_marked (old (run, extended / 8)) k)
    → ((key : ℕ × ℕ) → new key ≡ cond (same_block (run, extended / 8) key) (Some (set marks (extended % 8) true)) (old key))
    → AreMarkedBy old before → p.run ≡ run → p.extended ≡ extended → AreMarkedBy new (p ∷ before)
put_marked old new p run extended marks before below are update known run_is extended_is r e = by_block (same_block (run, extended / 8) (r, e / 8)) refl
  where
    by_block : (b : Bool) → same_block (run, extended / 8) (r, e / 8) ≡ b
        → is_marked (new (r, e / 8)) (e % 8) ≡ (((p.run == r) && (p.extended == e)) || is_there r e before)
    by_block true same =
        let both = both_true (nat_eq run r) (nat_eq (extended / 8) (e / 8)) same in
        let runs : run ≡ r = eqb-true run r both.0 in
        let blocks : extended / 8 ≡ e / 8 = eqb-true (extended / 8) (e / 8) both.1 in
        let here = update (r, e / 8) ∙ ap (λ x. cond x (Some (set marks (extended % 8) true)) (old (r, e / 8))) same in
        let others = are (e % 8) ∙ ap (λ x. is_marked (old (x, extended / 8)) (e % 8)) runs ∙ ap (λ x. is_marked (old (r, x)) (e % 8)) blocks ∙ known r e in
        ap (λ o. is_marked o (e % 8)) here ∙ one_more_mark marks (extended % 8) (e % 8) below ∙ ap (λ x. nat_eq (extended % 8) (e % 8) || x) others
        ∙ ap (λ x. x || is_there r e before) (same_mark p.run r p.extended extended e (run_is ∙ runs) extended_is blocks)
    by_block false other =
        let here = update (r, e / 8) ∙ ap (λ x. cond x (Some (set marks (extended % 8) true)) (old (r, e / 8))) other in
        ap (λ o. is_marked o (e % 8)) here ∙ known r e ∙ ap (λ x. x || is_there r e before) (sym (other_mark p.run run r p.extended extended e run_is extended_is other))

pub put_knows : (old new : Counting) (p top : InRun) (own : Option InRun) (before : List InRun) → top ≡ greater p own → own ≡ get nat_eq old.tops p.group
    → ((g : ℕ) → get nat_eq new.tops g ≡ cond (nat_eq p.group g) (Some top) (get nat_eq old.tops g))
    → (AreMarked old before → AreMarked new (p ∷ before))
    → new.runs ≡ max old.runs (p.run + 1) → Knows old before → Knows new (p ∷ before)
put_knows old new p top own before top_is own_is tops there runs known = record {
  tops = λ g. one_more_top p top own g before (get nat_eq old.tops g) (get nat_eq new.tops g) (tops g) top_is (own_is ∙ known.tops p.group) (known.tops g);
  there = there known.there;
  runs = runs ∙ ap (λ n. max n (p.run + 1)) known.runs;
}

-- ---- a number in its run

-- whether a number goes on with a run
pub goes_on : (before : List InRun) (n : Numbered) (t : InRun) (extended : ℕ) (was_there : Bool) (next : Option InRun) → extended ≡ extended_by t.extended n.number
    → was_there ≡ is_there t.run extended before → next ≡ cond (restarts_by t extended n.at was_there) None (Some (put_in t.run extended n)) → next ≡ gone_on before n (Some t)
goes_on before n t extended was_there next extended_is there_is next_is =
    next_is ∙ ap (λ w. cond (restarts_by t extended n.at w) None (Some (put_in t.run extended n))) there_is
    ∙ ap (λ e. cond (restarts_by t e n.at (is_there t.run e before)) None (Some (put_in t.run e n))) extended_is

pub is_placed : (before : List InRun) (n : Numbered) (runs : ℕ) (top gone : Option InRun) (first p : InRun) (restart : Option Restart) → top ≡ top_of n.group before
    → gone ≡ gone_on before n top → runs ≡ run_count before → first ≡ begun runs n → p ≡ unwrap_or gone first → restart ≡ restart_by n top gone → n.number < 2 ^ 16
    → IsPlaced before n (record { in_run = p; restart = restart })
is_placed before n runs top gone first p restart top_is gone_is runs_is first_is p_is restart_is small =
    let own = top_of n.group before in
    let gone_on_is : gone ≡ gone_on before n own = gone_is ∙ ap (gone_on before n) top_is in
    record {
      is = p_is ∙ ap (λ g. unwrap_or g first) gone_on_is ∙ ap (unwrap_or (gone_on before n own)) (first_is ∙ ap (λ r. begun r n) runs_is);
      restart = restart_is ∙ ap (λ t. restart_by n t gone) top_is ∙ ap (restart_by n own) gone_on_is;
      number = small;
    }

-- ---- how great numbers get

-- the greatest of a run is of a run that was begun
top_counts : (g : ℕ) (before : List InRun) → IfSome (top_of g before) (λ t. t.run + 1 ≤ run_count before)
top_counts g [] = tt
top_counts g (p ∷ before) = by_case (nat_eq p.group g) (top_counts g before)
  where
    later : (t : Option InRun) → IfSome t (λ t. t.run + 1 ≤ run_count before) → IfSome t (λ t. t.run + 1 ≤ max (run_count before) (p.run + 1))
    later None h = tt
    later (Some t) h = omega (arith, h)

    chosen : (t : InRun) (b : Bool) → t.run + 1 ≤ run_count before → (cond b t p).run + 1 ≤ max (run_count before) (p.run + 1)
    chosen t true h = omega (arith, h)
    chosen t false h = omega arith

    own : (t : Option InRun) → IfSome t (λ t. t.run + 1 ≤ run_count before) → (greater p t).run + 1 ≤ max (run_count before) (p.run + 1)
    own None h = omega arith
    own (Some t) h = chosen t ((p.run == t.run) && nat_le p.extended t.extended) h

    by_case : (b : Bool) → IfSome (top_of g before) (λ t. t.run + 1 ≤ run_count before)
        → IfSome (cond b (Some (greater p (top_of g before))) (top_of g before)) (λ t. t.run + 1 ≤ max (run_count before) (p.run + 1))
    by_case true h = own (top_of g before) h
    by_case false h = later (top_of g before) h

-- a number is of a run that was begun, or of the next one
pub in_run_counts : (before : List InRun) (n : Numbered) → (in_run before n).run ≤ run_count before
in_run_counts before n = by_top (top_of n.group before) (top_counts n.group before)
  where
    by_case : (t : InRun) (b : Bool) → t.run + 1 ≤ run_count before
        → (unwrap_or (cond b None (Some (put_in t.run (extended_by t.extended n.number) n))) (begun (run_count before) n)).run ≤ run_count before
    by_case t true h = omega arith
    by_case t false h = omega (arith, h)

    by_top : (t : Option InRun) → IfSome t (λ t. t.run + 1 ≤ run_count before) → (unwrap_or (gone_on before n t) (begun (run_count before) n)).run ≤ run_count before
    by_top None h = omega arith
    by_top (Some t) h = by_case t (restarts before t (extended_by t.extended n.number) n.at) h

pub run_small : (before : List InRun) (n : Numbered) (p : InRun) (k : ℕ) → p ≡ in_run before n → run_count before ≤ k → p.run ≤ k
run_small before n p k is few = let same : p.run ≡ (in_run before n).run = ap (λ (q : InRun). q.run) is in let h = in_run_counts before n in omega (arith, same, h, few)

-- the most that a number is after so many
abbrev pub most_after : ℕ → ℕ
most_after k = 131072 + 32768 * k

near : (top ahead : ℕ) (b : Bool) → nat_lt ahead 32768 ≡ b → cond b (top + ahead) (top - (65536 - ahead)) ≤ top + 32768
near top ahead true is = let h = ltb-true ahead 32768 is in omega (arith, h)
near top ahead false is = omega arith

in_run_small : (before : List InRun) (n : Numbered) (k : ℕ) → n.number < 2 ^ 16 → IfSome (top_of n.group before) (λ t. t.extended ≤ most_after k)
    → (in_run before n).extended ≤ most_after (k + 1)
in_run_small before n k small own = by_top (top_of n.group before) own
  where
    by_case : (t : InRun) (b : Bool) → t.extended ≤ most_after k
        → (unwrap_or (cond b None (Some (put_in t.run (extended_by t.extended n.number) n))) (begun (run_count before) n)).extended ≤ most_after (k + 1)
    by_case t true h = omega (arith, small)
    by_case t false h =
        let ahead = (n.number + 65536 - t.extended % 65536) % 65536 in
        let step = near t.extended ahead (nat_lt ahead 32768) refl in
        omega (arith, h, step)

    by_top : (t : Option InRun) → IfSome t (λ t. t.extended ≤ most_after k) → (unwrap_or (gone_on before n t) (begun (run_count before) n)).extended ≤ most_after (k + 1)
    by_top None h = omega (arith, small)
    by_top (Some t) h = by_case t (restarts before t (extended_by t.extended n.number) n.at) h

top_small : (p : InRun) (before : List InRun) (k m : ℕ) → k ≤ m → p.extended ≤ m → (g : ℕ) → IfSome (top_of g before) (λ t. t.extended ≤ k)
    → IfSome (top_of g (p ∷ before)) (λ t. t.extended ≤ m)
top_small p before k m le own g h = by_case (nat_eq p.group g) h
  where
    later : (t : Option InRun) → IfSome t (λ t. t.extended ≤ k) → IfSome t (λ t. t.extended ≤ m)
    later None h = tt
    later (Some t) h = omega (arith, h)

    chosen : (t : InRun) (b : Bool) → t.extended ≤ k → (cond b t p).extended ≤ m
    chosen t true h = omega (arith, h)
    chosen t false h = own

    either : (t : Option InRun) → IfSome t (λ t. t.extended ≤ k) → (greater p t).extended ≤ m
    either None h = own
    either (Some t) h = chosen t ((p.run == t.run) && nat_le p.extended t.extended) h

    by_case : (b : Bool) → IfSome (top_of g before) (λ t. t.extended ≤ k) → IfSome (cond b (Some (greater p (top_of g before))) (top_of g before)) (λ t. t.extended ≤ m)
    by_case true h = either (top_of g before) h
    by_case false h = later (top_of g before) h

-- ---- one number more

abbrev pub AreSmall : List InRun → ℕ → Type 0
AreSmall before k = (g : ℕ) → IfSome (top_of g before) (λ t. t.extended ≤ most_after k)

-- numbers of 64 bits have room for all that is added
pub has_room : (before : List InRun) (k : ℕ) → k < 2 ^ 31 → AreSmall before k → (g : ℕ) → IfSome (top_of g before) (λ t. t.extended + 65536 < 2 ^ 64)
has_room before k few small g = each (top_of g before) (small g)
  where
    each : (t : Option InRun) → IfSome t (λ t. t.extended ≤ most_after k) → IfSome t (λ t. t.extended + 65536 < 2 ^ 64)
    each None h = tt
    each (Some t) h = omega (arith, h, few)

pub small_more : (past past' : List Numbered) (n : Numbered) (k : ℕ) → past' ≡ n ∷ past → n.number < 2 ^ 16 → AreSmall (in_runs past) k → AreSmall (in_runs past') (k + 1)
small_more past past' n k is number small = subst (λ l. AreSmall (in_runs l) (k + 1)) (sym is) each
  where
    each : AreSmall (in_run (in_runs past) n ∷ in_runs past) (k + 1)
    each g = top_small (in_run (in_runs past) n) (in_runs past) (most_after k) (most_after (k + 1)) (omega arith) (in_run_small (in_runs past) n k number (small n.group)) g (small g)

pub few_more : (past past' : List Numbered) (n : Numbered) (k : ℕ) → past' ≡ n ∷ past → run_count (in_runs past) ≤ k → run_count (in_runs past') ≤ k + 1
few_more past past' n k is few = subst (λ l. run_count (in_runs l) ≤ k + 1) (sym is) (let h = in_run_counts (in_runs past) n in omega (arith, few, h))

pub knows_more : (new : Counting) (past past' : List Numbered) (n : Numbered) (p : InRun) → past' ≡ n ∷ past → p ≡ in_run (in_runs past) n → Knows new (p ∷ in_runs past) → Knows new (in_runs past')
knows_more new past past' n p is p_is known = subst (λ l. Knows new (in_runs l)) (sym is) (subst (λ q. Knows new (q ∷ in_runs past)) p_is known)

pub in_runs_more : (done new : List InRun) (past past' : List Numbered) (n : Numbered) (p : InRun) → past' ≡ n ∷ past → p ≡ in_run (in_runs past) n → new ≡ done ++ p ∷ []
    → done ≡ reverse (in_runs past) → new ≡ reverse (in_runs past')
in_runs_more done new past past' n p is p_is new_is done_is =
    new_is ∙ ap (λ l. l ++ p ∷ []) done_is ∙ ap (λ q. reverse (in_runs past) ++ q ∷ []) p_is ∙ sym (reverse-append (in_run (in_runs past) n ∷ []) (in_runs past)) ∙ ap (λ l. reverse (in_runs l)) (sym is)

pub restarts_more : (done new : List Restart) (past past' : List Numbered) (n : Numbered) (restart : Option Restart) → past' ≡ n ∷ past → restart ≡ restart_of (in_runs past) n
    → new ≡ done ++ option_to_list restart → done ≡ restarts_in past → new ≡ restarts_in past'
restarts_more done new past past' n restart is restart_is new_is done_is =
    new_is ∙ ap (λ l. l ++ option_to_list restart) done_is ∙ ap (λ r. restarts_in past ++ option_to_list r) restart_is ∙ ap restarts_in (sym is)
