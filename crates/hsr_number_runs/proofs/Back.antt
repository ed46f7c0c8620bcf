-- Numbers are counted back from their runs.
use Rattle.std.proofs.Common.{◌≡◌, ℕ, ◌+◌, ◌-◌, ◌<◌, ◌≤◌, ◌^◌, Bool, true, false, cond, List, [], ◌∷◌, ◌++◌, refl, sym, ap, subst, ◌∙◌, arith, Option, Some, None}
use Rattle.std.specs.Prelude.{◌==◌, ◌&&◌, ◌%◌, nat_eq, nat_lt, nat_le, IfSome, reverse, unwrap_or}
use Rattle.std.proofs.lemmas.Bool.{eqb-true}
use Rattle.std.proofs.lemmas.Bool.Decides.{nat_tests}
use Rattle.std.proofs.lemmas.List.{map-append, reverse-append}
use Rattle.hsr_number_runs.specs.declared.run.InRun.{InRun}
use Rattle.hsr_number_runs.specs.declared.run.Numbered.{Numbered}
use Rattle.hsr_number_runs.specs.Runs.{begun, extended_by, gone_on, greater, in_run, in_runs, number_of, numbers_of, put_in, restarts, run_count, top_of}

-- the greatest of each group is counted on from 65536, so that nothing is cut off below it
abbrev pub AreLarge : List InRun → Type 0
AreLarge before = (g : ℕ) → IfSome (top_of g before) (λ t. 65536 ≤ t.extended)

-- ---- a number counted back

near_back : (top number ahead : ℕ) (b : Bool) → ahead ≡ (number + 65536 - top % 65536) % 65536 → 65536 ≤ top → number < 2 ^ 16
    → cond b (top + ahead) (top - (65536 - ahead)) % 65536 ≡ number
near_back top number ahead true is large small = omega (arith, is, large, small)
near_back top number ahead false is large small = omega (arith, is, large, small)

extended_back : (top number : ℕ) → 65536 ≤ top → number < 2 ^ 16 → extended_by top number % 65536 ≡ number
extended_back top number large small =
    let ahead = (number + 65536 - top % 65536) % 65536 in
    near_back top number ahead (nat_lt ahead 32768) refl large small

put_back : (run extended : ℕ) (n : Numbered) → extended % 65536 ≡ n.number → number_of (put_in run extended n) ≡ n
put_back run extended n is = ap (λ k. record { at = n.at; group = n.group; sender = n.sender; copy = n.copy; number = k }) is

-- the number that is put into a run stands there
number_back : (before : List InRun) (n : Numbered) → AreLarge before → n.number < 2 ^ 16 → number_of (in_run before n) ≡ n
number_back before n large small = by_top (top_of n.group before) (large n.group)
  where
    first : number_of (begun (run_count before) n) ≡ n
    first = put_back (run_count before) (65536 + n.number) n (omega (arith, small))

    by_case : (t : InRun) (b : Bool) → 65536 ≤ t.extended
        → number_of (unwrap_or (cond b None (Some (put_in t.run (extended_by t.extended n.number) n))) (begun (run_count before) n)) ≡ n
    by_case t true h = first
    by_case t false h = put_back t.run (extended_by t.extended n.number) n (extended_back t.extended n.number h small)

    by_top : (t : Option InRun) → IfSome t (λ t. 65536 ≤ t.extended) → number_of (unwrap_or (gone_on before n t) (begun (run_count before) n)) ≡ n
    by_top None h = first
    by_top (Some t) h = by_case t (restarts before t (extended_by t.extended n.number) n.at) h

-- ---- one number more

pub numbers_more : (done new : List InRun) (numbers past : List Numbered) (n : Numbered) (p : InRun) → new ≡ done ++ p ∷ [] → numbers ≡ numbers_of done
    → p ≡ in_run (in_runs past) n → AreLarge (in_runs past) → n.number < 2 ^ 16 → numbers_of new ≡ numbers ++ n ∷ []
numbers_more done new numbers past n p new_is numbers_are p_is large small =
    ap numbers_of new_is ∙ map-append number_of done (p ∷ []) ∙ ap (λ l. l ++ number_of p ∷ []) (sym numbers_are)
    ∙ ap (λ m. numbers ++ m ∷ []) (ap number_of p_is ∙ number_back (in_runs past) n large small)

pub past_more : (numbers new : List Numbered) (n : Numbered) → new ≡ numbers ++ n ∷ [] → reverse new ≡ n ∷ reverse numbers
past_more numbers new n is = ap reverse is ∙ reverse-append numbers (n ∷ [])

-- a number is at least as great as the greatest so far, or that stays
large_own : (before : List InRun) (n : Numbered) (t : Option InRun) → IfSome t (λ t. 65536 ≤ t.extended)
    → 65536 ≤ (greater (unwrap_or (gone_on before n t) (begun (run_count before) n)) t).extended
large_own before n None h = omega arith
large_own before n (Some t) h = by_case (restarts before t (extended_by t.extended n.number) n.at)
  where
    first : (b : Bool) → 65536 ≤ (cond b t (begun (run_count before) n)).extended
    first true = h
    first false = omega arith

    later : (e : ℕ) (b : Bool) → (nat_eq t.run t.run && nat_le e t.extended) ≡ b → 65536 ≤ (cond b t (put_in t.run e n)).extended
    later e true is = h
    later e false is = let over : t.extended < e = grind (arith, nat_tests) in omega (arith, h, over)

    by_case : (b : Bool) → 65536 ≤ (greater (unwrap_or (cond b None (Some (put_in t.run (extended_by t.extended n.number) n))) (begun (run_count before) n)) (Some t)).extended
    by_case true = first ((run_count before == t.run) && nat_le (65536 + n.number) t.extended)
    by_case false = later (extended_by t.extended n.number) (nat_eq t.run t.run && nat_le (extended_by t.extended n.number) t.extended) refl

same_group : (before : List InRun) (n : Numbered) → (in_run before n).group ≡ n.group
same_group before n = by_top (top_of n.group before)
  where
    by_case : (t : InRun) (b : Bool) → (unwrap_or (cond b None (Some (put_in t.run (extended_by t.extended n.number) n))) (begun (run_count before) n)).group ≡ n.group
    by_case t true = refl
    by_case t false = refl

    by_top : (t : Option InRun) → (unwrap_or (gone_on before n t) (begun (run_count before) n)).group ≡ n.group
    by_top None = refl
    by_top (Some t) = by_case t (restarts before t (extended_by t.extended n.number) n.at)

large_next : (before : List InRun) (n : Numbered) → AreLarge before → AreLarge (in_run before n ∷ before)
large_next before n large g = by_case (nat_eq (in_run before n).group g) refl
  where
    by_case : (b : Bool) → nat_eq (in_run before n).group g ≡ b
        → IfSome (cond b (Some (greater (in_run before n) (top_of g before))) (top_of g before)) (λ t. 65536 ≤ t.extended)
    by_case true same =
        let own : n.group ≡ g = sym (same_group before n) ∙ eqb-true (in_run before n).group g same in
        let P : ℕ → Type 0 = λ k. 65536 ≤ (greater (in_run before n) (top_of k before)).extended in
        subst P own (large_own before n (top_of n.group before) (large n.group))
    by_case false other = large g

pub large_more : (past past' : List Numbered) (n : Numbered) → past' ≡ n ∷ past → AreLarge (in_runs past) → AreLarge (in_runs past')
large_more past past' n is large = subst (λ l. AreLarge (in_runs l)) (sym is) (large_next (in_runs past) n large)
