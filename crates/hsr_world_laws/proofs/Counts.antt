-- How often a copy is among rows, passes and hands.
use Rattle.std.proofs.Common.{◌≡◌, ℕ, zero, suc, set, get_or, ◌+◌, Bool, true, false, cond, List, [], ◌∷◌, ◌++◌, map, count_by, option_map, option_to_list, IsPermutation, Option, Some, None, refl, sym, ap, ◌∙◌, arith}
use Rattle.std.proofs.lemmas.List.Sorted.{sum_by-IsPermutation}
use Rattle.std.specs.Prelude.{◌&&◌, filter_map, if◌then◌else◌, slice_get}
use Rattle.std.specs.List.{cons_option}
use Rattle.std.proofs.lemmas.List.Sums.{sum_by-append}
use Rattle.std.proofs.lemmas.Bool.{false≢true}
use Rattle.hsr_link.specs.Rows.{first_copy, is_queued, is_same_dir, is_taken, lost, put_copies, put_copy, queued, taken_copies, taken_copy, turned, waits, with_fate}
use Rattle.hsr_link.specs.declared.row.Dir.{Dir}
use Rattle.hsr_link.specs.declared.row.Fate.{Fate}
use Rattle.hsr_link.specs.declared.row.Fate.TheVariants.{Queued, Taken, LostDown, LostCut, LostOverrun}
use Rattle.hsr_link.specs.declared.row.Row.{Row}
use Rattle.hsr_node.specs.declared.event.Carried.{Carried}
use Rattle.hsr_finished_run.proofs.Often.{in_order}
use Rattle.hsr_finished_run.specs.Often.{AsOften, is_same_carried}

-- lists in one another's order hold each copy as often, whatever tells copies apart
pub counts_of : (xs ys : List Carried) → IsPermutation xs ys → (p : Carried → Bool) → count_by p xs ≡ count_by p ys
counts_of xs ys moved p = sym (sum_by-IsPermutation (λ c. cond (p c) 1 0) xs ys moved)

-- and the other way round
pub by_counts : (xs ys : List Carried) → ((p : Carried → Bool) → count_by p xs ≡ count_by p ys) → IsPermutation xs ys
unfolding AsOften
by_counts xs ys h = in_order xs ys (λ copy. h (is_same_carried copy))

pub count_append : {X : Type 0} (p : X → Bool) (xs ys : List X) → count_by p (xs ++ ys) ≡ count_by p xs + count_by p ys
count_append p xs ys = sum_by-append (λ x. cond (p x) 1 0) xs ys

pub count_cons : {X : Type 0} (p : X → Bool) (x : X) (xs : List X) → count_by p (x ∷ xs) ≡ count_by p (x ∷ []) + count_by p xs
count_cons p x xs = count_append p (x ∷ []) xs

pub count_option : {X : Type 0} (p : X → Bool) (o : Option X) (xs : List X) → count_by p (cons_option o xs) ≡ count_by p (option_to_list o) + count_by p xs
count_option p None xs = count_append p [] xs
count_option p (Some x) xs = count_cons p x xs

-- one more row, whose copy may be among those that are looked for
copy_more : (p : Carried → Bool) (f : Row → Option Carried) (rows : List Row) (r : Row) → count_by p (filter_map f (rows ++ r ∷ [])) ≡ count_by p (filter_map f rows) + count_by p (option_to_list (f r))
copy_more p f [] r = let a = count_option p (f r) [] in omega (arith, a)
copy_more p f (x ∷ rows) r =
    let a = count_option p (f x) (filter_map f (rows ++ r ∷ [])) in
    let b = count_option p (f x) (filter_map f rows) in
    let c = copy_more p f rows r in
    omega (arith, a, b, c)

pub put_more : (p : Carried → Bool) (dir : Dir) (rows : List Row) (r : Row) → count_by p (put_copies dir (rows ++ r ∷ [])) ≡ count_by p (put_copies dir rows) + count_by p (option_to_list (put_copy dir r))
put_more p dir rows r = copy_more p (put_copy dir) rows r

pub taken_more : (p : Carried → Bool) (dir : Dir) (rows : List Row) (r : Row) → count_by p (taken_copies dir (rows ++ r ∷ [])) ≡ count_by p (taken_copies dir rows) + count_by p (option_to_list (taken_copy dir r))
taken_more p dir rows r = copy_more p (taken_copy dir) rows r

pub put_taken : (dir other : Dir) (rows : List Row) → put_copies dir (turned Taken other rows) ≡ put_copies dir rows
put_taken dir other [] = refl
put_taken dir other (r ∷ rows) =
    elim (waits other r) as (λ b. put_copies dir (if b then record r { fate = Taken } ∷ rows else r ∷ turned Taken other rows) ≡ put_copies dir (r ∷ rows))
    [ true ↦ refl | false ↦ ap (λ (ys : List Carried). cons_option (put_copy dir r) ys) (put_taken dir other rows) ]

-- a cut does not change what was put
put_lost : (dir : Dir) (r : Row) → put_copy dir (lost r) ≡ put_copy dir r
put_lost dir r =
    elim (is_queued r.fate) as (λ b. put_copy dir (if b then with_fate LostCut r else r) ≡ put_copy dir r) [ true ↦ refl | false ↦ refl ]

pub put_cut : (dir : Dir) (rows : List Row) → put_copies dir (map lost rows) ≡ put_copies dir rows
put_cut dir [] = refl
put_cut dir (r ∷ rows) =
    ap (λ (o : Option Carried). cons_option o (put_copies dir (map lost rows))) (put_lost dir r)
    ∙ ap (λ (ys : List Carried). cons_option (put_copy dir r) ys) (put_cut dir rows)

-- what a row of this direction and fate adds to those taken, before and after it is taken
pub now_taken : (p : Carried → Bool) (dir : Dir) (r : Row) → waits dir r ≡ true →
    count_by p (option_to_list (taken_copy dir (record r { fate = Taken }))) ≡ count_by p (option_to_list (taken_copy dir r)) + count_by p (r.carried ∷ [])
now_taken p dir r h = by_parts (is_same_dir dir r.dir) r.fate h
  where
    by_parts : (b : Bool) (f : Fate) → (b && is_queued f) ≡ true →
        count_by p (option_to_list (if b && true then Some r.carried else None)) ≡ count_by p (option_to_list (if b && is_taken f then Some r.carried else None)) + count_by p (r.carried ∷ [])
    by_parts false f h = absurd (false≢true h)
    by_parts true Queued h = omega arith
    by_parts true Taken h = absurd (false≢true h)
    by_parts true LostDown h = absurd (false≢true h)
    by_parts true LostCut h = absurd (false≢true h)
    by_parts true LostOverrun h = absurd (false≢true h)

pub oldest_taken : (p : Carried → Bool) (dir : Dir) (rows : List Row) (c : Carried) → first_copy dir rows ≡ Some c →
    count_by p (taken_copies dir (turned Taken dir rows)) ≡ count_by p (taken_copies dir rows) + count_by p (c ∷ [])
oldest_taken p dir [] c h = absurd (none_some h)
  where
    none_some : {X : Type 0} {x : X} → None ≡ Some x → ⊥
    none_some e = cc
oldest_taken p dir (r ∷ rows) c h = by_case (λ e. oldest_taken p dir rows c e) (waits dir r) refl h
  where
    same : {X : Type 0} (x y : X) → Some x ≡ Some y → x ≡ y
    same x y e = cc

    by_case : (first_copy dir rows ≡ Some c → count_by p (taken_copies dir (turned Taken dir rows)) ≡ count_by p (taken_copies dir rows) + count_by p (c ∷ [])) →
        (b : Bool) → waits dir r ≡ b → option_map (λ (row : Row). row.carried) (slice_get (cond b (r ∷ queued dir rows) (queued dir rows)) 0) ≡ Some c →
        count_by p (taken_copies dir (if b then record r { fate = Taken } ∷ rows else r ∷ turned Taken dir rows)) ≡ count_by p (taken_copies dir (r ∷ rows)) + count_by p (c ∷ [])
    by_case below true e h =
        let a = count_option p (taken_copy dir (record r { fate = Taken })) (taken_copies dir rows) in
        let b = count_option p (taken_copy dir r) (taken_copies dir rows) in
        let t = now_taken p dir r e in
        let s = ap (λ (z : Carried). count_by p (z ∷ [])) (same r.carried c h) in
        omega (arith, a, b, t, s)
    by_case below false e h =
        let a = count_option p (taken_copy dir r) (taken_copies dir (turned Taken dir rows)) in
        let b = count_option p (taken_copy dir r) (taken_copies dir rows) in
        let i = below h in
        omega (arith, a, b, i)

-- a list of views doesn't change where what was set looks the same
pub map_set_same : {X Y : Type 0} (f : X → Y) (xs : List X) (i : ℕ) (y d : X) → f y ≡ f (get_or xs i d) → map f (set xs i y) ≡ map f xs
map_set_same f [] i y d h = refl
map_set_same f (x ∷ xs) zero y d h = ap (λ z. z ∷ map f xs) h
map_set_same f (x ∷ xs) (suc i) y d h = ap (λ zs. f x ∷ zs) (map_set_same f xs i y d h)
