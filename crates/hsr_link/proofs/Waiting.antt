-- What waits in a direction: after one row more, and after the first row that waits was turned.
use Rattle.std.proofs.Common.{◌≡◌, ℕ, zero, suc, ◌+◌, ◌<◌, ◌≤◌, true, false, cond, ◌&&◌, List, [], ◌∷◌, ◌++◌, length, drop, refl, ap, ◌∙◌, Bool, Option, Some, None, option_map, arith, slice_set, slice_index_or}
use Rattle.std.specs.Prelude.{is_some, slice_get}
use Rattle.std.specs.List.{count_by}
use Rattle.std.proofs.lemmas.Grind.{common_steps}
use Rattle.circular_buffer.specs.Buffer.{Buffer, buffer}
use Rattle.hsr_link.specs.Queue.{waiting}
use Rattle.hsr_link.specs.Rows.{first_copy, goes, is_queued, is_same_dir, turned, waits, with_fate}
use Rattle.hsr_link.specs.declared.queue.Waiting.{Waiting}
use Rattle.hsr_link.specs.declared.row.Dir.{Dir}
use Rattle.hsr_link.specs.declared.row.Dir.TheVariants.{Forth, Back}
use Rattle.hsr_link.specs.declared.row.Fate.{Fate}
use Rattle.hsr_link.specs.declared.row.Row.{Row}

waiting_append : (dir : Dir) (first : ℕ) (rows : List Row) (row : Row) → waiting dir first (rows ++ row ∷ []) ≡ waiting dir first rows ++ waiting dir (first + length rows) (row ∷ [])
waiting_append dir first [] row = grind (arith, common_steps)
waiting_append dir first (x ∷ rows) row =
    let rest = waiting_append dir (first + 1) rows row in
    grind (arith, common_steps)

-- one row more, which may wait
pub waiting_push : (dir : Dir) (rows : List Row) (row : Row) (index : ℕ) → index ≡ length rows → waiting dir 0 (rows ++ row ∷ []) ≡ waiting dir 0 rows ++ waiting dir index (row ∷ [])
waiting_push dir rows row index at =
    let start : 0 + length rows ≡ index = omega arith in
    rw start at (waiting_append dir 0 rows row)

-- as many wait as are Queued
pub length_waiting : (dir : Dir) (first : ℕ) (rows : List Row) → length (waiting dir first rows) ≡ count_by (waits dir) rows
length_waiting dir first [] = refl
length_waiting dir first (x ∷ rows) =
    let rest = length_waiting dir (first + 1) rows in
    grind (arith, common_steps)

-- ---- what waits first

-- its index is that of a row
pub index_of_first : (dir : Dir) (first : ℕ) (rows : List Row) (w : Waiting) → slice_get (waiting dir first rows) 0 ≡ Some w → (first ≤ w.index) × (w.index < first + length rows)
index_of_first dir first [] w spot = absurd (cc)
index_of_first dir first (x ∷ rows) w spot =
    (elim (waits dir x) as (λ b. slice_get (cond b (record { index = first; carried = x.carried } ∷ waiting dir (first + 1) rows) (waiting dir (first + 1) rows)) 0 ≡ Some w → (first ≤ w.index) × (w.index < first + length (x ∷ rows))) [
      | true ↦ λ e. here e
      | false ↦ λ e. (let later = index_of_first dir (first + 1) rows w e in (omega arith, omega arith))
    ]) spot
  where
    here : Some (record { index = first; carried = x.carried }) ≡ Some w → (first ≤ w.index) × (w.index < first + length (x ∷ rows))
    here e =
        let same : record { index = first; carried = x.carried } ≡ w = cc in
        let index : first ≡ w.index = ap (λ (w : Waiting). w.index) same in
        (omega arith, omega arith)

-- its copy is that of the row
pub copy_of_first : (dir : Dir) (first : ℕ) (rows : List Row) → option_map (λ (w : Waiting). w.carried) (slice_get (waiting dir first rows) 0) ≡ first_copy dir rows
copy_of_first dir first [] = refl
copy_of_first dir first (x ∷ rows) =
    let rest = copy_of_first dir (first + 1) rows in
    grind (arith, common_steps)

-- one is there where a row waits
pub first_waits : (dir : Dir) (first : ℕ) (rows : List Row) → is_some (slice_get (waiting dir first rows) 0) ≡ is_some (first_copy dir rows)
first_waits dir first [] = refl
first_waits dir first (x ∷ rows) =
    let rest = first_waits dir (first + 1) rows in
    grind (arith, common_steps)

pub waits_at_front : (dir : Dir) (rows : List Row) (queue : Buffer Waiting) (capacity : ℕ) (front : Bool) → front ≡ is_some (slice_get queue.items 0) → queue ≡ buffer (waiting dir 0 rows) capacity → front ≡ is_some (first_copy dir rows)
waits_at_front dir rows queue capacity front is holds =
    is ∙ ap (λ (queue : Buffer Waiting). is_some (slice_get queue.items 0)) holds ∙ first_waits dir 0 rows

-- in what waits, as a queue that is at hand
pub copy_at_front : (dir : Dir) (rows : List Row) (queue : List Waiting) (spot : Option Waiting) → queue ≡ waiting dir 0 rows → spot ≡ slice_get queue 0 → option_map (λ (w : Waiting). w.carried) spot ≡ first_copy dir rows
copy_at_front dir rows queue spot holds at = rw (at, holds) (copy_of_first dir 0 rows)

-- the row at its index is the one that is turned
pub turned_set : (dir : Dir) (fate : Fate) (first k : ℕ) (rows : List Row) (w : Waiting) (d : Row) → slice_get (waiting dir first rows) 0 ≡ Some w → w.index ≡ first + k → slice_set rows k (with_fate fate (slice_index_or rows k d)) ≡ turned fate dir rows
turned_set dir fate first k [] w d spot index = absurd (cc)
turned_set dir fate first k (x ∷ rows) w d spot index =
    (elim (waits dir x) as (λ b. slice_get (cond b (record { index = first; carried = x.carried } ∷ waiting dir (first + 1) rows) (waiting dir (first + 1) rows)) 0 ≡ Some w → slice_set (x ∷ rows) k (with_fate fate (slice_index_or (x ∷ rows) k d)) ≡ cond b (with_fate fate x ∷ rows) (x ∷ turned fate dir rows)) [
      | true ↦ λ e. here k index e
      | false ↦ λ e. later k index e (λ k at. turned_set dir fate (first + 1) k rows w d e at)
    ]) spot
  where
    here : (k : ℕ) → w.index ≡ first + k → Some (record { index = first; carried = x.carried }) ≡ Some w → slice_set (x ∷ rows) k (with_fate fate (slice_index_or (x ∷ rows) k d)) ≡ with_fate fate x ∷ rows
    here zero index e = refl
    here (suc k) index e =
        let same : record { index = first; carried = x.carried } ≡ w = cc in
        let at : first ≡ w.index = ap (λ (w : Waiting). w.index) same in
        absurd (omega arith)

    later : (k : ℕ) → w.index ≡ first + k → slice_get (waiting dir (first + 1) rows) 0 ≡ Some w → ((k : ℕ) → w.index ≡ (first + 1) + k → slice_set rows k (with_fate fate (slice_index_or rows k d)) ≡ turned fate dir rows) → slice_set (x ∷ rows) k (with_fate fate (slice_index_or (x ∷ rows) k d)) ≡ x ∷ turned fate dir rows
    later zero index e rest = let range = index_of_first dir (first + 1) rows w e in absurd (omega arith)
    later (suc k) index e rest = ap (λ rows. x ∷ rows) (rest k (omega arith))

-- the others go on waiting
pub waiting_turned : (dir : Dir) (fate : Fate) (first : ℕ) (rows : List Row) → is_queued fate ≡ false → waiting dir first (turned fate dir rows) ≡ drop 1 (waiting dir first rows)
waiting_turned dir fate first [] ends = refl
waiting_turned dir fate first (x ∷ rows) ends =
    let rest = waiting_turned dir fate (first + 1) rows ends in
    grind (arith, common_steps)

-- where none waits, none is turned
pub turned_none : (dir : Dir) (fate : Fate) (first : ℕ) (rows : List Row) → slice_get (waiting dir first rows) 0 ≡ None → turned fate dir rows ≡ rows
turned_none dir fate first [] spot = refl
turned_none dir fate first (x ∷ rows) spot =
    (elim (waits dir x) as (λ b. slice_get (cond b (record { index = first; carried = x.carried } ∷ waiting dir (first + 1) rows) (waiting dir (first + 1) rows)) 0 ≡ None → cond b (with_fate fate x ∷ rows) (x ∷ turned fate dir rows) ≡ x ∷ rows) [
      | true ↦ λ e. absurd (cc)
      | false ↦ λ e. ap (λ rows. x ∷ rows) (turned_none dir fate (first + 1) rows e)
    ]) spot

-- ---- the other direction

-- a row that waits in one direction doesn't go in the other
pub waits_other : (dir other : Dir) (row : Row) → is_same_dir dir other ≡ false → waits dir row ≡ true → goes other row ≡ false
waits_other Forth Forth row apart h = absurd (cc)
waits_other Forth Back row apart h = forth row.dir row.fate h
  where
    forth : (d : Dir) (fate : Fate) → (is_same_dir Forth d && is_queued fate) ≡ true → is_same_dir Back d ≡ false
    forth Forth fate h = refl
    forth Back fate h = absurd (cc)
waits_other Back Forth row apart h = back row.dir row.fate h
  where
    back : (d : Dir) (fate : Fate) → (is_same_dir Back d && is_queued fate) ≡ true → is_same_dir Forth d ≡ false
    back Forth fate h = absurd (cc)
    back Back fate h = refl
waits_other Back Back row apart h = absurd (cc)

-- what waits there goes on waiting
pub waiting_turned_other : (dir other : Dir) (fate : Fate) (first : ℕ) (rows : List Row) → is_same_dir dir other ≡ false → waiting other first (turned fate dir rows) ≡ waiting other first rows
waiting_turned_other dir other fate first [] apart = refl
waiting_turned_other dir other fate first (x ∷ rows) apart =
    let rest = waiting_turned_other dir other fate (first + 1) rows apart in
    grind (arith, common_steps, waits_other dir other x apart)

-- a row that goes the one way doesn't wait there
pub waiting_push_other : (dir other : Dir) (rows : List Row) (row : Row) → row.dir ≡ dir → is_same_dir other dir ≡ false → waiting other 0 (rows ++ row ∷ []) ≡ waiting other 0 rows
waiting_push_other dir other rows row way apart =
    let push = waiting_append other 0 rows row in
    grind (arith, common_steps)
