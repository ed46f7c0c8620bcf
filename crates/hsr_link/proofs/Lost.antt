-- What is lost when a link is cut, and what is put.
use Rattle.std.proofs.Common.{◌≡◌, ℕ, ◌+◌, ◌<◌, Bool, true, false, cond, List, [], ◌∷◌, length, map, drop, refl, sym, ap, ◌∙◌, Some, None, option_map, arith}
use Rattle.std.specs.Prelude.{slice_get}
use Rattle.std.specs.List.{count_by}
use Rattle.std.proofs.lemmas.Grind.{common_steps}
use Rattle.hsr_node.specs.declared.event.Carried.{Carried}
use Rattle.hsr_link.specs.Queue.{waiting}
use Rattle.hsr_link.specs.Rows.{first_copy, is_queued, lost, lost_of, turned, waits, with_fate}
use Rattle.hsr_link.specs.declared.queue.Waiting.{Waiting}
use Rattle.hsr_link.specs.declared.row.Dir.{Dir}
use Rattle.hsr_link.specs.declared.row.Dir.TheVariants.{Forth, Back}
use Rattle.hsr_link.specs.declared.row.Fate.{Fate}
use Rattle.hsr_link.specs.declared.row.Fate.TheVariants.{LostCut}
use Rattle.hsr_link.specs.declared.row.Row.{Row}
use Rattle.hsr_link.proofs.Waiting.{copy_of_first, length_waiting, turned_none, waiting_turned, waits_other}

-- ---- one by one

-- what is turned to LostCut is lost
pub lost_turned : (dir : Dir) (rows : List Row) → map (lost_of dir) (turned LostCut dir rows) ≡ map (lost_of dir) rows
lost_turned dir [] = refl
lost_turned dir (x ∷ rows) =
    let rest = lost_turned dir rows in
    grind (arith, common_steps)

-- where no copy is first, none waits
pub none_waits : (dir : Dir) (rows : List Row) → first_copy dir rows ≡ None → waiting dir 0 rows ≡ []
none_waits dir rows none = none_of (waiting dir 0 rows) (copy_of_first dir 0 rows ∙ none)
  where
    none_of : (ws : List Waiting) → option_map (λ (w : Waiting). w.carried) (slice_get ws 0) ≡ None → ws ≡ []
    none_of [] h = refl
    none_of (w ∷ ws) h = absurd (cc)

-- where one is first, fewer wait once it is turned
pub fewer_wait : (dir : Dir) (rows : List Row) (copy : Carried) → first_copy dir rows ≡ Some copy → length (waiting dir 0 (turned LostCut dir rows)) < length (waiting dir 0 rows)
fewer_wait dir rows copy some = rw (waiting_turned dir LostCut 0 rows refl) (shorter (waiting dir 0 rows) (copy_of_first dir 0 rows ∙ some))
  where
    shorter : (ws : List Waiting) → option_map (λ (w : Waiting). w.carried) (slice_get ws 0) ≡ Some copy → length (drop 1 ws) < length ws
    shorter [] h = absurd (cc)
    shorter (w ∷ ws) h = omega arith

-- where none waits, none is lost
lost_none : (dir : Dir) (first : ℕ) (rows : List Row) → waiting dir first rows ≡ [] → map (lost_of dir) rows ≡ rows
lost_none dir first [] none = refl
lost_none dir first (x ∷ rows) none =
    (elim (waits dir x) as (λ b. cond b (record { index = first; carried = x.carried } ∷ waiting dir (first + 1) rows) (waiting dir (first + 1) rows) ≡ [] → cond b (with_fate LostCut x) x ∷ map (lost_of dir) rows ≡ x ∷ rows) [
      | true ↦ λ e. absurd (cc)
      | false ↦ λ e. ap (λ rows. x ∷ rows) (lost_none dir (first + 1) rows e)
    ]) none

-- the last turn finds no copy
pub lost_all : (dir : Dir) (rows : List Row) → first_copy dir rows ≡ None → turned LostCut dir rows ≡ map (lost_of dir) rows
lost_all dir rows none =
    let empty = none_waits dir rows none in
    turned_none dir LostCut 0 rows (ap (λ ws. slice_get ws 0) empty) ∙ sym (lost_none dir 0 rows empty)

pub none_left : (dir : Dir) (rows : List Row) → first_copy dir rows ≡ None → waiting dir 0 (turned LostCut dir rows) ≡ []
none_left dir rows none = rw (waiting_turned dir LostCut 0 rows refl, none_waits dir rows none)

-- ---- both directions

-- what is lost in both directions is all that is Queued
pub lost_both : (rows : List Row) → map (lost_of Back) (map (lost_of Forth) rows) ≡ map lost rows
lost_both [] = refl
lost_both (x ∷ rows) =
    let here = one_lost x.dir x.carried x.injected x.fate in
    let rest = lost_both rows in
    cc
  where
    one_lost : (d : Dir) (carried : Carried) (injected : Bool) (fate : Fate) → lost_of Back (lost_of Forth (record { dir = d; carried = carried; injected = injected; fate = fate })) ≡ lost (record { dir = d; carried = carried; injected = injected; fate = fate })
    one_lost Forth carried injected fate =
        let row : Row = record { dir = Forth; carried = carried; injected = injected; fate = fate } in
        elim (is_queued fate) as (λ b. lost_of Back (cond b (with_fate LostCut row) row) ≡ cond b (with_fate LostCut row) row) [
          | true ↦ refl
          | false ↦ refl
        ]
    one_lost Back carried injected fate = refl

-- what waits back goes on waiting while what waits forth is lost
pub waiting_lost_forth : (first : ℕ) (rows : List Row) → waiting Back first (map (lost_of Forth) rows) ≡ waiting Back first rows
waiting_lost_forth first [] = refl
waiting_lost_forth first (x ∷ rows) =
    let rest = waiting_lost_forth (first + 1) rows in
    grind (arith, common_steps, waits_other Forth Back x refl)

-- none waits after a cut
pub waiting_lost : (dir : Dir) (first : ℕ) (rows : List Row) → waiting dir first (map lost rows) ≡ []
waiting_lost dir first [] = refl
waiting_lost dir first (x ∷ rows) =
    let rest = waiting_lost dir (first + 1) rows in
    grind (arith, common_steps)

-- what waits in both directions is what is Queued
pub count_both : (rows : List Row) → count_by (λ (row : Row). is_queued row.fate) rows ≡ length (waiting Forth 0 rows) + length (waiting Back 0 rows)
count_both rows = rw (length_waiting Forth 0 rows, length_waiting Back 0 rows) (counts rows)
  where
    one_dir : (d : Dir) (carried : Carried) (injected : Bool) (fate : Fate) → cond (is_queued fate) 1 0 ≡ cond (waits Forth (record { dir = d; carried = carried; injected = injected; fate = fate })) 1 0 + cond (waits Back (record { dir = d; carried = carried; injected = injected; fate = fate })) 1 0
    one_dir Forth carried injected fate = omega arith
    one_dir Back carried injected fate = omega arith

    counts : (rows : List Row) → count_by (λ (row : Row). is_queued row.fate) rows ≡ count_by (waits Forth) rows + count_by (waits Back) rows
    counts [] = refl
    counts (x ∷ rows) =
        let here = one_dir x.dir x.carried x.injected x.fate in
        let rest = counts rows in
        grind (arith, common_steps)
