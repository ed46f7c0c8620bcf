-- What is taken in a direction stands before what waits there.
use Rattle.std.proofs.Common.{◌≡◌, Bool, true, false, cond, ◌&&◌, List, [], ◌∷◌, ◌++◌, map, refl, sym, ap, ◌∙◌, option_to_list, append_assoc, append-nil, arith}
use Rattle.std.proofs.lemmas.Grind.{common_steps}
use Rattle.hsr_link.specs.Calls.{Call, TakesInOrder, after_call, after_calls, all_given, cutting, given, injecting, mending, putting, taking}
use Rattle.hsr_link.specs.Link.{Link, fate_of, new_link}
use Rattle.hsr_link.specs.Rows.{first_copy, goes, is_queued, is_same_dir, is_taken, lost, taken_copies, turned, waits, with_fate}
use Rattle.hsr_link.specs.declared.row.Dir.{Dir}
use Rattle.hsr_link.specs.declared.row.Dir.TheVariants.{Forth, Back}
use Rattle.hsr_link.specs.declared.row.Fate.{Fate}
use Rattle.hsr_link.specs.declared.row.Fate.TheVariants.{Queued, Taken, LostDown, LostCut, LostOverrun}
use Rattle.hsr_link.specs.declared.row.Row.{Row}
use Rattle.hsr_link.proofs.Waiting.{waits_other}

-- behind a row that waits none is Taken
abbrev InOrder : Dir → List Row → Type 0
InOrder dir [] = Unit {0}
InOrder dir (row ∷ rows) = (waits dir row ≡ true → taken_copies dir rows ≡ []) × InOrder dir rows

queued_not_taken : (fate : Fate) → is_queued fate ≡ true → is_taken fate ≡ false
queued_not_taken Queued h = refl
queued_not_taken Taken h = absurd (cc)
queued_not_taken LostDown h = refl
queued_not_taken LostCut h = refl
queued_not_taken LostOverrun h = refl

-- ---- one row more

taken_push : (dir : Dir) (rows : List Row) (row : Row) → is_taken row.fate ≡ false → taken_copies dir (rows ++ row ∷ []) ≡ taken_copies dir rows
taken_push dir [] row new = grind (arith, common_steps)
taken_push dir (x ∷ rows) row new =
    let rest = taken_push dir rows row new in
    grind (arith, common_steps)

order_push : (dir : Dir) (rows : List Row) (row : Row) → is_taken row.fate ≡ false → InOrder dir rows → InOrder dir (rows ++ row ∷ [])
order_push dir [] row new i = (λ w. refl, tt)
order_push dir (x ∷ rows) row new i = (λ w. taken_push dir rows row new ∙ i.0 w, order_push dir rows row new i.1)

-- ---- a take

taken_turned : (dir : Dir) (rows : List Row) → InOrder dir rows → taken_copies dir (turned Taken dir rows) ≡ taken_copies dir rows ++ option_to_list (first_copy dir rows)
taken_turned dir [] i = refl
taken_turned dir (x ∷ rows) i =
    let rest = taken_turned dir rows i.1 in
    let none = i.0 in
    grind (arith, common_steps, queued_not_taken x.fate)

order_turned : (dir : Dir) (rows : List Row) → InOrder dir rows → InOrder dir (turned Taken dir rows)
order_turned dir [] i = tt
order_turned dir (x ∷ rows) i =
    (elim (waits dir x) as (λ b. (b ≡ true → taken_copies dir rows ≡ []) → (waits dir x ≡ b) → InOrder dir (cond b (with_fate Taken x ∷ rows) (x ∷ turned Taken dir rows))) [
      | true ↦ λ none is. (λ w. absurd (no_more (goes dir x) w), i.1)
      | false ↦ λ none is. (λ w. absurd (cc), order_turned dir rows i.1)
    ]) i.0 refl
  where
    no_more : (b : Bool) → (b && false) ≡ true → ⊥
    no_more true h = cc
    no_more false h = cc

pub taken_turned_other : (dir other : Dir) (rows : List Row) → is_same_dir dir other ≡ false → taken_copies other (turned Taken dir rows) ≡ taken_copies other rows
taken_turned_other dir other [] apart = refl
taken_turned_other dir other (x ∷ rows) apart =
    let rest = taken_turned_other dir other rows apart in
    grind (arith, common_steps, waits_other dir other x apart)

order_turned_other : (dir other : Dir) (rows : List Row) → is_same_dir dir other ≡ false → InOrder other rows → InOrder other (turned Taken dir rows)
order_turned_other dir other [] apart i = tt
order_turned_other dir other (x ∷ rows) apart i =
    (elim (waits dir x) as (λ b. (waits dir x ≡ b) → InOrder other (cond b (with_fate Taken x ∷ rows) (x ∷ turned Taken dir rows))) [
      | true ↦ λ is. (λ w. absurd (no_more (goes other x) w), i.1)
      | false ↦ λ is. (λ w. taken_turned_other dir other rows apart ∙ i.0 w, order_turned_other dir other rows apart i.1)
    ]) refl
  where
    no_more : (b : Bool) → (b && false) ≡ true → ⊥
    no_more true h = cc
    no_more false h = cc

-- ---- a cut

pub taken_lost : (dir : Dir) (rows : List Row) → taken_copies dir (map lost rows) ≡ taken_copies dir rows
taken_lost dir [] = refl
taken_lost dir (x ∷ rows) =
    let rest = taken_lost dir rows in
    grind (arith, common_steps, queued_not_taken x.fate)

order_lost : (dir : Dir) (rows : List Row) → InOrder dir rows → InOrder dir (map lost rows)
order_lost dir [] i = tt
order_lost dir (x ∷ rows) i = (λ w. absurd (none_left x w), order_lost dir rows i.1)
  where
    none_left : (x : Row) → waits dir (lost x) ≡ true → ⊥
    none_left x w = grind (arith, common_steps)

-- ---- any call

pub put_not_taken : (link : Link) (dir : Dir) → is_taken (fate_of link dir) ≡ false
put_not_taken link dir = grind (arith, common_steps)

step_taken : (dir : Dir) (link : Link) (call : Call) → InOrder dir link.rows → taken_copies dir (after_call link call).rows ≡ taken_copies dir link.rows ++ given dir link call
step_taken dir link (putting way carried) i = rw append-nil (taken_push dir link.rows _ (put_not_taken link way))
step_taken dir link (injecting way carried) i = rw append-nil (taken_push dir link.rows _ (put_not_taken link way))
step_taken Forth link (taking Forth) i = taken_turned Forth link.rows i
step_taken Forth link (taking Back) i = rw append-nil (taken_turned_other Back Forth link.rows refl)
step_taken Back link (taking Forth) i = rw append-nil (taken_turned_other Forth Back link.rows refl)
step_taken Back link (taking Back) i = taken_turned Back link.rows i
step_taken dir link cutting i = rw append-nil (taken_lost dir link.rows)
step_taken dir link mending i = rw append-nil refl

step_order : (dir : Dir) (link : Link) (call : Call) → InOrder dir link.rows → InOrder dir (after_call link call).rows
step_order dir link (putting way carried) i = order_push dir link.rows _ (put_not_taken link way) i
step_order dir link (injecting way carried) i = order_push dir link.rows _ (put_not_taken link way) i
step_order Forth link (taking Forth) i = order_turned Forth link.rows i
step_order Forth link (taking Back) i = order_turned_other Back Forth link.rows refl i
step_order Back link (taking Forth) i = order_turned_other Forth Back link.rows refl i
step_order Back link (taking Back) i = order_turned Back link.rows i
step_order dir link cutting i = order_lost dir link.rows i
step_order dir link mending i = i

calls_in_order : (dir : Dir) (link : Link) (calls : List Call) → InOrder dir link.rows → taken_copies dir link.rows ++ all_given dir link calls ≡ taken_copies dir (after_calls link calls).rows
calls_in_order dir link [] i = rw append-nil refl
calls_in_order dir link (call ∷ calls) i =
    sym (append_assoc (taken_copies dir link.rows) (given dir link call) (all_given dir (after_call link call) calls))
    ∙ (ap (λ xs. xs ++ all_given dir (after_call link call) calls) (sym (step_taken dir link call i))
    ∙ calls_in_order dir (after_call link call) calls (step_order dir link call i))

pub takes_in_order : TakesInOrder
takes_in_order capacity calls dir = calls_in_order dir (new_link capacity) calls tt
