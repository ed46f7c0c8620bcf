-- What agreement between rows and records gives for one link.
use Rattle.std.proofs.Common.{◌≡◌, ℕ, ◌<◌, Bool, true, false, not, ◌&&◌, if◌then◌else◌, List, [], ◌∷◌, length, filter_map, Some, None, refl, sym, ap, ◌∙◌, subst}
use Rattle.std.specs.List.{list_any, AllByRecursion, cons_option}
use Rattle.std.proofs.lemmas.Bool.{or_parts, false≢true}
use Rattle.hsr_node.specs.Flow.{arrivals, passes}
use Rattle.hsr_node.specs.declared.event.Carried.{Carried}
use Rattle.hsr_link.specs.declared.row.Dir.{Dir}
use Rattle.hsr_link.specs.declared.row.Fate.{Fate}
use Rattle.hsr_link.specs.declared.row.Fate.TheVariants.{Queued, Taken, LostDown, LostCut, LostOverrun}
use Rattle.hsr_link.specs.declared.row.Row.{Row}
use Rattle.hsr_run_laws.specs.Closed.{IsClosed, IsOfSend, IsSettled}
use Rattle.hsr_run_laws.specs.Premises.{any_lost}
use Rattle.hsr_link.specs.Rows.{is_lost, is_queued, is_same_dir, is_taken, put_copy, taken_copy}
use Rattle.hsr_run_laws.specs.Run.{Run, ends_of, from_end, owner_of, past_of, rows_of, to_end}
use Rattle.hsr_topology.specs.declared.end.End.{End}
use Rattle.hsr_run_laws.proofs.Lists.{all_permutation, any_permutation}

-- where nothing was lost, what was put was taken
all_taken : (run : Run) (dir : Dir) (rows : List Row) → AllByRecursion (IsSettled run) rows → any_lost rows ≡ false → filter_map (put_copy dir) rows ≡ filter_map (taken_copy dir) rows
all_taken run dir [] settled kept = refl
all_taken run dir (row ∷ rows) settled kept =
    let parts = or_parts (is_lost row.fate) (any_lost rows) kept in
    let rest = all_taken run dir rows settled.1 parts.1 in
    let same = alike (is_same_dir dir row.dir) row.injected row.fate settled.0.put settled.0.gone parts.0 in
    let cons = λ (b : Bool) (xs : List Carried). cons_option (if b then Some row.carried else None) xs in
    ap (λ b. cons b (filter_map (put_copy dir) rows)) same ∙ ap (cons (is_same_dir dir row.dir && is_taken row.fate)) rest
  where
    alike : (way injected : Bool) (fate : Fate) → injected ≡ false → is_queued fate ≡ false → is_lost fate ≡ false → (way && not injected) ≡ (way && is_taken fate)
    alike way true fate i q l = absurd (false≢true (sym i))
    alike way false Queued i q l = absurd (false≢true (sym q))
    alike way false Taken i q l = refl
    alike way false LostDown i q l = absurd (false≢true (sym l))
    alike way false LostCut i q l = absurd (false≢true (sym l))
    alike way false LostOverrun i q l = absurd (false≢true (sym l))

-- what was put in without loss comes out
hop : (run : Run) → IsClosed run → (l : ℕ) (dir : Dir) → l < length run.links → any_lost (rows_of run l) ≡ false → (p : Carried → Bool) →
    list_any p (passes (owner_of run (from_end dir (ends_of run l)).node) (from_end dir (ends_of run l)).port (past_of run (from_end dir (ends_of run l)).node)) ≡ true →
    list_any p (arrivals (to_end dir (ends_of run l)).port (past_of run (to_end dir (ends_of run l)).node)) ≡ true
hop run closed l dir below kept p some =
    let put = any_permutation p _ _ (closed.put l dir below) some in
    let P : List Carried → Type 0 = λ cs. list_any p cs ≡ true in
    let taken = subst P (all_taken run dir (rows_of run l) (closed.settled l below) kept) put in
    any_permutation p _ _ (closed.taken l dir below) taken

-- what holds of each row's copy and of each copy that was put holds of each that was taken
taken_of_put : (run : Run) (P : Carried → Type 0) (dir : Dir) (rows : List Row) → AllByRecursion (IsSettled run) rows →
    AllByRecursion P (filter_map (put_copy dir) rows) → AllByRecursion (λ copy. P copy × IsOfSend run copy) (filter_map (taken_copy dir) rows)
taken_of_put run P dir [] settled put = tt
taken_of_put run P dir (row ∷ rows) settled put =
    step (is_same_dir dir row.dir) row.injected (is_taken row.fate) settled.0.put put (taken_of_put run P dir rows settled.1)
  where
    Rest : Type 0
    Rest = AllByRecursion P (filter_map (put_copy dir) rows) → AllByRecursion (λ copy. P copy × IsOfSend run copy) (filter_map (taken_copy dir) rows)

    step : (way injected taken : Bool) → injected ≡ false → AllByRecursion P (cons_option (if way && not injected then Some row.carried else None) (filter_map (put_copy dir) rows)) → Rest →
        AllByRecursion (λ copy. P copy × IsOfSend run copy) (cons_option (if way && taken then Some row.carried else None) (filter_map (taken_copy dir) rows))
    step way true taken i put rest = absurd (false≢true (sym i))
    step true false true i put rest = ((put.0, settled.0.origin), rest put.1)
    step true false false i put rest = rest put.1
    step false false taken i put rest = rest put

-- each arrival is of a send, and is as all are that the other end passed
arrives_as : (run : Run) → IsClosed run → (P : Carried → Type 0) (l : ℕ) (dir : Dir) → l < length run.links →
    AllByRecursion P (passes (owner_of run (from_end dir (ends_of run l)).node) (from_end dir (ends_of run l)).port (past_of run (from_end dir (ends_of run l)).node)) →
    AllByRecursion (λ copy. P copy × IsOfSend run copy) (arrivals (to_end dir (ends_of run l)).port (past_of run (to_end dir (ends_of run l)).node))
arrives_as run closed P l dir below all =
    let put = all_permutation P _ _ (closed.put l dir below) all in
    let taken = taken_of_put run P dir (rows_of run l) (closed.settled l below) put in
    all_permutation (λ copy. P copy × IsOfSend run copy) _ _ (closed.taken l dir below) taken

-- ---- between two ends of a link

pub hop_between : (run : Run) → IsClosed run → (l : ℕ) (dir : Dir) (from to : End) → l < length run.links → from_end dir (ends_of run l) ≡ from → to_end dir (ends_of run l) ≡ to →
    any_lost (rows_of run l) ≡ false → (p : Carried → Bool) → list_any p (passes (owner_of run from.node) from.port (past_of run from.node)) ≡ true → list_any p (arrivals to.port (past_of run to.node)) ≡ true
hop_between run closed l dir from to below is_from is_to kept p some =
    let P : End → Type 0 = λ end. list_any p (passes (owner_of run end.node) end.port (past_of run end.node)) ≡ true in
    let Q : End → Type 0 = λ end. list_any p (arrivals end.port (past_of run end.node)) ≡ true in
    subst Q is_to (hop run closed l dir below kept p (subst P (sym is_from) some))

pub arrives_between : (run : Run) → IsClosed run → (P : Carried → Type 0) (l : ℕ) (dir : Dir) (from to : End) → l < length run.links → from_end dir (ends_of run l) ≡ from → to_end dir (ends_of run l) ≡ to →
    AllByRecursion P (passes (owner_of run from.node) from.port (past_of run from.node)) → AllByRecursion (λ copy. P copy × IsOfSend run copy) (arrivals to.port (past_of run to.node))
arrives_between run closed P l dir from to below is_from is_to all =
    let A : End → Type 0 = λ end. AllByRecursion P (passes (owner_of run end.node) end.port (past_of run end.node)) in
    let Q : End → Type 0 = λ end. AllByRecursion (λ copy. P copy × IsOfSend run copy) (arrivals end.port (past_of run end.node)) in
    subst Q is_to (arrives_as run closed P l dir below (subst A (sym is_from) all))
