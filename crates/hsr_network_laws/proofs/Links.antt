-- What is put on a link, and not lost, comes out; and no more comes out than was put.
use Rattle.std.proofs.Common.{◌≡◌, ◌≤◌, ◌&&◌, ◌||◌, Bool, true, false, not, if◌then◌else◌, List, [], ◌∷◌, count_by, filter_map, Some, None, sym, arith, ⊎_elim}
use Rattle.std.specs.List.{list_any, AllByRecursion, cons_option}
use Rattle.std.proofs.lemmas.Bool.{false≢true, or_cases, or_left, or_parts, or_right}
use Rattle.hsr_node.specs.Flow.{arrivals, passes}
use Rattle.hsr_node.specs.declared.event.Carried.{Carried}
use Rattle.hsr_node.specs.declared.event.Probe.{Probe}
use Rattle.hsr_link.specs.Rows.{goes, is_lost, is_queued, is_taken, put_copy, taken_copy}
use Rattle.hsr_link.specs.declared.row.Dir.{Dir}
use Rattle.hsr_link.specs.declared.row.Row.{Row}
use Rattle.hsr_link.specs.declared.row.Fate.{Fate}
use Rattle.hsr_link.specs.declared.row.Fate.TheVariants.{Queued, Taken, LostDown, LostCut, LostOverrun}
use Rattle.hsr_run_laws.specs.Closed.{IsClosed, IsSettled}
use Rattle.hsr_network_laws.specs.Channels.{Carries, is_loss}
use Rattle.hsr_network_laws.specs.Network.{Channel, start_of, stop_of}
use Rattle.hsr_run_laws.specs.Once.{is_copy}
use Rattle.hsr_run_laws.specs.Run.{Run, owner_of, past_of, rows_of}
use Rattle.hsr_topology.specs.declared.end.End.{End}
use Rattle.hsr_run_laws.proofs.Lists.{any_permutation, count_more}

-- ---- what is put on a link, and not lost, comes out

some_taken : (run : Run) (send : Probe) (dir : Dir) (rows : List Row) → AllByRecursion (IsSettled run) rows → list_any (is_loss send dir) rows ≡ false →
    list_any (is_copy send) (filter_map (put_copy dir) rows) ≡ true → list_any (is_copy send) (filter_map (taken_copy dir) rows) ≡ true
some_taken run send dir [] settled kept some = some
some_taken run send dir (row ∷ rows) settled kept some =
    let parts = or_parts (is_loss send dir row) (list_any (is_loss send dir) rows) kept in
    step (goes dir row) row.injected row.fate settled.0.put settled.0.gone parts.0 some (some_taken run send dir rows settled.1 parts.1)
  where
    Rest : Type 0
    Rest = list_any (is_copy send) (filter_map (put_copy dir) rows) ≡ true → list_any (is_copy send) (filter_map (taken_copy dir) rows) ≡ true

    step : (channel injected : Bool) (fate : Fate) → injected ≡ false → is_queued fate ≡ false → (channel && is_copy send row.carried && is_lost fate) ≡ false →
        list_any (is_copy send) (cons_option (if channel && not injected then Some row.carried else None) (filter_map (put_copy dir) rows)) ≡ true → Rest →
        list_any (is_copy send) (cons_option (if channel && is_taken fate then Some row.carried else None) (filter_map (taken_copy dir) rows)) ≡ true
    step channel true fate i q l some rest = absurd (false≢true (sym i))
    step false false fate i q l some rest = rest some
    step true false Queued i q l some rest = absurd (false≢true (sym q))
    step true false Taken i q l some rest = ⊎_elim (λ mine. or_left _ _ mine) (λ later. or_right _ _ (rest later)) (or_cases (is_copy send row.carried) _ some)
    step true false LostDown i q l some rest = lost (is_copy send row.carried) l some rest
      where
        lost : (mine : Bool) → (mine && true) ≡ false → (mine || list_any (is_copy send) (filter_map (put_copy dir) rows)) ≡ true → Rest → list_any (is_copy send) (filter_map (taken_copy dir) rows) ≡ true
        lost true l some rest = absurd (false≢true (sym l))
        lost false l some rest = rest some
    step true false LostCut i q l some rest = lost (is_copy send row.carried) l some rest
      where
        lost : (mine : Bool) → (mine && true) ≡ false → (mine || list_any (is_copy send) (filter_map (put_copy dir) rows)) ≡ true → Rest → list_any (is_copy send) (filter_map (taken_copy dir) rows) ≡ true
        lost true l some rest = absurd (false≢true (sym l))
        lost false l some rest = rest some
    step true false LostOverrun i q l some rest = lost (is_copy send row.carried) l some rest
      where
        lost : (mine : Bool) → (mine && true) ≡ false → (mine || list_any (is_copy send) (filter_map (put_copy dir) rows)) ≡ true → Rest → list_any (is_copy send) (filter_map (taken_copy dir) rows) ≡ true
        lost true l some rest = absurd (false≢true (sym l))
        lost false l some rest = rest some

-- a copy left, or came
abbrev pub Left : Run → Probe → End → Type 0
Left run send end = list_any (is_copy send) (passes (owner_of run end.node) end.port (past_of run end.node)) ≡ true

abbrev pub Arrived : Run → Probe → End → Type 0
Arrived run send end = list_any (is_copy send) (arrivals end.port (past_of run end.node)) ≡ true

pub carried_on : (run : Run) → IsClosed run → (send : Probe) (channel : Channel) → Carries run send channel → Left run send (start_of run channel) → Arrived run send (stop_of run channel)
carried_on run closed send channel carries left =
    let put = any_permutation (is_copy send) _ _ (closed.put channel.link channel.dir carries.below) left in
    let taken = some_taken run send channel.dir (rows_of run channel.link) (closed.settled channel.link carries.below) carries.kept put in
    any_permutation (is_copy send) _ _ (closed.taken channel.link channel.dir carries.below) taken

-- ---- counts of a link

pub taken_less : (run : Run) (p : Carried → Bool) (dir : Dir) (rows : List Row) → AllByRecursion (IsSettled run) rows → count_by p (filter_map (taken_copy dir) rows) ≤ count_by p (filter_map (put_copy dir) rows)
taken_less run p dir [] settled = omega arith
taken_less run p dir (row ∷ rows) settled = step (goes dir row) row.injected (is_taken row.fate) settled.0.put (taken_less run p dir rows settled.1)
  where
    step : (channel injected taken : Bool) → injected ≡ false → count_by p (filter_map (taken_copy dir) rows) ≤ count_by p (filter_map (put_copy dir) rows) →
        count_by p (cons_option (if channel && taken then Some row.carried else None) (filter_map (taken_copy dir) rows)) ≤ count_by p (cons_option (if channel && not injected then Some row.carried else None) (filter_map (put_copy dir) rows))
    step channel true taken i rest = absurd (false≢true (sym i))
    step true false true i rest =
        let a = count_more p row.carried (filter_map (taken_copy dir) rows) in
        let b = count_more p row.carried (filter_map (put_copy dir) rows) in
        omega arith
    step true false false i rest = let b = count_more p row.carried (filter_map (put_copy dir) rows) in omega arith
    step false false taken i rest = rest
