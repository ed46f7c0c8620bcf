-- What the records and rows of a finished run can hold.
use Rattle.std.proofs.Common.{◌≡◌, ℕ, ◌<◌, ◌&&◌, Bool, true, false, if◌then◌else◌, List, [], ◌∷◌, length, filter_map, Option, Some, None, Ok, sym, subst, ⊎_elim}
use Rattle.std.specs.Prelude.{IfSome}
use Rattle.std.specs.List.{AllByRecursion, cons_option}
use Rattle.std.proofs.lemmas.Bool.{false≢true}
use Rattle.std.proofs.lemmas.List.Sorted.{IsPermutation-reverse, IsPermutation-sym}
use Rattle.hsr_node.specs.Flow.{arrivals}
use Rattle.hsr_node.specs.Record.{Each, Owner, answer, now}
use Rattle.hsr_node.specs.declared.entry.Entry.{Entry}
use Rattle.hsr_node.specs.declared.event.Carried.{Carried}
use Rattle.hsr_node.specs.declared.event.Event.{Event}
use Rattle.hsr_node.specs.declared.event.Event.TheVariants.{Send, Supervise, Arrive, Age}
use Rattle.hsr_node.specs.declared.event.Outcome.{Outcome}
use Rattle.hsr_node.specs.declared.event.Probe.{Probe}
use Rattle.hsr_link.specs.Rows.{is_queued, is_same_dir, is_taken, taken_copy}
use Rattle.hsr_link.specs.declared.row.Dir.{Dir}
use Rattle.hsr_link.specs.declared.row.Fate.{Fate}
use Rattle.hsr_link.specs.declared.row.Fate.TheVariants.{Queued, Taken, LostDown, LostCut, LostOverrun}
use Rattle.hsr_link.specs.declared.row.Row.{Row}
use Rattle.hsr_run_laws.specs.Closed.{HasLink, IsClosed, IsSettled}
use Rattle.hsr_finished_run.specs.Finished.{Finished, IsFinished}
use Rattle.hsr_run_laws.specs.Run.{Run, owner_of, past_of, place_of, record_of, rows_of}
use Rattle.hsr_topology.specs.declared.end.End.{End}
use Rattle.hsr_run_laws.proofs.Lists.{all_permutation}
use Rattle.hsr_run_laws.proofs.Records.{Answered, OfArrival, each_from_ports, legal_each}
use Rattle.hsr_transcript_lines.proofs.Again.{IsFinishedRow, IsGone}
use Rattle.hsr_transcript.specs.Fits.{Fits}
use Rattle.hsr_transcript_lines.specs.Fits.{IsProbeFit, IsRowFit}
use Rattle.hsr_transcript_lines.proofs.Roles.{IsEntryOf, IsEventOf, IsNamed}
use Rattle.hsr_transcript.proofs.OfRole.{outcome_of, port_of}

-- ---- copies name a send

abbrev IsNamedCopy : Carried → Type 0
IsNamedCopy copy = IsNamed copy.probe

-- the copies that were taken from settled rows
taken_named : (run : Run) (dir : Dir) (rows : List Row) → AllByRecursion (IsSettled run) rows → AllByRecursion IsNamedCopy (filter_map (taken_copy dir) rows)
taken_named run dir [] settled = tt
taken_named run dir (row ∷ rows) settled = by_test (is_same_dir dir row.dir && is_taken row.fate) (taken_named run dir rows settled.1)
  where
    by_test : (t : Bool) → AllByRecursion IsNamedCopy (filter_map (taken_copy dir) rows)
        → AllByRecursion IsNamedCopy (cons_option (if t then Some row.carried else None) (filter_map (taken_copy dir) rows))
    by_test true rest = (record { send = settled.0.origin.send; named = settled.0.origin.named }, rest)
    by_test false rest = rest

-- what came over a link
came_named : (run : Run) → IsClosed run → (k port : ℕ) → HasLink run k port → AllByRecursion IsNamedCopy (arrivals port (past_of run k))
came_named run closed k port link =
    let Q : End → Type 0 = λ end. AllByRecursion IsNamedCopy (arrivals end.port (past_of run end.node)) in
    let taken = taken_named run link.dir (rows_of run link.link) (closed.settled link.link link.below) in
    subst Q link.ends (all_permutation IsNamedCopy _ _ (closed.taken link.link link.dir link.below) taken)

-- what came at all
arrivals_named : (run : Run) → IsClosed run → (k : ℕ) → k < length run.places → (port : ℕ) → AllByRecursion IsNamedCopy (arrivals port (past_of run k))
arrivals_named run closed k below port =
    ⊎_elim
    (λ link. came_named run closed k port link)
    (λ none. subst (AllByRecursion IsNamedCopy) (sym none) tt)
    (closed.linked k port below)

-- ---- entries

-- an event that was answered came by a port of the node, with a copy that names a send
event_of : (capacity : ℕ) (owner : Owner) (past : List Entry) (at : ℕ) (event : Event) (outcome : Outcome) → answer capacity owner past at event ≡ Ok outcome
    → OfArrival IsNamedCopy event → IsEventOf owner.place event
event_of capacity owner past at (Send from dst vlan kind payload) outcome ok named = tt
event_of capacity owner past at (Supervise about) outcome ok named = tt
event_of capacity owner past at (Arrive port copy) outcome ok named = (port_of capacity owner past at port copy outcome ok, named)
event_of capacity owner past at Age outcome ok named = tt

-- entries that are what their past answers, and whose arrivals name a send
entries_of : (capacity : ℕ) (owner : Owner) (h : List Entry) → Each (Answered capacity owner) h → Each (λ x past. OfArrival IsNamedCopy x.event) h
    → AllByRecursion (IsEntryOf owner.place) h
entries_of capacity owner [] legal named = tt
entries_of capacity owner (x ∷ past) legal named =
    let event = event_of capacity owner past (now (x ∷ past)) x.event x.outcome legal.0 named.0 in
    let outcome = outcome_of capacity owner.number owner.place past legal.1 x.at x.event x.outcome legal.0 in
    (record { event = event; outcome = outcome }, entries_of capacity owner past legal.1 named.1)

-- a record tells only of ports of its node, and of copies that name a send
pub entries_of_role : (f : Finished) → IsFinished f → (k : ℕ) → k < length f.run.places → AllByRecursion (IsEntryOf (place_of f.run k)) (record_of f.run k)
entries_of_role f finished k below =
    let run : Run = f.run in
    let closed = finished.closed in
    let legal = legal_each run.capacity (owner_of run k) (past_of run k) (closed.legal k below) in
    let named = each_from_ports IsNamedCopy (past_of run k) (arrivals_named run closed k below) in
    let back = IsPermutation-sym _ _ (IsPermutation-reverse (record_of run k)) in
    all_permutation (IsEntryOf (place_of run k)) _ _ back (entries_of run.capacity (owner_of run k) (past_of run k) legal named)

-- ---- rows

-- what isn't Queued waits no more
gone_of : (fate : Fate) → is_queued fate ≡ false → IsGone fate
gone_of Queued h = absurd (false≢true (sym h))
gone_of Taken h = tt
gone_of LostDown h = tt
gone_of LostCut h = tt
gone_of LostOverrun h = tt

row_of_send : (run : Run) (row : Row) → IsSettled run row → IsRowFit row → IsFinishedRow row
row_of_send run row settled fit =
    let P : Option Probe → Type 0 = λ probe. IfSome probe IsProbeFit in
    let named : row.carried.probe ≡ Some settled.origin.send = settled.origin.named in
    let numbers : IsProbeFit settled.origin.send = subst P named fit.probe in
    record { probe = settled.origin.send; named = named; node = numbers.0; place = numbers.1; octets = fit.octets; put = settled.put; gone = gone_of row.fate settled.gone }

rows_of_sends : (run : Run) (rows : List Row) → AllByRecursion (IsSettled run) rows → AllByRecursion IsRowFit rows → AllByRecursion IsFinishedRow rows
rows_of_sends run [] settled fit = tt
rows_of_sends run (row ∷ rows) settled fit = (row_of_send run row settled.0 fit.0, rows_of_sends run rows settled.1 fit.1)

-- the rows of a link are finished ones
pub rows_finished : (f : Finished) → IsFinished f → Fits f → (l : ℕ) → l < length f.run.links → AllByRecursion IsFinishedRow (rows_of f.run l)
rows_finished f finished fits l below = rows_of_sends f.run (rows_of f.run l) (finished.closed.settled l below) (fits.rows l below).1
