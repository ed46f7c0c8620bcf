-- What a step makes of the rows of a link: there are never fewer, no copy waits again, and where one is cut off, none waits.
use Rattle.std.proofs.Common.{◌≡◌, ◌⊎◌, inl, inr, ℕ, zero, suc, ◌<◌, ◌≤◌, nat_lt, Bool, true, false, List, [], ◌∷◌, ◌++◌, length, map, set, Option, Some, None, slice_get, Result, Ok, Err, refl, sym, ap, ◌∙◌, subst, arith}
use Rattle.std.specs.Prelude.{option_map, if◌then◌else◌, max}
use Rattle.std.proofs.lemmas.Bool.{false≢true}
use Rattle.std.proofs.lemmas.List.{length-append, length-map}
use Rattle.std.proofs.lemmas.Option.{slice_get-map}
use Rattle.hsr_link.specs.Link.{inject_step, take_step}
use Rattle.hsr_link.specs.Rows.{first_copy, is_queued, lost, turned, waits, with_fate}
use Rattle.hsr_link.specs.declared.row.Dir.{Dir}
use Rattle.hsr_link.specs.declared.row.Fate.TheVariants.{Taken, LostCut}
use Rattle.hsr_link.specs.declared.row.Row.{Row}
use Rattle.hsr_node.specs.Record.{answer, now}
use Rattle.hsr_node.specs.declared.entry.Entry.{Entry}
use Rattle.hsr_node.specs.declared.event.Carried.{Carried}
use Rattle.hsr_node.specs.declared.event.Event.{Event}
use Rattle.hsr_node.specs.declared.event.Event.TheVariants as event
use Rattle.hsr_node.specs.declared.event.Outcome.{Outcome}
use Rattle.hsr_node.specs.declared.event.StepFault.{StepFault}
use Rattle.hsr_topology.specs.Workers.{port_worker}
use Rattle.hsr_topology.specs.declared.end.End.{End}
use Rattle.hsr_world_laws.specs.Spans.{Lane, Span, Spot, emptied, held_in, lane_of, lanes_of, on_lanes, spot_from, spread, with_link}
use Rattle.hsr_world_laws.specs.World.{World, and_added, by_main, cleared, entered, has_link, has_node, has_port, inject_limit, injected_at, judged_at, or_same, owner_at, planned, put_at, put_from, record_at, span_at, span_in, take_to, taken_by, tried, with_span}
use Rattle.hsr_world_steps.specs.declared.step.Step.TheVariants.{Clock, Send, Supervise, Age, Put, Take, Judge, Cut, Mend, Inject}
use Rattle.hsr_world_steps.specs.declared.step.Step as steps
use Rattle.hsr_world_steps.specs.declared.step.WorldFault.{WorldFault}
use Rattle.hsr_world_steps.specs.declared.step.WorldFault.TheVariants.{TooLong}
use Rattle.hsr_plan_hops.specs.Flights.{is_cut_off_if, is_queued_if, rows_at}

-- where it holds of a row afterwards, it held before
abbrev pub Stays : (Option Row → Bool) → List Row → List Row → Type 0
Stays q old new = (r : ℕ) → r < length old → q (slice_get new r) ≡ true → q (slice_get old r) ≡ true

abbrev pub NoneWaits : List Row → Type 0
NoneWaits rows = (r : ℕ) → is_queued_if (slice_get rows r) ≡ false

pub record IsGrown (old new : List Row) : Type 0 where
  pub longer : length old ≤ length new
  pub waiting : Stays is_queued_if old new
  pub cut_off : Stays is_cut_off_if old new ⊎ NoneWaits new

-- ---- one link

same : (rows : List Row) → IsGrown rows rows
same rows = record { longer = omega arith; waiting = λ r h e. e; cut_off = inl (λ r h e. e) }

front : (rows more : List Row) (r : ℕ) → r < length rows → slice_get (rows ++ more) r ≡ slice_get rows r
front [] more r h = absurd (omega arith)
front (row ∷ rows) more zero h = refl
front (row ∷ rows) more (suc r) h = front rows more r (omega arith)

longer_by : (rows more : List Row) → IsGrown rows (rows ++ more)
longer_by rows more =
    let stays = λ (q : Option Row → Bool) (r : ℕ) (h : r < length rows) (e : q (slice_get (rows ++ more) r) ≡ true). ap q (sym (front rows more r h)) ∙ e in
    record { longer = omega (arith, length-append {A = Row}); waiting = stays is_queued_if; cut_off = inl (stays is_cut_off_if) }

stays_turned : (q : Option Row → Bool) → ((row : Row) → q (Some (with_fate Taken row)) ≡ false) → (dir : Dir) (rows : List Row) → Stays q rows (turned Taken dir rows)
stays_turned q gone dir [] = λ r h e. e
stays_turned q gone dir (row ∷ rows) = by_case (waits dir row) (stays_turned q gone dir rows)
  where
    by_case : (b : Bool) → Stays q rows (turned Taken dir rows) → Stays q (row ∷ rows) (if b then with_fate Taken row ∷ rows else row ∷ turned Taken dir rows)
    by_case true below zero h e = absurd (false≢true (sym (gone row) ∙ e))
    by_case true below (suc r) h e = e
    by_case false below zero h e = e
    by_case false below (suc r) h e = below r (omega arith) e

length_turned : (dir : Dir) (rows : List Row) → length (turned Taken dir rows) ≡ length rows
length_turned dir [] = refl
length_turned dir (row ∷ rows) =
    elim (waits dir row) as (λ b. length (if b then with_fate Taken row ∷ rows else row ∷ turned Taken dir rows) ≡ suc (length rows)) [
      | true ↦ refl
      | false ↦ ap suc (length_turned dir rows)
    ]

taken : (dir : Dir) (rows : List Row) → IsGrown rows (turned Taken dir rows)
taken dir rows = record {
  longer = omega (arith, length_turned dir rows);
  waiting = stays_turned is_queued_if (λ row. refl) dir rows;
  cut_off = inl (stays_turned is_cut_off_if (λ row. refl) dir rows);
}

none_waits : (rows : List Row) → NoneWaits (map lost rows)
none_waits rows r = ap is_queued_if (slice_get-map lost rows r) ∙ one (slice_get rows r)
  where
    by_case : (row : Row) (b : Bool) → is_queued row.fate ≡ b → is_queued (if b then with_fate LostCut row else row).fate ≡ false
    by_case row true e = refl
    by_case row false e = e

    one : (row : Option Row) → is_queued_if (option_map lost row) ≡ false
    one None = refl
    one (Some row) = by_case row (is_queued row.fate) refl

cut : (rows : List Row) → IsGrown rows (map lost rows)
cut rows = record { longer = omega (arith, length-map rows lost); waiting = λ r h e. absurd (false≢true (sym (none_waits rows r) ∙ e)); cut_off = inr (none_waits rows) }

-- ---- all links

-- so it is with each link of a world
abbrev pub AreGrown : World → World → Type 0
AreGrown w after = (l : ℕ) → IsGrown (rows_at w l) (rows_at after l)

abbrev rows_in : List Span → ℕ → List Row
rows_in spans l = (span_in spans l).link.rows

with_rows : (spans : List Span) (l : ℕ) (span : Span) → IsGrown (rows_in spans l) span.link.rows → (k : ℕ) → IsGrown (rows_in spans k) (rows_in (set spans l span) k)
with_rows [] l span h k = same (rows_in [] k)
with_rows (x ∷ spans) zero span h zero = h
with_rows (x ∷ spans) zero span h (suc k) = same (rows_in spans k)
with_rows (x ∷ spans) (suc l) span h zero = same x.link.rows
with_rows (x ∷ spans) (suc l) span h (suc k) = with_rows spans l span h k

mapped : (f : Lane → Lane) (spans : List Span) (l : ℕ) → rows_in (map (on_lanes f) spans) l ≡ rows_in spans l
mapped f [] l = refl
mapped f (x ∷ spans) zero = refl
mapped f (x ∷ spans) (suc l) = mapped f spans l

unchanged : (w : World) → AreGrown w w
unchanged w l = same (rows_at w l)

entry_grown : (capacity : ℕ) (w v : World) (worker n : ℕ) (e : Event) → ((l : ℕ) → rows_at v l ≡ rows_at w l) → AreGrown w (or_same w (entered capacity v worker n e))
entry_grown capacity w v worker n e is = by_case (answer capacity (owner_at v n) (record_at v n) (max (now (record_at v n)) v.moment) e)
  where
    by_case : (r : Result Outcome StepFault) → AreGrown w (or_same w (and_added v worker n e r))
    by_case (Err fault) l = same (rows_at w l)
    by_case (Ok outcome) l =
        let entry : Entry = record { worker = worker; at = v.moment; event = e; outcome = outcome } in
        subst (IsGrown (rows_at w l)) (sym (mapped (spread (owner_at v n) entry (record_at v n)) v.spans l ∙ is l)) (same (rows_at w l))

judged_grown : (capacity : ℕ) (w : World) (end : End) (held : Option Carried) → AreGrown w (or_same w (judged_at capacity w end held))
judged_grown capacity w end None = unchanged w
judged_grown capacity w end (Some c) = entry_grown capacity w (cleared w end) (port_worker end) end.node (event.Arrive end.port c) (mapped (emptied end) w.spans)

put_grown : (w : World) (spot : Option Spot) → AreGrown w (or_same w (put_at w spot))
put_grown w None = unchanged w
put_grown w (Some s) = by_case (lane_of s.dir (span_at w s.link)).outbox
  where
    by_case : (box : List Carried) → AreGrown w (or_same w (put_from w s box))
    by_case [] = unchanged w
    by_case (c ∷ cs) = with_rows w.spans s.link _ (longer_by (rows_at w s.link) _)

take_grown : (w : World) (l : ℕ) (dir : Dir) (hand : Option Carried) → AreGrown w (or_same w (take_to w l dir hand))
take_grown w l dir (Some held) = unchanged w
take_grown w l dir None = by_case (first_copy dir (rows_at w l))
  where
    by_case : (first : Option Carried) → AreGrown w (or_same w (taken_by w l dir (first, (take_step (span_at w l).link dir).1)))
    by_case None = unchanged w
    by_case (Some c) = with_rows w.spans l _ (taken dir (rows_at w l))

inject_grown : (w : World) (l : ℕ) (dir : Dir) (octets : List ℕ) → AreGrown w (or_same w (injected_at w l dir octets))
inject_grown w l dir octets = by_case (nat_lt inject_limit (length octets))
  where
    by_case : (b : Bool) → AreGrown w (or_same w (if b then Err TooLong else Ok (with_span w l (with_link (inject_step (span_at w l).link dir (record { probe = None; octets = octets })).1 (span_at w l)))))
    by_case true = unchanged w
    by_case false = with_rows w.spans l _ (longer_by (rows_at w l) _)

-- a refusal, or what comes of a test that was met
met : (w : World) (b : Bool) (r : Result World WorldFault) (f : WorldFault) → AreGrown w (or_same w r) → AreGrown w (or_same w (if b then r else Err f))
met w true r f h = h
met w false r f h = unchanged w

main_grown : (capacity : ℕ) (w : World) (n : ℕ) (e : Event) → AreGrown w (or_same w (by_main capacity w n e))
main_grown capacity w n e = met w (has_node w n) _ _ (entry_grown capacity w (planned w n e) 0 n e (λ l. refl))

step_grown : (capacity : ℕ) (w : World) (step : steps.Step) → AreGrown w (or_same w (tried capacity w step))
unfolding tried
step_grown capacity w (Clock at) = unchanged w
step_grown capacity w (Send n from dst vlan ethertype payload) = main_grown capacity w n (event.Send from dst vlan ethertype payload)
step_grown capacity w (Supervise n about) = main_grown capacity w n (event.Supervise about)
step_grown capacity w (Age n) = main_grown capacity w n event.Age
step_grown capacity w (Put n port) = met w (has_node w n) _ _ (met w (has_port w n port) _ _ (put_grown w (spot_from (record { node = n; port = port }) 0 w.spans)))
step_grown capacity w (Take l dir) = met w (has_link w l) _ _ (take_grown w l dir (lane_of dir (span_at w l)).hand)
step_grown capacity w (Judge n port) =
    met w (has_node w n) _ _ (met w (has_port w n port) _ _ (judged_grown capacity w (record { node = n; port = port }) (held_in (record { node = n; port = port }) (lanes_of w.spans))))
step_grown capacity w (Cut l) = met w (has_link w l) _ _ (with_rows w.spans l _ (cut (rows_at w l)))
step_grown capacity w (Mend l) = met w (has_link w l) _ _ (with_rows w.spans l _ (same (rows_at w l)))
step_grown capacity w (Inject l dir octets) = met w (has_link w l) _ _ (inject_grown w l dir octets)

pub grown_by : (capacity : ℕ) (w after : World) (step : steps.Step) → tried capacity w step ≡ Ok after → AreGrown w after
grown_by capacity w after step e = subst (λ (r : Result World WorldFault). AreGrown w (or_same w r)) e (step_grown capacity w step)
