-- A text is read as the closed run that it is the text of, or isn't read for a reason that it has.
use Rattle.std.proofs.Common.{◌≡◌, ℕ, zero, suc, codes, slice_index_or, ◌<◌, [], ◌∷◌, ◌∙◌, ◌^◌, List, length, Option, Some, None, Result, Ok, Err, inl, inr, refl, sym, ap, subst, map, IfSome, option_map, Vec}
use Rattle.std.specs.Global.{Global}
use Rattle.std.specs.List.{AllByRecursion}
use Rattle.hsr_text.specs.Moments.{IsMomentOf}
use Rattle.hsr_text.specs.declared.time_unit.TimeUnit.{TimeUnit}
use Rattle.hsr_node.specs.Kept.{Record}
use Rattle.hsr_node.specs.declared.entry.Entry.{Entry}
use Rattle.hsr_node.specs.declared.place.Place.{Place}
use Rattle.hsr_link.specs.declared.row.Row.{Row}
use Rattle.hsr_finished_run.specs.Finished.{Finished, IsFinished, items_of, run_of}
use Rattle.hsr_finished_run.specs.Passes.{IsToldBy}
use Rattle.hsr_topology.specs.Topology.{Topology}
use Rattle.hsr_topology.specs.Wired.{IsWired}
use Rattle.hsr_finished_run.specs.declared.planned.Planned.{Planned}
use Rattle.hsr_transcript.proofs.Numbered.{entries_from}
use Rattle.hsr_transcript.specs.Answers.{Answers, AreShort, Closes, Disagreeing, IsReadAs, IsTextOf}
use Rattle.hsr_transcript.specs.Fits.{Fits}
use Rattle.hsr_transcript.specs.Form.{form_of}
use Rattle.hsr_transcript.specs.Judged.{IsRefused, Judged, Standing, Stands, records_line}
use Rattle.hsr_transcript_lines.specs.Lines.{text_of}
use Rattle.hsr_transcript.specs.Order.{IsOrder, OrderTold}
use Rattle.hsr_transcript_lines.specs.Parsed.{entry_of}
use Rattle.hsr_transcript.specs.Readable.{AreLines, FitEach, IsSection}
use Rattle.hsr_transcript_lines.specs.Readable.{IsLineOf}
use Rattle.hsr_transcript_lines.specs.Spelled.{entry_text}
use Rattle.hsr_transcript.specs.Replay.{ReplayedAll}
use Rattle.hsr_transcript.specs.CodeReads.{ToldWhole}
use Rattle.hsr_transcript.specs.Transcript.{Said, said_in, said_lines}
use Rattle.hsr_transcript.specs.declared.fault.ReadFault.{ReadFault}
use Rattle.hsr_transcript.specs.declared.fault.ReadFault.TheVariants.{Version, BadLine, End, Disagrees, Read, NoMemory}
use Rattle.hsr_transcript.proofs.Finishing.{text_again}
use Rattle.hsr_transcript_lines.proofs.Entries.{entry_timed}
use Rattle.hsr_transcript.proofs.Formal.{form_formal}
use Rattle.hsr_transcript.proofs.Complete.{not_disagreeing, not_refused, plan_again, run_again}
use Rattle.hsr_transcript.proofs.Plans.{is_told}
use Rattle.hsr_transcript.proofs.Shorts.{short_of}
use Rattle.hsr_transcript.proofs.Texts.{form_spells}

-- ---- what is judged

pub order_told : {A : Type 0} (items : A → List Planned) (main : List ℕ) (records : List (List Entry)) (o : Option A) (plan : A) → o ≡ Some plan → OrderTold main records (option_map items o)
    → IsOrder main records (items plan)
order_told items main records o plan e h = subst (λ o. OrderTold main records (option_map items o)) e h

pub judged_unlike : (capacity : ℕ) (t : Said) (places : List Place) (main : List ℕ) (records again : List (List Entry)) (plan : List Planned) (first : ℕ) (fault : ReadFault)
    → places ≡ t.nodes → main ≡ t.main → records ≡ t.records → again ≡ t.records → IsWired t.nodes t.links → IsOrder main records plan → first ≡ records_line t
    → ReplayedAll capacity places again first (Err fault) → Judged capacity t (Err fault)
judged_unlike capacity t places main records again plan first fault p m r a wired order e u =
    go fault (subst (λ n. ReplayedAll capacity t.nodes t.records n (Err fault)) e (subst (λ rs. ReplayedAll capacity t.nodes rs first (Err fault)) a (subst (λ ps. ReplayedAll capacity ps again first (Err fault)) p u)))
  where
    fits : IsOrder t.main t.records plan
    fits = subst (λ l. IsOrder l t.records plan) m (subst (λ rs. IsOrder main rs plan) r order)

    go : (f : ReadFault) → ReplayedAll capacity t.nodes t.records (records_line t) (Err f) → Judged capacity t (Err f)
    go (BadLine line) h = inr (inr (wired, (plan, fits), h))
    go NoMemory h = tt
    go Version h = h
    go End h = h
    go (Disagrees cause) h = h
    go Read h = h

-- ---- form

pub form_fault : {X : Type 0} (view : X → Said) (capacity : ℕ) (old : Option (List ℕ)) (fault : ReadFault) → IfSome old (λ text. ToldWhole view (Err fault) (form_of capacity text))
    → IfSome old (Answers capacity (Err fault))
form_fault view capacity None fault h = tt
form_fault view capacity (Some text) Version h = h
form_fault view capacity (Some text) (BadLine n) h = inl h
form_fault view capacity (Some text) End h = h
form_fault view capacity (Some text) (Disagrees cause) h = absurd (form_formal capacity text (Disagrees cause) h)
form_fault view capacity (Some text) Read h = tt
form_fault view capacity (Some text) NoMemory h = tt

-- of the text of a closed run
abbrev pub ReadAgain : ℕ → Option (List ℕ) → Result Finished ReadFault → Type 0
ReadAgain capacity old result = IfSome old (λ text. (f : Finished) → IsFinished f → Fits f → IsTextOf capacity f text → IsReadAs f result)

pub form_again : {X : Type 0} (view : X → Said) (capacity : ℕ) (old : Option (List ℕ)) (fault : ReadFault) → capacity < 2 ^ 64 → IfSome old (λ text. ToldWhole view (Err fault) (form_of capacity text))
    → ReadAgain capacity old (Err fault)
form_again view capacity None fault small h = tt
form_again view capacity (Some text) Version small h = λ f fin fits is. let ok = text_again capacity text f small fin fits is in absurd (cc)
form_again view capacity (Some text) (BadLine n) small h = λ f fin fits is. let ok = text_again capacity text f small fin fits is in absurd (cc)
form_again view capacity (Some text) End small h = λ f fin fits is. let ok = text_again capacity text f small fin fits is in absurd (cc)
form_again view capacity (Some text) (Disagrees cause) small h = λ f fin fits is. let ok = text_again capacity text f small fin fits is in absurd (cc)
form_again view capacity (Some text) Read small h = λ f fin fits is. tt
form_again view capacity (Some text) NoMemory small h = λ f fin fits is. tt

-- ---- judgement

pub judged_fault : (capacity : ℕ) (old : Option (List ℕ)) (t : Said) (fault : ReadFault) → IfSome old (λ text. form_of capacity text ≡ Ok t) → Judged capacity t (Err fault) → IfSome old (Answers capacity (Err fault))
judged_fault capacity None t fault ok h = tt
judged_fault capacity (Some text) t Version ok h = absurd h
judged_fault capacity (Some text) t (BadLine n) ok h = inr (t, ok, h)
judged_fault capacity (Some text) t End ok h = absurd h
judged_fault capacity (Some text) t (Disagrees cause) ok h = absurd h
judged_fault capacity (Some text) t Read ok h = tt
judged_fault capacity (Some text) t NoMemory ok h = tt

-- what the text of a closed run says
same_said : (capacity : ℕ) (text : List ℕ) (t : Said) (f : Finished) → capacity < 2 ^ 64 → IsFinished f → Fits f → (is : IsTextOf capacity f text) → form_of capacity text ≡ Ok t → t ≡ said_in is.unit f
same_said capacity text t f small fin fits is ok = let again = text_again capacity text f small fin fits is in cc

pub judged_again : (capacity : ℕ) (old : Option (List ℕ)) (t : Said) (fault : ReadFault) → capacity < 2 ^ 64 → IfSome old (λ text. form_of capacity text ≡ Ok t) → Judged capacity t (Err fault)
    → ReadAgain capacity old (Err fault)
judged_again capacity None t fault small ok h = tt
judged_again capacity (Some text) t (BadLine n) small ok h = λ f fin fits is.
    not_refused is.unit f fin n (subst (λ c. IsRefused c (said_in is.unit f) n) (sym is.capacity_is) (subst (λ t. IsRefused capacity t n) (same_said capacity text t f small fin fits is ok) h))
judged_again capacity (Some text) t Version small ok h = absurd h
judged_again capacity (Some text) t End small ok h = absurd h
judged_again capacity (Some text) t (Disagrees cause) small ok h = absurd h
judged_again capacity (Some text) t Read small ok h = λ f fin fits is. tt
judged_again capacity (Some text) t NoMemory small ok h = λ f fin fits is. tt

-- ---- closing

-- the moments of entries that are read again from their lines are those of the unit
timed_of : (unit : TimeUnit) (place : Place) (entries : List Entry) → AllByRecursion (IsLineOf (entry_of unit place) (entry_text unit place)) entries → AllByRecursion (λ x. IsMomentOf unit x.at) entries
timed_of unit place [] h = tt
timed_of unit place (x ∷ entries) h = (entry_timed unit place (entry_text unit place x) x h.0.0.read, timed_of unit place entries h.1)

all_timed : (unit : TimeUnit) (places : List Place) (records : List (List Entry)) → FitEach (λ place. IsSection (codes "record") (entry_of unit place) (entry_text unit place)) places records
    → (k : ℕ) → AllByRecursion (λ x. IsMomentOf unit x.at) (slice_index_or records k [])
all_timed unit [] [] h k = tt
all_timed unit [] (entries ∷ records) h k = absurd h
all_timed unit (place ∷ places) [] h k = absurd h
all_timed unit (place ∷ places) (entries ∷ records) h zero = timed_of unit place entries h.0.lines
all_timed unit (place ∷ places) (entries ∷ records) h (suc k) = all_timed unit places records h.1 k

as_long : {X Y : Type 0} (F : X → Y → Type 0) (xs : List X) (ys : List Y) → FitEach F xs ys → length ys ≡ length xs
as_long F [] [] h = refl
as_long F [] (y ∷ ys) h = absurd h
as_long F (x ∷ xs) [] h = absurd h
as_long F (x ∷ xs) (y ∷ ys) h = ap suc (as_long F xs ys h.1)

-- what stands says what the text says
said_again : (capacity : ℕ) (t : Said) (s : Standing) (rows : List (Vec Row Global)) → length t.records ≡ length t.nodes → Stands capacity t s → map items_of rows ≡ s.rows
    → said_in t.unit (record { run = run_of capacity s.topology s.records rows; plan = s.plan }) ≡ t
said_again capacity t s rows paired stands same = λ i. record {
  unit = t.unit;
  nodes = (ap (λ (x : Topology). x.places) stands.topology) i;
  links = (ap (λ (x : Topology). x.links) stands.topology) i;
  main = stands.plan.nodes i;
  records = (ap (map (λ (r : Record). r.entries)) stands.records ∙ entries_from 0 t.nodes t.records paired) i;
  carried = (same ∙ stands.rows) i;
}

pub closes_answers : (capacity : ℕ) (old : Option (List ℕ)) (t : Said) (s : Standing) (rows : List (Vec Row Global)) (r : Result Finished ReadFault) → IfSome old (λ text. form_of capacity text ≡ Ok t)
    → Stands capacity t s → map items_of rows ≡ s.rows → Closes capacity s rows r → IfSome old (Answers capacity r)
closes_answers capacity None t s rows r ok stands same closes = tt
closes_answers capacity (Some text) t s rows r ok stands same closes = go r closes
  where
    spells : AreLines capacity t × (text ≡ text_of (said_lines capacity t))
    spells = form_spells capacity text t ok

    paired : length t.records ≡ length t.nodes
    paired = as_long _ t.nodes t.records spells.0.said.records

    told : said_in t.unit (record { run = run_of capacity s.topology s.records rows; plan = s.plan }) ≡ t
    told = said_again capacity t s rows paired stands same

    whole : IsTextOf capacity (record { run = run_of capacity s.topology s.records rows; plan = s.plan }) text
    whole = record {
      capacity_is = refl;
      unit = t.unit;
      timed = subst (λ (u : Said). (k : ℕ) → AllByRecursion (λ x. IsMomentOf t.unit x.at) (slice_index_or u.records k [])) (sym told) (all_timed t.unit t.nodes t.records spells.0.said.records);
      told = spells.1 ∙ ap (λ t. text_of (said_lines capacity t)) (sym told);
      short = subst (λ t. AreShort (said_lines capacity t)) (sym told) (short_of capacity t spells.0);
    }

    go : (r : Result Finished ReadFault) → Closes capacity s rows r → Answers capacity r text
    go (Ok f) h = subst (λ f. IsTextOf capacity f text) (sym h.is) whole
    go (Err Version) h = absurd h
    go (Err (BadLine n)) h = absurd h
    go (Err End) h = absurd h
    go (Err (Disagrees cause)) h = (
      t,
      ok,
      record {
        standing = s;
        stands = stands;
        passes = h.passes;
        receipts = h.told.right (subst (λ rs. IsToldBy rs s.plan) (sym stands.records) (is_told t.main t.records t.nodes s.plan paired stands.plan));
        rows = rows;
        same = same;
        first = h.first;
        refused = h.refused;
      },
    )
    go (Err Read) h = tt
    go (Err NoMemory) h = tt

pub closes_again : (capacity : ℕ) (old : Option (List ℕ)) (t : Said) (s : Standing) (rows : List (Vec Row Global)) (r : Result Finished ReadFault) → capacity < 2 ^ 64
    → IfSome old (λ text. form_of capacity text ≡ Ok t) → Stands capacity t s → map items_of rows ≡ s.rows → Closes capacity s rows r → ReadAgain capacity old r
closes_again capacity None t s rows r small ok stands same closes = tt
closes_again capacity (Some text) t s rows r small ok stands same closes = λ f fin fits is. go f fin fits is r closes
  where
    there : (f : Finished) → IsFinished f → Fits f → (is : IsTextOf capacity f text) → Stands f.run.capacity (said_in is.unit f) s
    there f fin fits is = subst (λ c. Stands c (said_in is.unit f) s) (sym is.capacity_is) (subst (λ t. Stands capacity t s) (same_said capacity text t f small fin fits is ok) stands)

    whole : (f : Finished) → IsFinished f → Fits f → IsTextOf capacity f text → record { run = run_of capacity s.topology s.records rows; plan = s.plan } ≡ f
    whole f fin fits is =
        let run : run_of capacity s.topology s.records rows ≡ f.run = subst (λ c. run_of c s.topology s.records rows ≡ f.run) is.capacity_is (run_again is.unit f fin s (there f fin fits is) rows same) in
        λ i. record { run = run i; plan = plan_again is.unit f fin s (there f fin fits is) i }

    go : (f : Finished) → IsFinished f → Fits f → IsTextOf capacity f text → (r : Result Finished ReadFault) → Closes capacity s rows r → IsReadAs f r
    go f fin fits is (Ok g) h = h.is ∙ whole f fin fits is
    go f fin fits is (Err Version) h = h
    go f fin fits is (Err (BadLine n)) h = h
    go f fin fits is (Err End) h = h
    go f fin fits is (Err (Disagrees cause)) h =
        let answer = closes_answers capacity (Some text) t s rows (Err (Disagrees cause)) ok stands same h in
        not_disagreeing is.unit f fin cause (subst (λ c. Disagreeing c (said_in is.unit f) cause) (sym is.capacity_is)
        (subst (λ t. Disagreeing capacity t cause) (same_said capacity text answer.0 f small fin fits is answer.1) answer.2))
    go f fin fits is (Err Read) h = tt
    go f fin fits is (Err NoMemory) h = tt
