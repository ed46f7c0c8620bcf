-- What an earlier release wrote of a run in milliseconds is a text of that run in microseconds.
use Rattle.std.proofs.Common.{◌≡◌, ℕ, ◌*◌, ◌%◌, ◌<◌, ◌^◌, List, [], ◌∷◌, ◌++◌, map, codes, Option, Some, None, Result, IfSome, refl, ap, ap₂, sym, ◌∙◌, subst, add-zero, zero-lt-suc, mul-div_cancel}
use Rattle.std.proofs.lemmas.List.{length-map}
use Rattle.std.proofs.lemmas.Nat.{mod-mul-add}
use Rattle.std.specs.List.{AllByRecursion}
use Rattle.std.specs.Fmt.{decimal}
use Rattle.hsr_text.specs.Moments.{IsMomentOf}
use Rattle.hsr_text.specs.declared.time_unit.TimeUnit.TheVariants.{Milliseconds, Microseconds}
use Rattle.hsr_node.specs.Units.{LegalFromMilliseconds, entry_in_unit, in_milliseconds, in_unit}
use Rattle.hsr_node.specs.declared.entry.Entry.{Entry}
use Rattle.hsr_node.specs.declared.place.Place.{Place}
use Rattle.hsr_run_laws.specs.Run.{record_of}
use Rattle.hsr_finished_run.specs.Finished.{Finished, IsFinished}
use Rattle.hsr_finished_run.specs.declared.planned.Planned.{Planned}
use Rattle.hsr_transcript_lines.specs.Fits.{IsEntryFit}
use Rattle.hsr_transcript_lines.specs.Lines.{head, lines_by, lines_each, one, section, text_of}
use Rattle.hsr_transcript_lines.specs.Spelled.{entry_text, event_text, link_text, outcome_text, place_text, spaced, version_text}
use Rattle.hsr_transcript.specs.Fits.{AreEntriesFit, Fits}
use Rattle.hsr_transcript.specs.Transcript.{carried_lines, record_lines, said_front, said_in, said_lines}
use Rattle.hsr_transcript.specs.declared.fault.ReadFault.{ReadFault}
use Rattle.hsr_transcript.specs.Answers.{AreShort, IsReadAs, IsTextOf, IsTimed}
use Rattle.hsr_transcript.specs.Earlier.{IsEarlier, IsEarlierText, IsInRange, earlier_lines, in_microseconds, planned_in_unit}
use Rattle.hsr_transcript.proofs.Answered.{ReadAgain}
use Rattle.hsr_transcript.proofs.InFinerUnit.{closed_finer, planned_finer, record_scaled}

-- ---- runs

pub finished_now : LegalFromMilliseconds → (f : Finished) → IsEarlier f → IsFinished (in_microseconds f)
finished_now legal f earlier = record {
  wired = earlier.wired;
  closed = closed_finer 1000 in_milliseconds (λ capacity owner past. (legal capacity owner past).1) f.run earlier.closed;
  planned = planned_finer 1000 f.run f.plan earlier.planned;
}

entries_fit : (entries : List Entry) → AllByRecursion IsEntryFit entries → AllByRecursion (λ (x : Entry). x.at * 1000 < 2 ^ 64) entries → AllByRecursion IsEntryFit (in_unit 1000 entries)
entries_fit [] fit small = tt
entries_fit (x ∷ entries) fit small =
    (record { worker = fit.0.worker; at = small.0; event = fit.0.event; outcome = fit.0.outcome }, entries_fit entries fit.1 small.1)

record_fit : (entries : List Entry) → AreEntriesFit entries → AllByRecursion (λ (x : Entry). x.at * 1000 < 2 ^ 64) entries → AreEntriesFit (in_unit 1000 entries)
record_fit entries fit small = (subst (λ n. n < 2 ^ 64) (sym (length-map entries (entry_in_unit 1000))) fit.0, entries_fit entries fit.1 small)

pub fits_now : (f : Finished) → Fits f → IsInRange f → Fits (in_microseconds f)
fits_now f fits small = record {
  places = fits.places;
  plan = subst (λ n. n < 2 ^ 64) (sym (length-map f.plan (planned_in_unit 1000))) fits.plan;
  records = λ k below. subst AreEntriesFit (sym (record_scaled 1000 f.run.records k)) (record_fit (record_of f.run k) (fits.records k below) (small k));
  rows = fits.rows;
}

-- ---- moments

entries_whole : (entries : List Entry) → AllByRecursion (λ (x : Entry). IsMomentOf Milliseconds x.at) (in_unit 1000 entries)
entries_whole [] = tt
entries_whole (x ∷ entries) = (ap (λ n. n % 1000) (sym (add-zero (x.at * 1000))) ∙ mod-mul-add x.at 1000 0 (zero-lt-suc 999), entries_whole entries)

timed : (f : Finished) → IsTimed Milliseconds (in_microseconds f)
timed f k = subst (AllByRecursion (λ (x : Entry). IsMomentOf Milliseconds x.at)) (sym (record_scaled 1000 f.run.records k)) (entries_whole (record_of f.run k))

-- ---- lines

section_same : {Y : Type 0} (name : List ℕ) (f : Y → Y) (now before : Y → List ℕ) → ((y : Y) → now (f y) ≡ before y) → (ys : List Y) → section name now (map f ys) ≡ section name before ys
unfolding section
section_same {Y} name f now before same ys = ap₂ (λ n lines. head name n ∷ lines) (length-map ys f) (lines_same ys)
  where
    lines_same : (ys : List Y) → lines_by (one now) (map f ys) ≡ lines_by (one before) ys
    lines_same [] = refl
    lines_same (y ∷ ys) = ap₂ (λ line lines. line ∷ lines) (same y) (lines_same ys)

-- the moment stands there as it is
entry_same : (place : Place) (x : Entry) → entry_text Milliseconds place (entry_in_unit 1000 x) ≡ entry_text Microseconds place x
unfolding entry_text
entry_same place x =
    ap (λ at. spaced (decimal x.worker) (decimal at ∷ event_text place x.event ∷ codes "=" ∷ outcome_text place x.outcome ∷ [])) (mul-div_cancel x.at (zero-lt-suc 999))

records_same : (places : List Place) (records : List (List Entry)) → lines_each (record_lines Milliseconds) places (map (in_unit 1000) records) ≡ lines_each (record_lines Microseconds) places records
records_same [] records = refl
records_same (place ∷ places) [] = refl
records_same (place ∷ places) (entries ∷ records) =
    ap₂ (λ lines more. lines ++ more)
    (section_same (codes "record") (entry_in_unit 1000) (entry_text Milliseconds place) (entry_text Microseconds place) (entry_same place) entries)
    (records_same places records)

main_same : (plan : List Planned) → map (λ (p : Planned). p.node) (map (planned_in_unit 1000) plan) ≡ map (λ (p : Planned). p.node) plan
main_same [] = refl
main_same (p ∷ plan) = ap (λ nodes. p.node ∷ nodes) (main_same plan)

lines_now : (f : Finished) → said_lines f.run.capacity (said_in Milliseconds (in_microseconds f)) ≡ earlier_lines f
unfolding said_lines said_front
lines_now f =
    ap₂ (λ main records. version_text Milliseconds ∷ head (codes "table") f.run.capacity
    ∷ ((section (codes "nodes") place_text f.run.places ++ (section (codes "links") (link_text f.run.places) f.run.links ++ section (codes "main") decimal main))
    ++ (records ++ (lines_each (λ _. carried_lines) f.run.links f.run.rows ++ codes "end" ∷ []))))
    (main_same f.plan) (records_same f.run.places f.run.records)

-- ---- texts

pub text_now : (capacity : ℕ) (f : Finished) (text : List ℕ) → IsEarlierText capacity f text → IsTextOf capacity (in_microseconds f) text
text_now capacity f text is = record {
  capacity_is = is.capacity_is;
  unit = Milliseconds;
  timed = timed f;
  told = is.told ∙ ap text_of (sym (lines_now f));
  short = subst (λ n. AreShort (said_lines n (said_in Milliseconds (in_microseconds f)))) is.capacity_is (subst AreShort (sym (lines_now f)) is.short);
}

-- what is answered to the text of a run is answered to these
pub earlier_again : (capacity : ℕ) (old : Option (List ℕ)) (result : Result Finished ReadFault) → ((f : Finished) → IsEarlier f → IsFinished (in_microseconds f))
    → ReadAgain capacity old result → IfSome old (λ text. (f : Finished) → IsEarlierText capacity f text → IsReadAs (in_microseconds f) result)
earlier_again capacity None result finished again = tt
earlier_again capacity (Some text) result finished again = λ f is.
    again (in_microseconds f) (finished f is.earlier) (fits_now f is.fits is.in_range) (text_now capacity f text is)
