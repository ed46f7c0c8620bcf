-- The text of a finished run is in form, and says what the run is.
use Rattle.std.proofs.Common.{◌≡◌, ℕ, ◌<◌, ◌≤◌, ◌^◌, suc, List, [], ◌∷◌, ◌∙◌, length, Ok, refl, sym, ap, subst, map, slice_index_or, codes, arith, Option}
use Rattle.std.specs.List.{All, AllByRecursion}
use Rattle.std.specs.Fmt.{decimal}
use Rattle.hsr_text.specs.Moments.{IsMomentOf}
use Rattle.hsr_text.specs.declared.time_unit.TimeUnit.{TimeUnit}
use Rattle.hsr_node.specs.declared.entry.Entry.{Entry}
use Rattle.hsr_node.specs.declared.place.Place.{Place}
use Rattle.hsr_node.specs.declared.place.Place.TheVariants.{QuadBox}
use Rattle.hsr_run_laws.proofs.Lists.{all_implied}
use Rattle.hsr_finished_run.specs.Finished.{Finished, IsFinished}
use Rattle.hsr_topology.specs.Wired.{HasAddresses, IsJoin}
use Rattle.hsr_topology.specs.declared.end.End.{End}
use Rattle.hsr_finished_run.specs.declared.planned.Planned.{Planned}
use Rattle.hsr_transcript_lines.proofs.Again.{IsFinishedRow}
use Rattle.hsr_transcript.specs.Answers.{AreShort, IsTextOf, IsTimed}
use Rattle.hsr_transcript.specs.Fits.{AreEntriesFit, AreRowsFit, Fits}
use Rattle.hsr_transcript_lines.specs.Fits.{IsEntryFit, IsPlaceFit}
use Rattle.hsr_transcript.specs.Form.{form_of}
use Rattle.hsr_transcript_lines.specs.Parsed.{entry_of, link_of, place_of, row_of, turn_of}
use Rattle.hsr_transcript.specs.Readable.{FitEach}
use Rattle.hsr_transcript_lines.specs.Readable.{IsSpelled, Lacks}
use Rattle.hsr_transcript_lines.proofs.Roles.{IsEntryOf}
use Rattle.hsr_transcript_lines.specs.Spelled.{entry_text, link_text, place_text, row_text}
use Rattle.hsr_transcript.specs.Transcript.{run_text_in, said_in, said_lines}
use Rattle.hsr_transcript.proofs.OfFinished.{entries_of_role, rows_finished}
use Rattle.hsr_transcript_lines.proofs.Entries.{entry_spelled}
use Rattle.hsr_transcript.proofs.Shorts.{AreSpelled, IsSpelledSection, are_lines}
use Rattle.hsr_transcript_lines.proofs.Spells.{count_spelled, decimal_lacks, fixed_spelled, link_spelled, place_spelled, row_spelled, turn_spelled, version_spelled}
use Rattle.hsr_transcript.proofs.Texts.{form_again}

-- ---- all of a list

all_two : {A : Type 0} (P Q R : A → Type 0) → ((x : A) → P x → Q x → R x) → (xs : List A) → AllByRecursion P xs → AllByRecursion Q xs → AllByRecursion R xs
all_two P Q R on [] p q = tt
all_two P Q R on (x ∷ xs) p q = (on x p.0 q.0, all_two P Q R on xs p.1 q.1)

-- each of a list beside each of another, place by place
each_at : {X Y : Type 0} (F : X → Y → Type 0) (dx : X) (dy : Y) (xs : List X) (ys : List Y) → length ys ≡ length xs
    → ((k : ℕ) → k < length xs → F (slice_index_or xs k dx) (slice_index_or ys k dy)) → FitEach F xs ys
each_at F dx dy [] [] e h = tt
each_at F dx dy [] (y ∷ ys) e h = absurd (omega (arith, e))
each_at F dx dy (x ∷ xs) [] e h = absurd (omega (arith, e))
each_at F dx dy (x ∷ xs) (y ∷ ys) e h = (h 0 (omega arith), each_at F dx dy xs ys (omega (arith, e)) (λ k below. h (suc k) (omega (arith, below))))

abbrev IsName : List ℕ → Type 0
IsName name = Lacks 32 name × Lacks 10 name

-- ---- nodes and links

place_all : (places : List Place) → AllByRecursion IsPlaceFit places → All HasAddresses places → AllByRecursion (IsSpelled place_of place_text) places
place_all [] fit has = tt
place_all (place ∷ places) fit has = (place_spelled place fit.0 (has 0 place (omega arith)), place_all places fit.1 (λ k d below. has (suc k) d (omega (arith, below))))

link_all : (places : List Place) (links : List (List End)) → length places ≤ 64 → All (IsJoin places) links → AllByRecursion (IsSpelled (link_of places) (link_text places)) links
link_all places [] few joined = tt
link_all places (ends ∷ links) few joined =
    (link_spelled places ends few (joined 0 ends (omega arith)), link_all places links few (λ k d below. joined (suc k) d (omega (arith, below))))

-- ---- the order of the main worker

turn_all : (most : ℕ) (plan : List Planned) → most < 2 ^ 64 → ((i : ℕ) (d : Planned) → i < length plan → (slice_index_or plan i d).node < most)
    → AllByRecursion (IsSpelled turn_of decimal) (map (λ p. p.node) plan)
turn_all most [] few below = tt
turn_all most (p ∷ plan) few below =
    let here : p.node < most = below 0 p (omega arith) in
    (turn_spelled p.node (omega (arith, here, few)), turn_all most plan few (λ i d h. below (suc i) d (omega (arith, h))))

length_map : {A B : Type 0} (f : A → B) (xs : List A) → length (map f xs) ≡ length xs
length_map f [] = refl
length_map f (x ∷ xs) = ap suc (length_map f xs)

-- ---- all lines

section_of : {Y : Type 0} (name : List ℕ) (of : List ℕ → Option Y) (spelled : Y → List ℕ) (ys : List Y) → IsName name → length ys < 2 ^ 64 → AllByRecursion (IsSpelled of spelled) ys → IsSpelledSection name of spelled ys
section_of name of spelled ys is few all = record { count = count_spelled name (length ys) is.0 is.1 few; lines = all }

small : (n : ℕ) → n ≤ 128 → n < 2 ^ 64
small n h = omega (arith, h)

record_section : (unit : TimeUnit) (f : Finished) → IsFinished f → Fits f → IsTimed unit f → (k : ℕ) → k < length f.run.places
    → IsSpelledSection (codes "record") (entry_of unit (slice_index_or f.run.places k QuadBox)) (entry_text unit (slice_index_or f.run.places k QuadBox)) (slice_index_or f.run.records k [])
record_section unit f fin fits timed k below =
    let fit : AreEntriesFit (slice_index_or f.run.records k []) = fits.records k below in
    let place = slice_index_or f.run.places k QuadBox in
    section_of (codes "record") (entry_of unit place) (entry_text unit place) (slice_index_or f.run.records k []) ((refl, (refl, (refl, (refl, (refl, (refl, tt)))))), (refl, (refl, (refl, (refl, (refl, (refl, tt))))))) fit.0
    (all_two (λ (x : Entry). IsEntryFit x × IsEntryOf place x) (λ (x : Entry). IsMomentOf unit x.at) (IsSpelled (entry_of unit place) (entry_text unit place)) (λ x both whole. entry_spelled unit place x both.0 both.1 whole) _
    (all_two IsEntryFit (IsEntryOf place) (λ (x : Entry). IsEntryFit x × IsEntryOf place x) (λ x a b. (a, b)) _ fit.1 (entries_of_role f fin k below)) (timed k))

carried_section : (f : Finished) → IsFinished f → Fits f → (l : ℕ) → l < length f.run.links → IsSpelledSection (codes "carried") row_of row_text (slice_index_or f.run.rows l [])
carried_section f fin fits l below =
    let fit : AreRowsFit (slice_index_or f.run.rows l []) = fits.rows l below in
    section_of (codes "carried") row_of row_text (slice_index_or f.run.rows l []) ((refl, (refl, (refl, (refl, (refl, (refl, (refl, tt))))))), (refl, (refl, (refl, (refl, (refl, (refl, (refl, tt)))))))) fit.0
    (all_implied IsFinishedRow (IsSpelled row_of row_text) row_spelled _ (rows_finished f fin fits l below))

-- the lines of a finished run are read again, each by itself
spelled : (unit : TimeUnit) (f : Finished) → IsFinished f → Fits f → IsTimed unit f → f.run.capacity < 2 ^ 64 → AreSpelled f.run.capacity (said_in unit f)
spelled unit f fin fits timed small_capacity =
    let wired = fin.wired in
    let closed = fin.closed in
    record {
      version = version_spelled unit;
      table = fixed_spelled _ (refl, (refl, (refl, (refl, (refl, (refl, decimal_lacks f.run.capacity small_capacity))))));
      nodes = section_of _ _ _ _ ((refl, (refl, (refl, (refl, (refl, tt))))), (refl, (refl, (refl, (refl, (refl, tt)))))) (omega (arith, wired.few_places)) (place_all f.run.places fits.places wired.stations);
      links = section_of _ _ _ _ ((refl, (refl, (refl, (refl, (refl, tt))))), (refl, (refl, (refl, (refl, (refl, tt)))))) (omega (arith, wired.few_links)) (link_all f.run.places f.run.links wired.few_places wired.joined);
      main = section_of _ _ _ _ ((refl, (refl, (refl, (refl, tt)))), (refl, (refl, (refl, (refl, tt))))) (rw (length_map (λ p. p.node) f.plan) fits.plan) (turn_all (length f.run.places) f.plan (omega (arith, wired.few_places)) fin.planned.nodes);
      records = each_at _ QuadBox [] f.run.places f.run.records closed.records (record_section unit f fin fits timed);
      carried = each_at (λ _. IsSpelledSection (codes "carried") row_of row_text) [] [] f.run.links f.run.rows closed.rows (carried_section f fin fits);
      last = fixed_spelled _ (refl, (refl, (refl, tt)));
    }

-- and so is the text, where no line is too long
pub text_again : (capacity : ℕ) (text : List ℕ) (f : Finished) → capacity < 2 ^ 64 → IsFinished f → Fits f → (is : IsTextOf capacity f text) → form_of capacity text ≡ Ok (said_in is.unit f)
text_again capacity text f small_capacity fin fits is =
    let lines = spelled is.unit f fin fits is.timed (subst (λ n. n < 2 ^ 64) (sym is.capacity_is) small_capacity) in
    ap (form_of capacity) is.told
    ∙ subst (λ n. form_of n (run_text_in is.unit f) ≡ Ok (said_in is.unit f)) is.capacity_is
    (form_again f.run.capacity (said_in is.unit f) (are_lines f.run.capacity (said_in is.unit f) lines (subst (λ n. AreShort (said_lines n (said_in is.unit f))) (sym is.capacity_is) is.short)))
