-- The line of an entry is read as that entry.
use Rattle.std.proofs.Common.{◌≡◌, ℕ, ◌^◌, Option, None, Some, List, [], ◌∷◌, ◌++◌, ap, refl, subst, arith, true}
use Rattle.std.specs.Prelude.{codes}
use Rattle.std.specs.Fmt.{decimal}
use Rattle.hsr_text.specs.Moments.{IsMomentOf, moment_of, whole_units}
use Rattle.hsr_text.specs.Words.{◌>>=◌, cut, word_at}
use Rattle.hsr_text.specs.declared.time_unit.TimeUnit.{TimeUnit}
use Rattle.hsr_node.specs.declared.entry.Entry.{Entry}
use Rattle.hsr_node.specs.declared.event.Event.{Event}
use Rattle.hsr_node.specs.declared.event.Outcome.{Outcome}
use Rattle.hsr_node.specs.declared.place.Place.{Place}
use Rattle.hsr_transcript_lines.specs.Fits.{IsEntryFit}
use Rattle.hsr_transcript_lines.specs.Parsed.{below, entry_of, read_entry, read_event, read_outcome}
use Rattle.hsr_transcript_lines.specs.Readable.{IsSpelled, Lacks}
use Rattle.hsr_transcript_lines.proofs.Roles.{IsEntryOf}
use Rattle.hsr_transcript_lines.specs.Spelled.{entry_text, event_text, outcome_text, spaced}
use Rattle.hsr_transcript_lines.proofs.Again.{checked_was, exactly_again}
use Rattle.hsr_transcript_lines.proofs.CutWords.{lacks_more}
use Rattle.hsr_transcript_lines.proofs.Events.{cut_first, event_again, event_line}
use Rattle.hsr_transcript_lines.proofs.Moments.{moment_again, told_fits, whole_read}
use Rattle.hsr_transcript_lines.proofs.Outcomes.{outcome_again, outcome_line}
use Rattle.hsr_transcript_lines.proofs.WordTexts.{is_word, line_more, word_decimal}
use Rattle.hsr_transcript_lines.proofs.Worded.{below_again}

entry_words : (unit : TimeUnit) (place : Place) (a b e o : List ℕ) (worker at : ℕ) (event : Event) (outcome : Outcome)
    → is_word a ≡ true → is_word b ≡ true → below (2 ^ 16) a ≡ Some worker → moment_of unit b ≡ Some at
    → read_event place (Some (e ++ 32 ∷ (codes "=" ++ 32 ∷ o))) ≡ Some (event, Some (codes "=" ++ 32 ∷ o))
    → read_outcome place (Some o) ≡ Some outcome
    → read_entry unit place (spaced a (b ∷ e ∷ codes "=" ∷ o ∷ [])) ≡ Some (record { worker = worker; at = at; event = event; outcome = outcome })
unfolding read_entry
entry_words unit place a b e o worker at event outcome wa wb who when what so =
    rw (cut_first a (spaced b (e ∷ codes "=" ∷ o ∷ [])) wa, who, cut_first b (spaced e (codes "=" ∷ o ∷ [])) wb, when, what, so) refl

entry_again : (unit : TimeUnit) (place : Place) (x : Entry) → IsEntryFit x → IsEntryOf place x → IsMomentOf unit x.at → read_entry unit place (entry_text unit place x) ≡ Some x
unfolding entry_text
entry_again unit place x f h whole =
    entry_words unit place (decimal x.worker) (decimal (whole_units unit x.at)) (event_text place x.event) (outcome_text place x.outcome) x.worker x.at x.event x.outcome
    (word_decimal x.worker (let l = f.worker in omega arith)) (word_decimal (whole_units unit x.at) (told_fits unit x.at f.at))
    (below_again (2 ^ 16) x.worker f.worker (let l = f.worker in omega arith)) (moment_again unit x.at f.at whole)
    (event_again place x.event (codes "=" ++ 32 ∷ outcome_text place x.outcome) f.event h.event)
    (outcome_again place x.outcome f.outcome h.outcome)

entry_line : (unit : TimeUnit) (place : Place) (x : Entry) → IsEntryFit x → IsEntryOf place x → Lacks 10 (entry_text unit place x)
unfolding entry_text
entry_line unit place x f h =
    line_more (decimal x.worker) _ (word_decimal x.worker (let l = f.worker in omega arith))
    (line_more (decimal (whole_units unit x.at)) _ (word_decimal (whole_units unit x.at) (told_fits unit x.at f.at))
    (lacks_more 10 (event_text place x.event) _ (event_line place x.event f.event h.event)
    (refl, line_more (codes "=") _ refl (outcome_line place x.outcome f.outcome))))

pub entry_spelled : (unit : TimeUnit) (place : Place) (x : Entry) → IsEntryFit x → IsEntryOf place x → IsMomentOf unit x.at
    → IsSpelled (entry_of unit place) (entry_text unit place) x
unfolding entry_of
entry_spelled unit place x f h whole = record {
  read = exactly_again (entry_text unit place) (read_entry unit place) x (entry_again unit place x f h whole);
  line = entry_line unit place x f h;
}

-- ---- the moment of an entry that was read is one of the unit

from_outcome : (worker at : ℕ) (event : Event) (o : Option Outcome) (x : Entry)
    → (o >>= λ outcome. Some (record { worker = worker; at = at; event = event; outcome = outcome })) ≡ Some x → at ≡ x.at
from_outcome worker at event None x e = absurd (cc)
from_outcome worker at event (Some outcome) x e =
    let is : record { worker = worker; at = at; event = event; outcome = outcome } ≡ x = cc in ap (λ (y : Entry). y.at) is

from_equals : (place : Place) (worker at : ℕ) (event : Event) (o : Option (List ℕ × Option (List ℕ))) (x : Entry)
    → (o >>= λ equals. read_outcome place equals.1 >>= λ outcome. Some (record { worker = worker; at = at; event = event; outcome = outcome })) ≡ Some x → at ≡ x.at
from_equals place worker at event None x e = absurd (cc)
from_equals place worker at event (Some equals) x e = from_outcome worker at event (read_outcome place equals.1) x e

from_event : (place : Place) (worker at : ℕ) (o : Option (Event × Option (List ℕ))) (x : Entry)
    → (o >>= λ event. word_at event.1 >>= λ equals. read_outcome place equals.1
    >>= λ outcome. Some (record { worker = worker; at = at; event = event.0; outcome = outcome })) ≡ Some x → at ≡ x.at
from_event place worker at None x e = absurd (cc)
from_event place worker at (Some event) x e = from_equals place worker at event.0 (word_at event.1) x e

from_second : (unit : TimeUnit) (place : Place) (worker : ℕ) (second : List ℕ × Option (List ℕ)) (o : Option ℕ) (x : Entry) → moment_of unit second.0 ≡ o
    → (o >>= λ at. read_event place second.1 >>= λ event. word_at event.1 >>= λ equals. read_outcome place equals.1
    >>= λ outcome. Some (record { worker = worker; at = at; event = event.0; outcome = outcome })) ≡ Some x → IsMomentOf unit x.at
from_second unit place worker second None x h e = absurd (cc)
from_second unit place worker second (Some at) x h e =
    subst (IsMomentOf unit) (from_event place worker at (read_event place second.1) x e) (whole_read unit second.0 at h)

from_worker : (unit : TimeUnit) (place : Place) (o : Option ℕ) (rest : Option (List ℕ × Option (List ℕ))) (x : Entry)
    → (o >>= λ worker. rest >>= λ second. moment_of unit second.0 >>= λ at. read_event place second.1 >>= λ event. word_at event.1 >>= λ equals. read_outcome place equals.1
    >>= λ outcome. Some (record { worker = worker; at = at; event = event.0; outcome = outcome })) ≡ Some x → IsMomentOf unit x.at
from_worker unit place None rest x e = absurd (cc)
from_worker unit place (Some worker) None x e = absurd (cc)
from_worker unit place (Some worker) (Some second) x e = from_second unit place worker second (moment_of unit second.0) x refl e

read_timed : (unit : TimeUnit) (place : Place) (line : List ℕ) (x : Entry) → read_entry unit place line ≡ Some x → IsMomentOf unit x.at
unfolding read_entry
read_timed unit place line x e = from_worker unit place (below (2 ^ 16) (cut 32 line).0) (word_at (cut 32 line).1) x e

pub entry_timed : (unit : TimeUnit) (place : Place) (line : List ℕ) (x : Entry) → entry_of unit place line ≡ Some x → IsMomentOf unit x.at
unfolding entry_of
entry_timed unit place line x e = read_timed unit place line x (checked_was (entry_text unit place) line (read_entry unit place line) x e)
