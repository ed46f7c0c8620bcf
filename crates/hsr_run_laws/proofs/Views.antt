-- What an answer tells, so that nobody else has to look into it.
use Rattle.std.proofs.Common.{◌≡◌, ℕ, ◌^◌, ◌==◌, Bool, true, false, not, ◌&&◌, if◌then◌else◌, List, Option, Some, None, Result, Ok, Err, refl, sym, ap, ◌∙◌}
use Rattle.std.proofs.lemmas.Bool.{and_parts}
use Rattle.hsr_frame.specs.Egress.{Egress, up, a, b, c, d, has_exit}
use Rattle.hsr_frame.specs.declared.egress.Exits.{Exits}
use Rattle.hsr_frame.specs.declared.fault.FrameFault.{FrameFault}
use Rattle.hsr_tag.specs.Seen.{classified}
use Rattle.hsr_tag.specs.Tag.{TaggedFields}
use Rattle.hsr_tag.specs.declared.seen.Seen.{Seen}
use Rattle.hsr_tag.specs.declared.seen.Seen.TheVariants.{Plain, Tagged}
use Rattle.hsr_duptable.specs.Key.{Key}
use Rattle.hsr_forwarding.specs.Arrival.{key_of}
use Rattle.hsr_redbox.specs.declared.wanted.Handling.{Handling}
use Rattle.hsr_node.specs.Flow.{wants, wanted_at}
use Rattle.hsr_node.specs.Record.{Owner, answer, arrive_answer, handling, judged_as, knows, leaves, next_number, passing, remembers, steps}
use Rattle.hsr_node.specs.declared.entry.Entry.{Entry}
use Rattle.hsr_node.specs.declared.event.Carried.{Carried}
use Rattle.hsr_node.specs.declared.event.Event.TheVariants.{Arrive}
use Rattle.hsr_node.specs.declared.event.Outcome.{Outcome}
use Rattle.hsr_node.specs.declared.event.StepFault.TheVariants.{Spent}

-- what came
abbrev pub Came : Type 0
Came = Result Seen FrameFault

abbrev pub came : Carried → Came
came copy = classified copy.octets

-- the addresses that are known when a copy is judged
abbrev pub knows_at : Owner → List Entry → ℕ → ℕ → Carried → List ℕ → Bool
knows_at owner past at port copy = knows owner.place past at (Arrive port copy)

abbrev pub wants_at : Owner → List Entry → ℕ → ℕ → Carried → Egress → Bool
wants_at owner past at port copy e = wants owner.place (knows_at owner past at port copy) port (came copy) e

-- an arrival that was accepted was judged so
pub record IsJudged (capacity : ℕ) (owner : Owner) (past : List Entry) (at port : ℕ) (copy : Carried) (outcome : Outcome) : Type 0 where
  pub h : Handling
  pub is : handling owner.place (knows_at owner past at port copy) port (came copy) ≡ Some h
  pub out : outcome ≡ judged_as h (passing (remembers capacity owner past at) h.wants.exits (came copy)) (next_number past)

pub judged : (capacity : ℕ) (owner : Owner) (past : List Entry) (at port : ℕ) (copy : Carried) (outcome : Outcome) →
    answer capacity owner past at (Arrive port copy) ≡ Ok outcome → IsJudged capacity owner past at port copy outcome
judged capacity owner past at port copy outcome ok = by_handling (handling owner.place (knows_at owner past at port copy) port (came copy)) refl ok
  where
    spent_or : (s : Bool) (h : Handling) → (if s then Err Spent else Ok (judged_as h (passing (remembers capacity owner past at) h.wants.exits (came copy)) (next_number past))) ≡ Ok outcome →
        outcome ≡ judged_as h (passing (remembers capacity owner past at) h.wants.exits (came copy)) (next_number past)
    spent_or true h e = absurd cc
    spent_or false h e = cc

    by_handling : (o : Option Handling) → handling owner.place (knows_at owner past at port copy) port (came copy) ≡ o → arrive_answer capacity owner past at o (came copy) ≡ Ok outcome → IsJudged capacity owner past at port copy outcome
    by_handling None e ok = absurd cc
    by_handling (Some h) e ok = record { h = h; is = e; out = spent_or (steps past == 2 ^ 62) h ok }

-- a judged frame leaves where it passes
pub leaves-judged : (h : Handling) (passes : Exits) (next : ℕ) (e : Egress) → leaves (judged_as h passes next) e ≡ has_exit passes e
leaves-judged h passes next up = refl
leaves-judged h passes next a = refl
leaves-judged h passes next b = refl
leaves-judged h passes next c = refl
leaves-judged h passes next d = refl

passing-tagged : (held : Key → Egress → Bool) (exits : Exits) (t : TaggedFields) (e : Egress) → has_exit (passing held exits (Ok (Tagged t))) e ≡ (has_exit exits e && not (held (key_of t) e))
passing-tagged held exits t up = refl
passing-tagged held exits t a = refl
passing-tagged held exits t b = refl
passing-tagged held exits t c = refl
passing-tagged held exits t d = refl

pub passing-wanted : (held : Key → Egress → Bool) (exits : Exits) (seen : Came) (e : Egress) → has_exit (passing held exits seen) e ≡ true → has_exit exits e ≡ true
passing-wanted held exits (Err fault) e h = h
passing-wanted held exits (Ok (Plain frame)) e h = h
passing-wanted held exits (Ok (Tagged t)) e h = (and_parts (has_exit exits e) _ (sym (passing-tagged held exits t e) ∙ h)).0

-- a tagged frame leaves where it is wanted and not remembered
pub leaves_tagged : (capacity : ℕ) (owner : Owner) (past : List Entry) (at port : ℕ) (copy : Carried) (outcome : Outcome) (t : TaggedFields) (e : Egress) →
    answer capacity owner past at (Arrive port copy) ≡ Ok outcome → came copy ≡ Ok (Tagged t) →
    leaves outcome e ≡ (wants_at owner past at port copy e && not (remembers capacity owner past at (key_of t) e))
leaves_tagged capacity owner past at port copy outcome t e ok is =
    let j = judged capacity owner past at port copy outcome ok in
    let held = remembers capacity owner past at in
    ap (λ o. leaves o e) j.out ∙ leaves-judged j.h (passing (remembers capacity owner past at) j.h.wants.exits (came copy)) (next_number past) e
    ∙ ap (λ s. has_exit (passing (remembers capacity owner past at) j.h.wants.exits s) e) is ∙ passing-tagged (remembers capacity owner past at) j.h.wants.exits t e
    ∙ ap (λ o. wanted_at o e && not (remembers capacity owner past at (key_of t) e)) (sym j.is)

-- whatever leaves is wanted there
pub leaves_wanted : (capacity : ℕ) (owner : Owner) (past : List Entry) (at port : ℕ) (copy : Carried) (outcome : Outcome) (e : Egress) →
    answer capacity owner past at (Arrive port copy) ≡ Ok outcome → leaves outcome e ≡ true → wants_at owner past at port copy e ≡ true
leaves_wanted capacity owner past at port copy outcome e ok left =
    let j = judged capacity owner past at port copy outcome ok in
    let passes : has_exit (passing (remembers capacity owner past at) j.h.wants.exits (came copy)) e ≡ true =
    sym (leaves-judged j.h (passing (remembers capacity owner past at) j.h.wants.exits (came copy)) (next_number past) e) ∙ (ap (λ o. leaves o e) (sym j.out) ∙ left) in
    ap (λ o. wanted_at o e) j.is ∙ passing-wanted (remembers capacity owner past at) j.h.wants.exits (came copy) e passes
