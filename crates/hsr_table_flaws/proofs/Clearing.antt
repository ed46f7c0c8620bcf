-- In a closed run of a network whose nodes are plain nothing is forgotten, mistaken or numbered late.
use Rattle.std.proofs.Common.{◌≡◌, ℕ, ◌<◌, Bool, true, false, not, ◌&&◌, List, [], ◌∷◌, length, Some, None, Ok, refl, sym, ap, ◌∙◌}
use Rattle.std.specs.List.{list_any}
use Rattle.std.proofs.lemmas.Bool.{false≢true, false_from_ne_true}
use Rattle.hsr_frame.specs.Egress.{Egress, up, a, b, c, d}
use Rattle.hsr_duptable.specs.Key.{is_same_key}
use Rattle.hsr_forwarding.specs.Arrival.{key_of}
use Rattle.hsr_node.specs.Record.{Each, Owner, answer, is_noted, key_in, leaves, notes, now, probe_handled, remembered, remembers}
use Rattle.hsr_node.specs.declared.entry.Entry.{Entry}
use Rattle.hsr_node.specs.declared.event.Event.{Event}
use Rattle.hsr_node.specs.declared.event.Event.TheVariants.{Send, Supervise, Arrive, Age}
use Rattle.hsr_node.specs.declared.event.Outcome.{Outcome}
use Rattle.hsr_node.specs.declared.event.Outcome.TheVariants.{Sent, Life, Judged, Aged}
use Rattle.hsr_run_laws.specs.Closed.{IsClosed}
use Rattle.hsr_run_laws.specs.Premises.{KnowsOwn, NothingMistaken, NumberedFirst, Remembers, is_note_of}
use Rattle.hsr_run_laws.specs.Run.{Run, owner_of, past_of}
use Rattle.hsr_run_laws.proofs.Lists.{any_other}
use Rattle.hsr_run_laws.proofs.Records.{Answered, legal_each}
use Rattle.hsr_run_laws.proofs.Views.{came, judged, knows_at, leaves_tagged, wants_at}
use Rattle.hsr_network_laws.specs.Late.{NothingLate}
use Rattle.hsr_network_laws.specs.Network.{IsNetwork}
use Rattle.hsr_network_laws.proofs.Late.{late_decides}
use Rattle.hsr_network_laws.proofs.Sides.{any_port_there, on_ring_no_edge}
use Rattle.hsr_network_laws.proofs.Unwanted.{ring_tagged}
use Rattle.hsr_number_laws.proofs.Counted.{counted_tells}
use Rattle.hsr_table_flaws.specs.Clear.{IsClear, IsNew, IsPlain}

-- what left is noted
left_noted : (outcome : Outcome) (e : Egress) → leaves outcome e ≡ true → is_noted outcome e ≡ true
left_noted (Sent seq ports) e h = h
left_noted (Life seq life ports) e h = h
left_noted (Judged up_too ports None cause) e h = h
left_noted (Judged up_too ports (Some seq) cause) up h = h
left_noted (Judged up_too ports (Some seq) cause) a h = h
left_noted (Judged up_too ports (Some seq) cause) b h = h
left_noted (Judged up_too ports (Some seq) cause) c h = refl
left_noted (Judged up_too ports (Some seq) cause) d h = h
left_noted Aged e h = absurd (false≢true h)

-- what is wanted and doesn't leave is remembered
held : (left wanted is_held : Bool) → left ≡ (wanted && not is_held) → left ≡ false → wanted ≡ true → is_held ≡ true
held left true true e stays want = refl
held left true false e stays want = absurd (false≢true (sym stays ∙ e))
held left false is_held e stays want = absurd (false≢true want)

-- What was noted before and is wanted again doesn't leave again, so its source and number are remembered; and since no number is
-- mistaken, they are remembered of its send.
each_remembers : (capacity : ℕ) (owner : Owner) (h : List Entry) → Each (Answered capacity owner) h → Each (IsNew owner) h → Each (λ x past. KnowsOwn capacity owner past (now (x ∷ past)) x.event) h →
    Each (λ x past. Remembers capacity owner past (now (x ∷ past)) x.event) h
each_remembers capacity owner [] ok new own = tt
each_remembers capacity owner (x ∷ past) ok new own = (by_event x.event ok.0 new.0 own.0, each_remembers capacity owner past ok.1 new.1 own.1)
  where
    by_event : (event : Event) → answer capacity owner past (now (x ∷ past)) event ≡ Ok x.outcome →
        ((e : Egress) → is_noted x.outcome e ≡ true → list_any (is_note_of (probe_handled (record { node = owner.number; place = length past }) event)) (notes owner e past) ≡ false) →
        KnowsOwn capacity owner past (now (x ∷ past)) event → Remembers capacity owner past (now (x ∷ past)) event
    by_event (Send from dst vlan ethertype payload) answered is_new knows_own = tt
    by_event (Supervise about) answered is_new knows_own = tt
    by_event Age answered is_new knows_own = tt
    by_event (Arrive port copy) answered is_new knows_own = λ on_ring e wanted some.
        let at : ℕ = now (x ∷ past) in
        let j = judged capacity owner past at port copy x.outcome answered in
        let there = any_port_there owner.place (knows_at owner past at port copy) port (came copy) j.h j.is in
        let t = ring_tagged owner.place (knows_at owner past at port copy) port (came copy) e there (on_ring_no_edge owner.place port there on_ring) wanted in
        let stays : leaves x.outcome e ≡ false = false_from_ne_true (leaves x.outcome e) (λ left. false≢true (sym (is_new e (left_noted x.outcome e left)) ∙ some)) in
        let is_held : remembers capacity owner past at (key_of t.0) e ≡ true =
        held (leaves x.outcome e) (wants_at owner past at port copy e) (remembers capacity owner past at (key_of t.0) e)
        (leaves_tagged capacity owner past at port copy x.outcome t.0 e answered t.1) stays wanted in
        any_other (λ n. is_same_key n.key (key_of t.0)) (is_note_of copy.probe) (remembered capacity at (notes owner e past)) is_held
        (knows_own on_ring e wanted (key_of t.0) (ap (λ s. key_in s None) t.1))

pub clear : (run : Run) → IsClosed run → IsNetwork run → ((k : ℕ) → k < length run.places → IsPlain run k) → IsClear run
clear run closed net plain = record {
  forgotten = λ k below.
      each_remembers run.capacity (owner_of run k) (past_of run k) (legal_each run.capacity (owner_of run k) (past_of run k) (closed.legal k below)) (plain k below).once (mistaken k below);
  mistaken = mistaken;
  late = late;
}
  where
    late : NothingLate run
    late k below = (plain k below).in_time

    first : NumberedFirst run
    first = (late_decides run closed net).first late

    mistaken : NothingMistaken run
    mistaken = counted_tells run closed net first (λ k below. (plain k below).few)
