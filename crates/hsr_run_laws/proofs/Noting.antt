-- What a new note tells: of which entry it is, and with what source and number.
use Rattle.std.proofs.Common.{◌≡◌, ℕ, ◌==◌, Bool, true, false, if◌then◌else◌, List, ◌∷◌, length, Option, Some, None, Ok, Err, refl, sym, ap, ◌∙◌, subst, inl, inr}
use Rattle.std.specs.Prelude.{option_map, ◌⊎◌}
use Rattle.hsr_frame.specs.Egress.{Egress, cause_of}
use Rattle.hsr_frame.specs.Grammar.{Fields}
use Rattle.hsr_frame.specs.declared.egress.Exits.{Exits}
use Rattle.hsr_frame.specs.declared.node.Cause.{Cause}
use Rattle.hsr_tag.specs.Tag.{TaggedFields}
use Rattle.hsr_tag.specs.declared.seen.Seen.TheVariants.{Plain, Tagged}
use Rattle.hsr_duptable.specs.Key.{Key}
use Rattle.hsr_forwarding.specs.Arrival.{key_of}
use Rattle.hsr_redbox.specs.Step.{number_of}
use Rattle.hsr_redbox.specs.declared.wanted.Handling.{Handling}
use Rattle.hsr_node.specs.Record.{Owner, Noted, answer, handling, has_left, is_noted, noted_on, judged_as, key_handled, key_in, leaves, next_number, note_if, note_of, now, passing, ports, probe_handled, remembers, station_wanted, box_handling}
use Rattle.hsr_node.specs.declared.entry.Entry.{Entry}
use Rattle.hsr_node.specs.declared.event.Carried.{Carried}
use Rattle.hsr_node.specs.declared.event.Event.{Event}
use Rattle.hsr_node.specs.declared.event.Event.TheVariants.{Send, Supervise, Arrive, Age}
use Rattle.hsr_node.specs.declared.event.Outcome.{Outcome}
use Rattle.hsr_node.specs.declared.event.Outcome.TheVariants.{Judged}
use Rattle.hsr_node.specs.declared.event.Probe.{Probe}
use Rattle.hsr_node.specs.declared.place.Place.{Place}
use Rattle.hsr_node.specs.declared.place.Place.TheVariants.{Danh, RedBox, QuadBox, Station}
use Rattle.hsr_node.specs.Step.{box_port, quad_port, ring_port}
use Rattle.hsr_frame.specs.declared.node.RingPort.{RingPort}
use Rattle.hsr_redbox.specs.declared.call.BoxPort.{BoxPort}
use Rattle.hsr_redbox.specs.declared.call.BoxPort.TheVariants as box
use Rattle.hsr_quadbox.specs.declared.wanted.QuadPort.{QuadPort}
use Rattle.hsr_danh.specs.Wanted as of_danh
use Rattle.hsr_redbox.specs.Wanted.{unnumbered}
use Rattle.hsr_quadbox.specs.Wanted as of_quadbox
use Rattle.hsr_run_laws.proofs.Views.{Came, came, judged, knows_at}

-- what can be said of a note that an entry makes
pub record IsNoteOf (owner : Owner) (e : Egress) (x : Entry) (past : List Entry) (note : Noted) : Type 0 where
  pub noted : is_noted x.outcome e ≡ true
  pub key : key_handled owner.place x.event x.outcome ≡ Some note.key
  pub moment : note.moment ≡ now (x ∷ past)
  pub probe : note.probe ≡ probe_handled (record { node = owner.number; place = length past }) x.event

pub new_note : (owner : Owner) (e : Egress) (x : Entry) (past : List Entry) →
    (note_of owner e x past ≡ None) ⊎ ((note : Noted) × (note_of owner e x past ≡ Some note) × IsNoteOf owner e x past note)
new_note owner e x past = by_parts (is_noted x.outcome e) (key_handled owner.place x.event x.outcome) refl refl
  where
    here : Option Probe
    here = probe_handled (record { node = owner.number; place = length past }) x.event

    by_parts : (noted : Bool) (key : Option Key) → is_noted x.outcome e ≡ noted → key_handled owner.place x.event x.outcome ≡ key →
        (note_if noted key (now (x ∷ past)) here ≡ None) ⊎ ((note : Noted) × (note_if noted key (now (x ∷ past)) here ≡ Some note) × IsNoteOf owner e x past note)
    by_parts noted None n k = inl refl
    by_parts false (Some key) n k = inl refl
    by_parts true (Some key) n k = inr (record { key = key; moment = now (x ∷ past); probe = here }, refl, record { noted = n; key = k; moment = refl; probe = refl })

-- what came with a tag and is noted
pub record CameTagged (capacity : ℕ) (owner : Owner) (past : List Entry) (at port : ℕ) (copy : Carried) (e : Egress) (outcome : Outcome) (key : Key) : Type 0 where
  pub tagged : TaggedFields
  pub is : came copy ≡ Ok (Tagged tagged)
  pub key_is : key ≡ key_of tagged
  pub left : leaves outcome e ≡ true

-- what came plain, got a number and is noted
pub record CameNumbered (port : ℕ) (copy : Carried) (outcome : Outcome) (key : Key) : Type 0 where
  pub frame : Fields
  pub seq : ℕ
  pub up_too : Bool
  pub out_ports : List Bool
  pub cause : Cause
  pub is : came copy ≡ Ok (Plain frame)
  pub key_is : key ≡ record { src = frame.src; seq = seq }
  pub out : outcome ≡ Judged up_too out_ports (Some seq) cause

-- what has a tag gets no number
pub tagged_unnumbered : (place : Place) (known : List ℕ → Bool) (port : ℕ) (t : TaggedFields) (h : Handling) → handling place known port (Ok (Tagged t)) ≡ Some h → h.source ≡ None
tagged_unnumbered (Danh mac mode) known port t h is = by_port (ring_port port) is
  where
    by_port : (o : Option RingPort) → option_map (λ x. unnumbered (of_danh.wanted mac mode x (Ok (Tagged t)))) o ≡ Some h → h.source ≡ None
    by_port None e = absurd cc
    by_port (Some x) e = let same : unnumbered (of_danh.wanted mac mode x (Ok (Tagged t))) ≡ h = cc in sym (ap (λ (g : Handling). g.source) same)
tagged_unnumbered (RedBox mac mode) known port t h is = by_port (box_port port) is
  where
    by_box : (x : BoxPort) → (box_handling mac mode known x (Ok (Tagged t))).source ≡ None
    by_box box.A = refl
    by_box box.B = refl
    by_box box.I = refl

    by_port : (o : Option BoxPort) → option_map (λ x. box_handling mac mode known x (Ok (Tagged t))) o ≡ Some h → h.source ≡ None
    by_port None e = absurd cc
    by_port (Some x) e = let same : box_handling mac mode known x (Ok (Tagged t)) ≡ h = cc in sym (ap (λ (g : Handling). g.source) same) ∙ by_box x
tagged_unnumbered QuadBox known port t h is = by_port (quad_port port) is
  where
    by_port : (o : Option QuadPort) → option_map (λ x. unnumbered (of_quadbox.wanted x (Ok (Tagged t)))) o ≡ Some h → h.source ≡ None
    by_port None e = absurd cc
    by_port (Some x) e = let same : unnumbered (of_quadbox.wanted x (Ok (Tagged t))) ≡ h = cc in sym (ap (λ (g : Handling). g.source) same)
tagged_unnumbered (Station macs) known port t h is = by_port (port == 0) is
  where
    by_port : (o : Bool) → (if o then Some (unnumbered (station_wanted macs.items (Ok (Tagged t)))) else None) ≡ Some h → h.source ≡ None
    by_port true e = let same : unnumbered (station_wanted macs.items (Ok (Tagged t))) ≡ h = cc in sym (ap (λ (g : Handling). g.source) same)
    by_port false e = absurd cc

-- an arrival that is noted came with a tag, or was numbered
pub noted_came : (capacity : ℕ) (owner : Owner) (past : List Entry) (at port : ℕ) (copy : Carried) (outcome : Outcome) (e : Egress) (key : Key) →
    answer capacity owner past at (Arrive port copy) ≡ Ok outcome → is_noted outcome e ≡ true → key_handled owner.place (Arrive port copy) outcome ≡ Some key →
    CameTagged capacity owner past at port copy e outcome key ⊎ CameNumbered port copy outcome key
noted_came capacity owner past at port copy outcome e key ok noted keyed =
    let j = judged capacity owner past at port copy outcome ok in
    let N : Outcome → Type 0 = λ o. is_noted o e ≡ true in
    let K : Outcome → Type 0 = λ o. key_handled owner.place (Arrive port copy) o ≡ Some key in
    by_came (came copy) refl j.h (passing (remembers capacity owner past at) j.h.wants.exits (came copy)) j.is j.out (subst N j.out noted) (subst K j.out keyed)
  where
    Goal : Type 0
    Goal = CameTagged capacity owner past at port copy e outcome key ⊎ CameNumbered port copy outcome key

    plain : (frame : Fields) → came copy ≡ Ok (Plain frame) → (h : Handling) (passes : Exits) (o : Option ℕ) → outcome ≡ Judged passes.up (ports passes) o (cause_of h.wants passes) →
        option_map (λ (n : ℕ). let k : Key = record { src = frame.src; seq = n } in k) o ≡ Some key → Goal
    plain frame is h passes None out keyed = absurd cc
    plain frame is h passes (Some seq) out keyed =
        let k : Key = record { src = frame.src; seq = seq } in
        let same : k ≡ key = cc in
        inr (record { frame = frame; seq = seq; up_too = passes.up; out_ports = ports passes; cause = cause_of h.wants passes; is = is; key_is = sym same; out = out })

    by_came : (seen : Came) → came copy ≡ seen → (h : Handling) (passes : Exits) → handling owner.place (knows_at owner past at port copy) port (came copy) ≡ Some h → outcome ≡ judged_as h passes (next_number past) →
        is_noted (judged_as h passes (next_number past)) e ≡ true → key_in (came copy) (number_of h.source (next_number past)) ≡ Some key → Goal
    by_came (Err fault) is h passes handles out noted keyed =
        let none : key_in (came copy) (number_of h.source (next_number past)) ≡ None = ap (λ s. key_in s (number_of h.source (next_number past))) is in absurd cc
    by_came (Ok (Plain frame)) is h passes handles out noted keyed =
        plain frame is h passes (number_of h.source (next_number past)) out (sym (ap (λ s. key_in s (number_of h.source (next_number past))) is) ∙ keyed)
    by_came (Ok (Tagged t)) is h passes handles out noted keyed =
        let H : Came → Type 0 = λ s. handling owner.place (knows_at owner past at port copy) port s ≡ Some h in
        let none = tagged_unnumbered owner.place (knows_at owner past at port copy) port t h (subst H is handles) in
        let number : number_of h.source (next_number past) ≡ None = ap (λ s. number_of s (next_number past)) none in
        let left : has_left passes.up (ports passes) e ≡ true = sym (ap (λ o. noted_on passes.up (ports passes) o e) number) ∙ noted in
        let same : Some (key_of t) ≡ Some key = sym (ap (λ s. key_in s (number_of h.source (next_number past))) is) ∙ keyed in
        let equal : key_of t ≡ key = cc in
        inl (record { tagged = t; is = is; key_is = sym equal; left = ap (λ o. leaves o e) out ∙ left })

-- a note that is made of what came
pub record NoteCame (capacity : ℕ) (owner : Owner) (e : Egress) (x : Entry) (past : List Entry) (note : Noted) : Type 0 where
  pub port : ℕ
  pub copy : Carried
  pub is : x.event ≡ Arrive port copy
  pub ok : answer capacity owner past (now (x ∷ past)) (Arrive port copy) ≡ Ok x.outcome
  pub probe : note.probe ≡ copy.probe
  pub how : CameTagged capacity owner past (now (x ∷ past)) port copy e x.outcome note.key ⊎ CameNumbered port copy x.outcome note.key

-- what an arrival left is made of it
pub came_with : (capacity : ℕ) (owner : Owner) (e : Egress) (x : Entry) (past : List Entry) (note : Noted) (port : ℕ) (copy : Carried) → answer capacity owner past (now (x ∷ past)) x.event ≡ Ok x.outcome →
    IsNoteOf owner e x past note → x.event ≡ Arrive port copy → NoteCame capacity owner e x past note
came_with capacity owner e x past note port copy ok n is =
    let A : Event → Type 0 = λ ev. answer capacity owner past (now (x ∷ past)) ev ≡ Ok x.outcome in
    let K : Event → Type 0 = λ ev. key_handled owner.place ev x.outcome ≡ Some note.key in
    record {
      port = port;
      copy = copy;
      is = is;
      ok = subst A is ok;
      probe = n.probe ∙ ap (probe_handled (record { node = owner.number; place = length past })) is;
      how = noted_came capacity owner past (now (x ∷ past)) port copy x.outcome e note.key (subst A is ok) n.noted (subst K is n.key);
    }

-- each note is of a send of the node's own, at this entry, or of what came
pub note_from : (capacity : ℕ) (owner : Owner) (e : Egress) (x : Entry) (past : List Entry) (note : Noted) → answer capacity owner past (now (x ∷ past)) x.event ≡ Ok x.outcome →
    IsNoteOf owner e x past note → (note.probe ≡ Some (record { node = owner.number; place = length past })) ⊎ NoteCame capacity owner e x past note
note_from capacity owner e x past note ok n = by_event x.event refl
  where
    here : Probe
    here = record { node = owner.number; place = length past }

    by_event : (event : Event) → x.event ≡ event → (note.probe ≡ Some (record { node = owner.number; place = length past })) ⊎ NoteCame capacity owner e x past note
    by_event (Send from dst vlan ethertype payload) is = inl (n.probe ∙ ap (probe_handled (record { node = owner.number; place = length past })) is)
    by_event (Supervise about) is = inl (n.probe ∙ ap (probe_handled (record { node = owner.number; place = length past })) is)
    by_event Age is = inl (n.probe ∙ ap (probe_handled (record { node = owner.number; place = length past })) is)
    by_event (Arrive port copy) is = inr (came_with capacity owner e x past note port copy ok n is)

-- what came with a tag and leaves is noted
pub tagged_note : (capacity : ℕ) (owner : Owner) (e : Egress) (x : Entry) (past : List Entry) (port : ℕ) (copy : Carried) (t : TaggedFields) → x.event ≡ Arrive port copy →
    answer capacity owner past (now (x ∷ past)) (Arrive port copy) ≡ Ok x.outcome → came copy ≡ Ok (Tagged t) → leaves x.outcome e ≡ true →
    note_of owner e x past ≡ Some (record { key = key_of t; moment = now (x ∷ past); probe = copy.probe })
tagged_note capacity owner e x past port copy t is ok tagged left =
    let j = judged capacity owner past (now (x ∷ past)) port copy x.outcome ok in
    let H : Came → Type 0 = λ s. handling owner.place (knows_at owner past (now (x ∷ past)) port copy) port s ≡ Some j.h in
    let none = tagged_unnumbered owner.place (knows_at owner past (now (x ∷ past)) port copy) port t j.h (subst H tagged j.is) in
    let number : number_of j.h.source (next_number past) ≡ None = ap (λ s. number_of s (next_number past)) none in
    let passes : Exits = passing (remembers capacity owner past (now (x ∷ past))) j.h.wants.exits (came copy) in
    let N : Outcome → Type 0 = λ o. note_if (is_noted o e) (key_handled owner.place x.event o) (now (x ∷ past)) (probe_handled (record { node = owner.number; place = length past }) x.event)
    ≡ Some (record { key = key_of t; moment = now (x ∷ past); probe = copy.probe }) in
    let E : Event → Type 0 = λ ev. note_if (is_noted (judged_as j.h passes (next_number past)) e) (key_handled owner.place ev (judged_as j.h passes (next_number past))) (now (x ∷ past)) (probe_handled (record { node = owner.number; place = length past }) ev)
    ≡ Some (record { key = key_of t; moment = now (x ∷ past); probe = copy.probe }) in
    subst N (sym j.out) (subst E (sym is)
    (given (number_of j.h.source (next_number past)) number passes (ap (λ o. leaves o e) (sym j.out) ∙ left) (came copy) tagged))
  where
    given : (o : Option ℕ) → o ≡ None → (passes : Exits) → has_left passes.up (ports passes) e ≡ true → (seen : Came) → seen ≡ Ok (Tagged t) →
        note_if (noted_on passes.up (ports passes) o e) (key_in seen o) (now (x ∷ past)) copy.probe ≡ Some (record { key = key_of t; moment = now (x ∷ past); probe = copy.probe })
    given o none passes left seen tagged =
        let B : Option ℕ → Type 0 = λ o. note_if (noted_on passes.up (ports passes) o e) (key_in seen o) (now (x ∷ past)) copy.probe ≡ Some (record { key = key_of t; moment = now (x ∷ past); probe = copy.probe }) in
        let C : Came → Type 0 = λ s. note_if (noted_on passes.up (ports passes) None e) (key_in s None) (now (x ∷ past)) copy.probe ≡ Some (record { key = key_of t; moment = now (x ∷ past); probe = copy.probe }) in
        subst B (sym none) (subst C (sym tagged) (ap (λ b. note_if b (Some (key_of t)) (now (x ∷ past)) copy.probe) left))
