-- Facts on any node's record: of each entry, of each note and of each send.
use Rattle.std.proofs.Common.{◌≡◌, ℕ, ◌<◌, ◌==◌, Bool, true, false, if◌then◌else◌, List, [], ◌∷◌, length, take, Option, Some, None, Ok, refl, sym, ap, ◌∙◌, subst, arith, ⊎_elim, eq-eqb, ne_eqb}
use Rattle.std.specs.Prelude.{slice_get, nat_lt, ◌-◌, ◌||◌, length}
use Rattle.std.specs.List.{list_any, AllByRecursion, cons_option}
use Rattle.std.proofs.lemmas.Bool.{cond-true, cond-false}
use Rattle.hsr_frame.specs.Address.{is_group}
use Rattle.hsr_frame.specs.Egress.{Egress}
use Rattle.hsr_frame.specs.Grammar.{Fields}
use Rattle.hsr_node.specs.Copies.{asked_frame, frame_of}
use Rattle.hsr_node.specs.Flow.{arrivals, copy_at, send_at, sending_of, sent_by}
use Rattle.hsr_node.specs.declared.sending.Sending.{Sending}
use Rattle.hsr_node.specs.Record.{Each, IsLegal, Noted, Owner, answer, notes, now, remembered}
use Rattle.hsr_node.specs.declared.entry.Entry.{Entry}
use Rattle.hsr_node.specs.declared.event.Carried.{Carried}
use Rattle.hsr_node.specs.declared.event.Event.{Event}
use Rattle.hsr_node.specs.declared.event.Event.TheVariants.{Send, Supervise, Arrive, Age}
use Rattle.hsr_node.specs.declared.place.Place.{Place}
use Rattle.hsr_node.specs.declared.place.Place.TheVariants.{Danh, RedBox, QuadBox, Station}
use Rattle.hsr_run_laws.proofs.Lists.{any_filter, any_take}
use Rattle.hsr_run_laws.proofs.Noting.{IsNoteOf, new_note}

-- P of what an arrival brings
abbrev pub OfArrival : (Carried → Type 0) → Event → Type 0
OfArrival P (Arrive port copy) = P copy
OfArrival P (Send from dst vlan ethertype payload) = Unit {0}
OfArrival P (Supervise about) = Unit {0}
OfArrival P Age = Unit {0}

-- each entry of a legal record is what its past answers
abbrev pub Answered : ℕ → Owner → Entry → List Entry → Type 0
Answered capacity owner x past = answer capacity owner past (now (x ∷ past)) x.event ≡ Ok x.outcome

pub legal_each : (capacity : ℕ) (owner : Owner) (h : List Entry) → IsLegal capacity owner h → Each (Answered capacity owner) h
unfolding IsLegal
legal_each capacity owner h legal = legal

pub each_so : (P Q : Entry → List Entry → Type 0) (h : List Entry) → ((x : Entry) (past : List Entry) → P x past → Q x past) → Each P h → Each Q h
each_so P Q [] so all = tt
each_so P Q (x ∷ past) so all = (so x past all.0, each_so P Q past so all.1)

-- what all arrivals by each port have all arrivals have
pub each_from_ports : (P : Carried → Type 0) (h : List Entry) → ((port : ℕ) → AllByRecursion P (arrivals port h)) → Each (λ x past. OfArrival P x.event) h
each_from_ports P [] all = tt
each_from_ports P (x ∷ past) all = (step x.event all, each_from_ports P past (λ port. rest port (copy_at port x.event) (all port)))
  where
    rest : (port : ℕ) (o : Option Carried) → AllByRecursion P (cons_option o (arrivals port past)) → AllByRecursion P (arrivals port past)
    rest port None h = h
    rest port (Some c) h = h.1

    step : (event : Event) → ((port : ℕ) → AllByRecursion P (cons_option (copy_at port event) (arrivals port past))) → OfArrival P event
    step (Send from dst vlan ethertype payload) all = tt
    step (Supervise about) all = tt
    step Age all = tt
    step (Arrive number copy) all =
        let Q : Bool → Type 0 = λ b. AllByRecursion P (cons_option (if b then Some copy else None) (arrivals number past)) in
        (subst Q (eq-eqb number number refl) (all number)).0

-- ---- notes

-- P of each note, by what is new
pub all_notes_more : (P : Noted → Type 0) (owner : Owner) (e : Egress) (x : Entry) (past : List Entry) → ((note : Noted) → IsNoteOf owner e x past note → P note) →
    AllByRecursion P (notes owner e past) → AllByRecursion P (notes owner e (x ∷ past))
all_notes_more P owner e x past one rest =
    let Q : Option Noted → Type 0 = λ o. AllByRecursion P (cons_option o (notes owner e past)) in
    ⊎_elim (λ none. subst Q (sym none) rest) (λ some. subst Q (sym some.1) (one some.0 some.2, rest)) (new_note owner e x past)

-- what holds whether a note is new or not holds
pub notes_more : (P : List Noted → Type 0) (owner : Owner) (e : Egress) (x : Entry) (past : List Entry) → ((note : Noted) → IsNoteOf owner e x past note → P (note ∷ notes owner e past)) →
    P (notes owner e past) → P (notes owner e (x ∷ past))
notes_more P owner e x past one rest =
    let Q : Option Noted → Type 0 = λ o. P (cons_option o (notes owner e past)) in
    ⊎_elim (λ none. subst Q (sym none) rest) (λ some. subst Q (sym some.1) (one some.0 some.2)) (new_note owner e x past)

pub any_remembered : (capacity at : ℕ) (ns : List Noted) (p : Noted → Bool) → list_any p (remembered capacity at ns) ≡ true → list_any p ns ≡ true
any_remembered capacity at ns p h = any_take p capacity ns (any_filter p (λ n. nat_lt (at - n.moment) 400000) (take capacity ns) h)

-- ---- sends

-- the send at the place of each entry is what the entry sends
abbrev pub IsAtPlace : Place → List Entry → Entry → List Entry → Type 0
IsAtPlace place whole x past = send_at place (length past) whole ≡ sent_by place x.event x.outcome

pub each_at_place : (place : Place) (whole h : List Entry) → ((n : ℕ) → n < length h → send_at place n whole ≡ send_at place n h) → Each (IsAtPlace place whole) h
each_at_place place whole [] agree = tt
each_at_place place whole (x ∷ past) agree =
    let is = eq-eqb (length past) (length past) refl in (
      agree (length past) (omega arith) ∙ cond-true (length past == length past) _ _ is,
      each_at_place place whole past (λ n below. agree n (omega arith) ∙ cond-false (n == length past) _ _ (ne_eqb n (length past) (λ e. omega arith))),
    )

pub all_at_place : (place : Place) (h : List Entry) → Each (IsAtPlace place h) h
all_at_place place h = each_at_place place h h (λ n below. refl)

-- ---- what a send is

-- a frame that is asked for is the frame with these fields
pub same_frame : (f g : Fields) → frame_of f ≡ Some g → f ≡ g
same_frame f g h = by_test (is_group f.src || (f.kind == 0x892F) || (f.kind == 0x8100) || nat_lt 1500 (length f.rest)) h
  where
    by_test : (b : Bool) → (if b then None else Some f) ≡ Some g → f ≡ g
    by_test true h = absurd cc
    by_test false h = cc

-- the source of what is sent is one of the node's own addresses
abbrev pub IsSource : Place → List ℕ → Type 0
IsSource (Danh mac mode) src = src ≡ mac
IsSource (RedBox mac mode) src = src ≡ mac
IsSource QuadBox src = ⊥
IsSource (Station macs) src = (from : ℕ) × (slice_get macs.items from ≡ Some src)

pub asked_source : (address : Option (List ℕ)) (dst : List ℕ) (vlan : Option ℕ) (ethertype : ℕ) (payload : List ℕ) (f : Fields) → asked_frame address dst vlan ethertype payload ≡ Some f →
    (address ≡ Some f.src) × (f.dst ≡ dst)
asked_source None dst vlan ethertype payload f h = absurd cc
asked_source (Some src) dst vlan ethertype payload f h =
    let same = same_frame (record { dst = dst; src = src; vlan = vlan; kind = ethertype; rest = payload }) f h in
    (ap (λ (g : Fields). Some g.src) same, ap (λ (g : Fields). g.dst) (sym same))

pub sending_frame : (seq : Option ℕ) (frame : Option Fields) (s : Sending) → sending_of seq frame ≡ Some s → (frame ≡ Some s.frame) × (s.seq ≡ seq)
sending_frame seq None s h = absurd cc
sending_frame seq (Some f) s h =
    let t : Sending = record { frame = f; seq = seq } in
    let same : t ≡ s = cc in
    (ap (λ (u : Sending). Some u.frame) same, ap (λ (u : Sending). u.seq) (sym same))
