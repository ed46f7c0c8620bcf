-- Where nothing needed was forgotten so far, each egress of a node has at most one note of a send.
use Rattle.std.proofs.Common.{◌≡◌, ℕ, ◌≤◌, true, false, not, List, [], ◌∷◌, length, take, count_by, Option, Some, None, Ok, refl, sym, ap, ◌∙◌, subst, arith, ⊎_elim, suc}
use Rattle.std.specs.List.{list_any, AllByRecursion}
use Rattle.std.proofs.lemmas.Bool.{false≢true, cases_Bool, and_parts, not-true}
use Rattle.hsr_frame.specs.Egress.{Egress}
use Rattle.hsr_frame.specs.Grammar.{Fields}
use Rattle.hsr_tag.specs.Tag.{TaggedFields, untag_of}
use Rattle.hsr_tag.specs.declared.seen.Seen.TheVariants.{Tagged}
use Rattle.hsr_duptable.specs.Key.{Key, is_same_key}
use Rattle.hsr_forwarding.specs.Arrival.{key_of}
use Rattle.hsr_redbox.specs.Step.{number_of}
use Rattle.hsr_node.specs.Flow.{wants}
use Rattle.hsr_node.specs.Record.{Each, Noted, Owner, answer, handling, has_key, leaves, next_number, notes, now, remembered, remembers}
use Rattle.hsr_node.specs.declared.entry.Entry.{Entry}
use Rattle.hsr_node.specs.declared.event.Carried.{Carried}
use Rattle.hsr_node.specs.declared.event.Event.{Event}
use Rattle.hsr_node.specs.declared.event.Event.TheVariants.{Arrive}
use Rattle.hsr_node.specs.declared.event.Outcome.{Outcome}
use Rattle.hsr_node.specs.declared.event.Outcome.TheVariants.{Judged}
use Rattle.hsr_node.specs.declared.event.Probe.{Probe}
use Rattle.hsr_run_laws.specs.Closed.{IsOfSend}
use Rattle.hsr_run_laws.specs.Once.{is_copy}
use Rattle.hsr_run_laws.specs.Premises.{NumbersFirst, Remembers, is_note_of}
use Rattle.hsr_run_laws.specs.Run.{Run, is_of, owner_of, past_of, place_of}
use Rattle.hsr_run_laws.proofs.Keys.{HasKey, same_send, send_key}
use Rattle.hsr_run_laws.proofs.Lists.{all_filter, all_take, any_implies, count_more, count_zero, one_if, zero_if}
use Rattle.hsr_run_laws.proofs.Records.{Answered, IsSource, OfArrival, all_notes_more, notes_more}
use Rattle.hsr_run_laws.proofs.Same.{key_same, probe_is}
use Rattle.hsr_run_laws.proofs.Views.{came, judged, knows_at, leaves_tagged, wants_at}
use Rattle.hsr_run_laws.proofs.Noting.{CameNumbered, CameTagged, IsNoteOf, NoteCame, note_from}
use Rattle.hsr_run_laws.proofs.Wanted.{own_not_numbered, own_unwanted, source_of, wanted_on_ring}

-- an arrival of a send that is noted doesn't go there again
pub not_again : (capacity : ℕ) (owner : Owner) (past : List Entry) (at port : ℕ) (copy : Carried) (outcome : Outcome) (t : TaggedFields) (e : Egress) (send : Probe) (key : Key) →
    answer capacity owner past at (Arrive port copy) ≡ Ok outcome → came copy ≡ Ok (Tagged t) → key_of t ≡ key → Remembers capacity owner past at (Arrive port copy) → is_copy send copy ≡ true →
    AllByRecursion (HasKey send key) (notes owner e past) → list_any (is_note_of (Some send)) (notes owner e past) ≡ true → leaves outcome e ≡ true → ⊥
not_again capacity owner past at port copy outcome t e send key ok tagged key_is remembers mine keys before left =
    let parts = and_parts (wants_at owner past at port copy e) (not (Rattle.hsr_node.specs.Record.remembers capacity owner past at (key_of t) e)) (sym (leaves_tagged capacity owner past at port copy outcome t e ok tagged) ∙ left) in
    let W : Rattle.hsr_run_laws.proofs.Views.Came → Type 0 = λ s. wants owner.place (knows_at owner past at port copy) port s e ≡ true in
    let ring = wanted_on_ring owner.place (knows_at owner past at port copy) port t e (subst W tagged parts.0) in
    let is = probe_is send copy.probe mine in
    let P : Option Probe → Type 0 = λ o. list_any (is_note_of o) (notes owner e past) ≡ true in
    let Q : Option Probe → Type 0 = λ o. list_any (is_note_of o) (remembered capacity at (notes owner e past)) ≡ true in
    let still = subst Q is (remembers ring e parts.0 (subst P (sym is) before)) in
    let kept = all_filter (HasKey send key) (λ n. Rattle.std.specs.Prelude.nat_lt (Rattle.std.specs.Prelude.◌-◌ at n.moment) 400000) (take capacity (notes owner e past)) (all_take (HasKey send key) capacity (notes owner e past) keys) in
    let known : has_key (key_of t) (remembered capacity at (notes owner e past)) ≡ true =
    any_implies (is_note_of (Some send)) (λ n. is_same_key n.key (key_of t)) (remembered capacity at (notes owner e past)) (same_keys (remembered capacity at (notes owner e past)) kept) still in
    false≢true (sym (not-true _ parts.1) ∙ known)
  where
    same_keys : (ns : List Noted) → AllByRecursion (HasKey send key) ns → AllByRecursion (λ n. is_note_of (Some send) n ≡ true → is_same_key n.key (key_of t) ≡ true) ns
    same_keys [] all = tt
    same_keys (n ∷ ns) all = (λ mine. key_same n.key (key_of t) (all.0 mine ∙ sym key_is), same_keys ns all.1)

-- a send of the node's own isn't taken up again, nor numbered
pub own_source : (run : Run) (k : ℕ) (send : Probe) (copy : Carried) (o : IsOfSend run copy) → is_copy send copy ≡ true → send.node ≡ k → IsSource (place_of run k) o.sending.frame.src
own_source run k send copy o mine own =
    let node = ap (λ (p : Probe). p.node) (same_send run send copy o mine) ∙ own in
    let P : ℕ → Type 0 = λ j. IsSource (place_of run j) o.sending.frame.src in
    subst P node (source_of (place_of run o.send.node) o.send.place (past_of run o.send.node) o.sending o.is_send.1)

-- the claim for one send: at most one note, and of an own send none before it is sent
pub record IsNotedOnce (run : Run) (k : ℕ) (send : Probe) (e : Egress) (h : List Entry) : Type 0 where
  pub once : count_by (is_note_of (Some send)) (notes (owner_of run k) e h) ≤ 1
  pub not_yet : send.node ≡ k → length h ≤ send.place → count_by (is_note_of (Some send)) (notes (owner_of run k) e h) ≡ 0
  pub keys : (send.node ≡ k → ⊥) → AllByRecursion (HasKey send (send_key run send).key) (notes (owner_of run k) e h)

pub noted_once : (run : Run) (k : ℕ) (send : Probe) (e : Egress) (h : List Entry) → Each (Answered run.capacity (owner_of run k)) h → Each (λ x past. OfArrival (IsOfSend run) x.event) h →
    Each (λ x past. NumbersFirst run (owner_of run k) past x.event x.outcome) h → Each (λ x past. Remembers run.capacity (owner_of run k) past (now (x ∷ past)) x.event) h → IsNotedOnce run k send e h
noted_once run k send e [] legal of_send first rem = record { once = omega arith; not_yet = λ a b. refl; keys = λ other. tt }
noted_once run k send e (x ∷ past) legal of_send first rem =
    let rest = noted_once run k send e past legal.1 of_send.1 first.1 rem.1 in
    let both = notes_more More (owner_of run k) e x past (λ note n. counted note n rest)
    (rest.once, λ own h. rest.not_yet own (omega arith)) in
    record {
      once = both.0;
      not_yet = both.1;
      keys = λ other. all_notes_more (HasKey send (send_key run send).key) (owner_of run k) e x past (λ note n mine. keyed other note n mine) (rest.keys other);
    }
  where
    More : List Noted → Type 0
    More ns = (count_by (is_note_of (Some send)) ns ≤ 1) × (send.node ≡ k → suc (length past) ≤ send.place → count_by (is_note_of (Some send)) ns ≡ 0)

    is_here : (note : Noted) → note.probe ≡ Some (record { node = k; place = length past }) → is_note_of (Some send) note ≡ true → send ≡ record { node = k; place = length past }
    is_here note same mine = let there = probe_is send note.probe mine in let both : Some send ≡ Some (record { node = k; place = length past }) = sym there ∙ same in cc

    -- what a copy that is noted brings
    mine_too : (note : Noted) (c : NoteCame run.capacity (owner_of run k) e x past note) → is_note_of (Some send) note ≡ true → is_copy send c.copy ≡ true
    mine_too note c mine = let P : Option Probe → Type 0 = λ o. is_of send o ≡ true in subst P c.probe mine

    sent_by : (note : Noted) (c : NoteCame run.capacity (owner_of run k) e x past note) → IsOfSend run c.copy
    sent_by note c = let P : Event → Type 0 = OfArrival (IsOfSend run) in subst P c.is of_send.0

    numbers : (note : Noted) (c : NoteCame run.capacity (owner_of run k) e x past note) (n : CameNumbered c.port c.copy x.outcome note.key) →
        NumbersFirst run (owner_of run k) past (Arrive c.port c.copy) (Judged n.up_too n.out_ports (Some n.seq) n.cause)
    numbers note c n =
        let P : Event → Type 0 = λ ev. NumbersFirst run (owner_of run k) past ev x.outcome in
        let Q : Outcome → Type 0 = λ o. NumbersFirst run (owner_of run k) past (Arrive c.port c.copy) o in
        subst Q n.out (subst P c.is first.0)

    key_of_note : (note : Noted) (c : NoteCame run.capacity (owner_of run k) e x past note) → is_note_of (Some send) note ≡ true → note.key ≡ (send_key run send).key
    key_of_note note c mine =
        let o = sent_by note c in
        let of_it = mine_too note c mine in
        ⊎_elim
        (λ t. t.key_is ∙ (send_key run send).kept c.copy o of_it t.tagged t.is)
        (λ n. n.key_is ∙ (send_key run send).given c.copy o of_it n.frame n.seq n.is ((numbers note c n send (probe_is send c.copy.probe of_it)).0))
        c.how

    keyed : (send.node ≡ k → ⊥) → (note : Noted) → IsNoteOf (owner_of run k) e x past note → is_note_of (Some send) note ≡ true → note.key ≡ (send_key run send).key
    keyed other note n mine =
        ⊎_elim (λ own. absurd (other (ap (λ (p : Probe). p.node) (is_here note own mine)))) (λ c. key_of_note note c mine) (note_from run.capacity (owner_of run k) e x past note legal.0 n)

    -- an arrival that is noted is of another node's send
    foreign : (note : Noted) (c : NoteCame run.capacity (owner_of run k) e x past note) → is_note_of (Some send) note ≡ true → send.node ≡ k → ⊥
    foreign note c mine own =
        let o = sent_by note c in
        let src = own_source run k send c.copy o (mine_too note c mine) own in
        ⊎_elim (λ t. tagged o src t) (λ n. plain o src n) c.how
      where
        S : List ℕ → Type 0
        S src = IsSource (place_of run k) src

        tagged : (o : IsOfSend run c.copy) → IsSource (place_of run k) o.sending.frame.src → CameTagged run.capacity (owner_of run k) past (now (x ∷ past)) c.port c.copy e x.outcome note.key → ⊥
        tagged o src t =
            let f : Some (untag_of t.tagged) ≡ Some o.sending.frame = sym (ap Rattle.hsr_node.specs.Copies.plain_in t.is) ∙ o.frame in
            let same : untag_of t.tagged ≡ o.sending.frame = cc in
            let wanted = Rattle.hsr_run_laws.proofs.Views.leaves_wanted run.capacity (owner_of run k) past (now (x ∷ past)) c.port c.copy x.outcome e c.ok t.left in
            let W : Rattle.hsr_run_laws.proofs.Views.Came → Type 0 = λ s. wants (place_of run k) (knows_at (owner_of run k) past (now (x ∷ past)) c.port c.copy) c.port s e ≡ true in
            let not_wanted = own_unwanted (place_of run k) (knows_at (owner_of run k) past (now (x ∷ past)) c.port c.copy) c.port t.tagged e (subst S (ap (λ (g : Fields). g.src) (sym same)) src) in
            false≢true (sym not_wanted ∙ subst W t.is wanted)

        plain : (o : IsOfSend run c.copy) → IsSource (place_of run k) o.sending.frame.src → CameNumbered c.port c.copy x.outcome note.key → ⊥
        plain o src n =
            let f : Some n.frame ≡ Some o.sending.frame = sym (ap Rattle.hsr_node.specs.Copies.plain_in n.is) ∙ o.frame in
            let same : n.frame ≡ o.sending.frame = cc in
            let j = judged run.capacity (owner_of run k) past (now (x ∷ past)) c.port c.copy x.outcome c.ok in
            let H : Rattle.hsr_run_laws.proofs.Views.Came → Type 0 = λ s. handling (place_of run k) (knows_at (owner_of run k) past (now (x ∷ past)) c.port c.copy) c.port s ≡ Some j.h in
            let none = own_not_numbered (place_of run k) (knows_at (owner_of run k) past (now (x ∷ past)) c.port c.copy) c.port n.frame j.h (subst S (ap (λ (g : Fields). g.src) (sym same)) src) (subst H n.is j.is) in
            let number : number_of j.h.source (next_number past) ≡ Some n.seq = let a = n.out in let b = j.out in cc in
            let empty : number_of j.h.source (next_number past) ≡ None = ap (λ s. number_of s (next_number past)) none in
            cc

    -- and the first of it that is noted
    came_first : (note : Noted) (c : NoteCame run.capacity (owner_of run k) e x past note) → is_note_of (Some send) note ≡ true → IsNotedOnce run k send e past → list_any (is_note_of (Some send)) (notes (owner_of run k) e past) ≡ false
    came_first note c mine rest =
        let of_it = mine_too note c mine in
        let P : Option Probe → Type 0 = λ o. list_any (is_note_of o) (notes (owner_of run k) e past) ≡ false in
        let R : Event → Type 0 = λ ev. Remembers run.capacity (owner_of run k) past (now (x ∷ past)) ev in
        ⊎_elim
        (λ t. ⊎_elim
        (λ some. absurd (not_again run.capacity (owner_of run k) past (now (x ∷ past)) c.port c.copy x.outcome t.tagged e send (send_key run send).key c.ok t.is
        ((send_key run send).kept c.copy (sent_by note c) of_it t.tagged t.is) (subst R c.is rem.0) of_it (rest.keys (foreign note c mine)) some t.left))
        (λ none. none) (cases_Bool (list_any (is_note_of (Some send)) (notes (owner_of run k) e past))))
        (λ n. let is = probe_is send c.copy.probe of_it in subst P is ((numbers note c n send is).1 e))
        c.how

    counted : (note : Noted) → IsNoteOf (owner_of run k) e x past note → IsNotedOnce run k send e past → More (note ∷ notes (owner_of run k) e past)
    counted note n rest =
        let more = count_more (is_note_of (Some send)) note (notes (owner_of run k) e past) in
        ⊎_elim
        (λ mine.
        let one = one_if (is_note_of (Some send) note) mine in
        ⊎_elim
        (λ own.
        let is = is_here note own mine in
        let place : send.place ≡ length past = ap (λ (p : Probe). p.place) is in
        let none = rest.not_yet (ap (λ (p : Probe). p.node) is) (omega (arith, place)) in
        (omega arith, λ here h. absurd (omega (arith, place, h))))
        (λ c.
        let none = count_zero (is_note_of (Some send)) (notes (owner_of run k) e past) (came_first note c mine rest) in
        (omega arith, λ own h. absurd (foreign note c mine own)))
        (note_from run.capacity (owner_of run k) e x past note legal.0 n))
        (λ other.
        let zero = zero_if (is_note_of (Some send) note) other in
        let once = rest.once in
        (omega arith, λ own h. let none = rest.not_yet own (omega arith) in omega arith))
        (cases_Bool (is_note_of (Some send) note))
