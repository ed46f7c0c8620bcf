-- Where nothing that is needed was forgotten so far, no more than one copy of a send leaves by a port: a law over one record. (The proofs of
-- copies that came and of own ones stand in hsr_run_laws too, where they aren't open to others.)
use Rattle.std.proofs.Common.{◌≡◌, ◌⊎◌, ℕ, ◌+◌, ◌≤◌, true, false, List, [], ◌∷◌, length, count_by, Option, Some, None, sym, ap, ◌∙◌, subst, arith, inl, inr, ⊎_elim, suc, refl}
use Rattle.std.specs.List.{cons_option}
use Rattle.std.proofs.lemmas.Bool.{cases_Bool, cases_eq, false≢true}
use Rattle.hsr_node.specs.Copies.{ports_of}
use Rattle.hsr_node.specs.Flow.{pass_of, passes}
use Rattle.hsr_node.specs.Record.{Each, Noted, Owner, has_port, note_of, notes}
use Rattle.hsr_node.specs.declared.entry.Entry.{Entry}
use Rattle.hsr_node.specs.declared.event.Carried.{Carried}
use Rattle.hsr_node.specs.declared.event.Event.{Event}
use Rattle.hsr_node.specs.declared.event.Probe.{Probe}
use Rattle.hsr_run_laws.specs.Closed.{IsOfSend}
use Rattle.hsr_run_laws.specs.Once.{is_copy}
use Rattle.hsr_run_laws.specs.Premises.{is_note_of}
use Rattle.hsr_run_laws.specs.Run.{Run, is_of, owner_of}
use Rattle.hsr_run_laws.proofs.Lists.{count_more, one_if, zero_if}
use Rattle.hsr_run_laws.proofs.NoStorm.{IsPassOf, LeavesAt, PassCame, PortOf, came_leaves, new_pass, none, one, pass_from, port_of}
use Rattle.hsr_run_laws.proofs.NotedOnce.{noted_once, own_source}
use Rattle.hsr_run_laws.proofs.PortLaws.{not_own, port_noted}
use Rattle.hsr_run_laws.proofs.Records.{Answered, OfArrival, legal_each}
use Rattle.hsr_run_laws.proofs.Same.{probe_is}
use Rattle.hsr_record_laws.proofs.Rivals.{each_of_arrival}
use Rattle.hsr_record_laws.specs.Leaves.{LeavesOnce}
use Rattle.hsr_record_laws.specs.Rivals.{IsRecordOf, RemembersEach}

-- ---- of another node's send no more copies leave by a port than are noted there

abbrev noted_at : Owner → Probe → PortOf → List Entry → ℕ
noted_at owner send none h = 0
noted_at owner send (one e) h = count_by (is_note_of (Some send)) (notes owner e h)

more_noted : (owner : Owner) (send : Probe) (w : PortOf) (x : Entry) (past : List Entry) → noted_at owner send w past ≤ noted_at owner send w (x ∷ past)
more_noted owner send none x past = omega arith
more_noted owner send (one e) x past = by_note (note_of owner e x past)
  where
    by_note : (o : Option Noted) → count_by (is_note_of (Some send)) (notes owner e past) ≤ count_by (is_note_of (Some send)) (cons_option o (notes owner e past))
    by_note None = omega arith
    by_note (Some note) = let more = count_more (is_note_of (Some send)) note (notes owner e past) in omega arith

one_noted : (capacity : ℕ) (owner : Owner) (send : Probe) (n : ℕ) (w : PortOf) (x : Entry) (past : List Entry) (copy : Carried) (p : PassCame capacity owner x past copy) → LeavesAt w n x.outcome →
    has_port (ports_of x.outcome) n ≡ true → is_copy send copy ≡ true → noted_at owner send w (x ∷ past) ≡ 1 + noted_at owner send w past
one_noted capacity owner send n none x past copy p at left mine = absurd (false≢true (sym at ∙ left))
one_noted capacity owner send n (one e) x past copy p at left mine =
    let note = port_noted capacity owner e at.0 x past p.port p.come p.is p.ok (sym at.1 ∙ left) in
    let Q : Option Noted → Type 0 = λ o. count_by (is_note_of (Some send)) (cons_option o (notes owner e past)) ≡ 1 + count_by (is_note_of (Some send)) (notes owner e past) in
    let P : Option Probe → Type 0 = λ o. is_of send o ≡ true in
    let it : is_note_of (Some send) note.0 ≡ true = subst P (p.probe ∙ sym note.2) mine in
    let more = count_more (is_note_of (Some send)) note.0 (notes owner e past) in
    let one_more = one_if (is_note_of (Some send) note.0) it in
    subst Q (sym note.1) (omega arith)

passes_noted : (capacity : ℕ) (owner : Owner) (send : Probe) (n : ℕ) (h : List Entry) → (send.node ≡ owner.number → ⊥) → Each (Answered capacity owner) h →
    count_by (is_copy send) (passes owner n h) ≤ noted_at owner send (port_of n) h
passes_noted capacity owner send n [] other legal = omega arith
passes_noted capacity owner send n (x ∷ past) other legal = step (new_pass owner n x past) (passes_noted capacity owner send n past other legal.1)
  where
    step : ((pass_of owner n x past ≡ None) ⊎ ((copy : Carried) × (pass_of owner n x past ≡ Some copy) × IsPassOf owner n x past copy)) →
        count_by (is_copy send) (passes owner n past) ≤ noted_at owner send (port_of n) past → count_by (is_copy send) (passes owner n (x ∷ past)) ≤ noted_at owner send (port_of n) (x ∷ past)
    step (inl nothing) rest =
        let Q : Option Carried → Type 0 = λ o. count_by (is_copy send) (cons_option o (passes owner n past)) ≤ noted_at owner send (port_of n) (x ∷ past) in
        let more = more_noted owner send (port_of n) x past in
        subst Q (sym nothing) (omega arith)
    step (inr (copy, is, p)) rest =
        let Q : Option Carried → Type 0 = λ o. count_by (is_copy send) (cons_option o (passes owner n past)) ≤ noted_at owner send (port_of n) (x ∷ past) in
        let counted = count_more (is_copy send) copy (passes owner n past) in
        subst Q (sym is)
        (⊎_elim
        (λ mine.
        let one_more = one_if (is_copy send copy) mine in
        ⊎_elim
        (λ own.
        let there = probe_is send copy.probe mine in
        let here : Some send ≡ Some (record { node = owner.number; place = length past }) = sym there ∙ own in
        let same : send ≡ record { node = owner.number; place = length past } = cc in
        absurd (other (ap (λ (q : Probe). q.node) same)))
        (λ came.
        let noted = one_noted capacity owner send n (port_of n) x past copy came (came_leaves capacity owner n x past copy came) p.left mine in
        omega arith)
        (pass_from capacity owner n x past copy legal.0 p))
        (λ other_send.
        let zero_more = zero_if (is_copy send copy) other_send in
        let more = more_noted owner send (port_of n) x past in
        omega arith)
        (cases_Bool (is_copy send copy)))

-- ---- of an own send at most one copy leaves by a port, and none before it is sent

record OwnOnce (run : Run) (k n : ℕ) (send : Probe) (h : List Entry) : Type 0 where
  once : count_by (is_copy send) (passes (owner_of run k) n h) ≤ 1
  not_yet : length h ≤ send.place → count_by (is_copy send) (passes (owner_of run k) n h) ≡ 0

own_stays : (run : Run) (k n : ℕ) (send : Probe) (w : PortOf) (x : Entry) (past : List Entry) (copy : Carried) (p : PassCame run.capacity (owner_of run k) x past copy) → LeavesAt w n x.outcome →
    has_port (ports_of x.outcome) n ≡ true → IsOfSend run p.come → is_copy send p.come ≡ true → send.node ≡ k → ⊥
own_stays run k n send none x past copy p at left o mine own = false≢true (sym at ∙ left)
own_stays run k n send (one e) x past copy p at left o mine own =
    not_own run.capacity (owner_of run k) e at.0 x past p.port p.come p.is p.ok (sym at.1 ∙ left) o.sending.frame o.frame (own_source run k send p.come o mine own)

own_once : (run : Run) (k n : ℕ) (send : Probe) (h : List Entry) → send.node ≡ k → Each (Answered run.capacity (owner_of run k)) h → Each (λ x past. OfArrival (IsOfSend run) x.event) h → OwnOnce run k n send h
own_once run k n send [] own legal of_send = record { once = omega arith; not_yet = λ h. refl }
own_once run k n send (x ∷ past) own legal of_send =
    let both = step (new_pass (owner_of run k) n x past) (own_once run k n send past own legal.1 of_send.1) in
    record { once = both.0; not_yet = both.1 }
  where
    Goal : Option Carried → Type 0
    Goal o = (count_by (is_copy send) (cons_option o (passes (owner_of run k) n past)) ≤ 1) × (suc (length past) ≤ send.place → count_by (is_copy send) (cons_option o (passes (owner_of run k) n past)) ≡ 0)

    step : ((pass_of (owner_of run k) n x past ≡ None) ⊎ ((copy : Carried) × (pass_of (owner_of run k) n x past ≡ Some copy) × IsPassOf (owner_of run k) n x past copy)) → OwnOnce run k n send past →
        Goal (pass_of (owner_of run k) n x past)
    step (inl nothing) rest = subst Goal (sym nothing) (rest.once, λ h. rest.not_yet (omega arith))
    step (inr (copy, is, p)) rest =
        let counted = count_more (is_copy send) copy (passes (owner_of run k) n past) in
        let once = rest.once in
        subst Goal (sym is)
        (⊎_elim
        (λ mine.
        let one_more = one_if (is_copy send copy) mine in
        ⊎_elim
        (λ here.
        let both : Some send ≡ Some (record { node = k; place = length past }) = sym (probe_is send copy.probe mine) ∙ here in
        let same : send ≡ record { node = k; place = length past } = cc in
        let place : send.place ≡ length past = ap (λ (q : Probe). q.place) same in
        let nothing = rest.not_yet (omega (arith, place)) in
        (omega arith, λ h. absurd (omega (arith, place, h))))
        (λ came.
        let P : Option Probe → Type 0 = λ o. is_of send o ≡ true in
        let E : Event → Type 0 = OfArrival (IsOfSend run) in
        absurd (own_stays run k n send (port_of n) x past copy came (came_leaves run.capacity (owner_of run k) n x past copy came) p.left (subst E came.is of_send.0) (subst P came.probe mine) own))
        (pass_from run.capacity (owner_of run k) n x past copy legal.0 p))
        (λ other_send. let zero_more = zero_if (is_copy send copy) other_send in (omega arith, λ h. let nothing = rest.not_yet (omega arith) in omega arith))
        (cases_Bool (is_copy send copy)))

-- ---- of each send at most one copy leaves by a port

pub leaves_once : LeavesOnce
leaves_once run k n send h is remembers =
    let legal = legal_each run.capacity (owner_of run k) h is.legal in
    let of_send = each_of_arrival run h is.of_send in
    ⊎_elim
    (λ own. (own_once run k n send h own legal of_send).once)
    (λ other.
    let less = passes_noted run.capacity (owner_of run k) send n h other legal in
    let most = by_port (port_of n) in
    omega arith)
    (cases_eq send.node k)
  where
    by_port : (w : PortOf) → noted_at (owner_of run k) send w h ≤ 1
    by_port none = omega arith
    by_port (one e) = (noted_once run k send e h (legal_each run.capacity (owner_of run k) h is.legal) (each_of_arrival run h is.of_send) is.first remembers).once
