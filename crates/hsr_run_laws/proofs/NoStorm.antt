-- Where nothing that is needed is forgotten, no direction of a link carries two copies of one send.
use Rattle.std.proofs.Common.{◌≡◌, ◌⊎◌, ℕ, ◌+◌, ◌<◌, ◌≤◌, Bool, true, false, cond, if◌then◌else◌, List, [], ◌∷◌, length, count_by, Option, Some, None, Ok, refl, sym, ap, ◌∙◌, subst, arith, inl, inr, ⊎_elim, zero, suc}
use Rattle.std.specs.Prelude.{option_map}
use Rattle.std.specs.List.{cons_option}
use Rattle.std.proofs.lemmas.List.Sorted.{sum_by-IsPermutation}
use Rattle.std.proofs.lemmas.Bool.{cases_Bool, cases_eq, false≢true}
use Rattle.hsr_frame.specs.Egress.{Egress, up, a, b, c, d}
use Rattle.hsr_frame.specs.declared.egress.Exits.{Exits}
use Rattle.hsr_node.specs.Copies.{copy_octets, ports_of}
use Rattle.hsr_node.specs.Flow.{pass_of, passes}
use Rattle.hsr_node.specs.Record.{Each, Noted, Owner, answer, has_port, leaves, note_of, notes, now, probe_handled}
use Rattle.hsr_node.specs.declared.entry.Entry.{Entry}
use Rattle.hsr_node.specs.declared.event.Carried.{Carried}
use Rattle.hsr_node.specs.declared.event.Event.{Event}
use Rattle.hsr_node.specs.declared.event.Event.TheVariants.{Send, Supervise, Arrive, Age}
use Rattle.hsr_node.specs.declared.event.Outcome.{Outcome}
use Rattle.hsr_node.specs.declared.event.Outcome.TheVariants.{Judged}
use Rattle.hsr_node.specs.declared.event.Probe.{Probe}
use Rattle.hsr_node.specs.declared.place.Place.{Place}
use Rattle.hsr_run_laws.specs.Closed.{IsClosed, IsOfSend}
use Rattle.hsr_run_laws.specs.Once.{IsCalm, NoStorm, is_copy}
use Rattle.hsr_run_laws.specs.Premises.{NothingForgotten, NumberedFirst, is_note_of}
use Rattle.hsr_run_laws.specs.Run.{Run, ends_of, from_end, is_of, owner_of, past_of}
use Rattle.hsr_run_laws.proofs.Keys.{each_of_send}
use Rattle.hsr_run_laws.proofs.Lists.{count_more, one_if, zero_if}
use Rattle.hsr_run_laws.proofs.NotedOnce.{noted_once, own_source}
use Rattle.hsr_run_laws.proofs.PortLaws.{IsPort, not_own, port_noted}
use Rattle.hsr_run_laws.proofs.Records.{Answered, OfArrival, legal_each}
use Rattle.hsr_run_laws.proofs.Same.{probe_is}
use Rattle.hsr_run_laws.proofs.Views.{judged}

-- ---- what leaves by a port

pub record IsPassOf (owner : Owner) (n : ℕ) (x : Entry) (past : List Entry) (copy : Carried) : Type 0 where
  pub left : has_port (ports_of x.outcome) n ≡ true
  pub probe : copy.probe ≡ probe_handled (record { node = owner.number; place = length past }) x.event

left_if : (place : Place) (event : Event) (outcome : Outcome) (n : ℕ) (octets : List ℕ) → copy_octets place event outcome n ≡ Some octets → has_port (ports_of outcome) n ≡ true
unfolding copy_octets
left_if place event outcome n octets h = by_test (has_port (ports_of outcome) n) (Rattle.hsr_node.specs.Copies.passed_octets place event outcome n) h
  where
    by_test : (t : Bool) (o : Option (List ℕ)) → (if t then o else None) ≡ Some octets → t ≡ true
    by_test true o h = refl
    by_test false o h = absurd cc

pub new_pass : (owner : Owner) (n : ℕ) (x : Entry) (past : List Entry) → (pass_of owner n x past ≡ None) ⊎ ((copy : Carried) × (pass_of owner n x past ≡ Some copy) × IsPassOf owner n x past copy)
new_pass owner n x past = by_octets (copy_octets owner.place x.event x.outcome n) refl
  where
    here : Option Probe
    here = probe_handled (record { node = owner.number; place = length past }) x.event

    made : Option (List ℕ) → Option Carried
    made o = option_map (λ octets. let copy : Carried = record { probe = probe_handled (record { node = owner.number; place = length past }) x.event; octets = octets } in copy) o

    by_octets : (o : Option (List ℕ)) → copy_octets owner.place x.event x.outcome n ≡ o → (made o ≡ None) ⊎ ((copy : Carried) × (made o ≡ Some copy) × IsPassOf owner n x past copy)
    by_octets None is = inl refl
    by_octets (Some octets) is = inr (record { probe = here; octets = octets }, refl, record { left = left_if owner.place x.event x.outcome n octets is; probe = refl })

-- a copy of another entry's send that leaves came
pub record PassCame (capacity : ℕ) (owner : Owner) (x : Entry) (past : List Entry) (copy : Carried) : Type 0 where
  pub port : ℕ
  pub come : Carried
  pub is : x.event ≡ Arrive port come
  pub ok : answer capacity owner past (now (x ∷ past)) (Arrive port come) ≡ Ok x.outcome
  pub probe : copy.probe ≡ come.probe

pub pass_from : (capacity : ℕ) (owner : Owner) (n : ℕ) (x : Entry) (past : List Entry) (copy : Carried) → Answered capacity owner x past → IsPassOf owner n x past copy →
    (copy.probe ≡ Some (record { node = owner.number; place = length past })) ⊎ PassCame capacity owner x past copy
pass_from capacity owner n x past copy ok p = by_event x.event refl
  where
    by_event : (event : Event) → x.event ≡ event → (copy.probe ≡ Some (record { node = owner.number; place = length past })) ⊎ PassCame capacity owner x past copy
    by_event (Send from dst vlan ethertype payload) is = inl (p.probe ∙ ap (probe_handled (record { node = owner.number; place = length past })) is)
    by_event (Supervise about) is = inl (p.probe ∙ ap (probe_handled (record { node = owner.number; place = length past })) is)
    by_event Age is = inl (p.probe ∙ ap (probe_handled (record { node = owner.number; place = length past })) is)
    by_event (Arrive port come) is =
        let A : Event → Type 0 = λ ev. answer capacity owner past (now (x ∷ past)) ev ≡ Ok x.outcome in
        inr (record { port = port; come = come; is = is; ok = subst A is ok; probe = p.probe ∙ ap (probe_handled (record { node = owner.number; place = length past })) is })

-- ---- the egress of a port

pub data PortOf : Type 0 where
  none : PortOf
  one : (e : Egress) → PortOf

abbrev pub port_of : ℕ → PortOf
port_of zero = one a
port_of (suc zero) = one b
port_of (suc (suc zero)) = one c
port_of (suc (suc (suc zero))) = one d
port_of (suc (suc (suc (suc n)))) = none

-- whether an outcome of an arrival leaves by a port is whether it leaves by its egress
abbrev pub LeavesAt : PortOf → ℕ → Outcome → Type 0
LeavesAt none n outcome = has_port (ports_of outcome) n ≡ false
LeavesAt (one e) n outcome = IsPort e × (has_port (ports_of outcome) n ≡ leaves outcome e)

leaves_at : (n : ℕ) (w : Exits) (up_too : Bool) (seq : Option ℕ) (why : Rattle.hsr_frame.specs.declared.node.Cause.Cause) → LeavesAt (port_of n) n (Judged up_too (Rattle.hsr_node.specs.Record.ports w) seq why)
leaves_at zero w up_too seq why = (tt, refl)
leaves_at (suc zero) w up_too seq why = (tt, refl)
leaves_at (suc (suc zero)) w up_too seq why = (tt, refl)
leaves_at (suc (suc (suc zero))) w up_too seq why = (tt, refl)
leaves_at (suc (suc (suc (suc n)))) w up_too seq why = refl

pub came_leaves : (capacity : ℕ) (owner : Owner) (n : ℕ) (x : Entry) (past : List Entry) (copy : Carried) (p : PassCame capacity owner x past copy) → LeavesAt (port_of n) n x.outcome
came_leaves capacity owner n x past copy p =
    let j = judged capacity owner past (now (x ∷ past)) p.port p.come x.outcome p.ok in
    let passing' : Exits = Rattle.hsr_node.specs.Record.passing (Rattle.hsr_node.specs.Record.remembers capacity owner past (now (x ∷ past))) j.h.wants.exits (Rattle.hsr_run_laws.proofs.Views.came p.come) in
    let O : Outcome → Type 0 = λ o. LeavesAt (port_of n) n o in
    subst O (sym j.out) (leaves_at n passing' passing'.up (Rattle.hsr_redbox.specs.Step.number_of j.h.source (Rattle.hsr_node.specs.Record.next_number past)) (Rattle.hsr_frame.specs.Egress.cause_of j.h.wants passing'))

-- ---- of another node's send no more copies leave by a port than are noted there

abbrev noted_at : Owner → Probe → PortOf → List Entry → ℕ
noted_at owner send none h = 0
noted_at owner send (one e) h = count_by (is_note_of (Some send)) (notes owner e h)

more_noted : (owner : Owner) (send : Probe) (w : PortOf) (x : Entry) (past : List Entry) → noted_at owner send w past ≤ noted_at owner send w (x ∷ past)
more_noted owner send none x past = omega arith
more_noted owner send (one e) x past = by_note (note_of owner e x past)
  where
    by_note : (o : Option Noted) → count_by (is_note_of (Some send)) (notes owner e past) ≤ count_by (is_note_of (Some send)) (cons_option o (notes owner e past))
    by_note None = omega arith
    by_note (Some note) = let more = count_more (is_note_of (Some send)) note (notes owner e past) in omega arith

one_noted : (capacity : ℕ) (owner : Owner) (send : Probe) (n : ℕ) (w : PortOf) (x : Entry) (past : List Entry) (copy : Carried) (p : PassCame capacity owner x past copy) → LeavesAt w n x.outcome →
    has_port (ports_of x.outcome) n ≡ true → is_copy send copy ≡ true → noted_at owner send w (x ∷ past) ≡ 1 + noted_at owner send w past
one_noted capacity owner send n none x past copy p at left mine = absurd (false≢true (sym at ∙ left))
one_noted capacity owner send n (one e) x past copy p at left mine =
    let note = port_noted capacity owner e at.0 x past p.port p.come p.is p.ok (sym at.1 ∙ left) in
    let Q : Option Noted → Type 0 = λ o. count_by (is_note_of (Some send)) (cons_option o (notes owner e past)) ≡ 1 + count_by (is_note_of (Some send)) (notes owner e past) in
    let P : Option Probe → Type 0 = λ o. is_of send o ≡ true in
    let it : is_note_of (Some send) note.0 ≡ true = subst P (p.probe ∙ sym note.2) mine in
    let more = count_more (is_note_of (Some send)) note.0 (notes owner e past) in
    let one_more = one_if (is_note_of (Some send) note.0) it in
    subst Q (sym note.1) (omega arith)

passes_noted : (capacity : ℕ) (owner : Owner) (send : Probe) (n : ℕ) (h : List Entry) → (send.node ≡ owner.number → ⊥) → Each (Answered capacity owner) h →
    count_by (is_copy send) (passes owner n h) ≤ noted_at owner send (port_of n) h
passes_noted capacity owner send n [] other legal = omega arith
passes_noted capacity owner send n (x ∷ past) other legal = step (new_pass owner n x past) (passes_noted capacity owner send n past other legal.1)
  where
    step : ((pass_of owner n x past ≡ None) ⊎ ((copy : Carried) × (pass_of owner n x past ≡ Some copy) × IsPassOf owner n x past copy)) →
        count_by (is_copy send) (passes owner n past) ≤ noted_at owner send (port_of n) past → count_by (is_copy send) (passes owner n (x ∷ past)) ≤ noted_at owner send (port_of n) (x ∷ past)
    step (inl nothing) rest =
        let Q : Option Carried → Type 0 = λ o. count_by (is_copy send) (cons_option o (passes owner n past)) ≤ noted_at owner send (port_of n) (x ∷ past) in
        let more = more_noted owner send (port_of n) x past in
        subst Q (sym nothing) (omega arith)
    step (inr (copy, is, p)) rest =
        let Q : Option Carried → Type 0 = λ o. count_by (is_copy send) (cons_option o (passes owner n past)) ≤ noted_at owner send (port_of n) (x ∷ past) in
        let counted = count_more (is_copy send) copy (passes owner n past) in
        subst Q (sym is)
        (⊎_elim
        (λ mine.
        let one_more = one_if (is_copy send copy) mine in
        ⊎_elim
        (λ own.
        let there = probe_is send copy.probe mine in
        let here : Some send ≡ Some (record { node = owner.number; place = length past }) = sym there ∙ own in
        let same : send ≡ record { node = owner.number; place = length past } = cc in
        absurd (other (ap (λ (q : Probe). q.node) same)))
        (λ came.
        let noted = one_noted capacity owner send n (port_of n) x past copy came (came_leaves capacity owner n x past copy came) p.left mine in
        omega arith)
        (pass_from capacity owner n x past copy legal.0 p))
        (λ other_send.
        let zero_more = zero_if (is_copy send copy) other_send in
        let more = more_noted owner send (port_of n) x past in
        omega arith)
        (cases_Bool (is_copy send copy)))

-- ---- of an own send at most one copy leaves by a port, and none before it is sent

record OwnOnce (run : Run) (k n : ℕ) (send : Probe) (h : List Entry) : Type 0 where
  once : count_by (is_copy send) (passes (owner_of run k) n h) ≤ 1
  not_yet : length h ≤ send.place → count_by (is_copy send) (passes (owner_of run k) n h) ≡ 0

own_stays : (run : Run) (k n : ℕ) (send : Probe) (w : PortOf) (x : Entry) (past : List Entry) (copy : Carried) (p : PassCame run.capacity (owner_of run k) x past copy) → LeavesAt w n x.outcome →
    has_port (ports_of x.outcome) n ≡ true → IsOfSend run p.come → is_copy send p.come ≡ true → send.node ≡ k → ⊥
own_stays run k n send none x past copy p at left o mine own = false≢true (sym at ∙ left)
own_stays run k n send (one e) x past copy p at left o mine own =
    not_own run.capacity (owner_of run k) e at.0 x past p.port p.come p.is p.ok (sym at.1 ∙ left) o.sending.frame o.frame (own_source run k send p.come o mine own)

own_once : (run : Run) (k n : ℕ) (send : Probe) (h : List Entry) → send.node ≡ k → Each (Answered run.capacity (owner_of run k)) h → Each (λ x past. OfArrival (IsOfSend run) x.event) h → OwnOnce run k n send h
own_once run k n send [] own legal of_send = record { once = omega arith; not_yet = λ h. refl }
own_once run k n send (x ∷ past) own legal of_send =
    let both = step (new_pass (owner_of run k) n x past) (own_once run k n send past own legal.1 of_send.1) in
    record { once = both.0; not_yet = both.1 }
  where
    Goal : Option Carried → Type 0
    Goal o = (count_by (is_copy send) (cons_option o (passes (owner_of run k) n past)) ≤ 1) × (suc (length past) ≤ send.place → count_by (is_copy send) (cons_option o (passes (owner_of run k) n past)) ≡ 0)

    step : ((pass_of (owner_of run k) n x past ≡ None) ⊎ ((copy : Carried) × (pass_of (owner_of run k) n x past ≡ Some copy) × IsPassOf (owner_of run k) n x past copy)) → OwnOnce run k n send past →
        Goal (pass_of (owner_of run k) n x past)
    step (inl nothing) rest = subst Goal (sym nothing) (rest.once, λ h. rest.not_yet (omega arith))
    step (inr (copy, is, p)) rest =
        let counted = count_more (is_copy send) copy (passes (owner_of run k) n past) in
        let once = rest.once in
        subst Goal (sym is)
        (⊎_elim
        (λ mine.
        let one_more = one_if (is_copy send copy) mine in
        ⊎_elim
        (λ here.
        let both : Some send ≡ Some (record { node = k; place = length past }) = sym (probe_is send copy.probe mine) ∙ here in
        let same : send ≡ record { node = k; place = length past } = cc in
        let place : send.place ≡ length past = ap (λ (q : Probe). q.place) same in
        let nothing = rest.not_yet (omega (arith, place)) in
        (omega arith, λ h. absurd (omega (arith, place, h))))
        (λ came.
        let P : Option Probe → Type 0 = λ o. is_of send o ≡ true in
        let E : Event → Type 0 = OfArrival (IsOfSend run) in
        absurd (own_stays run k n send (port_of n) x past copy came (came_leaves run.capacity (owner_of run k) n x past copy came) p.left (subst E came.is of_send.0) (subst P came.probe mine) own))
        (pass_from run.capacity (owner_of run k) n x past copy legal.0 p))
        (λ other_send. let zero_more = zero_if (is_copy send copy) other_send in (omega arith, λ h. let nothing = rest.not_yet (omega arith) in omega arith))
        (cases_Bool (is_copy send copy)))

-- ---- of each send at most one copy leaves by a port

pub leaves_once : (run : Run) → IsClosed run → NumberedFirst run → NothingForgotten run → (k n : ℕ) (send : Probe) → k < length run.places → count_by (is_copy send) (passes (owner_of run k) n (past_of run k)) ≤ 1
leaves_once run closed first remembers k n send below =
    let legal = legal_each run.capacity (owner_of run k) (past_of run k) (closed.legal k below) in
    let of_send = each_of_send run closed k below in
    ⊎_elim
    (λ own. (own_once run k n send (past_of run k) own legal of_send).once)
    (λ other.
    let less = passes_noted run.capacity (owner_of run k) send n (past_of run k) other legal in
    let most = by_port (port_of n) in
    omega arith)
    (cases_eq send.node k)
  where
    by_port : (w : PortOf) → noted_at (owner_of run k) send w (past_of run k) ≤ 1
    by_port none = omega arith
    by_port (one e) =
        (noted_once run k send e (past_of run k) (legal_each run.capacity (owner_of run k) (past_of run k) (closed.legal k below)) (each_of_send run closed k below) (first k below) (remembers k below)).once

pub no_storm : NoStorm
unfolding IsCalm
no_storm run has closed first remembers l dir send below =
    let same = sum_by-IsPermutation (λ x. cond (is_copy send x) 1 0) _ _ (closed.put l dir below) in
    let once = leaves_once run closed first remembers (from_end dir (ends_of run l)).node (from_end dir (ends_of run l)).port send (has l dir below) in
    let P : ℕ → Type 0 = λ m. m ≤ 1 in
    subst P (sym same) once
