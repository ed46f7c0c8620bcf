-- What comes to a node and is wanted at an egress was noted there, now or before.
use Rattle.std.proofs.Common.{◌≡◌, ℕ, ◌==◌, Bool, true, false, not, if◌then◌else◌, List, [], ◌∷◌, length, Option, Some, None, Ok, refl, sym, ap, ◌∙◌, subst, ⊎_elim, eqb-true}
use Rattle.std.specs.List.{list_any, AllByRecursion, cons_option}
use Rattle.std.proofs.lemmas.Bool.{or_cases, or_left, and_from, cases_Bool}
use Rattle.hsr_frame.specs.Egress.{Egress}
use Rattle.hsr_tag.specs.Tag.{TaggedFields}
use Rattle.hsr_tag.specs.declared.seen.Seen.TheVariants.{Tagged}
use Rattle.hsr_duptable.specs.Key.{is_same_key}
use Rattle.hsr_forwarding.specs.Arrival.{key_of}
use Rattle.hsr_node.specs.Flow.{arrivals, copy_at, wants}
use Rattle.hsr_node.specs.Record.{Each, Noted, Owner, answer, key_in, knows, leaves, note_of, notes, now, probe_handled, remembered, remembers}
use Rattle.hsr_node.specs.declared.entry.Entry.{Entry}
use Rattle.hsr_node.specs.declared.event.Carried.{Carried}
use Rattle.hsr_node.specs.declared.event.Event.{Event}
use Rattle.hsr_node.specs.declared.event.Event.TheVariants.{Send, Supervise, Arrive, Age}
use Rattle.hsr_node.specs.declared.event.Probe.{Probe}
use Rattle.hsr_run_laws.specs.Once.{is_copy}
use Rattle.hsr_run_laws.specs.Premises.{KnowsOwn, is_note_of}
use Rattle.hsr_run_laws.specs.Run.{is_of}
use Rattle.hsr_run_laws.proofs.Lists.{any_other}
use Rattle.hsr_run_laws.proofs.Records.{Answered, any_remembered}
use Rattle.hsr_run_laws.proofs.Same.{any_one_more, probe_is}
use Rattle.hsr_run_laws.proofs.Views.{Came, came, knows_at, leaves_tagged, wants_at}
use Rattle.hsr_run_laws.proofs.Noting.{tagged_note}
use Rattle.hsr_run_laws.proofs.Wanted.{wanted_on_ring}

-- what a node may know of the addresses on its interlink
abbrev pub Knowing : Type 1
Knowing = (List ℕ → Bool) → Type 0

-- an arrival of a send has a tag, and is wanted at an egress with all that may be known
pub record IsWanted (owner : Owner) (may : Knowing) (port : ℕ) (e : Egress) (copy : Carried) : Type 0 where
  pub tagged : TaggedFields
  pub is : came copy ≡ Ok (Tagged tagged)
  pub wanted : (known : List ℕ → Bool) → may known → wants owner.place known port (Ok (Tagged tagged)) e ≡ true

abbrev pub WouldGo : Owner → Knowing → ℕ → Egress → Probe → Carried → Type 0
WouldGo owner may port e send copy = is_copy send copy ≡ true → IsWanted owner may port e copy

-- so it is where an entry handles a send
abbrev pub MayKnow : Owner → Probe → Knowing → Entry → List Entry → Type 0
MayKnow owner send may x past = is_of send (probe_handled (record { node = owner.number; place = length past }) x.event) ≡ true → may (knows owner.place past (now (x ∷ past)) x.event)

module _ (capacity : ℕ) (owner : Owner) (may : Knowing) (e : Egress) (send : Probe) where
  -- it leaves there, or its send was noted there before
  noted_at : (x : Entry) (past : List Entry) (port : ℕ) (copy : Carried) → x.event ≡ Arrive port copy → answer capacity owner past (now (x ∷ past)) (Arrive port copy) ≡ Ok x.outcome →
      KnowsOwn capacity owner past (now (x ∷ past)) (Arrive port copy) → may (knows_at owner past (now (x ∷ past)) port copy) → IsWanted owner may port e copy → is_copy send copy ≡ true →
      list_any (is_note_of (Some send)) (notes owner e (x ∷ past)) ≡ true
  noted_at x past port copy is ok own knowing w mine =
      let known = knows_at owner past (now (x ∷ past)) port copy in
      let W : Came → Type 0 = λ s. wants owner.place (knows_at owner past (now (x ∷ past)) port copy) port s e ≡ true in
      let wanted : wants_at owner past (now (x ∷ past)) port copy e ≡ true = subst W (sym w.is) (w.wanted (knows_at owner past (now (x ∷ past)) port copy) knowing) in
      let ring = wanted_on_ring owner.place (knows_at owner past (now (x ∷ past)) port copy) port w.tagged e (w.wanted (knows_at owner past (now (x ∷ past)) port copy) knowing) in
      let key : key_in (came copy) None ≡ Some (key_of w.tagged) = ap (λ s. key_in s None) w.is in
      let P : Option Probe → Type 0 = λ o. list_any (is_note_of o) (notes owner e past) ≡ true in
      ⊎_elim
      (λ found.
      let old = any_other (λ n. is_same_key n.key (key_of w.tagged)) (is_note_of copy.probe) (remembered capacity (now (x ∷ past)) (notes owner e past)) found (own ring e wanted (key_of w.tagged) key) in
      let older = any_remembered capacity (now (x ∷ past)) (notes owner e past) (is_note_of copy.probe) old in
      any_one_more (is_note_of (Some send)) (note_of owner e x past) (notes owner e past) (subst P (probe_is send copy.probe mine) older))
      (λ new.
      let left : leaves x.outcome e ≡ true = leaves_tagged capacity owner past (now (x ∷ past)) port copy x.outcome w.tagged e ok w.is ∙ and_from _ _ wanted (ap not new) in
      let note = tagged_note capacity owner e x past port copy w.tagged is ok w.is left in
      let Q : Option Noted → Type 0 = λ o. list_any (is_note_of (Some send)) (cons_option o (notes owner e past)) ≡ true in
      subst Q (sym note) (or_left _ _ mine))
      (cases_Bool (remembers capacity owner past (now (x ∷ past)) (key_of w.tagged) e))

  pub arrived_noted : (port : ℕ) (h : List Entry) → Each (Answered capacity owner) h → Each (λ x past. KnowsOwn capacity owner past (now (x ∷ past)) x.event) h → Each (MayKnow owner send may) h →
      AllByRecursion (WouldGo owner may port e send) (arrivals port h) → list_any (is_copy send) (arrivals port h) ≡ true → list_any (is_note_of (Some send)) (notes owner e h) ≡ true
  arrived_noted port [] legal own knowing all some = some
  arrived_noted port (x ∷ past) legal own knowing all some = by_event x.event refl all some (arrived_noted port past legal.1 own.1 knowing.1)
    where
      Goal : Type 0
      Goal = list_any (is_note_of (Some send)) (notes owner e (x ∷ past)) ≡ true

      Rest : Type 0
      Rest = AllByRecursion (WouldGo owner may port e send) (arrivals port past) → list_any (is_copy send) (arrivals port past) ≡ true → list_any (is_note_of (Some send)) (notes owner e past) ≡ true

      older : list_any (is_note_of (Some send)) (notes owner e past) ≡ true → Goal
      older h = any_one_more (is_note_of (Some send)) (note_of owner e x past) (notes owner e past) h

      by_port : (b : Bool) (number : ℕ) (copy : Carried) → (b ≡ true → number ≡ port) → x.event ≡ Arrive number copy →
          AllByRecursion (WouldGo owner may port e send) (cons_option (if b then Some copy else None) (arrivals port past)) →
          list_any (is_copy send) (cons_option (if b then Some copy else None) (arrivals port past)) ≡ true → Rest → Goal
      by_port false number copy same is all some rest = older (rest all some)
      by_port true number copy same is all some rest =
          ⊎_elim
          (λ mine.
          let A : Event → Type 0 = λ ev. answer capacity owner past (now (x ∷ past)) ev ≡ Ok x.outcome in
          let K : Event → Type 0 = λ ev. KnowsOwn capacity owner past (now (x ∷ past)) ev in
          let M : Event → Type 0 = λ ev. is_of send (probe_handled (record { node = owner.number; place = length past }) ev) ≡ true → may (knows owner.place past (now (x ∷ past)) ev) in
          let V : ℕ → Type 0 = λ n. IsWanted owner may n e copy in
          noted_at x past number copy is (subst A is legal.0) (subst K is own.0) (subst M is knowing.0 mine) (subst V (sym (same refl)) (all.0 mine)) mine)
          (λ later. older (rest all.1 later))
          (or_cases (is_copy send copy) (list_any (is_copy send) (arrivals port past)) some)

      by_event : (event : Event) → x.event ≡ event → AllByRecursion (WouldGo owner may port e send) (cons_option (copy_at port event) (arrivals port past)) →
          list_any (is_copy send) (cons_option (copy_at port event) (arrivals port past)) ≡ true → Rest → Goal
      by_event (Send from dst vlan ethertype payload) is all some rest = older (rest all some)
      by_event (Supervise about) is all some rest = older (rest all some)
      by_event Age is all some rest = older (rest all some)
      by_event (Arrive number copy) is all some rest = by_port (number == port) number copy (eqb-true number port) is all some rest
