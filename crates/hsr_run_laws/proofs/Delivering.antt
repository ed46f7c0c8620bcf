-- An arrival of a send that goes up, at a node of any kind, and how many such there are.
use Rattle.std.proofs.Common.{◌≡◌, ℕ, ◌+◌, ◌≤◌, Bool, true, List, [], ◌∷◌, count_by, Option, Some, None, Ok, refl, subst, arith, ⊎_elim}
use Rattle.std.specs.List.{cons_option}
use Rattle.std.proofs.lemmas.Bool.{and_parts, cases_Bool, false≢true}
use Rattle.hsr_frame.specs.Egress.{Egress, up}
use Rattle.hsr_node.specs.Record.{Each, Noted, Owner, answer, leaves, note_of, notes, now}
use Rattle.hsr_node.specs.declared.entry.Entry.{Entry}
use Rattle.hsr_node.specs.declared.event.Carried.{Carried}
use Rattle.hsr_node.specs.declared.event.Event.{Event}
use Rattle.hsr_node.specs.declared.event.Event.TheVariants.{Send, Supervise, Arrive, Age}
use Rattle.hsr_node.specs.declared.event.Probe.{Probe}
use Rattle.hsr_run_laws.specs.Once.{delivers, delivers_by, is_copy}
use Rattle.hsr_run_laws.specs.Run.{is_of}
use Rattle.hsr_run_laws.proofs.Lists.{count_more, one_if, zero_if}
use Rattle.hsr_run_laws.proofs.Records.{Answered}

-- no note is lost with one more entry
pub notes_grow : (test : Noted → Bool) (owner : Owner) (e : Egress) (x : Entry) (past : List Entry) → count_by test (notes owner e past) ≤ count_by test (notes owner e (x ∷ past))
notes_grow test owner e x past = by_note (note_of owner e x past)
  where
    by_note : (o : Option Noted) → count_by test (notes owner e past) ≤ count_by test (cons_option o (notes owner e past))
    by_note None = omega arith
    by_note (Some note) = let more = count_more test note (notes owner e past) in omega arith

module _ (capacity : ℕ) (owner : Owner) where
  -- an arrival of a send that went up
  pub record Delivers (x : Entry) (past : List Entry) (send : Probe) : Type 0 where
    pub port : ℕ
    pub copy : Carried
    pub is : x.event ≡ Arrive port copy
    pub ok : answer capacity owner past (now (x ∷ past)) (Arrive port copy) ≡ Ok x.outcome
    pub mine : is_copy send copy ≡ true
    pub left : leaves x.outcome up ≡ true

  pub delivers_is : (x : Entry) (past : List Entry) (send : Probe) → Answered capacity owner x past → delivers send x ≡ true → Delivers x past send
  delivers_is x past send ok yes_it = by_event x.event refl yes_it
    where
      by_event : (event : Event) → x.event ≡ event → delivers_by send event x.outcome ≡ true → Delivers x past send
      by_event (Send from dst vlan ethertype payload) is h = absurd (false≢true h)
      by_event (Supervise about) is h = absurd (false≢true h)
      by_event Age is h = absurd (false≢true h)
      by_event (Arrive port copy) is h =
          let parts = and_parts (is_of send copy.probe) (leaves x.outcome up) h in
          let A : Event → Type 0 = λ ev. answer capacity owner past (now (x ∷ past)) ev ≡ Ok x.outcome in
          record { port = port; copy = copy; is = is; ok = subst A is ok; mine = parts.0; left = parts.1 }

  -- a send went up no more often than a count says that never falls and grows by one with each time
  pub delivered_below : (send : Probe) (count : List Entry → ℕ) (h : List Entry) → Each (Answered capacity owner) h →
      ((x : Entry) (past : List Entry) → count past ≤ count (x ∷ past)) →
      Each (λ x past. Delivers x past send → count (x ∷ past) ≡ 1 + count past) h → count_by (delivers send) h ≤ count h
  delivered_below send count [] legal grows one = omega arith
  delivered_below send count (x ∷ past) legal grows one =
      let rest = delivered_below send count past legal.1 grows one.1 in
      let more = count_more (delivers send) x past in
      ⊎_elim
      (λ it. let is_one = one_if (delivers send x) it in
      let grown = one.0 (delivers_is x past send legal.0 it) in
      omega arith)
      (λ other. let none = zero_if (delivers send x) other in
      let kept = grows x past in
      omega arith)
      (cases_Bool (delivers send x))
