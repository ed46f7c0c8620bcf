-- How often a send went up at a node of any kind: as often as it was noted, or as it came.
use Rattle.std.proofs.Common.{◌≡◌, ℕ, ◌+◌, ◌≤◌, Bool, true, false, if◌then◌else◌, List, [], ◌∷◌, length, count_by, Option, Some, None, Ok, Err, refl, sym, ap, ◌∙◌, subst, arith, eq-eqb}
use Rattle.std.specs.Prelude.{option_map}
use Rattle.std.specs.List.{cons_option}
use Rattle.std.proofs.lemmas.Bool.{false≢true}
use Rattle.hsr_frame.specs.Address.{is_group, is_same_address}
use Rattle.hsr_frame.specs.Cases.{first_of}
use Rattle.hsr_frame.specs.Egress.{has_exit, nowhere, to, up}
use Rattle.hsr_frame.specs.Egress as out
use Rattle.hsr_frame.specs.Grammar.{Fields}
use Rattle.hsr_frame.specs.declared.egress.Exits.{Exits}
use Rattle.hsr_frame.specs.declared.fault.FrameFault.{FrameFault}
use Rattle.hsr_frame.specs.declared.node.Cause.TheVariants as cause
use Rattle.hsr_frame.specs.declared.node.RingPort.{RingPort}
use Rattle.hsr_tag.specs.declared.seen.Seen.TheVariants.{Plain, Tagged}
use Rattle.hsr_forwarding.specs.Arrival.{key_of}
use Rattle.hsr_danh.specs.Wanted as of_danh
use Rattle.hsr_redbox.specs.Step.{number_of}
use Rattle.hsr_redbox.specs.Wanted.{numbered, unnumbered}
use Rattle.hsr_redbox.specs.declared.call.BoxPort.{BoxPort}
use Rattle.hsr_redbox.specs.declared.call.BoxPort.TheVariants as box
use Rattle.hsr_redbox.specs.declared.wanted.Handling.{Handling}
use Rattle.hsr_quadbox.specs.Wanted as of_quadbox
use Rattle.hsr_quadbox.specs.declared.wanted.QuadPort.{QuadPort}
use Rattle.hsr_node.specs.Flow.{arrivals, copy_at, wants}
use Rattle.hsr_node.specs.Record.{Each, Noted, Owner, answer, box_handling, handling, is_noted, judged_as, key_handled, key_in, leaves, next_number, note_if, note_of, noted_on, notes, now, passing, ports, probe_handled, remembers}
use Rattle.hsr_node.specs.Step.{box_port, quad_port, ring_port}
use Rattle.hsr_node.specs.declared.entry.Entry.{Entry}
use Rattle.hsr_node.specs.declared.event.Carried.{Carried}
use Rattle.hsr_node.specs.declared.event.Event.{Event}
use Rattle.hsr_node.specs.declared.event.Event.TheVariants.{Arrive}
use Rattle.hsr_node.specs.declared.event.Outcome.{Outcome}
use Rattle.hsr_node.specs.declared.event.Probe.{Probe}
use Rattle.hsr_node.specs.declared.place.Place.{Place}
use Rattle.hsr_node.specs.declared.place.Place.TheVariants.{Danh, RedBox, QuadBox, Station}
use Rattle.hsr_network_laws.specs.Network.{HasAddress, is_station}
use Rattle.hsr_run_laws.specs.Once.{delivers, is_copy}
use Rattle.hsr_run_laws.specs.Premises.{is_note_of, is_redbox}
use Rattle.hsr_run_laws.specs.Run.{is_of}
use Rattle.hsr_run_laws.proofs.Delivering.{Delivers, delivered_below, notes_grow}
use Rattle.hsr_run_laws.proofs.Lists.{count_more, one_if}
use Rattle.hsr_run_laws.proofs.Noting.{tagged_note}
use Rattle.hsr_network_laws.proofs.Unwanted.{fault_unwanted}
use Rattle.hsr_run_laws.proofs.Records.{Answered, OfArrival, each_so}
use Rattle.hsr_run_laws.proofs.Same.{address_other, is_of_itself, probe_is}
use Rattle.hsr_run_laws.proofs.Views.{Came, IsJudged, came, judged, knows_at, leaves-judged, leaves_wanted, passing-wanted}
use Rattle.hsr_run_laws.proofs.Wanted.{no_exit}

-- ---- what comes plain and goes up gets a number, if it is a group's

edge_source : (own same near group : Bool) (src : List ℕ) →
    has_exit (first_of ((own, unnumbered (nowhere cause.Returned)) ∷ (same, unnumbered (to (up ∷ []))) ∷ (near, unnumbered (nowhere cause.Local)) ∷ (group, numbered src (to (up ∷ out.a ∷ out.b ∷ []))) ∷ []) (numbered src (to (out.a ∷ out.b ∷ [])))).wants.exits up ≡ true →
    same ≡ false → (s : List ℕ) × ((first_of ((own, unnumbered (nowhere cause.Returned)) ∷ (same, unnumbered (to (up ∷ []))) ∷ (near, unnumbered (nowhere cause.Local)) ∷ (group, numbered src (to (up ∷ out.a ∷ out.b ∷ []))) ∷ []) (numbered src (to (out.a ∷ out.b ∷ [])))).source ≡ Some s)
edge_source true same near group src w s = absurd (false≢true w)
edge_source false true near group src w s = absurd (false≢true (sym s))
edge_source false false true group src w s = absurd (false≢true w)
edge_source false false false true src w s = (src, refl)
edge_source false false false false src w s = absurd (false≢true w)

up_numbered : (place : Place) → is_station place ≡ false → (known : List ℕ → Bool) (port : ℕ) (f : Fields) (h : Handling) → handling place known port (Ok (Plain f)) ≡ Some h → has_exit h.wants.exits up ≡ true → (is_redbox place ≡ true → HasAddress place f.dst → ⊥) → (s : List ℕ) × (h.source ≡ Some s)
up_numbered (Danh mac mode) station known port f h is w other = by_port (ring_port port) is
  where
    by_port : (o : Option RingPort) → option_map (λ x. unnumbered (of_danh.wanted mac mode x (Ok (Plain f)))) o ≡ Some h → (s : List ℕ) × (h.source ≡ Some s)
    by_port None i = absurd cc
    by_port (Some x) i =
        let same : unnumbered (of_danh.wanted mac mode x (Ok (Plain f))) ≡ h = cc in
        absurd (false≢true (sym (no_exit cause.Untagged up) ∙ (ap (λ (g : Handling). has_exit g.wants.exits up) same ∙ w)))
up_numbered (RedBox mac mode) station known port f h is w other = by_port (box_port port) is
  where
    by_box : (x : BoxPort) → has_exit (box_handling mac mode known x (Ok (Plain f))).wants.exits up ≡ true → (s : List ℕ) × ((box_handling mac mode known x (Ok (Plain f))).source ≡ Some s)
    by_box box.A w = absurd (false≢true (sym (no_exit cause.Untagged up) ∙ w))
    by_box box.B w = absurd (false≢true (sym (no_exit cause.Untagged up) ∙ w))
    by_box box.I w = edge_source (is_same_address f.src mac) (is_same_address f.dst mac) (known f.dst) (is_group f.dst) f.src w (address_other f.dst mac (other refl))

    by_port : (o : Option BoxPort) → option_map (λ x. box_handling mac mode known x (Ok (Plain f))) o ≡ Some h → (s : List ℕ) × (h.source ≡ Some s)
    by_port None i = absurd cc
    by_port (Some x) i =
        let same : box_handling mac mode known x (Ok (Plain f)) ≡ h = cc in
        subst (λ (g : Handling). (s : List ℕ) × (g.source ≡ Some s)) same (by_box x (ap (λ (g : Handling). has_exit g.wants.exits up) same ∙ w))
up_numbered QuadBox station known port f h is w other = by_port (quad_port port) is
  where
    by_port : (o : Option QuadPort) → option_map (λ x. unnumbered (of_quadbox.wanted x (Ok (Plain f)))) o ≡ Some h → (s : List ℕ) × (h.source ≡ Some s)
    by_port None i = absurd cc
    by_port (Some x) i =
        let same : unnumbered (of_quadbox.wanted x (Ok (Plain f))) ≡ h = cc in
        absurd (false≢true (sym (no_exit cause.Untagged up) ∙ (ap (λ (g : Handling). has_exit g.wants.exits up) same ∙ w)))
up_numbered (Station macs) station known port f h is w other = absurd (false≢true (sym station))

-- ---- what was delivered

module _ (capacity : ℕ) (owner : Owner) where
  -- what has no frame doesn't go up
  pub no_fault_up : (past : List Entry) (at port : ℕ) (copy : Carried) (outcome : Outcome) (fault : FrameFault) → answer capacity owner past at (Arrive port copy) ≡ Ok outcome → came copy ≡ Err fault → leaves outcome up ≡ true → ⊥
  no_fault_up past at port copy outcome fault ok is left =
      let wanted = leaves_wanted capacity owner past at port copy outcome up ok left in
      let W : Came → Type 0 = λ s. wants owner.place (knows_at owner past at port copy) port s up ≡ true in
      false≢true (sym (fault_unwanted owner.place (knows_at owner past at port copy) port fault up) ∙ subst W is wanted)

  -- what comes plain, gets a number and goes up is noted there
  numbered_note : (x : Entry) (past : List Entry) (port : ℕ) (copy : Carried) (f : Fields) → x.event ≡ Arrive port copy → came copy ≡ Ok (Plain f) → (j : IsJudged capacity owner past (now (x ∷ past)) port copy x.outcome) →
      (s : List ℕ) × (j.h.source ≡ Some s) → leaves x.outcome up ≡ true → (note : Noted) × (note_of owner up x past ≡ Some note) × (note.probe ≡ copy.probe)
  numbered_note x past port copy f is plain j source left =
      let number : number_of j.h.source (next_number past) ≡ Some (next_number past) = ap (λ s. number_of s (next_number past)) source.1 in
      let passes : Exits = passing (remembers capacity owner past (now (x ∷ past))) j.h.wants.exits (came copy) in
      let note : Noted = record { key = record { src = f.src; seq = next_number past }; moment = now (x ∷ past); probe = copy.probe } in
      let N' : Outcome → Type 0 = λ o. note_if (is_noted o up) (key_handled owner.place x.event o) (now (x ∷ past)) (probe_handled (record { node = owner.number; place = length past }) x.event) ≡ Some note in
      let E : Event → Type 0 = λ ev. note_if (is_noted (judged_as j.h passes (next_number past)) up) (key_handled owner.place ev (judged_as j.h passes (next_number past))) (now (x ∷ past))
      (probe_handled (record { node = owner.number; place = length past }) ev) ≡ Some note in
      let B : Option ℕ → Type 0 = λ o. note_if (noted_on passes.up (ports passes) o up) (key_in (came copy) o) (now (x ∷ past)) copy.probe ≡ Some note in
      let C : Came → Type 0 = λ s. note_if (noted_on passes.up (ports passes) (Some (next_number past)) up) (key_in s (Some (next_number past))) (now (x ∷ past)) copy.probe ≡ Some note in
      let gone : passes.up ≡ true = ap (λ o. leaves o up) (sym j.out) ∙ left in (
        note,
        subst N' (sym j.out) (subst E (sym is) (subst B (sym number) (subst C (sym plain)
            (ap (λ t. note_if t (Some (record { src = f.src; seq = next_number past })) (now (x ∷ past)) copy.probe) gone)))),
        refl,
      )

  -- a copy of a send, where it is plain, isn't for the node's own address
  abbrev pub IsNotOwn : Probe → Carried → Type 0
  IsNotOwn send copy = is_copy send copy ≡ true → (f : Fields) → came copy ≡ Ok (Plain f) → is_redbox owner.place ≡ true → HasAddress owner.place f.dst → ⊥

  -- what was delivered was noted
  a_note : is_station owner.place ≡ false → (send : Probe) (x : Entry) (past : List Entry) → OfArrival (IsNotOwn send) x.event → Delivers capacity owner x past send →
      (note : Noted) × (note_of owner up x past ≡ Some note) × (note.probe ≡ Some send)
  a_note station send x past not_own d = by_came (came d.copy) refl
    where
      probe : d.copy.probe ≡ Some send
      probe = probe_is send d.copy.probe d.mine

      by_came : (seen : Came) → came d.copy ≡ seen → (note : Noted) × (note_of owner up x past ≡ Some note) × (note.probe ≡ Some send)
      by_came (Ok (Tagged t)) is = (record { key = key_of t; moment = now (x ∷ past); probe = d.copy.probe }, tagged_note capacity owner up x past d.port d.copy t d.is d.ok is d.left, probe)
      by_came (Err fault) is = absurd (no_fault_up past (now (x ∷ past)) d.port d.copy x.outcome fault d.ok is d.left)
      by_came (Ok (Plain f)) is =
          let j = judged capacity owner past (now (x ∷ past)) d.port d.copy x.outcome d.ok in
          let C : Came → Type 0 = λ s. handling owner.place (knows_at owner past (now (x ∷ past)) d.port d.copy) d.port s ≡ Some j.h in
          let O : Event → Type 0 = OfArrival (IsNotOwn send) in
          let passes' : has_exit (passing (remembers capacity owner past (now (x ∷ past))) j.h.wants.exits (came d.copy)) up ≡ true =
          sym (leaves-judged j.h (passing (remembers capacity owner past (now (x ∷ past))) j.h.wants.exits (came d.copy)) (next_number past) up) ∙ (ap (λ o. leaves o up) (sym j.out) ∙ d.left) in
          let source = up_numbered owner.place station (knows_at owner past (now (x ∷ past)) d.port d.copy) d.port f j.h (subst C is j.is)
          (passing-wanted (remembers capacity owner past (now (x ∷ past))) j.h.wants.exits (came d.copy) up passes') ((subst O d.is not_own) d.mine f is) in
          let n = numbered_note x past d.port d.copy f d.is is j source d.left in
          (n.0, n.1, n.2 ∙ probe)

  noted : is_station owner.place ≡ false → (send : Probe) (x : Entry) (past : List Entry) → OfArrival (IsNotOwn send) x.event → Delivers capacity owner x past send →
      count_by (is_note_of (Some send)) (notes owner up (x ∷ past)) ≡ 1 + count_by (is_note_of (Some send)) (notes owner up past)
  noted station send x past not_own d =
      let n = a_note station send x past not_own d in
      let Q : Option Noted → Type 0 = λ o. count_by (is_note_of (Some send)) (cons_option o (notes owner up past)) ≡ 1 + count_by (is_note_of (Some send)) (notes owner up past) in
      let more = count_more (is_note_of (Some send)) n.0 (notes owner up past) in
      let P : Option Probe → Type 0 = λ o. is_of send o ≡ true in
      let it : is_note_of (Some send) n.0 ≡ true = subst P (sym n.2) (is_of_itself send) in
      let one = one_if (is_note_of (Some send) n.0) it in
      subst Q (sym n.1) (omega arith)

  pub delivered_noted : is_station owner.place ≡ false → (send : Probe) (h : List Entry) → Each (Answered capacity owner) h → Each (λ x past. OfArrival (IsNotOwn send) x.event) h → count_by (delivers send) h ≤ count_by (is_note_of (Some send)) (notes owner up h)
  delivered_noted station send h legal all =
      let count : List Entry → ℕ = λ past. count_by (is_note_of (Some send)) (notes owner up past) in
      let One : Entry → List Entry → Type 0 = λ x past. Delivers capacity owner x past send → count (x ∷ past) ≡ 1 + count past in
      delivered_below capacity owner send count h legal (notes_grow (is_note_of (Some send)) owner up) (each_so (λ x past. OfArrival (IsNotOwn send) x.event) One h (noted station send) all)

  came_here : (n : ℕ) (send : Probe) (x : Entry) (past : List Entry) → ((d : Delivers capacity owner x past send) → d.port ≡ n) → Delivers capacity owner x past send →
      count_by (is_copy send) (arrivals n (x ∷ past)) ≡ 1 + count_by (is_copy send) (arrivals n past)
  came_here n send x past by d =
      let A : Event → Type 0 = λ ev. count_by (is_copy send) (cons_option (copy_at n ev) (arrivals n past)) ≡ 1 + count_by (is_copy send) (arrivals n past) in
      let B : Bool → Type 0 = λ b. count_by (is_copy send) (cons_option (if b then Some d.copy else None) (arrivals n past)) ≡ 1 + count_by (is_copy send) (arrivals n past) in
      let more = count_more (is_copy send) d.copy (arrivals n past) in
      let one = one_if (is_copy send d.copy) d.mine in
      subst A (sym d.is) (subst B (sym (eq-eqb d.port n (by d))) (omega arith))

  -- where all that went up came by one port, no more went up than came there
  pub delivered_came : (n : ℕ) (send : Probe) (h : List Entry) → Each (Answered capacity owner) h → Each (λ x past. (d : Delivers capacity owner x past send) → d.port ≡ n) h → count_by (delivers send) h ≤ count_by (is_copy send) (arrivals n h)
  delivered_came n send h legal by =
      let count : List Entry → ℕ = λ past. count_by (is_copy send) (arrivals n past) in
      let One : Entry → List Entry → Type 0 = λ x past. Delivers capacity owner x past send → count (x ∷ past) ≡ 1 + count past in
      delivered_below capacity owner send count h legal (λ x past. grows (copy_at n x.event) past) (each_so (λ x past. (d : Delivers capacity owner x past send) → d.port ≡ n) One h (came_here n send) by)
    where
      grows : (o : Option Carried) (past : List Entry) → count_by (is_copy send) (arrivals n past) ≤ count_by (is_copy send) (cons_option o (arrivals n past))
      grows None past = omega arith
      grows (Some c) past = let more = count_more (is_copy send) c (arrivals n past) in omega arith
