-- What comes to a node and leaves it by a port is noted there, and isn't of a send of its own.
use Rattle.std.proofs.Common.{◌≡◌, ℕ, ◌==◌, Bool, true, false, ◌||◌, if◌then◌else◌, List, [], ◌∷◌, length, Option, Some, None, Ok, Err, refl, sym, ap, ◌∙◌, subst}
use Rattle.std.specs.Prelude.{option_map}
use Rattle.std.proofs.lemmas.Bool.{false≢true}
use Rattle.hsr_frame.specs.Address.{is_among, is_group, is_same_address}
use Rattle.hsr_frame.specs.Cases.{first_of}
use Rattle.hsr_frame.specs.Egress.{Egress, up, a, b, c, d, nowhere, to, has_exit}
use Rattle.hsr_frame.specs.Grammar.{Fields}
use Rattle.hsr_frame.specs.declared.egress.Exits.{Exits}
use Rattle.hsr_frame.specs.declared.fault.FrameFault.{FrameFault}
use Rattle.hsr_frame.specs.declared.node.Cause.TheVariants as cause
use Rattle.hsr_frame.specs.declared.node.RingPort.{RingPort}
use Rattle.hsr_tag.specs.Tag.{untag_of}
use Rattle.hsr_tag.specs.declared.seen.Seen.TheVariants.{Plain, Tagged}
use Rattle.hsr_forwarding.specs.Arrival.{key_of}
use Rattle.hsr_danh.specs.Wanted as of_danh
use Rattle.hsr_redbox.specs.Step.{number_of}
use Rattle.hsr_redbox.specs.Wanted.{numbered, unnumbered}
use Rattle.hsr_redbox.specs.declared.call.BoxPort.{BoxPort}
use Rattle.hsr_redbox.specs.declared.call.BoxPort.TheVariants as box
use Rattle.hsr_redbox.specs.declared.wanted.Handling.{Handling}
use Rattle.hsr_quadbox.specs.Wanted as of_quadbox
use Rattle.hsr_quadbox.specs.declared.wanted.QuadPort.{QuadPort}
use Rattle.hsr_node.specs.Copies.{plain_in}
use Rattle.hsr_node.specs.Record.{Noted, Owner, answer, box_handling, handling, has_left, is_noted, judged_as, key_handled, key_in, leaves, next_number, note_if, note_of, noted_on, now, passing, ports, probe_handled, remembers, station_wanted}
use Rattle.hsr_node.specs.Step.{box_port, quad_port, ring_port}
use Rattle.hsr_node.specs.declared.entry.Entry.{Entry}
use Rattle.hsr_node.specs.declared.event.Carried.{Carried}
use Rattle.hsr_node.specs.declared.event.Event.{Event}
use Rattle.hsr_node.specs.declared.event.Event.TheVariants.{Arrive}
use Rattle.hsr_node.specs.declared.event.Outcome.{Outcome}
use Rattle.hsr_node.specs.declared.place.Place.{Place}
use Rattle.hsr_node.specs.declared.place.Place.TheVariants.{Danh, RedBox, QuadBox, Station}
use Rattle.hsr_run_laws.proofs.Records.{IsSource}
use Rattle.hsr_run_laws.proofs.Views.{Came, IsJudged, came, judged, knows_at, leaves-judged, leaves_wanted, passing-wanted}
use Rattle.hsr_run_laws.proofs.Noting.{tagged_note}
use Rattle.hsr_run_laws.proofs.Wanted.{no_exit, own_not_numbered, own_unwanted}

abbrev pub IsPort : Egress → Type 0
IsPort up = ⊥
IsPort a = Unit {0}
IsPort b = Unit {0}
IsPort c = Unit {0}
IsPort d = Unit {0}

up_alone : (e : Egress) → IsPort e → has_exit (to (up ∷ [])).exits e ≡ false
up_alone up h = absurd h
up_alone a h = refl
up_alone b h = refl
up_alone c h = refl
up_alone d h = refl

abbrev IsSome : Option (List ℕ) → Type 0
IsSome o = (src : List ℕ) × (o ≡ Some src)

-- what goes on from an interlink is numbered
interlink_numbered : (own mine near group : Bool) (src : List ℕ) (e : Egress) → IsPort e →
    has_exit (first_of ((own, unnumbered (nowhere cause.Returned)) ∷ (mine, unnumbered (to (up ∷ []))) ∷ (near, unnumbered (nowhere cause.Local)) ∷ (group, numbered src (to (up ∷ a ∷ b ∷ []))) ∷ []) (numbered src (to (a ∷ b ∷ [])))).wants.exits e ≡ true →
    IsSome (first_of ((own, unnumbered (nowhere cause.Returned)) ∷ (mine, unnumbered (to (up ∷ []))) ∷ (near, unnumbered (nowhere cause.Local)) ∷ (group, numbered src (to (up ∷ a ∷ b ∷ []))) ∷ []) (numbered src (to (a ∷ b ∷ [])))).source
interlink_numbered true mine near group src e port h = absurd (false≢true (sym (no_exit cause.Returned e) ∙ h))
interlink_numbered false true near group src e port h = absurd (false≢true (sym (up_alone e port) ∙ h))
interlink_numbered false false true group src e port h = absurd (false≢true (sym (no_exit cause.Local e) ∙ h))
interlink_numbered false false false true src e port h = (src, refl)
interlink_numbered false false false false src e port h = (src, refl)

station_up : (own mine : Bool) (e : Egress) → IsPort e → has_exit (first_of ((own, nowhere cause.Returned) ∷ (mine, to (up ∷ [])) ∷ []) (to [])).exits e ≡ false
station_up true mine e port = no_exit cause.Returned e
station_up false true e port = up_alone e port
station_up false false up port = absurd port
station_up false false a port = refl
station_up false false b port = refl
station_up false false c port = refl
station_up false false d port = refl

-- what comes plain and is wanted at a port is numbered
plain_numbered : (place : Place) (known : List ℕ → Bool) (port : ℕ) (frame : Fields) (e : Egress) (h : Handling) → IsPort e → handling place known port (Ok (Plain frame)) ≡ Some h → has_exit h.wants.exits e ≡ true → IsSome h.source
plain_numbered (Danh mac mode) known port frame e h is_port is wanted = by_port (ring_port port) is
  where
    by_port : (o : Option RingPort) → option_map (λ x. unnumbered (of_danh.wanted mac mode x (Ok (Plain frame)))) o ≡ Some h → IsSome h.source
    by_port None i = absurd cc
    by_port (Some x) i =
        let same : unnumbered (of_danh.wanted mac mode x (Ok (Plain frame))) ≡ h = cc in
        absurd (false≢true (sym (no_exit cause.Untagged e) ∙ (ap (λ (g : Handling). has_exit g.wants.exits e) same ∙ wanted)))
plain_numbered (RedBox mac mode) known port frame e h is_port is wanted = by_port (box_port port) is
  where
    W : Handling → Type 0
    W g = has_exit g.wants.exits e ≡ true

    by_box : (x : BoxPort) → has_exit (box_handling mac mode known x (Ok (Plain frame))).wants.exits e ≡ true → IsSome (box_handling mac mode known x (Ok (Plain frame))).source
    by_box box.A w = absurd (false≢true (sym (no_exit cause.Untagged e) ∙ w))
    by_box box.B w = absurd (false≢true (sym (no_exit cause.Untagged e) ∙ w))
    by_box box.I w = interlink_numbered (is_same_address frame.src mac) (is_same_address frame.dst mac) (known frame.dst) (is_group frame.dst) frame.src e is_port w

    by_port : (o : Option BoxPort) → option_map (λ x. box_handling mac mode known x (Ok (Plain frame))) o ≡ Some h → IsSome h.source
    by_port None i = absurd cc
    by_port (Some x) i =
        let same : box_handling mac mode known x (Ok (Plain frame)) ≡ h = cc in
        subst (λ (g : Handling). IsSome g.source) same (by_box x (ap (λ (g : Handling). has_exit g.wants.exits e) same ∙ wanted))
plain_numbered QuadBox known port frame e h is_port is wanted = by_port (quad_port port) is
  where
    by_port : (o : Option QuadPort) → option_map (λ x. unnumbered (of_quadbox.wanted x (Ok (Plain frame)))) o ≡ Some h → IsSome h.source
    by_port None i = absurd cc
    by_port (Some x) i =
        let same : unnumbered (of_quadbox.wanted x (Ok (Plain frame))) ≡ h = cc in
        absurd (false≢true (sym (no_exit cause.Untagged e) ∙ (ap (λ (g : Handling). has_exit g.wants.exits e) same ∙ wanted)))
plain_numbered (Station macs) known port frame e h is_port is wanted = by_port (port == 0) is
  where
    by_port : (o : Bool) → (if o then Some (unnumbered (station_wanted macs.items (Ok (Plain frame)))) else None) ≡ Some h → IsSome h.source
    by_port false i = absurd cc
    by_port true i =
        let same : unnumbered (station_wanted macs.items (Ok (Plain frame))) ≡ h = cc in
        absurd (false≢true (sym (station_up (is_among macs.items frame.src) (is_among macs.items frame.dst || is_group frame.dst) e is_port) ∙ (ap (λ (g : Handling). has_exit g.wants.exits e) same ∙ wanted)))

-- what is no frame is wanted nowhere
faulty_unwanted : (place : Place) (known : List ℕ → Bool) (port : ℕ) (fault : FrameFault) (e : Egress) (h : Handling) → handling place known port (Err fault) ≡ Some h → has_exit h.wants.exits e ≡ true → ⊥
faulty_unwanted place known port fault e h is wanted = by_place place is
  where
    shut : (g : Handling) → g ≡ h → has_exit g.wants.exits e ≡ false → ⊥
    shut g same none = false≢true (sym none ∙ (ap (λ (g : Handling). has_exit g.wants.exits e) same ∙ wanted))

    by_box : (mac : List ℕ) (mode : Rattle.hsr_frame.specs.declared.node.Mode.Mode) (x : BoxPort) → has_exit (box_handling mac mode known x (Err fault)).wants.exits e ≡ false
    by_box mac mode box.A = no_exit (cause.Malformed fault) e
    by_box mac mode box.B = no_exit (cause.Malformed fault) e
    by_box mac mode box.I = no_exit (cause.Malformed fault) e

    by_place : (place : Place) → handling place known port (Err fault) ≡ Some h → ⊥
    by_place (Danh mac mode) is = by_port (ring_port port) is
      where
        by_port : (o : Option RingPort) → option_map (λ x. unnumbered (of_danh.wanted mac mode x (Err fault))) o ≡ Some h → ⊥
        by_port None i = cc
        by_port (Some x) i = let same : unnumbered (of_danh.wanted mac mode x (Err fault)) ≡ h = cc in shut (unnumbered (of_danh.wanted mac mode x (Err fault))) same (no_exit (cause.Malformed fault) e)
    by_place (RedBox mac mode) is = by_port (box_port port) is
      where
        by_port : (o : Option BoxPort) → option_map (λ x. box_handling mac mode known x (Err fault)) o ≡ Some h → ⊥
        by_port None i = cc
        by_port (Some x) i = let same : box_handling mac mode known x (Err fault) ≡ h = cc in shut (box_handling mac mode known x (Err fault)) same (by_box mac mode x)
    by_place QuadBox is = by_port (quad_port port) is
      where
        by_port : (o : Option QuadPort) → option_map (λ x. unnumbered (of_quadbox.wanted x (Err fault))) o ≡ Some h → ⊥
        by_port None i = cc
        by_port (Some x) i = let same : unnumbered (of_quadbox.wanted x (Err fault)) ≡ h = cc in shut (unnumbered (of_quadbox.wanted x (Err fault))) same (no_exit (cause.Malformed fault) e)
    by_place (Station macs) is = by_port (port == 0) is
      where
        by_port : (o : Bool) → (if o then Some (unnumbered (station_wanted macs.items (Err fault))) else None) ≡ Some h → ⊥
        by_port false i = cc
        by_port true i = let same : unnumbered (station_wanted macs.items (Err fault)) ≡ h = cc in shut (unnumbered (station_wanted macs.items (Err fault))) same (no_exit (cause.Malformed fault) e)

module _ (capacity : ℕ) (owner : Owner) (e : Egress) (is_port : IsPort e) (x : Entry) (past : List Entry) (port : ℕ) (copy : Carried) (is : x.event ≡ Arrive port copy)
    (ok : answer capacity owner past (now (x ∷ past)) (Arrive port copy) ≡ Ok x.outcome) (left : leaves x.outcome e ≡ true) where
  abbrev known : List ℕ → Bool
  known = knows_at owner past (now (x ∷ past)) port copy

  wanted_by : (j : IsJudged capacity owner past (now (x ∷ past)) port copy x.outcome) → has_exit j.h.wants.exits e ≡ true
  wanted_by j =
      passing-wanted (remembers capacity owner past (now (x ∷ past))) j.h.wants.exits (came copy) e
      (sym (leaves-judged j.h (passing (remembers capacity owner past (now (x ∷ past))) j.h.wants.exits (came copy)) (next_number past) e) ∙ (ap (λ o. leaves o e) (sym j.out) ∙ left))

  -- what leaves by a port is noted there
  pub port_noted : (note : Noted) × (note_of owner e x past ≡ Some note) × (note.probe ≡ copy.probe)
  port_noted = by_came (came copy) refl (judged capacity owner past (now (x ∷ past)) port copy x.outcome ok)
    where
      Goal : Type 0
      Goal = (note : Noted) × (note_of owner e x past ≡ Some note) × (note.probe ≡ copy.probe)

      noted : (passes : Exits) (n : ℕ) → has_left passes.up (ports passes) e ≡ true → noted_on passes.up (ports passes) (Some n) e ≡ true
      noted passes n l = on e l
        where
          on : (e : Egress) → has_left passes.up (ports passes) e ≡ true → noted_on passes.up (ports passes) (Some n) e ≡ true
          on up l = l
          on a l = l
          on b l = l
          on c l = refl
          on d l = l

      by_came : (seen : Came) → came copy ≡ seen → IsJudged capacity owner past (now (x ∷ past)) port copy x.outcome → Goal
      by_came (Ok (Tagged t)) tagged j = (record { key = key_of t; moment = now (x ∷ past); probe = copy.probe }, tagged_note capacity owner e x past port copy t is ok tagged left, refl)
      by_came (Err fault) faulty j =
          let H : Came → Type 0 = λ s. handling owner.place (knows_at owner past (now (x ∷ past)) port copy) port s ≡ Some j.h in
          absurd (faulty_unwanted owner.place known port fault e j.h (subst H faulty j.is) (wanted_by j))
      by_came (Ok (Plain frame)) plain j =
          let H : Came → Type 0 = λ s. handling owner.place (knows_at owner past (now (x ∷ past)) port copy) port s ≡ Some j.h in
          let source = plain_numbered owner.place known port frame e j.h is_port (subst H plain j.is) (wanted_by j) in
          let number : number_of j.h.source (next_number past) ≡ Some (next_number past) = ap (λ s. number_of s (next_number past)) source.1 in
          let passes : Exits = passing (remembers capacity owner past (now (x ∷ past))) j.h.wants.exits (came copy) in
          let note : Noted = record { key = record { src = frame.src; seq = next_number past }; moment = now (x ∷ past); probe = copy.probe } in
          let N : Outcome → Type 0 = λ o. note_if (is_noted o e) (key_handled owner.place x.event o) (now (x ∷ past)) (probe_handled (record { node = owner.number; place = length past }) x.event) ≡ Some note in
          let E : Event → Type 0 = λ ev. note_if (is_noted (judged_as j.h passes (next_number past)) e) (key_handled owner.place ev (judged_as j.h passes (next_number past))) (now (x ∷ past))
          (probe_handled (record { node = owner.number; place = length past }) ev) ≡ Some note in
          let B : Option ℕ → Type 0 = λ o. note_if (noted_on passes.up (ports passes) o e) (key_in (came copy) o) (now (x ∷ past)) copy.probe ≡ Some note in
          let C : Came → Type 0 = λ s. note_if (noted_on passes.up (ports passes) (Some (next_number past)) e) (key_in s (Some (next_number past))) (now (x ∷ past)) copy.probe ≡ Some note in
          let on = noted passes (next_number past) (ap (λ o. leaves o e) (sym j.out) ∙ left) in (
            note,
            subst N (sym j.out) (subst E (sym is) (subst B (sym number) (subst C (sym plain)
                (ap (λ t. note_if t (Some (record { src = frame.src; seq = next_number past })) (now (x ∷ past)) copy.probe) on)))),
            refl,
          )

  -- and isn't the frame of a send of the node's own
  pub not_own : (f : Fields) → plain_in (came copy) ≡ Some f → IsSource owner.place f.src → ⊥
  not_own f frame own = by_came (came copy) refl frame (judged capacity owner past (now (x ∷ past)) port copy x.outcome ok)
    where
      S : Fields → Type 0
      S g = IsSource owner.place g.src

      by_came : (seen : Came) → came copy ≡ seen → plain_in seen ≡ Some f → IsJudged capacity owner past (now (x ∷ past)) port copy x.outcome → ⊥
      by_came (Err fault) faulty frame j = cc
      by_came (Ok (Tagged t)) tagged frame j =
          let same : untag_of t ≡ f = cc in
          let W : Came → Type 0 = λ s. Rattle.hsr_node.specs.Flow.wants owner.place (knows_at owner past (now (x ∷ past)) port copy) port s e ≡ true in
          let wanted = subst W tagged (leaves_wanted capacity owner past (now (x ∷ past)) port copy x.outcome e ok left) in
          false≢true (sym (own_unwanted owner.place known port t e (subst S (sym same) own)) ∙ wanted)
      by_came (Ok (Plain frame')) plain frame j =
          let same : frame' ≡ f = cc in
          let H : Came → Type 0 = λ s. handling owner.place (knows_at owner past (now (x ∷ past)) port copy) port s ≡ Some j.h in
          let is_so = subst H plain j.is in
          let source = plain_numbered owner.place known port frame' e j.h is_port is_so (wanted_by j) in
          let none = own_not_numbered owner.place known port frame' j.h (subst S (sym same) own) is_so in
          let both : None ≡ Some source.0 = sym none ∙ source.1 in
          cc
