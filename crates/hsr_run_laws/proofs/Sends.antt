-- What leaves a DANH by a ring port: each send does, and else only what came with a tag.
use Rattle.std.proofs.Common.{◌≡◌, ◌⊎◌, ℕ, ◌==◌, Bool, true, false, if◌then◌else◌, List, [], ◌∷◌, length, Option, Some, None, Ok, refl, sym, ap, ◌∙◌, subst, inl, inr, ⊎_elim, eqb-true}
use Rattle.std.specs.Prelude.{option_map}
use Rattle.std.specs.List.{list_any, AllByRecursion, cons_option}
use Rattle.std.proofs.lemmas.Bool.{or_left}
use Rattle.hsr_frame.specs.declared.node.Mode.{Mode}
use Rattle.hsr_tag.specs.Tag.{tag_of, tagged_spelling}
use Rattle.hsr_tag.specs.declared.seen.Seen.TheVariants.{Tagged}
use Rattle.hsr_node.specs.Copies.{as_came}
use Rattle.hsr_node.specs.Flow.{pass_of, passes, send_at, sent_by}
use Rattle.hsr_node.specs.declared.sending.Sending.{Sending}
use Rattle.hsr_node.specs.Record.{Each, Owner, answer, leaves, now, probe_handled}
use Rattle.hsr_node.specs.declared.entry.Entry.{Entry}
use Rattle.hsr_node.specs.declared.event.Carried.{Carried}
use Rattle.hsr_node.specs.declared.event.Event.{Event}
use Rattle.hsr_node.specs.declared.event.Event.TheVariants.{Send, Supervise, Arrive, Age}
use Rattle.hsr_node.specs.declared.event.Probe.{Probe}
use Rattle.hsr_node.specs.declared.place.Place.TheVariants.{Danh}
use Rattle.hsr_run_laws.specs.Once.{is_copy}
use Rattle.hsr_run_laws.specs.Run.{is_of}
use Rattle.hsr_run_laws.proofs.Danh.{IsTagged, RingExit, danh_pass, danh_tagged, egress, exit_port}
use Rattle.hsr_run_laws.proofs.DanhSends.{IsOwnSend, SendsOrNot, danh_lives, danh_sends, nothing_aged}
use Rattle.hsr_run_laws.proofs.Passed.{SentByBoth, own_pass}
use Rattle.hsr_run_laws.proofs.Records.{Answered, IsAtPlace}
use Rattle.hsr_run_laws.proofs.Same.{any_one_more, is_of_itself}
use Rattle.hsr_run_laws.proofs.Views.{came, knows_at, leaves_wanted}
use Rattle.hsr_run_laws.proofs.Written.{came_fits}

module _ (capacity number : ℕ) (mac : List ℕ) (mode : Mode) where
  abbrev me : Owner
  me = record { number = number; place = Danh mac mode }

  -- ---- each send left by both ring ports

  left_here : (x : Entry) (past : List Entry) (s : Sending) → IsOwnSend mac mode x.event x.outcome s → probe_handled (record { node = number; place = length past }) x.event ≡ Some (record { node = number; place = length past }) →
      (r : RingExit) → list_any (is_copy (record { node = number; place = length past })) (passes me (exit_port r) (x ∷ past)) ≡ true
  left_here x past s own probe r =
      let Q : Option (List ℕ) → Type 0 = λ o. list_any (is_copy (record { node = number; place = length past }))
      (cons_option (option_map (λ octets. let c : Carried = record { probe = probe_handled (record { node = number; place = length past }) x.event; octets = octets } in c) o) (passes me (exit_port r) past)) ≡ true in
      let B : Option Probe → Type 0 = λ p. is_of (record { node = number; place = length past }) p ≡ true in
      subst Q (sym (own.octets r)) (or_left _ _ (subst B (sym probe) (is_of_itself (record { node = number; place = length past }))))

  pub send_passed : (place : ℕ) (s : Sending) (h : List Entry) → Each (Answered capacity me) h → send_at (Danh mac mode) place h ≡ Some s → SentByBoth capacity number mac mode place s h
  send_passed place s [] legal is = absurd cc
  send_passed place s (x ∷ past) legal is = step (place == length past) (eqb-true place (length past)) is (send_passed place s past legal.1)
    where
      step : (b : Bool) → (b ≡ true → place ≡ length past) → (if b then sent_by (Danh mac mode) x.event x.outcome else send_at (Danh mac mode) place past) ≡ Some s →
          (send_at (Danh mac mode) place past ≡ Some s → SentByBoth capacity number mac mode place s past) → SentByBoth capacity number mac mode place s (x ∷ past)
      step false same is rest =
          let r = rest is in
          record {
            seq = r.seq;
            numbered = r.numbered;
            source = r.source;
            elsewhere = r.elsewhere;
            left = λ exit. any_one_more (is_copy (record { node = number; place = place })) (pass_of me (exit_port exit) x past) (passes me (exit_port exit) past) (r.left exit);
          }
      step true same is rest =
          let own = own_pass capacity number mac mode x past legal.0 s is in
          let P : ℕ → Type 0 = λ n. (r : RingExit) → list_any (is_copy (record { node = number; place = n })) (passes me (exit_port r) (x ∷ past)) ≡ true in
          record {
            seq = own.0.seq;
            numbered = own.0.number;
            source = own.0.source;
            elsewhere = own.0.elsewhere;
            left = subst P (sym (same refl)) (left_here x past s own.0 own.1);
          }

  -- ---- what leaves by a ring port came with a tag, or is a send's frame, written with a tag

  pub record IsOwnCopy (whole : List Entry) (r : RingExit) (copy : Carried) : Type 0 where
    pub place : ℕ
    pub sending : Sending
    pub seq : ℕ
    pub is : send_at (Danh mac mode) place whole ≡ Some sending
    pub probe : copy.probe ≡ Some (record { node = number; place = place })
    pub octets : copy.octets ≡ tagged_spelling (tag_of sending.frame (exit_port r) seq)

  abbrev pub LeavesAs : List Entry → RingExit → Carried → Type 0
  LeavesAs whole r copy = IsTagged copy ⊎ IsOwnCopy whole r copy

  abbrev NoneOrSo : List Entry → RingExit → Option Carried → Type 0
  NoneOrSo whole r o = (o ≡ None) ⊎ ((c : Carried) × (o ≡ Some c) × LeavesAs whole r c)

  pub leaves_as : (whole : List Entry) (r : RingExit) (x : Entry) (past : List Entry) → Answered capacity me x past → IsAtPlace (Danh mac mode) whole x past → NoneOrSo whole r (pass_of me (exit_port r) x past)
  leaves_as whole r x past ok at_place = by_event x.event refl
    where
      answered : (event : Event) → x.event ≡ event → answer capacity me past (now (x ∷ past)) event ≡ Ok x.outcome
      answered event e = let A : Event → Type 0 = λ ev. answer capacity me past (now (x ∷ past)) ev ≡ Ok x.outcome in subst A e ok

      own : SendsOrNot mac mode x.event x.outcome → NoneOrSo whole r (pass_of me (exit_port r) x past)
      own (inl none) = inl (ap (option_map (λ octets. record { probe = probe_handled (record { node = number; place = length past }) x.event; octets = octets })) (none.1 r))
      own (inr some) =
          let s = own_pass capacity number mac mode x past ok some.0 some.1 in
          inr (
            record { probe = probe_handled (record { node = number; place = length past }) x.event; octets = tagged_spelling (tag_of some.0.frame (exit_port r) s.0.seq) },
            ap (option_map (λ octets. record { probe = probe_handled (record { node = number; place = length past }) x.event; octets = octets })) (s.0.octets r),
            inr (record { place = length past; sending = some.0; seq = s.0.seq; is = at_place ∙ some.1; probe = s.1; octets = refl }),
          )

      by_event : (event : Event) → x.event ≡ event → NoneOrSo whole r (pass_of me (exit_port r) x past)
      by_event (Send from dst vlan ethertype payload) e =
          let S : Event → Type 0 = λ ev. SendsOrNot mac mode ev x.outcome in
          own (subst S (sym e) (danh_sends capacity number mac mode past (now (x ∷ past)) from dst vlan ethertype payload x.outcome (answered (Send from dst vlan ethertype payload) e)))
      by_event (Supervise about) e =
          let S : Event → Type 0 = λ ev. SendsOrNot mac mode ev x.outcome in
          own (subst S (sym e) (danh_lives capacity number mac mode past (now (x ∷ past)) about x.outcome (answered (Supervise about) e)))
      by_event Age e =
          inl (ap (option_map (λ octets. record { probe = probe_handled (record { node = number; place = length past }) x.event; octets = octets })) (nothing_aged mac mode x.event x.outcome (exit_port r) e))
      by_event (Arrive port copy) e =
          let pass = danh_pass capacity number mac mode x past (now (x ∷ past)) port copy r e (answered (Arrive port copy) e) in
          let P : Option Carried → Type 0 = λ o. NoneOrSo whole r o in
          subst P (sym pass) (by_leaves (leaves x.outcome (egress r)) refl)
        where
          by_leaves : (b : Bool) → leaves x.outcome (egress r) ≡ b → NoneOrSo whole r (option_map (λ octets. record { probe = copy.probe; octets = octets }) (if b then as_came copy.octets else None))
          by_leaves false left = inl refl
          by_leaves true left =
              let t = danh_tagged mac mode (knows_at me past (now (x ∷ past)) port copy) port (came copy) (egress r) (leaves_wanted capacity me past (now (x ∷ past)) port copy x.outcome (egress r) (answered (Arrive port copy) e) left) in
              inr (copy, ap (option_map (λ octets. record { probe = copy.probe; octets = octets })) (came_fits copy.octets (Tagged t.0) t.1), inl t)

  pub all_leave_as : (whole : List Entry) (r : RingExit) (h : List Entry) → Each (Answered capacity me) h → Each (IsAtPlace (Danh mac mode) whole) h → AllByRecursion (LeavesAs whole r) (passes me (exit_port r) h)
  all_leave_as whole r [] legal at_place = tt
  all_leave_as whole r (x ∷ past) legal at_place =
      let rest = all_leave_as whole r past legal.1 at_place.1 in
      let Q : Option Carried → Type 0 = λ o. AllByRecursion (LeavesAs whole r) (cons_option o (passes me (exit_port r) past)) in
      ⊎_elim (λ none. subst Q (sym none) rest) (λ some. subst Q (sym some.1) (some.2, rest)) (leaves_as whole r x past legal.0 at_place.0)
