-- The record of any node: what comes of a send leaves by each port where it is wanted, or went up.
use Rattle.std.proofs.Common.{◌≡◌, ◌⊎◌, ℕ, ◌+◌, ◌<◌, ◌≤◌, ◌==◌, ◌&&◌, ◌||◌, Bool, true, false, not, if◌then◌else◌, List, [], ◌∷◌, length, count_by, Option, Some, None, Ok, Err, refl, sym, ap, ◌∙◌, subst, arith, inl, inr, ⊎_elim, zero, suc, eqb-true, eq-eqb}
use Rattle.std.specs.Prelude.{option_map, unwrap_or}
use Rattle.std.specs.List.{list_any, AllByRecursion, cons_option}
use Rattle.std.proofs.lemmas.Bool.{false≢true, and_from, or_left, or_right, or_cases, or_parts, cases_Bool}
use Rattle.hsr_frame.specs.Address.{is_group}
use Rattle.hsr_frame.specs.Egress.{Egress, has_exit, to, up}
use Rattle.hsr_frame.specs.Egress as out
use Rattle.hsr_frame.specs.Grammar.{Fields, spelling}
use Rattle.hsr_frame.specs.declared.egress.Exits.{Exits}
use Rattle.hsr_frame.specs.declared.egress.Wants.{Wants}
use Rattle.hsr_frame.specs.declared.node.Cause.{Cause}
use Rattle.hsr_frame.specs.declared.node.Mode.{Mode}
use Rattle.hsr_frame.specs.declared.node.Mode.TheVariants.{H}
use Rattle.hsr_tag.specs.Tag.{untag_of}
use Rattle.hsr_tag.specs.declared.seen.Seen.TheVariants.{Plain, Tagged}
use Rattle.hsr_redbox.specs.Step.{number_of}
use Rattle.hsr_danh.specs.Wanted as of_danh
use Rattle.hsr_redbox.specs.Wanted.{numbered, unnumbered}
use Rattle.hsr_quadbox.specs.Wanted as of_quadbox
use Rattle.hsr_redbox.specs.declared.wanted.Handling.{Handling}
use Rattle.hsr_node.specs.Copies.{copy_octets, forwarded, passed_octets, plain_in, ports_of, side_of, written}
use Rattle.hsr_node.specs.Flow.{arrivals, copy_at, pass_of, passes, wanted_at, wants}
use Rattle.hsr_node.specs.Record.{Each, Noted, Owner, answer, handling, has_left, has_port, is_noted, knows, leaves, next_number, note_of, noted_on, notes, now, number_in, passing, probe_handled, remembers, station_wanted}
use Rattle.hsr_node.specs.Step.{quad_port, ring_port}
use Rattle.hsr_node.specs.declared.entry.Entry.{Entry}
use Rattle.hsr_node.specs.declared.event.Carried.{Carried}
use Rattle.hsr_node.specs.declared.event.Event.{Event}
use Rattle.hsr_node.specs.declared.event.Event.TheVariants.{Send, Supervise, Arrive, Age}
use Rattle.hsr_node.specs.declared.event.Outcome.{Outcome}
use Rattle.hsr_node.specs.declared.event.Outcome.TheVariants.{Judged}
use Rattle.hsr_node.specs.declared.event.Probe.{Probe}
use Rattle.hsr_node.specs.declared.place.Place.{Place}
use Rattle.hsr_node.specs.declared.place.Place.TheVariants.{Danh, RedBox, QuadBox, Station}
use Rattle.hsr_network_laws.specs.Network.{is_edge}
use Rattle.hsr_node.specs.Place.{ports}
use Rattle.hsr_run_laws.specs.Once.{delivers, delivers_by, is_copy}
use Rattle.hsr_run_laws.specs.Premises.{is_note_of}
use Rattle.hsr_run_laws.specs.Run.{is_of}
use Rattle.hsr_network_laws.proofs.Sides.{IsEdgeSide, any_port_there, edge_side, exit_of, forward_down, forward_ring, forward_up, on_ring_no_edge, ring_at, ring_side, writes_ring}
use Rattle.hsr_network_laws.proofs.Unknown.{Unknown}
use Rattle.hsr_network_laws.proofs.Wants.{from_interlink, interlink_is}
use Rattle.hsr_run_laws.proofs.Arrived.{Knowing, MayKnow}
use Rattle.hsr_run_laws.proofs.NoStorm.{PassCame, came_leaves}
use Rattle.hsr_run_laws.proofs.Noting.{CameNumbered, CameTagged, IsNoteOf, NoteCame, new_note, note_from}
use Rattle.hsr_run_laws.proofs.Records.{Answered}
use Rattle.hsr_run_laws.proofs.Same.{any_one_more, probe_is}
use Rattle.hsr_run_laws.proofs.Views.{Came, came, judged, knows_at, leaves-judged, leaves_wanted, wants_at}
use Rattle.hsr_run_laws.proofs.Wanted.{wanted_on_ring}
use Rattle.hsr_run_laws.proofs.Written.{came_fits}

-- ---- ports

-- what came plain and gets a number came to an interlink
pub record IsInterlink (place : Place) (port : ℕ) : Type 0 where
  pub mac : List ℕ
  pub mode : Mode
  pub is_box : place ≡ RedBox mac mode
  pub is_two : port ≡ 2

-- what has no number where it is handled
unnumbered_at : {X : Type 0} (o : Option X) (w : X → Wants) (h : Handling) → option_map (λ x. unnumbered (w x)) o ≡ Some h → h.source ≡ None
unnumbered_at None w h is = absurd cc
unnumbered_at (Some x) w h is = let same : unnumbered (w x) ≡ h = cc in sym (ap (λ (g : Handling). g.source) same)

station_unnumbered : (b : Bool) (w : Wants) (h : Handling) → (if b then Some (unnumbered w) else None) ≡ Some h → h.source ≡ None
station_unnumbered false w h is = absurd cc
station_unnumbered true w h is = let same : unnumbered w ≡ h = cc in sym (ap (λ (g : Handling). g.source) same)

pub numbered_at_edge : (place : Place) (known : List ℕ → Bool) (port : ℕ) (f : Fields) (h : Handling) → handling place known port (Ok (Plain f)) ≡ Some h → (h.source ≡ None) ⊎ IsInterlink place port
numbered_at_edge (Danh mac mode) known port f h is = inl (unnumbered_at (ring_port port) (λ x. of_danh.wanted mac mode x (Ok (Plain f))) h is)
numbered_at_edge (RedBox mac mode) known zero f h is = inl (ap (λ (o : Option Handling). unwrap_or (option_map (λ (g : Handling). g.source) o) None) (sym is))
numbered_at_edge (RedBox mac mode) known (suc zero) f h is = inl (ap (λ (o : Option Handling). unwrap_or (option_map (λ (g : Handling). g.source) o) None) (sym is))
numbered_at_edge (RedBox mac mode) known (suc (suc zero)) f h is = inr (record { mac = mac; mode = mode; is_box = refl; is_two = refl })
numbered_at_edge (RedBox mac mode) known (suc (suc (suc n))) f h is = let below = any_port_there (RedBox mac mode) known (suc (suc (suc n))) (Ok (Plain f)) h is in absurd (omega arith)
numbered_at_edge QuadBox known port f h is = inl (unnumbered_at (quad_port port) (λ x. of_quadbox.wanted x (Ok (Plain f))) h is)
numbered_at_edge (Station macs) known port f h is = inl (station_unnumbered (port == 0) (station_wanted macs.items (Ok (Plain f))) h is)

-- ---- the octets that leave of what came

came_octets : (place : Place) (port n : ℕ) (copy : Carried) (up_too : Bool) (out_ports : List Bool) (seq : Option ℕ) (why : Cause) →
    copy_octets place (Arrive port copy) (Judged up_too out_ports seq why) n ≡ (if has_port out_ports n then forwarded (side_of place port) (side_of place n) seq copy.octets else None)
unfolding copy_octets passed_octets
came_octets place port n copy up_too out_ports seq why = refl

-- all that came and passes
pub came_pass : (capacity : ℕ) (owner : Owner) (n : ℕ) (x : Entry) (past : List Entry) (port : ℕ) (copy : Carried) → x.event ≡ Arrive port copy → answer capacity owner past (now (x ∷ past)) (Arrive port copy) ≡ Ok x.outcome →
    pass_of owner n x past ≡ option_map (λ octets. record { probe = copy.probe; octets = octets }) (if has_port (ports_of x.outcome) n then forwarded (side_of owner.place port) (side_of owner.place n) (number_in x.outcome) copy.octets else None)
came_pass capacity owner n x past port copy is ok =
    let j = judged capacity owner past (now (x ∷ past)) port copy x.outcome ok in
    let p : Exits = passing (remembers capacity owner past (now (x ∷ past))) j.h.wants.exits (came copy) in
    let E : Event → Type 0 = λ ev. option_map (λ octets. let c : Carried = record { probe = probe_handled (record { node = owner.number; place = length past }) ev; octets = octets } in c) (copy_octets owner.place ev x.outcome n)
    ≡ option_map (λ octets. record { probe = copy.probe; octets = octets }) (if has_port (ports_of x.outcome) n then forwarded (side_of owner.place port) (side_of owner.place n) (number_in x.outcome) copy.octets else None) in
    let O : Outcome → Type 0 = λ o. copy_octets owner.place (Arrive port copy) o n ≡ (if has_port (ports_of o) n then forwarded (side_of owner.place port) (side_of owner.place n) (number_in o) copy.octets else None) in
    subst E (sym is) (ap (option_map (λ octets. let c : Carried = record { probe = copy.probe; octets = octets } in c))
    (subst O (sym j.out) (came_octets owner.place port n copy p.up (Rattle.hsr_node.specs.Record.ports p) (number_of j.h.source (next_number past)) (Rattle.hsr_frame.specs.Egress.cause_of j.h.wants p))))

module _ (capacity : ℕ) (owner : Owner) where
  pub came_by : (past : List Entry) (at port : ℕ) (copy : Carried) (outcome : Outcome) → answer capacity owner past at (Arrive port copy) ≡ Ok outcome → port < ports owner.place
  came_by past at port copy outcome ok =
      let j = judged capacity owner past at port copy outcome ok in
      any_port_there owner.place (knows_at owner past at port copy) port (came copy) j.h j.is

  -- whether an arrival leaves by a port is whether it leaves by its egress
  pub leaves_port : (x : Entry) (past : List Entry) (port n : ℕ) (copy : Carried) → x.event ≡ Arrive port copy → answer capacity owner past (now (x ∷ past)) (Arrive port copy) ≡ Ok x.outcome → n < 4 →
      has_port (ports_of x.outcome) n ≡ leaves x.outcome (exit_of n)
  leaves_port x past port n copy is ok few = by_number n few
    where
      came_so : PassCame capacity owner x past copy
      came_so = record { port = port; come = copy; is = is; ok = ok; probe = refl }

      by_number : (n : ℕ) → n < 4 → has_port (ports_of x.outcome) n ≡ leaves x.outcome (exit_of n)
      by_number zero few = (came_leaves capacity owner 0 x past copy came_so).1
      by_number (suc zero) few = (came_leaves capacity owner 1 x past copy came_so).1
      by_number (suc (suc zero)) few = (came_leaves capacity owner 2 x past copy came_so).1
      by_number (suc (suc (suc zero))) few = (came_leaves capacity owner 3 x past copy came_so).1
      by_number (suc (suc (suc (suc n)))) few = absurd (omega arith)

  -- a plain frame leaves where it is wanted
  pub leaves_plain : (past : List Entry) (at port : ℕ) (copy : Carried) (outcome : Outcome) (f : Fields) (e : Egress) → answer capacity owner past at (Arrive port copy) ≡ Ok outcome → came copy ≡ Ok (Plain f) →
      leaves outcome e ≡ wants_at owner past at port copy e
  leaves_plain past at port copy outcome f e ok is =
      let j = judged capacity owner past at port copy outcome ok in
      ap (λ o. leaves o e) j.out ∙ leaves-judged j.h (passing (remembers capacity owner past at) j.h.wants.exits (came copy)) (next_number past) e
      ∙ ap (λ s. has_exit (passing (remembers capacity owner past at) j.h.wants.exits s) e) is ∙ ap (λ o. wanted_at o e) (sym j.is)

  -- ---- from each arrival of a send

  -- what an arrival brings about, and what lasts, holds after one
  pub from_arrival : (send : Probe) (port : ℕ) (may : Knowing) (P : Carried → Type 0) (Q : List Entry → Type 0) → ((x : Entry) (past : List Entry) → Q past → Q (x ∷ past)) →
      ((x : Entry) (past : List Entry) (copy : Carried) → x.event ≡ Arrive port copy → answer capacity owner past (now (x ∷ past)) (Arrive port copy) ≡ Ok x.outcome → may (knows_at owner past (now (x ∷ past)) port copy) → P copy → is_copy send copy ≡ true → Q (x ∷ past)) →
      (h : List Entry) → Each (Answered capacity owner) h → Each (MayKnow owner send may) h → AllByRecursion P (arrivals port h) → list_any (is_copy send) (arrivals port h) ≡ true → Q h
  from_arrival send port may P Q lasts brings [] legal knowing all some = absurd (false≢true some)
  from_arrival send port may P Q lasts brings (x ∷ past) legal knowing all some = by_event x.event refl all some (from_arrival send port may P Q lasts brings past legal.1 knowing.1)
    where
      Rest : Type 0
      Rest = AllByRecursion P (arrivals port past) → list_any (is_copy send) (arrivals port past) ≡ true → Q past

      by_port : (b : Bool) (number : ℕ) (copy : Carried) → (b ≡ true → number ≡ port) → x.event ≡ Arrive number copy → AllByRecursion P (cons_option (if b then Some copy else None) (arrivals port past)) →
          list_any (is_copy send) (cons_option (if b then Some copy else None) (arrivals port past)) ≡ true → Rest → Q (x ∷ past)
      by_port false number copy same is all some rest = lasts x past (rest all some)
      by_port true number copy same is all some rest =
          ⊎_elim
          (λ mine.
          let A : Event → Type 0 = λ ev. answer capacity owner past (now (x ∷ past)) ev ≡ Ok x.outcome in
          let M : Event → Type 0 = λ ev. is_of send (probe_handled (record { node = owner.number; place = length past }) ev) ≡ true → may (knows owner.place past (now (x ∷ past)) ev) in
          let E : ℕ → Type 0 = λ n. x.event ≡ Arrive n copy in
          let here = subst E (same refl) is in
          brings x past copy here (subst A here legal.0) (subst M here knowing.0 mine) all.0 mine)
          (λ later. lasts x past (rest all.1 later))
          (or_cases (is_copy send copy) (list_any (is_copy send) (arrivals port past)) some)

      by_event : (event : Event) → x.event ≡ event → AllByRecursion P (cons_option (copy_at port event) (arrivals port past)) → list_any (is_copy send) (cons_option (copy_at port event) (arrivals port past)) ≡ true → Rest → Q (x ∷ past)
      by_event (Send from dst vlan seen payload) is all some rest = lasts x past (rest all some)
      by_event (Supervise about) is all some rest = lasts x past (rest all some)
      by_event Age is all some rest = lasts x past (rest all some)
      by_event (Arrive number copy) is all some rest = by_port (number == port) number copy (eqb-true number port) is all some rest

  -- a copy of a send left by a port
  abbrev pub HasLeft : ℕ → Probe → List Entry → Type 0
  HasLeft n send h = list_any (is_copy send) (passes owner n h) ≡ true

  pub left_lasts : (n : ℕ) (send : Probe) (x : Entry) (past : List Entry) → HasLeft n send past → HasLeft n send (x ∷ past)
  left_lasts n send x past h = any_one_more (is_copy send) (pass_of owner n x past) (passes owner n past) h

  -- what came leaves with octets
  leaves_with : (n : ℕ) (x : Entry) (past : List Entry) (port : ℕ) (copy : Carried) (octets : List ℕ) (send : Probe) → x.event ≡ Arrive port copy → answer capacity owner past (now (x ∷ past)) (Arrive port copy) ≡ Ok x.outcome →
      has_port (ports_of x.outcome) n ≡ true → forwarded (side_of owner.place port) (side_of owner.place n) (number_in x.outcome) copy.octets ≡ Some octets → is_copy send copy ≡ true → HasLeft n send (x ∷ past)
  leaves_with n x past port copy octets send is ok out_there some mine =
      let Q : Option Carried → Type 0 = λ o. list_any (is_copy send) (cons_option o (passes owner n past)) ≡ true in
      let B : Bool → Type 0 = λ t. Q (option_map (λ octets. record { probe = copy.probe; octets = octets }) (if t then forwarded (side_of owner.place port) (side_of owner.place n) (number_in x.outcome) copy.octets else None)) in
      let F : Option (List ℕ) → Type 0 = λ o. Q (option_map (λ octets. record { probe = copy.probe; octets = octets }) o) in
      subst Q (sym (came_pass capacity owner n x past port copy is ok)) (subst B (sym out_there) (subst F (sym some) (or_left _ _ mine)))

  -- ---- what was noted left

  -- what a note of another node's send is made of
  pub record Noted' (x : Entry) (past : List Entry) (e : Egress) (send : Probe) (note : Noted) : Type 0 where
    pub came' : NoteCame capacity owner e x past note
    pub mine : is_copy send came'.copy ≡ true

  pub note_came : (x : Entry) (past : List Entry) (e : Egress) (send : Probe) (note : Noted) → Answered capacity owner x past → IsNoteOf owner e x past note → (send.node ≡ owner.number → ⊥) → is_note_of (Some send) note ≡ true → Noted' x past e send note
  note_came x past e send note ok n other mine =
      ⊎_elim
      (λ own. let there = probe_is send note.probe mine in
      let here : Some send ≡ Some (record { node = owner.number; place = length past }) = sym there ∙ own in
      let same : send ≡ record { node = owner.number; place = length past } = cc in
      absurd (other (ap (λ (p : Probe). p.node) same)))
      (λ c. let P : Option Probe → Type 0 = λ o. is_of send o ≡ true in record { came' = c; mine = subst P c.probe mine })
      (note_from capacity owner e x past note ok n)

  tagged_left : (n : ℕ) (x : Entry) (past : List Entry) (send : Probe) (note : Noted) (c : Noted' x past (exit_of n) send note) → n < ports owner.place → n < 4 →
      CameTagged capacity owner past (now (x ∷ past)) c.came'.port c.came'.copy (exit_of n) x.outcome note.key → HasLeft n send (x ∷ past)
  tagged_left n x past send note c below few t =
      let port = c.came'.port in
      let copy = c.came'.copy in
      let there = came_by past (now (x ∷ past)) c.came'.port c.came'.copy x.outcome c.came'.ok in
      let W : Came → Type 0 = λ s. wants owner.place (knows_at owner past (now (x ∷ past)) c.came'.port c.came'.copy) c.came'.port s (exit_of n) ≡ true in
      let wanted = subst W t.is (leaves_wanted capacity owner past (now (x ∷ past)) c.came'.port c.came'.copy x.outcome (exit_of n) c.came'.ok t.left) in
      let from = ring_side owner.place c.came'.port there (on_ring_no_edge owner.place c.came'.port there (wanted_on_ring owner.place (knows_at owner past (now (x ∷ past)) c.came'.port c.came'.copy) c.came'.port t.tagged (exit_of n) wanted)) in
      let gone = leaves_port x past c.came'.port n c.came'.copy c.came'.is c.came'.ok few ∙ t.left in
      ⊎_elim
      (λ edge.
      let forward = forward_down owner.place c.came'.port n (number_in x.outcome) c.came'.copy.octets from (edge_side owner.place n below edge)
      ∙ ap (λ s. written (side_of (RedBox [] H) 2) (number_in x.outcome) (plain_in s)) t.is in
      leaves_with n x past c.came'.port c.came'.copy (spelling (untag_of t.tagged)) send c.came'.is c.came'.ok gone forward c.mine)
      (λ no_edge.
      let forward = forward_ring owner.place c.came'.port n (number_in x.outcome) c.came'.copy.octets from (ring_side owner.place n below no_edge) ∙ came_fits c.came'.copy.octets (Tagged t.tagged) t.is in
      leaves_with n x past c.came'.port c.came'.copy c.came'.copy.octets send c.came'.is c.came'.ok gone forward c.mine)
      (cases_Bool (is_edge owner.place n))

  -- what was numbered came to an interlink
  pub numbered_interlink : (x : Entry) (past : List Entry) (port : ℕ) (copy : Carried) (key : Rattle.hsr_duptable.specs.Key.Key) → answer capacity owner past (now (x ∷ past)) (Arrive port copy) ≡ Ok x.outcome → CameNumbered port copy x.outcome key → IsInterlink owner.place port
  numbered_interlink x past port copy key ok m =
      let j = judged capacity owner past (now (x ∷ past)) port copy x.outcome ok in
      let H' : Came → Type 0 = λ s. handling owner.place (knows_at owner past (now (x ∷ past)) port copy) port s ≡ Some j.h in
      ⊎_elim
      (λ none.
      let number : number_of j.h.source (next_number past) ≡ Some m.seq = let a = m.out in let b = j.out in cc in
      let empty : number_of j.h.source (next_number past) ≡ None = ap (λ s. number_of s (next_number past)) none in
      absurd cc)
      (λ box. box)
      (numbered_at_edge owner.place (knows_at owner past (now (x ∷ past)) port copy) port m.frame j.h (subst H' m.is j.is))

  numbered_left : (n : ℕ) (x : Entry) (past : List Entry) (send : Probe) (note : Noted) (c : Noted' x past (exit_of n) send note) → IsNoteOf owner (exit_of n) x past note → n < ports owner.place → is_edge owner.place n ≡ false →
      CameNumbered c.came'.port c.came'.copy x.outcome note.key → HasLeft n send (x ∷ past)
  numbered_left n x past send note c i below no_edge m =
      let box = numbered_interlink x past c.came'.port c.came'.copy note.key c.came'.ok m in
      let N : Outcome → Type 0 = λ o. is_noted o (exit_of n) ≡ true in
      let B : Place → Type 0 = λ p. n < ports p in
      let E : Place → Type 0 = λ p. is_edge p n ≡ false in
      let gone = by_number n (subst B box.is_box below) (subst E box.is_box no_edge) (subst N m.out i.noted) in
      let P : Outcome → Type 0 = λ o. has_port (ports_of o) n ≡ true in
      let D : Place → Type 0 = λ p. is_edge p c.came'.port ≡ true in
      let K : ℕ → Type 0 = λ port. is_edge (RedBox box.mac box.mode) port ≡ true in
      let from = edge_side owner.place c.came'.port (came_by past (now (x ∷ past)) c.came'.port c.came'.copy x.outcome c.came'.ok) (subst D (sym box.is_box) (subst K (sym box.is_two) refl)) in
      let side = ring_side owner.place n below no_edge in
      let forward = forward_up owner.place c.came'.port n (number_in x.outcome) c.came'.copy.octets from side
      ∙ ap (λ s. written (side_of QuadBox (ring_at side.0)) (number_in x.outcome) (plain_in s)) m.is
      ∙ ap (λ o. written (side_of QuadBox (ring_at side.0)) (number_in o) (Some m.frame)) m.out in
      let w = writes_ring side.0 m.seq m.frame in
      leaves_with n x past c.came'.port c.came'.copy w.0 send c.came'.is c.came'.ok (subst P (sym m.out) gone) (forward ∙ w.1) c.mine
    where
      by_number : (n : ℕ) → n < 3 → (n == 2) ≡ false → noted_on m.up_too m.out_ports (Some m.seq) (exit_of n) ≡ true → has_port m.out_ports n ≡ true
      by_number zero few other h = h
      by_number (suc zero) few other h = h
      by_number (suc (suc zero)) few other h = absurd (false≢true (sym other))
      by_number (suc (suc (suc n))) few other h = absurd (omega arith)

  -- what was noted of another node's send at a port left by it; at an edge, if none of it came there
  pub noted_left : (n : ℕ) (send : Probe) (h : List Entry) → n < ports owner.place → n < 4 → Each (Answered capacity owner) h → (send.node ≡ owner.number → ⊥) →
      (is_edge owner.place n ≡ true → list_any (is_copy send) (arrivals n h) ≡ false) → list_any (is_note_of (Some send)) (notes owner (exit_of n) h) ≡ true → HasLeft n send h
  noted_left n send [] below few legal other away some = absurd (false≢true some)
  noted_left n send (x ∷ past) below few legal other away some = by_note (new_note owner (exit_of n) x past) (noted_left n send past below few legal.1 other (λ e. none_before (copy_at n x.event) (away e)))
    where
      none_before : (o : Option Carried) → list_any (is_copy send) (cons_option o (arrivals n past)) ≡ false → list_any (is_copy send) (arrivals n past) ≡ false
      none_before None h = h
      none_before (Some copy) h = (or_parts (is_copy send copy) (list_any (is_copy send) (arrivals n past)) h).1

      N' : Option Noted → Type 0
      N' o = list_any (is_note_of (Some send)) (cons_option o (notes owner (exit_of n) past)) ≡ true

      here : (note : Noted) → IsNoteOf owner (exit_of n) x past note → (c : Noted' x past (exit_of n) send note) → HasLeft n send (x ∷ past)
      here note i c =
          ⊎_elim (λ t. tagged_left n x past send note c below few t)
          (λ m. ⊎_elim (λ edge. absurd (back edge m)) (λ no_edge. numbered_left n x past send note c i below no_edge m) (cases_Bool (is_edge owner.place n)))
          c.came'.how
        where
          back : is_edge owner.place n ≡ true → CameNumbered c.came'.port c.came'.copy x.outcome note.key → ⊥
          back edge m =
              let box = numbered_interlink x past c.came'.port c.came'.copy note.key c.came'.ok m in
              let D : Place → Type 0 = λ p. is_edge p n ≡ true in
              let two : n ≡ 2 = eqb-true n 2 (subst D box.is_box edge) in
              let A : Event → Type 0 = λ ev. list_any (is_copy send) (cons_option (copy_at n ev) (arrivals n past)) ≡ false in
              let B : Bool → Type 0 = λ b. list_any (is_copy send) (cons_option (if b then Some c.came'.copy else None) (arrivals n past)) ≡ false in
              let none = subst B (eq-eqb c.came'.port n (box.is_two ∙ sym two)) (subst A c.came'.is (away edge)) in
              false≢true (sym (or_parts (is_copy send c.came'.copy) (list_any (is_copy send) (arrivals n past)) none).0 ∙ c.mine)

      by_note : (note_of owner (exit_of n) x past ≡ None) ⊎ ((note : Noted) × (note_of owner (exit_of n) x past ≡ Some note) × IsNoteOf owner (exit_of n) x past note) →
          (list_any (is_note_of (Some send)) (notes owner (exit_of n) past) ≡ true → HasLeft n send past) → HasLeft n send (x ∷ past)
      by_note (inl none) rest = left_lasts n send x past (rest (subst N' none some))
      by_note (inr (note, is, i)) rest =
          ⊎_elim (λ mine. here note i (note_came x past (exit_of n) send note legal.0 i other mine)) (λ later. left_lasts n send x past (rest later))
          (or_cases (is_note_of (Some send) note) (list_any (is_note_of (Some send)) (notes owner (exit_of n) past)) (subst N' is some))

  -- what was noted as gone up of another node's send was delivered
  pub noted_up : (send : Probe) (h : List Entry) → Each (Answered capacity owner) h → (send.node ≡ owner.number → ⊥) →
      list_any (is_note_of (Some send)) (notes owner up h) ≡ true → list_any (delivers send) h ≡ true
  noted_up send [] legal other some = absurd (false≢true some)
  noted_up send (x ∷ past) legal other some = by_note (new_note owner up x past) (noted_up send past legal.1 other)
    where
      N' : Option Noted → Type 0
      N' o = list_any (is_note_of (Some send)) (cons_option o (notes owner up past)) ≡ true

      here : (note : Noted) → IsNoteOf owner up x past note → (c : Noted' x past up send note) → list_any (delivers send) (x ∷ past) ≡ true
      here note i c =
          let D : Event → Type 0 = λ ev. delivers_by send ev x.outcome ≡ true in
          or_left _ _ (subst D (sym c.came'.is) (and_from _ _ c.mine (⊎_elim (λ t. t.left) (λ m. went_up m) c.came'.how)))
        where
          went_up : CameNumbered c.came'.port c.came'.copy x.outcome note.key → leaves x.outcome up ≡ true
          went_up m =
              let N : Outcome → Type 0 = λ o. is_noted o up ≡ true in
              let L : Outcome → Type 0 = λ o. leaves o up ≡ true in
              let noted : m.up_too ≡ true = subst N m.out i.noted in
              subst L (sym m.out) noted

      by_note : (note_of owner up x past ≡ None) ⊎ ((note : Noted) × (note_of owner up x past ≡ Some note) × IsNoteOf owner up x past note) →
          (list_any (is_note_of (Some send)) (notes owner up past) ≡ true → list_any (delivers send) past ≡ true) → list_any (delivers send) (x ∷ past) ≡ true
      by_note (inl none) rest = or_right _ _ (rest (subst N' none some))
      by_note (inr (note, is, i)) rest =
          ⊎_elim (λ mine. here note i (note_came x past up send note legal.0 i other mine)) (λ later. or_right _ _ (rest later))
          (or_cases (is_note_of (Some send) note) (list_any (is_note_of (Some send)) (notes owner up past)) (subst N' is some))

  -- ---- what comes to an edge

  -- an arrival of a send that comes to an interlink, or to a Station, is its plain frame
  abbrev pub IsPlainOf : Probe → Fields → Carried → Type 0
  IsPlainOf send frame copy = is_copy send copy ≡ true → came copy ≡ Ok (Plain frame)

  abbrev pub HasGoneUp : Probe → List Entry → Type 0
  HasGoneUp send h = list_any (delivers send) h ≡ true

  -- what comes to an interlink, is to another and isn't known there gets a number
  record IsTakenIn (x : Entry) (f : Fields) : Type 0 where
    seq : ℕ
    number : number_in x.outcome ≡ Some seq
    goes : (e : Egress) → has_exit (from_interlink (is_group f.dst)).exits e ≡ leaves x.outcome e

  taken_in : (mac : List ℕ) (mode : Mode) → owner.place ≡ RedBox mac mode → (x : Entry) (past : List Entry) (copy : Carried) (f : Fields) → (f.src ≡ mac → ⊥) → (f.dst ≡ mac → ⊥) → knows_at owner past (now (x ∷ past)) 2 copy f.dst ≡ false →
      answer capacity owner past (now (x ∷ past)) (Arrive 2 copy) ≡ Ok x.outcome → came copy ≡ Ok (Plain f) → IsTakenIn x f
  taken_in mac mode place x past copy f src dst near ok is =
      let there = interlink_is mac mode (knows_at owner past (now (x ∷ past)) 2 copy) f src dst near in
      let j = judged capacity owner past (now (x ∷ past)) 2 copy x.outcome ok in
      let C : Came → Type 0 = λ s. handling owner.place (knows_at owner past (now (x ∷ past)) 2 copy) 2 s ≡ Some (numbered f.src (from_interlink (is_group f.dst))) in
      let L : Place → Type 0 = λ p. handling p (knows_at owner past (now (x ∷ past)) 2 copy) 2 (Ok (Plain f)) ≡ Some (numbered f.src (from_interlink (is_group f.dst))) in
      let handled : handling owner.place (knows_at owner past (now (x ∷ past)) 2 copy) 2 (came copy) ≡ Some (numbered f.src (from_interlink (is_group f.dst))) = subst C (sym is) (subst L (sym place) there) in
      let both : Some j.h ≡ Some (numbered f.src (from_interlink (is_group f.dst))) = sym j.is ∙ handled in
      let same : j.h ≡ numbered f.src (from_interlink (is_group f.dst)) = cc in
      record {
        seq = next_number past;
        number = ap number_in j.out ∙ ap (λ (h : Handling). number_of h.source (next_number past)) same;
        goes = λ e. sym (leaves_plain past (now (x ∷ past)) 2 copy x.outcome f e ok is ∙ ap (λ o. wanted_at o e) handled);
      }

  -- and leaves by both ring ports
  pub interlink_left : (mac : List ℕ) (mode : Mode) → owner.place ≡ RedBox mac mode → (n : ℕ) → n < 2 → (send : Probe) (f : Fields) → (f.src ≡ mac → ⊥) → (f.dst ≡ mac → ⊥) → (h : List Entry) → Each (Answered capacity owner) h → Each (MayKnow owner send (Unknown f.dst)) h →
      AllByRecursion (IsPlainOf send f) (arrivals 2 h) → list_any (is_copy send) (arrivals 2 h) ≡ true → HasLeft n send h
  interlink_left mac mode place n few send f src dst h legal knowing all some =
      from_arrival send 2 (Unknown f.dst) (IsPlainOf send f) (HasLeft n send) (left_lasts n send) goes h legal knowing all some
    where
      below : n < ports owner.place
      below = let B : Place → Type 0 = λ p. n < ports p in subst B (sym place) (omega arith)

      no_edge : is_edge owner.place n ≡ false
      no_edge = let E : Place → Type 0 = λ p. is_edge p n ≡ false in subst E (sym place) (other n few)
        where
          other : (n : ℕ) → n < 2 → (n == 2) ≡ false
          other n few = Rattle.std.proofs.Common.ne_eqb n 2 (λ e. omega arith)

      edge : IsEdgeSide owner.place 2
      edge = let S : Place → Type 0 = λ p. IsEdgeSide p 2 in subst S (sym place) refl

      goes : (x : Entry) (past : List Entry) (copy : Carried) → x.event ≡ Arrive 2 copy → answer capacity owner past (now (x ∷ past)) (Arrive 2 copy) ≡ Ok x.outcome → Unknown f.dst (knows_at owner past (now (x ∷ past)) 2 copy) → IsPlainOf send f copy → is_copy send copy ≡ true →
          HasLeft n send (x ∷ past)
      goes x past copy is ok near plain mine =
          let t = taken_in mac mode place x past copy f src dst near ok (plain mine) in
          let side = ring_side owner.place n below no_edge in
          let w = writes_ring side.0 t.seq f in
          let gone = leaves_port x past 2 n copy is ok (omega arith) ∙ (sym (t.goes (exit_of n)) ∙ out_there (is_group f.dst) n few) in
          let forward = forward_up owner.place 2 n (number_in x.outcome) copy.octets edge side
          ∙ ap (λ s. written (side_of QuadBox (ring_at side.0)) (number_in x.outcome) (plain_in s)) (plain mine)
          ∙ ap (λ o. written (side_of QuadBox (ring_at side.0)) o (Some f)) t.number in
          leaves_with n x past 2 copy w.0 send is ok gone (forward ∙ w.1) mine
        where
          out_there : (group : Bool) (n : ℕ) → n < 2 → has_exit (from_interlink group).exits (exit_of n) ≡ true
          out_there true zero few = refl
          out_there true (suc zero) few = refl
          out_there false zero few = refl
          out_there false (suc zero) few = refl
          out_there group (suc (suc n)) few = absurd (omega arith)

  -- what comes to an edge and is wanted up goes up
  pub edge_went_up : (port : ℕ) (send : Probe) (may : Knowing) (f : Fields) → ((known : List ℕ → Bool) → may known → wants owner.place known port (Ok (Plain f)) up ≡ true) → (h : List Entry) → Each (Answered capacity owner) h → Each (MayKnow owner send may) h →
      AllByRecursion (IsPlainOf send f) (arrivals port h) → list_any (is_copy send) (arrivals port h) ≡ true → HasGoneUp send h
  edge_went_up port send may f wanted h legal knowing all some =
      from_arrival send port may (IsPlainOf send f) (HasGoneUp send) (λ x past gone. or_right _ _ gone)
      (λ x past copy is ok near plain mine.
      let D : Event → Type 0 = λ ev. delivers_by send ev x.outcome ≡ true in
      let W : Came → Type 0 = λ s. wants owner.place (knows_at owner past (now (x ∷ past)) port copy) port s up ≡ true in
      let wanted_here = subst W (sym (plain mine)) (wanted (knows_at owner past (now (x ∷ past)) port copy) near) in
      or_left _ _ (subst D (sym is) (and_from _ _ mine (leaves_plain past (now (x ∷ past)) port copy x.outcome f up ok (plain mine) ∙ wanted_here))))
      h legal knowing all some
