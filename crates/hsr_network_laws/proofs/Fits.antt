-- What leaves a node is tagged at a port on a ring, and plain at an edge.
use Rattle.std.proofs.Common.{◌≡◌, ◌⊎◌, ℕ, ◌<◌, Bool, true, false, if◌then◌else◌, List, [], ◌∷◌, length, Option, Some, None, Ok, Err, refl, sym, ap, ◌∙◌, subst, inl, inr, ⊎_elim}
use Rattle.std.specs.Prelude.{option_map}
use Rattle.std.specs.List.{AllByRecursion, cons_option}
use Rattle.std.proofs.lemmas.Bool.{false≢true, cases_Bool}
use Rattle.hsr_frame.specs.Grammar.{Fields, spelling}
use Rattle.hsr_tag.specs.Seen.{classified}
use Rattle.hsr_tag.specs.Tag.{tag_of, tagged_spelling, untag_of}
use Rattle.hsr_tag.specs.declared.seen.Seen.TheVariants.{Plain, Tagged}
use Rattle.hsr_node.specs.Copies.{address_at, asked_frame, copy_octets, forwarded, life_frame, passed_octets, plain_in, ports_of, ring_address, side_of, written}
use Rattle.hsr_node.specs.Flow.{passes, sending_of, sent_by}
use Rattle.hsr_node.specs.Record.{Each, Owner, answer, has_port, now, number_in, probe_handled}
use Rattle.hsr_node.specs.declared.entry.Entry.{Entry}
use Rattle.hsr_node.specs.declared.event.Carried.{Carried}
use Rattle.hsr_node.specs.declared.event.Event.{Event}
use Rattle.hsr_node.specs.declared.event.Event.TheVariants.{Send, Supervise, Arrive, Age}
use Rattle.hsr_node.specs.declared.event.Outcome.{Outcome}
use Rattle.hsr_node.specs.declared.event.Outcome.TheVariants.{Sent, Life, Judged, Aged}
use Rattle.hsr_node.specs.declared.event.Probe.{Probe}
use Rattle.hsr_node.specs.declared.place.Place.{Place}
use Rattle.hsr_node.specs.declared.sending.Sending.{Sending}
use Rattle.hsr_run_laws.specs.Closed.{IsClosed, IsOfSend, IsSend}
use Rattle.hsr_network_laws.specs.Network.{IsPortOf, IsNetwork, is_edge}
use Rattle.hsr_node.specs.Place.{ports}
use Rattle.hsr_run_laws.specs.Once.{is_copy}
use Rattle.hsr_run_laws.specs.Run.{Run, is_of, owner_of, past_of, place_of}
use Rattle.hsr_topology.specs.declared.end.End.{End}
use Rattle.hsr_run_laws.proofs.Danh.{IsTagged}
use Rattle.hsr_network_laws.proofs.Leaving.{came_by, came_pass, leaves_port}
use Rattle.hsr_network_laws.proofs.Sides.{edge_side, edge_to_edge, exit_of, few_ports, forward_down, forward_ring, forward_up, ring_side, written_edge, written_ring}
use Rattle.hsr_network_laws.proofs.Unwanted.{ring_tagged}
use Rattle.hsr_network_laws.proofs.PlainReads.{never_tagged}
use Rattle.hsr_run_laws.proofs.Keys.{each_of_send, same_sending}
use Rattle.hsr_run_laws.proofs.Records.{Answered, IsAtPlace, OfArrival, all_at_place, legal_each}
use Rattle.hsr_run_laws.proofs.Ring.{tagged_or_plain}
use Rattle.hsr_run_laws.proofs.Same.{is_of_itself}
use Rattle.hsr_run_laws.proofs.Views.{Came, came, knows_at, leaves_wanted}
use Rattle.hsr_run_laws.proofs.Written.{came_fits, never_plain}

-- ---- what leaves of an own frame is written

record IsOwnWriting (place : Place) (event : Event) (outcome : Outcome) (n : ℕ) (octets : List ℕ) : Type 0 where
  seq : Option ℕ
  frame : Option Fields
  sends : sent_by place event outcome ≡ sending_of seq frame
  writes : written (side_of place n) seq frame ≡ Some octets

abbrev IsArrival : Event → Type 0
IsArrival event = (port : ℕ) × (copy : Carried) × (event ≡ Arrive port copy)

some_out : (t : Bool) (o : Option (List ℕ)) (octets : List ℕ) → (if t then o else None) ≡ Some octets → o ≡ Some octets
some_out true o octets e = e
some_out false o octets e = absurd cc

none_out : (t : Bool) (octets : List ℕ) → (if t then (let none : Option (List ℕ) = None in none) else None) ≡ Some octets → ⊥
none_out true octets e = cc
none_out false octets e = cc

own_writing : (place : Place) (event : Event) (outcome : Outcome) (n : ℕ) (octets : List ℕ) → copy_octets place event outcome n ≡ Some octets → IsArrival event ⊎ IsOwnWriting place event outcome n octets
unfolding copy_octets passed_octets
own_writing place (Send from dst vlan ethertype data') (Sent seq out_ports) n octets e =
    inr (record { seq = seq; frame = asked_frame (address_at place from) dst vlan ethertype data'; sends = refl; writes = some_out (has_port out_ports n) (written (side_of place n) seq (asked_frame (address_at place from) dst vlan ethertype data')) octets e })
own_writing place (Send from dst vlan ethertype data') (Life seq life out_ports) n octets e = absurd (none_out (has_port out_ports n) octets e)
own_writing place (Send from dst vlan ethertype data') (Judged up_too out_ports seq why) n octets e = absurd (none_out (has_port out_ports n) octets e)
own_writing place (Send from dst vlan ethertype data') Aged n octets e = absurd (none_out (has_port [] n) octets e)
own_writing place (Supervise about) (Life seq life out_ports) n octets e =
    inr (record { seq = Some seq; frame = life_frame (ring_address place) about life; sends = refl; writes = some_out (has_port out_ports n) (written (side_of place n) (Some seq) (life_frame (ring_address place) about life)) octets e })
own_writing place (Supervise about) (Sent seq out_ports) n octets e = absurd (none_out (has_port out_ports n) octets e)
own_writing place (Supervise about) (Judged up_too out_ports seq why) n octets e = absurd (none_out (has_port out_ports n) octets e)
own_writing place (Supervise about) Aged n octets e = absurd (none_out (has_port [] n) octets e)
own_writing place (Arrive port copy) outcome n octets e = inl (port, copy, refl)
own_writing place Age outcome n octets e = absurd (none_out (has_port (ports_of outcome) n) octets e)

-- ---- the run

abbrev pub IsPlainCopy : Carried → Type 0
IsPlainCopy copy = (f : Fields) × (came copy ≡ Ok (Plain f))

-- of a send it is tagged at a ring's port, and plain at an edge
pub record IsFit (run : Run) (edge : Bool) (copy : Carried) : Type 0 where
  pub tagged : IsOfSend run copy → edge ≡ false → IsTagged copy
  pub plain : IsOfSend run copy → edge ≡ true → IsPlainCopy copy

-- the frame of the send that a copy is of
abbrev FrameIs : Run → Carried → Fields → Type 0
FrameIs run copy f = (o : IsOfSend run copy) → o.sending.frame ≡ f

read_ring : (run : Run) (copy : Carried) (f : Fields) (path number : ℕ) → copy.octets ≡ tagged_spelling (tag_of f path number) → FrameIs run copy f → IsOfSend run copy → IsTagged copy
read_ring run copy f path number octets frame o =
    tagged_or_plain run copy o
    (λ g plain.
    let both : Some g ≡ Some o.sending.frame = sym (ap plain_in plain) ∙ o.frame in
    let same : g ≡ o.sending.frame = cc in
    never_plain f path number (ap classified (sym octets) ∙ (plain ∙ ap (λ (h : Fields). Ok (Plain h)) (same ∙ frame o))))

read_edge : (run : Run) (copy : Carried) (f : Fields) → copy.octets ≡ spelling f → FrameIs run copy f → IsOfSend run copy → IsPlainCopy copy
read_edge run copy f octets frame o = by_came (came copy) refl o.frame
  where
    by_came : (seen : Came) → came copy ≡ seen → plain_in seen ≡ Some o.sending.frame → IsPlainCopy copy
    by_came (Ok (Tagged t)) is e =
        let same : untag_of t ≡ o.sending.frame = cc in
        absurd (never_tagged f t (ap classified (sym octets) ∙ is) (same ∙ frame o))
    by_came (Ok (Plain g)) is e = (g, is)
    by_came (Err fault) is e = absurd cc

written_fit : (run : Run) (place : Place) (n : ℕ) (copy : Carried) (seq : Option ℕ) (frame : Option Fields) → n < ports place → written (side_of place n) seq frame ≡ Some copy.octets → ((f : Fields) → frame ≡ Some f → FrameIs run copy f) → IsFit run (is_edge place n) copy
written_fit run place n copy seq frame below writes frames = record {
  tagged = λ o no_edge.
      let side = ring_side place n below no_edge in
      let w = written_ring side.0 seq frame copy.octets (ap (λ σ. written σ seq frame) (sym side.1) ∙ writes) in
      read_ring run copy w.f w.path w.number w.octets_are (frames w.f w.is) o;
  plain = λ o edge.
      let w = written_edge seq frame copy.octets (ap (λ σ. written σ seq frame) (sym (edge_side place n below edge)) ∙ writes) in
      read_edge run copy w.0 w.2 (frames w.0 w.1) o;
}

module _ (run : Run) (closed : IsClosed run) (net : IsNetwork run) where
  pub legal : (k : ℕ) → k < length run.places → Each (Answered run.capacity (owner_of run k)) (past_of run k)
  legal k below = legal_each run.capacity (owner_of run k) (past_of run k) (closed.legal k below)

  -- ---- what leaves is fit

  module _ (k n : ℕ) (below : k < length run.places) (there : n < ports (place_of run k)) where
    abbrev me : Owner
    me = owner_of run k

    abbrev made : Entry → List Entry → List ℕ → Carried
    made x past octets = record { probe = probe_handled (record { node = k; place = length past }) x.event; octets = octets }

    -- of one probe one frame
    frame_same : (c : Carried) (come : Carried) → c.probe ≡ come.probe → IsOfSend run come → (f : Fields) → plain_in (came come) ≡ Some f → FrameIs run c f
    frame_same c come probes of f is o =
        let P : Option Probe → Type 0 = λ p. is_of o.send p ≡ true in
        let mine : is_copy o.send come ≡ true = subst P (sym (sym probes ∙ o.named)) (is_of_itself o.send) in
        let same = same_sending run o.send o.sending come of mine o.is_send in
        let both : Some of.sending.frame ≡ Some f = sym of.frame ∙ is in
        let equal : of.sending.frame ≡ f = cc in
        ap (λ (s : Sending). s.frame) (sym same) ∙ equal

    own_fit : (x : Entry) (past : List Entry) (c : Carried) → IsAtPlace (place_of run k) (past_of run k) x past → c.probe ≡ Some (record { node = k; place = length past }) → IsOwnWriting (place_of run k) x.event x.outcome n c.octets → IsFit run (is_edge (place_of run k) n) c
    own_fit x past c at_place probe w =
        written_fit run (place_of run k) n c w.seq w.frame there w.writes
        (λ f is o.
        let s : Sending = record { frame = f; seq = w.seq } in
        let send_is : IsSend run (record { node = k; place = length past }) (record { frame = f; seq = w.seq }) = (below, at_place ∙ (w.sends ∙ ap (sending_of w.seq) is)) in
        let M : Option Probe → Type 0 = λ p. is_of (record { node = k; place = length past }) p ≡ true in
        let mine : is_copy (record { node = k; place = length past }) c ≡ true = subst M (sym probe) (is_of_itself (record { node = k; place = length past })) in
        ap (λ (s : Sending). s.frame) (same_sending run (record { node = k; place = length past }) (record { frame = f; seq = w.seq }) c o mine send_is))

    came_fit : (x : Entry) (past : List Entry) (port : ℕ) (come : Carried) (octets : List ℕ) → x.event ≡ Arrive port come → answer run.capacity me past (now (x ∷ past)) (Arrive port come) ≡ Ok x.outcome → IsOfSend run come →
        has_port (ports_of x.outcome) n ≡ true → forwarded (side_of (place_of run k) port) (side_of (place_of run k) n) (number_in x.outcome) come.octets ≡ Some octets → IsFit run (is_edge (place_of run k) n) (record { probe = come.probe; octets = octets })
    came_fit x past port come octets is ok of gone forward =
        let from = came_by run.capacity me past (now (x ∷ past)) port come x.outcome ok in
        let left = sym (leaves_port run.capacity me x past port n come is ok (few_ports (place_of run k) n there)) ∙ gone in
        let wanted = leaves_wanted run.capacity me past (now (x ∷ past)) port come x.outcome (exit_of n) ok left in
        let c : Carried = record { probe = come.probe; octets = octets } in
        let from_plain = λ (f : Fields) (e : plain_in (came come) ≡ Some f). frame_same (record { probe = come.probe; octets = octets }) come refl of f e in
        ⊎_elim
        (λ edge.
        ⊎_elim
        (λ down. written_fit run (place_of run k) n (record { probe = come.probe; octets = octets }) (number_in x.outcome) (plain_in (classified come.octets)) there
        (ap (λ σ. written σ (number_in x.outcome) (plain_in (classified come.octets))) (edge_side (place_of run k) n there down)
        ∙ (sym (edge_to_edge (place_of run k) port n (number_in x.outcome) come.octets (edge_side (place_of run k) port from edge) (edge_side (place_of run k) n there down)) ∙ forward)) from_plain)
        (λ ring.
        let side = ring_side (place_of run k) n there ring in
        written_fit run (place_of run k) n (record { probe = come.probe; octets = octets }) (number_in x.outcome) (plain_in (classified come.octets)) there
        (ap (λ σ. written σ (number_in x.outcome) (plain_in (classified come.octets))) side.1
        ∙ (sym (forward_up (place_of run k) port n (number_in x.outcome) come.octets (edge_side (place_of run k) port from edge) side) ∙ forward)) from_plain)
        (cases_Bool (is_edge (place_of run k) n)))
        (λ no_edge.
        let t = ring_tagged (place_of run k) (knows_at me past (now (x ∷ past)) port come) port (came come) (exit_of n) from no_edge wanted in
        let start = ring_side (place_of run k) port from no_edge in
        ⊎_elim
        (λ down. written_fit run (place_of run k) n (record { probe = come.probe; octets = octets }) (number_in x.outcome) (plain_in (classified come.octets)) there
        (ap (λ σ. written σ (number_in x.outcome) (plain_in (classified come.octets))) (edge_side (place_of run k) n there down)
        ∙ (sym (forward_down (place_of run k) port n (number_in x.outcome) come.octets start (edge_side (place_of run k) n there down)) ∙ forward)) from_plain)
        (λ ring.
        let whole : Some come.octets ≡ Some octets = sym (came_fits come.octets (Tagged t.0) t.1) ∙ (sym (forward_ring (place_of run k) port n (number_in x.outcome) come.octets start (ring_side (place_of run k) n there ring)) ∙ forward) in
        let same : come.octets ≡ octets = cc in
        record { tagged = λ o no. (t.0, ap classified (sym same) ∙ t.1); plain = λ o yes. absurd (false≢true (sym ring ∙ yes)) })
        (cases_Bool (is_edge (place_of run k) n)))
        (cases_Bool (is_edge (place_of run k) port))

    fit_passes : (h : List Entry) → Each (Answered run.capacity me) h → Each (IsAtPlace (place_of run k) (past_of run k)) h → Each (λ x past. OfArrival (IsOfSend run) x.event) h → AllByRecursion (IsFit run (is_edge (place_of run k) n)) (passes me n h)
    fit_passes [] legal at_place of = tt
    fit_passes (x ∷ past) legal at_place of = by_octets (copy_octets (place_of run k) x.event x.outcome n) refl (fit_passes past legal.1 at_place.1 of.1)
      where
        Goal : Option (List ℕ) → Type 0
        Goal o = AllByRecursion (IsFit run (is_edge (place_of run k) n)) (cons_option (option_map (made x past) o) (passes me n past))

        arrived : (port : ℕ) (come : Carried) → x.event ≡ Arrive port come → AllByRecursion (IsFit run (is_edge (place_of run k) n)) (passes me n past) → AllByRecursion (IsFit run (is_edge (place_of run k) n)) (passes me n (x ∷ past))
        arrived port come is rest =
            let A : Event → Type 0 = λ ev. answer run.capacity me past (now (x ∷ past)) ev ≡ Ok x.outcome in
            let E : Event → Type 0 = OfArrival (IsOfSend run) in
            let ok = subst A is legal.0 in
            let Q : Option Carried → Type 0 = λ o. AllByRecursion (IsFit run (is_edge (place_of run k) n)) (cons_option o (passes me n past)) in
            subst Q (sym (came_pass run.capacity me n x past port come is ok))
            (by_out (has_port (ports_of x.outcome) n) refl (forwarded (side_of (place_of run k) port) (side_of (place_of run k) n) (number_in x.outcome) come.octets) refl ok (subst E is of.0))
          where
            by_out : (t : Bool) → has_port (ports_of x.outcome) n ≡ t → (o : Option (List ℕ)) → forwarded (side_of (place_of run k) port) (side_of (place_of run k) n) (number_in x.outcome) come.octets ≡ o →
                answer run.capacity me past (now (x ∷ past)) (Arrive port come) ≡ Ok x.outcome → IsOfSend run come →
                AllByRecursion (IsFit run (is_edge (place_of run k) n)) (cons_option (option_map (λ octets. record { probe = come.probe; octets = octets }) (if t then o else None)) (passes me n past))
            by_out false gone o forward ok of_send = rest
            by_out true gone None forward ok of_send = rest
            by_out true gone (Some octets) forward ok of_send = (came_fit x past port come octets is ok of_send gone forward, rest)

        by_octets : (o : Option (List ℕ)) → copy_octets (place_of run k) x.event x.outcome n ≡ o → AllByRecursion (IsFit run (is_edge (place_of run k) n)) (passes me n past) → AllByRecursion (IsFit run (is_edge (place_of run k) n)) (passes me n (x ∷ past))
        by_octets None is rest = subst Goal (sym is) rest
        by_octets (Some octets) is rest =
            ⊎_elim (λ a. arrived a.0 a.1 a.2 rest)
            (λ w. subst Goal (sym is) (own_fit x past (made x past octets) at_place.0 (own_probe w) w, rest))
            (own_writing (place_of run k) x.event x.outcome n octets is)
          where
            own_probe : IsOwnWriting (place_of run k) x.event x.outcome n octets → probe_handled (record { node = k; place = length past }) x.event ≡ Some (record { node = k; place = length past })
            own_probe w = by_event x.event refl
              where
                by_event : (event : Event) → x.event ≡ event → probe_handled (record { node = k; place = length past }) x.event ≡ Some (record { node = k; place = length past })
                by_event (Send from dst vlan ethertype data') e = ap (probe_handled (record { node = k; place = length past })) e
                by_event (Supervise about) e = ap (probe_handled (record { node = k; place = length past })) e
                by_event Age e = ap (probe_handled (record { node = k; place = length past })) e
                by_event (Arrive port come) e =
                    let none : sent_by (place_of run k) x.event x.outcome ≡ None = ap (λ ev. sent_by (place_of run k) ev x.outcome) e in
                    absurd (no_frame w.frame (sym none ∙ w.sends) w.writes)
                  where
                    no_frame : (frame : Option Fields) → None ≡ sending_of w.seq frame → written (side_of (place_of run k) n) w.seq frame ≡ Some octets → ⊥
                    no_frame (Some f) e writes = cc
                    no_frame None e writes =
                        ⊎_elim
                        (λ edge. let r = written_edge w.seq None octets (ap (λ σ. written σ w.seq None) (sym (edge_side (place_of run k) n there edge)) ∙ writes) in let bad = r.1 in cc)
                        (λ ring. let side = ring_side (place_of run k) n there ring in let r = written_ring side.0 w.seq None octets (ap (λ σ. written σ w.seq None) (sym side.1) ∙ writes) in let bad = r.is in cc)
                        (cases_Bool (is_edge (place_of run k) n))

  pub all_fit_left : (end : End) → IsPortOf run end → AllByRecursion (IsFit run (is_edge (place_of run end.node) end.port)) (passes (owner_of run end.node) end.port (past_of run end.node))
  all_fit_left end at =
      fit_passes end.node end.port at.node at.port (past_of run end.node) (legal end.node at.node) (all_at_place (place_of run end.node) (past_of run end.node)) (each_of_send run closed end.node at.node)
