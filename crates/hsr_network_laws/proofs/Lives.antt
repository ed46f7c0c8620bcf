-- No supervision frame leaves a RedBox by its interlink, so none comes to a Station but from one that it is joined with.
use Rattle.std.proofs.Common.{◌≡◌, ℕ, ◌<◌, ◌%◌, ◌==◌, ◌&&◌, ◌||◌, ◌⊎◌, Bool, true, false, if◌then◌else◌, List, [], ◌∷◌, length, count_by, Option, Some, None, Ok, Err, refl, sym, ap, ◌∙◌, subst, arith, ⊎_elim, zero, suc, eqb-true, ne_eqb, eq-eqb}
use Rattle.std.specs.Prelude.{option_map, slice_index_or}
use Rattle.std.specs.List.{list_any, AllByRecursion, cons_option}
use Rattle.std.proofs.lemmas.Bool.{false≢true, and_from, or_left, or_right, cases_Bool}
use Rattle.hsr_frame.specs.Address.{is_group, is_same_address, supervision_address}
use Rattle.hsr_frame.specs.Cases.{first_of}
use Rattle.hsr_frame.specs.Egress.{beyond, has_exit, in_mode, is_supervision, nowhere, onward, to, up}
use Rattle.hsr_frame.specs.Egress as out
use Rattle.hsr_frame.specs.Grammar.{Fields}
use Rattle.hsr_frame.specs.Layout.{ethertype_supervision}
use Rattle.hsr_frame.specs.declared.egress.Wants.{Wants}
use Rattle.hsr_frame.specs.declared.node.About.{About}
use Rattle.hsr_frame.specs.declared.node.Cause.TheVariants as cause
use Rattle.hsr_frame.specs.declared.node.Mode.{Mode}
use Rattle.hsr_frame.specs.declared.node.Mode.TheVariants.{H, N, U}
use Rattle.hsr_frame.specs.declared.node.RingPort.{RingPort}
use Rattle.hsr_frame.specs.declared.node.RingPort.TheVariants as ring
use Rattle.hsr_tag.specs.Tag.{TaggedFields}
use Rattle.hsr_tag.specs.declared.seen.Seen.TheVariants.{Plain, Tagged}
use Rattle.hsr_redbox.specs.Step.{life_refusal, number_of}
use Rattle.hsr_redbox.specs.Wanted as of_redbox
use Rattle.hsr_redbox.specs.Wanted.{numbered, unnumbered}
use Rattle.hsr_redbox.specs.declared.call.BoxPort.{BoxPort}
use Rattle.hsr_redbox.specs.declared.call.BoxPort.TheVariants as box
use Rattle.hsr_redbox.specs.declared.call.LifeFault.{LifeFault}
use Rattle.hsr_redbox.specs.declared.wanted.Handling.{Handling}
use Rattle.hsr_node.specs.Copies.{address_at, asked_frame, copy_octets, passed_octets, ports_of}
use Rattle.hsr_node.specs.Flow.{arrivals, pass_of, passes, send_at, sent_by, wanted_at, wants}
use Rattle.hsr_node.specs.Record.{Each, Owner, answer, box_handling, has_port, knows, lived_or_refused, lives, next_number, now, ports, probe_handled, steps}
use Rattle.hsr_node.specs.Record as of_record
use Rattle.hsr_node.specs.Step.{box_port}
use Rattle.hsr_node.specs.declared.entry.Entry.{Entry}
use Rattle.hsr_node.specs.declared.event.Carried.{Carried}
use Rattle.hsr_node.specs.declared.event.Event.{Event}
use Rattle.hsr_node.specs.declared.event.Event.TheVariants.{Send, Supervise, Arrive, Age}
use Rattle.hsr_node.specs.declared.event.Outcome.{Outcome}
use Rattle.hsr_node.specs.declared.event.Outcome.TheVariants.{Life}
use Rattle.hsr_node.specs.declared.event.Probe.{Probe}
use Rattle.hsr_node.specs.declared.place.Place.{Place}
use Rattle.hsr_node.specs.declared.place.Place.TheVariants.{Danh, RedBox, QuadBox, Station}
use Rattle.hsr_node.specs.declared.sending.Sending.{Sending}
use Rattle.hsr_link.specs.declared.row.Dir.{Dir}
use Rattle.hsr_link.specs.declared.row.Dir.TheVariants.{Forth, Back}
use Rattle.hsr_run_laws.specs.Closed.{IsClosed, IsOfSend, IsSend}
use Rattle.hsr_run_laws.specs.Once.{delivers, is_copy}
use Rattle.hsr_run_laws.specs.Run.{Run, ends_of, from_end, is_of, owner_of, past_of, place_of, record_of, to_end}
use Rattle.hsr_topology.specs.declared.end.End.{End}
use Rattle.hsr_run_laws.proofs.Keys.{each_of_send, tagged_of_send}
use Rattle.hsr_run_laws.proofs.LinkLaws.{arrives_between}
use Rattle.hsr_run_laws.proofs.Lists.{all_weaker, count_zero}
use Rattle.hsr_run_laws.proofs.Once.{counted}
use Rattle.hsr_run_laws.proofs.Records.{Answered, OfArrival, each_so, sending_frame}
use Rattle.hsr_run_laws.proofs.Same.{probe_is, same_address}
use Rattle.hsr_run_laws.proofs.Views.{Came, came, knows_at, leaves_wanted}
use Rattle.hsr_run_laws.proofs.Wanted.{no_exit}
use Rattle.hsr_network_laws.specs.Lives.{LivesStay, is_joined_with_station, joins_stations}
use Rattle.hsr_network_laws.specs.Network.{IsNetwork, IsPortOf, Channel, is_edge, is_edge_of, is_station, is_station_of, start_of, stop_of}
use Rattle.hsr_run_laws.proofs.Delivering.{Delivers}
use Rattle.hsr_network_laws.proofs.Counts.{delivered_came}
use Rattle.hsr_network_laws.proofs.Covered.{all_unknown_before}
use Rattle.hsr_network_laws.proofs.Fits.{legal}
use Rattle.hsr_network_laws.proofs.Hops.{IsFrom, station_own}
use Rattle.hsr_network_laws.proofs.Leaving.{came_by, leaves_port}
use Rattle.hsr_network_laws.proofs.Sending.{asked_is, send_by, sent_outcome}
use Rattle.hsr_network_laws.proofs.Sides.{few_ports, one_port}
use Rattle.hsr_network_laws.proofs.Unknown.{UnknownBefore}
use Rattle.hsr_network_laws.proofs.Unwanted.{fault_unwanted}

any_at : {X : Type 0} (p : X → Bool) (xs : List X) (i : ℕ) (d : X) → i < length xs → p (slice_index_or xs i d) ≡ true → list_any p xs ≡ true
any_at p [] i d below is = absurd (omega (arith, below))
any_at p (x ∷ xs) zero d below is = or_left (p x) (list_any p xs) is
any_at p (x ∷ xs) (suc i) d below is = or_right (p x) (list_any p xs) (any_at p xs i d (omega (arith, below)) is)

-- ---- what a RedBox wants at its interlink

shut_in : (mode : Mode) (w : Wants) → has_exit w.exits out.c ≡ false → has_exit (in_mode mode w).exits out.c ≡ false
shut_in H w h = h
shut_in N w h = h
shut_in U w h = h

life_shut : (mode : Mode) (own same life group near : Bool) (p : RingPort) → life ≡ true →
    has_exit (first_of ((own, nowhere cause.Returned) ∷ (same, to (up ∷ onward mode p)) ∷ (life, to (up ∷ beyond p ∷ [])) ∷ (group, to (up ∷ of_redbox.interlink ∷ beyond p ∷ [])) ∷ (near, to (of_redbox.interlink ∷ onward mode p)) ∷ []) (to (beyond p ∷ []))).exits out.c ≡ false
life_shut mode own same false group near p l = absurd (false≢true l)
life_shut mode true same true group near p l = refl
life_shut H false true true group near p l = refl
life_shut N false true true group near p l = refl
life_shut U false true true group near ring.A l = refl
life_shut U false true true group near ring.B l = refl
life_shut mode false false true group near ring.A l = refl
life_shut mode false false true group near ring.B l = refl

edge_kept : (own same near group : Bool) (src : List ℕ) →
    has_exit (first_of ((own, unnumbered (nowhere cause.Returned)) ∷ (same, unnumbered (to (up ∷ []))) ∷ (near, unnumbered (nowhere cause.Local)) ∷ (group, numbered src (to (up ∷ out.a ∷ out.b ∷ []))) ∷ []) (numbered src (to (out.a ∷ out.b ∷ [])))).wants.exits out.c ≡ false
edge_kept true same near group src = refl
edge_kept false true near group src = refl
edge_kept false false true group src = refl
edge_kept false false false true src = refl
edge_kept false false false false src = refl

life_kept : (mac : List ℕ) (mode : Mode) (known : List ℕ → Bool) (port : ℕ) (t : TaggedFields) → is_supervision t.dst t.kind ≡ true → wants (RedBox mac mode) known port (Ok (Tagged t)) out.c ≡ false
life_kept mac mode known port t life = by_port (box_port port)
  where
    on_ring : (p : RingPort) → has_exit (in_mode mode (of_redbox.wanted_tagged mac mode known p t)).exits out.c ≡ false
    on_ring p = shut_in mode (of_redbox.wanted_tagged mac mode known p t)
        (life_shut mode (is_same_address t.src mac) (is_same_address t.dst mac) (is_supervision t.dst t.kind) (is_group t.dst) (known t.dst) p life)

    by_port : (o : Option BoxPort) → wanted_at (option_map (λ x. box_handling mac mode known x (Ok (Tagged t))) o) out.c ≡ false
    by_port None = refl
    by_port (Some box.A) = on_ring ring.A
    by_port (Some box.B) = on_ring ring.B
    by_port (Some box.I) = refl

plain_kept : (mac : List ℕ) (mode : Mode) (known : List ℕ → Bool) (port : ℕ) (f : Fields) → wants (RedBox mac mode) known port (Ok (Plain f)) out.c ≡ false
plain_kept mac mode known port f = by_port (box_port port)
  where
    by_port : (o : Option BoxPort) → wanted_at (option_map (λ x. box_handling mac mode known x (Ok (Plain f))) o) out.c ≡ false
    by_port None = refl
    by_port (Some box.A) = no_exit cause.Untagged out.c
    by_port (Some box.B) = no_exit cause.Untagged out.c
    by_port (Some box.I) = edge_kept (is_same_address f.src mac) (is_same_address f.dst mac) (known f.dst) (is_group f.dst) f.src

sends_kept : (near life group : Bool) (own : List ℕ) → near ≡ false → life ≡ true → has_port (ports (send_by near life group own).wants.exits) 2 ≡ false
sends_kept true life group own n l = absurd (false≢true (sym n))
sends_kept false false group own n l = absurd (false≢true l)
sends_kept false true group own n l = refl

-- supervision is to a group
life_group : (dst : List ℕ) (ethertype : ℕ) → is_supervision dst ethertype ≡ true → is_group dst ≡ true
life_group dst ethertype life = by_test (is_same_address dst supervision_address) refl life
  where
    by_test : (b : Bool) → is_same_address dst supervision_address ≡ b → (b && ethertype == ethertype_supervision) ≡ true → is_group dst ≡ true
    by_test true e h = ap is_group (same_address dst supervision_address e)
    by_test false e h = absurd (false≢true h)

-- ---- what leaves by an interlink

-- nothing leaves by a port where nothing goes out
no_pass : (owner : Owner) (n : ℕ) (x : Entry) (past : List Entry) → has_port (ports_of x.outcome) n ≡ false → pass_of owner n x past ≡ None
unfolding copy_octets
no_pass owner n x past shut =
    ap (λ b. option_map (λ octets. let c : Carried = record { probe = probe_handled (record { node = owner.number; place = length past }) x.event; octets = octets } in c)
    (if b then passed_octets owner.place x.event x.outcome n else None)) shut

-- nothing leaves by a port where a node drops what is expired
age_pass : (owner : Owner) (n : ℕ) (x : Entry) (past : List Entry) → x.event ≡ Age → pass_of owner n x past ≡ None
unfolding copy_octets passed_octets
age_pass owner n x past is =
    ap (λ ev. option_map (λ octets. let c : Carried = record { probe = probe_handled (record { node = owner.number; place = length past }) ev; octets = octets } in c)
    (if has_port (ports_of x.outcome) n then passed_octets owner.place ev x.outcome n else None)) is
    ∙ by_port (has_port (ports_of x.outcome) n)
  where
    by_port : (b : Bool) → option_map (λ octets. let c : Carried = record { probe = probe_handled (record { node = owner.number; place = length past }) Age; octets = octets } in c) (if b then None else None) ≡ None
    by_port true = refl
    by_port false = refl

send_at_once : (place : Place) (x : Entry) (past : List Entry) → send_at place (length past) (x ∷ past) ≡ sent_by place x.event x.outcome
send_at_once place x past = ap (λ t. if t then sent_by place x.event x.outcome else send_at place (length past) past) (eq-eqb (length past) (length past) refl)

send_before : (place : Place) (n : ℕ) (x : Entry) (past : List Entry) → n < length past → send_at place n (x ∷ past) ≡ send_at place n past
send_before place n x past below = ap (λ t. if t then sent_by place x.event x.outcome else send_at place n past) (ne_eqb n (length past) (λ e. omega (arith, e, below)))

module _ (run : Run) (closed : IsClosed run) (net : IsNetwork run) (send : Probe) (sending : Sending) (is : IsSend run send sending) (life : is_supervision sending.frame.dst sending.frame.kind ≡ true) where
  abbrev NotMine : Carried → Type 0
  NotMine copy = is_copy send copy ≡ true → ⊥

  module _ (k : ℕ) (mac : List ℕ) (mode : Mode) (box_is : place_of run k ≡ RedBox mac mode) where
    -- what comes to it goes out there, if it isn't of the send
    came_kept : (x : Entry) (past : List Entry) (port : ℕ) (copy : Carried) → x.event ≡ Arrive port copy → answer run.capacity (owner_of run k) past (now (x ∷ past)) (Arrive port copy) ≡ Ok x.outcome → IsOfSend run copy → is_copy send copy ≡ true →
        has_port (ports_of x.outcome) 2 ≡ false
    came_kept x past port copy e ok of mine = by_wants (cases_Bool (has_port (ports_of x.outcome) 2))
      where
        known : List ℕ → Bool
        known = knows_at (owner_of run k) past (now (x ∷ past)) port copy

        kept : (seen : Came) → came copy ≡ seen → wants (place_of run k) known port seen out.c ≡ false
        kept seen same = by_seen seen same
          where
            by_seen : (seen : Came) → came copy ≡ seen → wants (place_of run k) known port seen out.c ≡ false
            by_seen (Err fault) s = fault_unwanted (place_of run k) known port fault out.c
            by_seen (Ok (Plain f)) s = let W : Place → Type 0 = λ p. wants p known port (Ok (Plain f)) out.c ≡ false in subst W (sym box_is) (plain_kept mac mode known port f)
            by_seen (Ok (Tagged t)) s =
                let two = tagged_of_send run send sending copy of mine is t s in
                let W : Place → Type 0 = λ p. wants p known port (Ok (Tagged t)) out.c ≡ false in
                subst W (sym box_is) (life_kept mac mode known port t (ap (λ (g : Fields). is_supervision g.dst g.kind) two.0 ∙ life))

        by_wants : (has_port (ports_of x.outcome) 2 ≡ true) ⊎ (has_port (ports_of x.outcome) 2 ≡ false) → has_port (ports_of x.outcome) 2 ≡ false
        by_wants either =
            ⊎_elim
            (λ gone.
            let left = sym (leaves_port run.capacity (owner_of run k) x past port 2 copy e ok (omega arith)) ∙ gone in
            let wanted = leaves_wanted run.capacity (owner_of run k) past (now (x ∷ past)) port copy x.outcome out.c ok left in
            absurd (false≢true (sym (kept (came copy) refl) ∙ wanted)))
            (λ shut. shut)
            either

    -- what it sends itself leaves there, if it isn't the send
    own_kept : (x : Entry) (past : List Entry) (from : ℕ) (dst : List ℕ) (vlan : Option ℕ) (ethertype : ℕ) (data' : List ℕ) → x.event ≡ Send from dst vlan ethertype data' → Answered run.capacity (owner_of run k) x past →
        UnknownBefore (owner_of run k) sending.frame.dst x past → sent_by (place_of run k) x.event x.outcome ≡ Some sending → has_port (ports_of x.outcome) 2 ≡ false
    own_kept x past from dst vlan ethertype data' e ok near sent =
        let A : Event → Type 0 = λ ev. answer run.capacity (owner_of run k) past (now (x ∷ past)) ev ≡ Ok x.outcome in
        let h : Handling = of_record.sending (place_of run k) (knows (place_of run k) past (now (x ∷ past)) Age) dst ethertype in
        let outcome = sent_outcome run.capacity (owner_of run k) past (now (x ∷ past)) from dst vlan ethertype data' x.outcome (subst A e ok) in
        let S : Event → Type 0 = λ ev. sent_by (place_of run k) ev x.outcome ≡ Some sending in
        let O : Outcome → Type 0 = λ o. sent_by (place_of run k) (Send from dst vlan ethertype data') o ≡ Some sending in
        let asked = (sending_frame (number_of h.source (next_number past)) (asked_frame (address_at (place_of run k) from) dst vlan ethertype data') sending (subst O outcome (subst S e sent))).0 in
        let two = asked_is run.capacity k (address_at (place_of run k) from) dst vlan ethertype data' sending.frame asked in
        let U : List ℕ → Type 0 = λ m. knows (place_of run k) past (now (x ∷ past)) Age m ≡ false in
        let L : List ℕ → Type 0 = λ m. is_supervision m sending.frame.kind ≡ true in
        let K : ℕ → Type 0 = λ m. is_supervision dst m ≡ true in
        let H : Place → Type 0 = λ p. (near' : List ℕ → Bool) → near' dst ≡ false → has_port (ports (of_record.sending p near' dst ethertype).wants.exits) 2 ≡ false in
        let kept : H (RedBox mac mode) = λ near' unknown. sends_kept (near' dst) (is_supervision dst ethertype) (is_group dst) mac unknown (subst K two.1 (subst L two.0 life)) in
        ap (λ o. has_port (ports_of o) 2) outcome ∙ subst H (sym box_is) kept (knows (place_of run k) past (now (x ∷ past)) Age) (subst U two.0 near)

    life_ports : (x : Entry) (past : List Entry) (about : About) → x.event ≡ Supervise about → Answered run.capacity (owner_of run k) x past → has_port (ports_of x.outcome) 2 ≡ false
    life_ports x past about e ok =
        let A : Event → Type 0 = λ ev. answer run.capacity (owner_of run k) past (now (x ∷ past)) ev ≡ Ok x.outcome in
        let B : Place → Type 0 = λ p. answer run.capacity (record { number = k; place = p }) past (now (x ∷ past)) (Supervise about) ≡ Ok x.outcome in
        ap (λ o. has_port (ports_of o) 2) (lived (life_refusal (knows (RedBox mac mode) past (now (x ∷ past)) Age) (steps past) about) (subst B box_is (subst A e ok)))
      where
        lived : (o : Option LifeFault) → lived_or_refused past o ≡ Ok x.outcome → x.outcome ≡ Life (next_number past) (lives past % 65536) (true ∷ true ∷ false ∷ false ∷ [])
        lived None e = cc
        lived (Some fault) e = absurd cc

    abbrev Whole : List Entry → Type 0
    Whole h = (n : ℕ) → n < length h → send_at (place_of run k) n (past_of run k) ≡ send_at (place_of run k) n h

    none_down_in : (h : List Entry) → Whole h → Each (Answered run.capacity (owner_of run k)) h → Each (λ x past. OfArrival (IsOfSend run) x.event) h → Each (UnknownBefore (owner_of run k) sending.frame.dst) h → AllByRecursion NotMine (passes (owner_of run k) 2 h)
    none_down_in [] whole ok of near = tt
    none_down_in (x ∷ past) whole ok of near =
        one_more (pass_of (owner_of run k) 2 x past) refl (none_down_in past (λ n below. whole n (omega (arith, below)) ∙ send_before (place_of run k) n x past below) ok.1 of.1 near.1)
      where
        here : Probe
        here = record { node = k; place = length past }

        mine_here : probe_handled here x.event ≡ Some here → is_of send (probe_handled here x.event) ≡ true → sent_by (place_of run k) x.event x.outcome ≡ Some sending
        mine_here handled mine =
            let both : Some here ≡ Some send = sym handled ∙ probe_is send (probe_handled here x.event) mine in
            let node : k ≡ send.node = ap (λ (p : Option Probe). (Rattle.std.specs.Prelude.unwrap_or p here).node) both in
            let place : length past ≡ send.place = ap (λ (p : Option Probe). (Rattle.std.specs.Prelude.unwrap_or p here).place) both in
            let K : ℕ → Type 0 = λ j. send_at (place_of run j) send.place (past_of run j) ≡ Some sending in
            let P : ℕ → Type 0 = λ n. send_at (place_of run k) n (past_of run k) ≡ Some sending in
            sym (send_at_once (place_of run k) x past) ∙ (sym (whole (length past) (omega arith)) ∙ subst P (sym place) (subst K (sym node) is.1))

        shut : is_of send (probe_handled here x.event) ≡ true → (o : Option Carried) → pass_of (owner_of run k) 2 x past ≡ o → o ≡ None
        shut mine o same = sym same ∙ by_event x.event refl
          where
            by_event : (event : Event) → x.event ≡ event → pass_of (owner_of run k) 2 x past ≡ None
            by_event (Send from dst vlan ethertype data') e =
                no_pass (owner_of run k) 2 x past (own_kept x past from dst vlan ethertype data' e ok.0 near.0 (mine_here (ap (probe_handled here) e) mine))
            by_event (Supervise about) e = no_pass (owner_of run k) 2 x past (life_ports x past about e ok.0)
            by_event Age e = age_pass (owner_of run k) 2 x past e
            by_event (Arrive port copy) e =
                let A : Event → Type 0 = λ ev. answer run.capacity (owner_of run k) past (now (x ∷ past)) ev ≡ Ok x.outcome in
                let F : Event → Type 0 = OfArrival (IsOfSend run) in
                let M : Event → Type 0 = λ ev. is_of send (probe_handled here ev) ≡ true in
                no_pass (owner_of run k) 2 x past (came_kept x past port copy e (subst A e ok.0) (subst F e of.0) (subst M e mine))

        one_more : (o : Option Carried) → pass_of (owner_of run k) 2 x past ≡ o → AllByRecursion NotMine (passes (owner_of run k) 2 past) → AllByRecursion NotMine (cons_option o (passes (owner_of run k) 2 past))
        one_more None same rest = rest
        one_more (Some copy) same rest = (never, rest)
          where
            probe_of : (octets : Option (List ℕ)) → option_map (λ octets. let c : Carried = record { probe = probe_handled here x.event; octets = octets } in c) octets ≡ Some copy → copy.probe ≡ probe_handled here x.event
            probe_of None h = absurd cc
            probe_of (Some octets) h = ap (λ (p : Option Carried). (Rattle.std.specs.Prelude.unwrap_or p copy).probe) (sym h)

            never : is_copy send copy ≡ true → ⊥
            never mine =
                let B : Option Probe → Type 0 = λ p. is_of send p ≡ true in
                let none = shut (subst B (probe_of (copy_octets (place_of run k) x.event x.outcome 2) same) mine) (Some copy) same in
                absurd cc

    none_down : k < length run.places → AllByRecursion NotMine (passes (owner_of run k) 2 (past_of run k))
    none_down below =
        none_down_in (past_of run k) (λ n low. refl) (legal run closed net k below) (each_of_send run closed k below)
        (all_unknown_before run closed net sending.frame (or_left (is_group sending.frame.dst) _ (life_group sending.frame.dst sending.frame.kind life)) k below)

  -- ---- what comes to a Station

  module _ (alone : is_joined_with_station run.places run.links send.node ≡ false) where
    -- no Station that is joined with a Station sent it
    not_joined : (channel : Channel) → channel.link < length run.links → (start_of run channel).node ≡ send.node → is_station_of run (start_of run channel) ≡ true → is_station_of run (stop_of run channel) ≡ true → ⊥
    not_joined channel below node from to =
        false≢true (sym alone ∙ any_at (joins_stations run.places send.node) run.links channel.link [] below (joins channel.dir node from to))
      where
        joins : (dir : Dir) → (from_end dir (ends_of run channel.link)).node ≡ send.node → is_station_of run (from_end dir (ends_of run channel.link)) ≡ true → is_station_of run (to_end dir (ends_of run channel.link)) ≡ true →
            joins_stations run.places send.node (ends_of run channel.link) ≡ true
        joins Forth node from to =
            and_from _ _ (or_left _ _ (eq-eqb (from_end Forth (ends_of run channel.link)).node send.node node)) (and_from _ _ from to)
        joins Back node from to =
            and_from _ _ (or_right _ _ (eq-eqb (to_end Forth (ends_of run channel.link)).node send.node node)) (and_from _ _ to from)

    -- what leaves by an edge for a Station
    none_out : (channel : Channel) → channel.link < length run.links → is_edge_of run (start_of run channel) ≡ true → is_station_of run (stop_of run channel) ≡ true →
        AllByRecursion NotMine (passes (owner_of run (start_of run channel).node) (start_of run channel).port (past_of run (start_of run channel).node))
    none_out channel below edge to = by_place (place_of run j) refl
      where
        j : ℕ
        j = (start_of run channel).node

        port : ℕ
        port = (start_of run channel).port

        there : IsPortOf run (start_of run channel)
        there = net.ends channel below

        E : Place → Type 0
        E p = is_edge p port ≡ true

        by_place : (place : Place) → place_of run j ≡ place → AllByRecursion NotMine (passes (owner_of run j) port (past_of run j))
        by_place (Danh mac mode) here = absurd (false≢true (subst E here edge))
        by_place QuadBox here = absurd (false≢true (subst E here edge))
        by_place (RedBox mac mode) here =
            let P : ℕ → Type 0 = λ n. AllByRecursion NotMine (passes (owner_of run j) n (past_of run j)) in
            subst P (sym (eqb-true port 2 (subst E here edge))) (none_down j mac mode here there.node)
        by_place (Station macs) here =
            all_weaker (IsFrom run closed net j) NotMine (passes (owner_of run j) port (past_of run j)) own
            (station_own run closed net j port (ap is_station here) (few_ports (place_of run j) port there.port) (past_of run j) (legal run closed net j there.node))
          where
            own : (copy : Carried) → IsFrom run closed net j copy → is_copy send copy ≡ true → ⊥
            own copy from mine =
                let both : Some from.0 ≡ Some send = sym from.1 ∙ probe_is send copy.probe mine in
                let node : send.node ≡ j = sym (ap (λ (p : Option Probe). (Rattle.std.specs.Prelude.unwrap_or p send).node) both) ∙ from.2 in
                not_joined channel below (sym node) (ap is_station here) to

    none_in : (k : ℕ) → k < length run.places → is_station (place_of run k) ≡ true → AllByRecursion NotMine (arrivals 0 (past_of run k))
    none_in k below station =
        ⊎_elim
        (λ at.
        let channel : Channel = record { link = at.link; dir = at.dir } in
        let S : End → Type 0 = λ end. is_edge_of run (start_of run channel) ≡ is_edge_of run end in
        let T : End → Type 0 = λ end. is_station_of run end ≡ true in
        let same = subst S at.ends (net.sides channel at.below) in
        all_weaker (λ copy. NotMine copy × IsOfSend run copy) NotMine (arrivals 0 (past_of run k)) (λ copy two. two.0)
        (arrives_between run closed NotMine at.link at.dir (start_of run channel) (record { node = k; port = 0 }) at.below refl at.ends
        (none_out channel at.below (same ∙ edge_there (place_of run k) station) (subst T (sym at.ends) station))))
        (λ none. let Q : List Carried → Type 0 = AllByRecursion NotMine in subst Q (sym none) tt)
        (closed.linked k 0 below)
      where
        edge_there : (place : Place) → is_station place ≡ true → is_edge place 0 ≡ true
        edge_there (Danh mac mode) s = absurd (false≢true s)
        edge_there (RedBox mac mode) s = absurd (false≢true s)
        edge_there QuadBox s = absurd (false≢true s)
        edge_there (Station macs) s = refl

    none_any : (cs : List Carried) → AllByRecursion NotMine cs → list_any (is_copy send) cs ≡ false
    none_any [] all = refl
    none_any (c ∷ cs) all = ⊎_elim (λ mine. absurd (all.0 mine)) (λ other. ap (λ b. b || list_any (is_copy send) cs) other ∙ none_any cs all.1) (cases_Bool (is_copy send c))

    none_up : (k : ℕ) → k < length run.places → is_station (place_of run k) ≡ true → count_by (delivers send) (record_of run k) ≡ 0
    none_up k below station =
        let one = each_so (Answered run.capacity (owner_of run k)) (λ x past. (d : Delivers run.capacity (owner_of run k) x past send) → d.port ≡ 0) (past_of run k)
        (λ x past ok d. one_port (place_of run k) d.port station (came_by run.capacity (owner_of run k) past (now (x ∷ past)) d.port d.copy x.outcome d.ok)) (legal run closed net k below) in
        let less = delivered_came run.capacity (owner_of run k) 0 send (past_of run k) (legal run closed net k below) one in
        let none = count_zero (is_copy send) (arrivals 0 (past_of run k)) (none_any (arrivals 0 (past_of run k)) (none_in k below station)) in
        let same = counted run send k in
        omega (arith, less, none, same)

pub lives_stay : LivesStay
lives_stay run closed net send sending k is life alone below station = none_up run closed net send sending is life alone k below station
