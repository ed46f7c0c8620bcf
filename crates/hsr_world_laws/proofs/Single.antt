-- A send of a Station comes to the interlink at its link once at most.
use Rattle.std.proofs.Common.{◌≡◌, ℕ, ◌+◌, ◌≤◌, ◌==◌, Bool, true, false, not, List, [], ◌∷◌, length, map, count_by, option_map, option_to_list, slice_get, unwrap_or, Option, Some, None, Ok, Err, refl, sym, ap, ◌∙◌, subst, arith, eqb-true, eq-eqb, ⊎_elim, inl, inr}
use Rattle.std.specs.Prelude.{if◌then◌else◌, ◌&&◌, ◌||◌}
use Rattle.std.specs.List.{AllByRecursion, cons_option, list_any}
use Rattle.std.proofs.lemmas.Bool.{false≢true, cases_Bool, or_parts, cond-false, ne_eqb}
use Rattle.hsr_frame.specs.Address.{is_among, is_group}
use Rattle.hsr_frame.specs.Cases.{first_of}
use Rattle.hsr_frame.specs.Egress.{Egress, up, a, nowhere, to, has_exit}
use Rattle.hsr_frame.specs.Grammar.{Fields}
use Rattle.hsr_frame.specs.declared.node.Cause.{Cause}
use Rattle.hsr_frame.specs.declared.node.Cause.TheVariants.{Returned}
use Rattle.hsr_frame.specs.declared.node.Mode.{Mode}
use Rattle.hsr_frame.specs.declared.node.RingPort.{RingPort}
use Rattle.hsr_danh.specs.Wanted as of_danh
use Rattle.hsr_redbox.specs.Step.{number_of}
use Rattle.hsr_redbox.specs.Wanted.{unnumbered}
use Rattle.hsr_redbox.specs.declared.call.BoxPort.TheVariants as box
use Rattle.hsr_redbox.specs.declared.wanted.Handling.{Handling}
use Rattle.hsr_quadbox.specs.Wanted as of_quadbox
use Rattle.hsr_quadbox.specs.declared.wanted.QuadPort.{QuadPort}
use Rattle.hsr_tag.specs.declared.seen.Seen.TheVariants.{Plain, Tagged}
use Rattle.hsr_link.specs.Rows.{goes, is_taken, put_copies, put_copy, taken_copies, taken_copy}
use Rattle.hsr_link.specs.declared.row.Dir.{Dir}
use Rattle.hsr_link.specs.declared.row.Row.{Row}
use Rattle.hsr_node.specs.Copies.{copy_octets, ports_of}
use Rattle.hsr_node.specs.Flow.{arrivals, pass_of, passes}
use Rattle.hsr_node.specs.Record.{Each, Owner, answer, box_handling, handling, next_number, now, number_in, passing, probe_handled, remembers, station_wanted}
use Rattle.hsr_node.specs.Step.{quad_port, ring_port}
use Rattle.hsr_node.specs.declared.entry.Entry.{Entry}
use Rattle.hsr_node.specs.declared.event.Carried.{Carried}
use Rattle.hsr_node.specs.declared.event.Event.{Event}
use Rattle.hsr_node.specs.declared.event.Event.TheVariants as event
use Rattle.hsr_node.specs.declared.event.Outcome.{Outcome}
use Rattle.hsr_node.specs.declared.event.Outcome.TheVariants as outcome
use Rattle.hsr_node.specs.declared.event.Probe.{Probe}
use Rattle.hsr_node.specs.declared.place.Place.{Place}
use Rattle.hsr_node.specs.declared.place.Place.TheVariants.{Danh, RedBox, QuadBox, Station}
use Rattle.hsr_topology.proofs.Ends.{end_is}
use Rattle.hsr_topology.specs.Links.{is_a_station, is_same_end}
use Rattle.hsr_run_laws.specs.Once.{is_copy}
use Rattle.hsr_run_laws.specs.Run.{is_of, owner_in, record_in}
use Rattle.hsr_topology.specs.declared.end.End.{End}
use Rattle.hsr_run_laws.proofs.Lists.{count_more, count_zero, one_if, zero_if}
use Rattle.hsr_run_laws.proofs.Records.{Answered}
use Rattle.hsr_run_laws.proofs.Same.{is_of_itself}
use Rattle.hsr_run_laws.proofs.Views.{Came, came, judged, knows_at, passing-wanted}
use Rattle.hsr_world_laws.specs.Law.{LaneAgrees, SpanAgrees}
use Rattle.hsr_world_laws.specs.Spans.{Lane, Span, held_in, lanes_of}
use Rattle.hsr_world_laws.specs.Origin.{has_injected, is_injected}
use Rattle.hsr_world_laws.proofs.Counts.{count_append, count_option, counts_of}
use Rattle.hsr_world_laws.proofs.Origin.{Named, pass_named}
use Rattle.hsr_world_laws.proofs.Wires.{Faces, WiredWell, wire}

-- ---- what gets a number came plain to the interlink of a RedBox

pub record IsNumbered (place : Place) (port : ℕ) (seen : Came) : Type 0 where
  pub mac : List ℕ
  pub mode : Mode
  pub box : place ≡ RedBox mac mode
  pub interlink : port ≡ 2
  pub frame : Fields
  pub plain : seen ≡ Ok (Plain frame)

no_source : (h g : Handling) (src : List ℕ) → g.source ≡ None → g ≡ h → h.source ≡ Some src → ⊥
no_source h g src none same some = let a : g.source ≡ h.source = ap (λ (k : Handling). k.source) same in let b : None ≡ Some src = sym none ∙ (a ∙ some) in absurd cc

same_some : (g h : Handling) → Some g ≡ Some h → g ≡ h
same_some g h e = cc

pub numbered_source : (place : Place) (known : List ℕ → Bool) (port : ℕ) (seen : Came) (h : Handling) (src : List ℕ) → handling place known port seen ≡ Some h → h.source ≡ Some src → IsNumbered place port seen
numbered_source (Danh mac mode) known port seen h src is some = by_port (ring_port port) is
  where
    by_port : (o : Option RingPort) → option_map (λ x. unnumbered (of_danh.wanted mac mode x seen)) o ≡ Some h → IsNumbered (Danh mac mode) port seen
    by_port None e = absurd cc
    by_port (Some x) e = absurd (no_source h (unnumbered (of_danh.wanted mac mode x seen)) src refl (same_some _ h e) some)
numbered_source QuadBox known port seen h src is some = by_port (quad_port port) is
  where
    by_port : (o : Option QuadPort) → option_map (λ x. unnumbered (of_quadbox.wanted x seen)) o ≡ Some h → IsNumbered QuadBox port seen
    by_port None e = absurd cc
    by_port (Some x) e = absurd (no_source h (unnumbered (of_quadbox.wanted x seen)) src refl (same_some _ h e) some)
numbered_source (Station macs) known port seen h src is some = by_port (port == 0) is
  where
    by_port : (b : Bool) → (if b then Some (unnumbered (station_wanted macs.items seen)) else None) ≡ Some h → IsNumbered (Station macs) port seen
    by_port true e = absurd (no_source h (unnumbered (station_wanted macs.items seen)) src refl (same_some _ h e) some)
    by_port false e = absurd cc
numbered_source (RedBox mac mode) known port seen h src is some = by_port (port == 0) (port == 1) (port == 2) (eqb-true port 2) is
  where
    by_seen : (s : Came) → seen ≡ s → port ≡ 2 → box_handling mac mode known box.I s ≡ h → IsNumbered (RedBox mac mode) port seen
    by_seen (Err fault) at two e = absurd (no_source h (box_handling mac mode known box.I (Err fault)) src refl e some)
    by_seen (Ok (Tagged t)) at two e = absurd (no_source h (box_handling mac mode known box.I (Ok (Tagged t))) src refl e some)
    by_seen (Ok (Plain frame)) at two e = record { mac = mac; mode = mode; box = refl; interlink = two; frame = frame; plain = at }

    by_port : (p q r : Bool) → (r ≡ true → port ≡ 2) → option_map (λ x. box_handling mac mode known x seen) (first_of ((p, Some box.A) ∷ (q, Some box.B) ∷ (r, Some box.I) ∷ []) None) ≡ Some h → IsNumbered (RedBox mac mode) port seen
    by_port true q r two e = absurd (no_source h (box_handling mac mode known box.A seen) src refl (same_some _ h e) some)
    by_port false true r two e = absurd (no_source h (box_handling mac mode known box.B seen) src refl (same_some _ h e) some)
    by_port false false true two e = by_seen seen refl (two refl) (same_some _ h e)
    by_port false false false two e = absurd cc

pub numbered_came : (capacity : ℕ) (owner : Owner) (past : List Entry) (at port : ℕ) (copy : Carried) (up_too : Bool) (out : List Bool) (seq : ℕ) (cause : Cause) →
    answer capacity owner past at (event.Arrive port copy) ≡ Ok (outcome.Judged up_too out (Some seq) cause) → IsNumbered owner.place port (came copy)
numbered_came capacity owner past at port copy up_too out seq cause ok =
    let j = judged capacity owner past at port copy (outcome.Judged up_too out (Some seq) cause) ok in
    by_source j.h.source j.h refl j.is (ap number_in j.out)
  where
    by_source : (o : Option (List ℕ)) (h : Handling) → h.source ≡ o → handling owner.place (knows_at owner past at port copy) port (came copy) ≡ Some h → Some seq ≡ number_of o (next_number past) → IsNumbered owner.place port (came copy)
    by_source None h from is some = absurd cc
    by_source (Some src) h from is some = numbered_source owner.place (knows_at owner past at port copy) port (came copy) h src is from

-- ---- a Station's port

-- nothing that came leaves it
station_wants : (macs : List (List ℕ)) (seen : Came) → has_exit (station_wanted macs seen).exits a ≡ false
station_wants macs (Err fault) = refl
station_wants macs (Ok (Tagged t)) = refl
station_wants macs (Ok (Plain frame)) = by_case (is_among macs frame.src) (is_among macs frame.dst || is_group frame.dst)
  where
    by_case : (p q : Bool) → has_exit (first_of ((p, nowhere Returned) ∷ (q, to (up ∷ [])) ∷ []) (to [])).exits a ≡ false
    by_case true q = refl
    by_case false true = refl
    by_case false false = refl

nothing_leaves : (capacity number : ℕ) (place : Place) (past : List Entry) (at port : ℕ) (copy : Carried) (o : Outcome) → is_a_station (Some place) ≡ true →
    answer capacity (record { number = number; place = place }) past at (event.Arrive port copy) ≡ Ok o → unwrap_or (slice_get (ports_of o) 0) false ≡ false
nothing_leaves capacity number (Danh mac mode) past at port copy o station ok = absurd (false≢true station)
nothing_leaves capacity number (RedBox mac mode) past at port copy o station ok = absurd (false≢true station)
nothing_leaves capacity number QuadBox past at port copy o station ok = absurd (false≢true station)
nothing_leaves capacity number (Station macs) past at port copy o station ok =
    let owner : Owner = record { number = number; place = Station macs } in
    let j = judged capacity owner past at port copy o ok in
    ap (λ v. unwrap_or (slice_get (ports_of v) 0) false) j.out ∙ unwanted (remembers capacity owner past at) j.h (wants_none (port == 0) j.h j.is)
  where
    wants_none : (b : Bool) (h : Handling) → (if b then Some (unnumbered (station_wanted macs.items (came copy))) else None) ≡ Some h → has_exit h.wants.exits a ≡ false
    wants_none true h e = ap (λ (k : Handling). has_exit k.wants.exits a) (sym (same_some _ h e)) ∙ station_wants macs.items (came copy)
    wants_none false h e = absurd cc

    unwanted : (held : Rattle.hsr_duptable.specs.Key.Key → Egress → Bool) (h : Handling) → has_exit h.wants.exits a ≡ false → has_exit (passing held h.wants.exits (came copy)) a ≡ false
    unwanted held h none = ⊎_elim (λ it. absurd (false≢true (sym none ∙ passing-wanted held h.wants.exits (came copy) a it))) (λ not_it. not_it) (cases_Bool (has_exit (passing held h.wants.exits (came copy)) a))

no_copy : (place : Place) (e : Event) (o : Outcome) (port : ℕ) → unwrap_or (slice_get (ports_of o) port) false ≡ false → copy_octets place e o port ≡ None
unfolding copy_octets
no_copy place e o port none = cond-false (unwrap_or (slice_get (ports_of o) port) false) _ _ none

-- what leaves it is a send of its own, this entry
station_pass : (capacity : ℕ) (owner : Owner) (x : Entry) (past : List Entry) (c : Carried) → is_a_station (Some owner.place) ≡ true → Answered capacity owner x past →
    pass_of owner 0 x past ≡ Some c → c.probe ≡ Some (record { node = owner.number; place = length past })
station_pass capacity owner x past c station ok h = by_name (pass_named owner 0 x past c h)
  where
    by_name : Named owner x past c.probe → c.probe ≡ Some (record { node = owner.number; place = length past })
    by_name (inl came) =
        let A : Event → Type 0 = λ e. answer capacity owner past (now (x ∷ past)) e ≡ Ok x.outcome in
        let none = nothing_leaves capacity owner.number owner.place past (now (x ∷ past)) came.0 came.1 x.outcome station (subst A came.2 ok) in
        let empty : pass_of owner 0 x past ≡ None = ap (option_map (λ octets. record { probe = probe_handled (record { node = owner.number; place = length past }) x.event; octets = octets })) (no_copy owner.place x.event x.outcome 0 none) in
        absurd cc
    by_name (inr own) = own.1

-- a probe names an entry of this node
abbrev pub is_from : ℕ → Option Probe → Bool
is_from n None = false
is_from n (Some probe) = probe.node == n

-- which sends leave by its port, and each once
pub record PassOnce (owner : Owner) (h : List Entry) : Type 0 where
  pub own : list_any (λ c. not (is_from owner.number c.probe)) (passes owner 0 h) ≡ false
  pub once : (k : ℕ) → count_by (is_copy (record { node = owner.number; place = k })) (passes owner 0 h) ≤ 1
  pub later : (k : ℕ) → length h ≤ k → count_by (is_copy (record { node = owner.number; place = k })) (passes owner 0 h) ≡ 0

pub passes_once : (capacity : ℕ) (owner : Owner) (h : List Entry) → is_a_station (Some owner.place) ≡ true → Each (Answered capacity owner) h → PassOnce owner h
passes_once capacity owner [] station legal = record { own = refl; once = λ k. omega arith; later = λ k more. refl }
passes_once capacity owner (x ∷ past) station legal = by_pass (pass_of owner 0 x past) refl (passes_once capacity owner past station legal.1)
  where
    by_pass : (o : Option Carried) → pass_of owner 0 x past ≡ o → PassOnce owner past → PassOnce owner (x ∷ past)
    by_pass None e rest =
        let same : passes owner 0 (x ∷ past) ≡ passes owner 0 past = ap (λ o. cons_option o (passes owner 0 past)) e in
        record {
          own = ap (list_any (λ c. not (is_from owner.number c.probe))) same ∙ rest.own;
          once = λ k. subst (λ cs. count_by (is_copy (record { node = owner.number; place = k })) cs ≤ 1) (sym same) (rest.once k);
          later = λ k more. ap (count_by (is_copy (record { node = owner.number; place = k }))) same ∙ rest.later k (omega (arith, more));
        }
    by_pass (Some c) e rest =
        let same : passes owner 0 (x ∷ past) ≡ c ∷ passes owner 0 past = ap (λ o. cons_option o (passes owner 0 past)) e in
        let named = station_pass capacity owner x past c station legal.0 e in
        let mine : is_from owner.number c.probe ≡ true = ap (is_from owner.number) named ∙ eq-eqb owner.number owner.number refl in
        let is : (k : ℕ) → is_copy (record { node = owner.number; place = k }) c ≡ (length past == k) =
        λ k. ap (is_of (record { node = owner.number; place = k })) named ∙ ap (λ b. b && (length past == k)) (eq-eqb owner.number owner.number refl) in
        record {
          own = ap (list_any (λ d. not (is_from owner.number d.probe))) same ∙ (ap (λ b. not b || list_any (λ d. not (is_from owner.number d.probe)) (passes owner 0 past)) mine ∙ rest.own);
          once = λ k.
              subst (λ cs. count_by (is_copy (record { node = owner.number; place = k })) cs ≤ 1) (sym same)
              (⊎_elim
              (λ here. let at = eqb-true (length past) k here in
              let more = count_more (is_copy (record { node = owner.number; place = k })) c (passes owner 0 past) in
              let one = one_if (is_copy (record { node = owner.number; place = k }) c) (is k ∙ here) in
              let none = rest.later k (omega (arith, at)) in
              omega (arith, more, one, none))
              (λ there. let more = count_more (is_copy (record { node = owner.number; place = k })) c (passes owner 0 past) in
              let zero = zero_if (is_copy (record { node = owner.number; place = k }) c) (is k ∙ there) in
              let some = rest.once k in
              omega (arith, more, zero, some))
              (cases_Bool (length past == k)));
          later = λ k below.
              ap (count_by (is_copy (record { node = owner.number; place = k }))) same
              ∙ (let more = count_more (is_copy (record { node = owner.number; place = k })) c (passes owner 0 past) in
              let zero = zero_if (is_copy (record { node = owner.number; place = k }) c) (is k ∙ ne_eqb (length past) k (λ at. omega (arith, at, below))) in
              let none = rest.later k (omega (arith, below)) in
              omega (arith, more, zero, none));
        }

-- ---- what was taken was put

-- where nothing was injected
taken_put : (p : Carried → Bool) (dir : Dir) (rows : List Row) → list_any (λ (row : Row). row.injected) rows ≡ false → count_by p (taken_copies dir rows) ≤ count_by p (put_copies dir rows)
taken_put p dir [] none = omega arith
taken_put p dir (r ∷ rows) none =
    let parts = or_parts r.injected (list_any (λ (row : Row). row.injected) rows) none in
    let rest = taken_put p dir rows parts.1 in
    let one = by_case (goes dir r) (is_taken r.fate) r.injected parts.0 in
    let t = count_option p (taken_copy dir r) (taken_copies dir rows) in
    let u = count_option p (put_copy dir r) (put_copies dir rows) in
    omega (arith, rest, one, t, u)
  where
    by_case : (g t i : Bool) → i ≡ false → count_by p (option_to_list (if g && t then Some r.carried else None)) ≤ count_by p (option_to_list (if g && not i then Some r.carried else None))
    by_case false t i e = omega arith
    by_case true true true e = absurd (false≢true (sym e))
    by_case true true false e = omega arith
    by_case true false true e = omega arith
    by_case true false false e = omega arith

-- what came to the end of a lane, and what it holds, left at its beginning
pub came_left : (places : List Place) (records : List (List Entry)) (dir : Dir) (rows : List Row) (lane : Lane) (p : Carried → Bool) → list_any (λ (row : Row). row.injected) rows ≡ false → LaneAgrees places records dir rows lane →
    count_by p (arrivals lane.to.port (record_in records lane.to.node)) + count_by p (option_to_list lane.hand) ≤ count_by p (passes (owner_in places lane.from.node) lane.from.port (record_in records lane.from.node))
came_left places records dir rows lane p none h =
    let came = counts_of _ _ h.came p in
    let sent = counts_of _ _ h.sent p in
    let fewer = taken_put p dir rows none in
    let u = count_append p (arrivals lane.to.port (record_in records lane.to.node)) (option_to_list lane.hand) in
    let v = count_append p (put_copies dir rows) lane.outbox in
    omega (arith, came, sent, fewer, u, v)

-- a copy in the hand of an interlink is of a send of its Station, and no other copy of that send came there
pub record IsFresh (places : List Place) (records : List (List Entry)) (lane : Lane) (copy : Carried) : Type 0 where
  pub place : ℕ
  pub named : copy.probe ≡ Some (record { node = lane.from.node; place = place })
  pub none : count_by (is_copy (record { node = lane.from.node; place = place })) (arrivals lane.to.port (record_in records lane.to.node)) ≡ 0

probe_from : (n : ℕ) (o : Option Probe) → is_from n o ≡ true → (k : ℕ) × (o ≡ Some (record { node = n; place = k }))
probe_from n None h = absurd (false≢true h)
probe_from n (Some probe) h = let same = eqb-true probe.node n h in (probe.place, λ i. Some (record { node = same i; place = probe.place }))

pub is_fresh : (capacity : ℕ) (places : List Place) (records : List (List Entry)) (dir : Dir) (rows : List Row) (lane : Lane) (c : Carried) →
    is_a_station (Some (owner_in places lane.from.node).place) ≡ true → lane.from.port ≡ 0 → Each (Answered capacity (owner_in places lane.from.node)) (record_in records lane.from.node) →
    list_any (λ (row : Row). row.injected) rows ≡ false → LaneAgrees places records dir rows lane → lane.hand ≡ Some c → IsFresh places records lane c
is_fresh capacity places records dir rows lane c station port legal none agrees hand =
    let once = passes_once capacity (owner_in places lane.from.node) (record_in records lane.from.node) station legal in
    let strays = count (λ d. not (is_from lane.from.node d.probe)) in
    let none_left = count_zero (λ d. not (is_from lane.from.node d.probe)) (passes (owner_in places lane.from.node) 0 (record_in records lane.from.node)) once.own in
    let found = probe_from lane.from.node c.probe (mine (is_from lane.from.node c.probe) refl (omega (arith, strays, none_left))) in
    let copies = count (is_copy (record { node = lane.from.node; place = found.0 })) in
    let most = once.once found.0 in
    let this = count_more (is_copy (record { node = lane.from.node; place = found.0 })) c [] in
    let one = one_if (is_copy (record { node = lane.from.node; place = found.0 }) c) (ap (is_of (record { node = lane.from.node; place = found.0 })) found.1 ∙ is_of_itself (record { node = lane.from.node; place = found.0 })) in
    record { place = found.0; named = found.1; none = omega (arith, copies, most, this, one) }
  where
    count : (p : Carried → Bool) →
        count_by p (arrivals lane.to.port (record_in records lane.to.node)) + count_by p (c ∷ []) ≤ count_by p (passes (owner_in places lane.from.node) 0 (record_in records lane.from.node))
    count p =
        subst (λ m. count_by p (arrivals lane.to.port (record_in records lane.to.node)) + count_by p (c ∷ []) ≤ count_by p (passes (owner_in places lane.from.node) m (record_in records lane.from.node))) port
        (subst (λ (o : Option Carried). count_by p (arrivals lane.to.port (record_in records lane.to.node)) + count_by p (option_to_list o) ≤ count_by p (passes (owner_in places lane.from.node) lane.from.port (record_in records lane.from.node))) hand
        (came_left places records dir rows lane p none agrees))

    mine : (b : Bool) → is_from lane.from.node c.probe ≡ b → count_by (λ (d : Carried). not (is_from lane.from.node d.probe)) (c ∷ []) ≡ 0 → is_from lane.from.node c.probe ≡ true
    mine true e h = e
    mine false e h =
        let this = count_more (λ (d : Carried). not (is_from lane.from.node d.probe)) c [] in
        let one = one_if (not (is_from lane.from.node c.probe)) (ap not e) in
        absurd (omega (arith, this, one, h))

-- ---- which lane holds what is judged

pub record IsHeld (places : List Place) (records : List (List Entry)) (links : List (List End)) (end : End) (copy : Carried) : Type 0 where
  pub dir : Dir
  pub rows : List Row
  pub lane : Lane
  pub agrees : LaneAgrees places records dir rows lane
  pub own : list_any (λ (row : Row). row.injected) rows ≡ false
  pub to : lane.to ≡ end
  pub hand : lane.hand ≡ Some copy
  pub faces : Faces places lane.from lane.to
  pub peer : Rattle.hsr_run_laws.specs.Run.peer_in lane.from links ≡ Some lane.to

pub held_by : (places : List Place) (records : List (List Entry)) (links : List (List End)) (end : End) (c : Carried) (spans : List Span) → held_in end (lanes_of spans) ≡ Some c →
    AllByRecursion (SpanAgrees places records) spans → is_injected spans ≡ false → AllByRecursion (WiredWell places links) (map wire spans) → IsHeld places records links end c
held_by places records links end c [] h agree none wired = absurd cc
held_by places records links end c (span ∷ spans) h agree none wired =
    let parts = or_parts (has_injected span) (is_injected spans) none in
    by_case (is_same_end span.forth.to end) (is_same_end span.back.to end) refl refl h (λ e. held_by places records links end c spans e agree.1 parts.1 wired.1)
  where
    here : list_any (λ (row : Row). row.injected) span.link.rows ≡ false
    here = (or_parts (has_injected span) (is_injected spans) none).0

    by_case : (f b : Bool) → is_same_end span.forth.to end ≡ f → is_same_end span.back.to end ≡ b → (if f then span.forth.hand else (if b then span.back.hand else held_in end (lanes_of spans))) ≡ Some c →
        (held_in end (lanes_of spans) ≡ Some c → IsHeld places records links end c) → IsHeld places records links end c
    by_case true b e g h rest = record {
      dir = _;
      rows = span.link.rows;
      lane = span.forth;
      agrees = agree.0.forth;
      own = here;
      to = end_is span.forth.to end e;
      hand = h;
      faces = wired.0.0;
      peer = wired.0.2.0;
    }
    by_case false true e g h rest = record {
      dir = _;
      rows = span.link.rows;
      lane = span.back;
      agrees = agree.0.back;
      own = here;
      to = end_is span.back.to end g;
      hand = h;
      faces = wired.0.1;
      peer = wired.0.2.1;
    }
    by_case false false e g h rest = rest h
