-- Each step keeps that each copy is of a send, and that what a RedBox numbers is new to it.
use Rattle.std.proofs.Common.{◌≡◌, ℕ, ◌<◌, ◌==◌, nat_lt, max, Bool, true, false, List, [], ◌∷◌, map, set, length, option_to_list, Option, Some, None, Result, Ok, Err, refl, sym, ap, ◌∙◌, subst, eqb-true, eq-eqb, ⊎_elim, count_by}
use Rattle.std.specs.Prelude.{if◌then◌else◌, slice_index_or}
use Rattle.std.specs.List.{AllByRecursion, list_any}
use Rattle.std.proofs.lemmas.Bool.{false≢true, cases_Bool}
use Rattle.std.proofs.lemmas.List.{get_or-set_same, get_or-set_other}
use Rattle.hsr_frame.specs.Egress.{cause_of}
use Rattle.hsr_frame.specs.declared.egress.Exits.{Exits}
use Rattle.hsr_frame.specs.declared.node.Cause.{Cause}
use Rattle.hsr_redbox.specs.Step.{number_of}
use Rattle.hsr_tag.specs.Seen.{classified}
use Rattle.hsr_link.specs.Link.{Link, inject_step, put_step, take_step}
use Rattle.hsr_link.specs.Rows.{first_copy}
use Rattle.hsr_link.specs.declared.row.Dir.{Dir}
use Rattle.hsr_link.specs.declared.row.Dir.TheVariants.{Forth, Back}
use Rattle.hsr_link.specs.declared.row.Fate.TheVariants.{Taken}
use Rattle.hsr_link.specs.declared.row.Row.{Row}
use Rattle.hsr_node.specs.Flow.{arrivals, copy_at, pass_of}
use Rattle.hsr_node.specs.Record.{Each, Owner, answer, next_number, now, number_in, passing, ports, remembers}
use Rattle.hsr_node.specs.declared.entry.Entry.{Entry}
use Rattle.hsr_node.specs.declared.event.Carried.{Carried}
use Rattle.hsr_node.specs.declared.event.Event.{Event}
use Rattle.hsr_node.specs.declared.event.Event.TheVariants as event
use Rattle.hsr_node.specs.declared.event.Outcome.{Outcome}
use Rattle.hsr_node.specs.declared.event.Outcome.TheVariants as outcome
use Rattle.hsr_node.specs.declared.event.Probe.{Probe}
use Rattle.hsr_node.specs.declared.event.StepFault.{StepFault}
use Rattle.hsr_node.specs.declared.place.Place.{Place}
use Rattle.hsr_node.specs.declared.place.Place.TheVariants.{QuadBox, RedBox}
use Rattle.hsr_run_laws.proofs.Lists.{all_implied}
use Rattle.hsr_finished_run.proofs.Plan.{all_append}
use Rattle.hsr_topology.specs.Links.{is_a_station}
use Rattle.hsr_run_laws.specs.Once.{is_copy}
use Rattle.hsr_run_laws.specs.Run.{owner_in, peer_in, record_in}
use Rattle.hsr_topology.specs.declared.end.End.{End}
use Rattle.hsr_run_laws.proofs.Records.{Answered, legal_each}
use Rattle.hsr_run_laws.proofs.Views.{judged}
use Rattle.hsr_world_laws.specs.Closing.{AreFrames}
use Rattle.hsr_world_laws.specs.Law.{IsSound}
use Rattle.hsr_world_laws.specs.Spans.{Lane, Span, Spot, emptied, gift, held_in, lane_of, lanes_of, on_lanes, spot_from, spread, with_lane, with_link}
use Rattle.hsr_world_laws.specs.Origin.{EachCopy, InSpan, has_injected, is_injected}
use Rattle.hsr_world_laws.specs.World.{World, added, and_added, cleared, entered, has_link, has_node, has_port, injected_at, judged_at, span_at, or_same, owner_at, planned, put_at, put_from, record_at, take_to, taken_by, tried, with_span}
use Rattle.hsr_topology.specs.Workers.{port_worker}
use Rattle.hsr_world_steps.specs.declared.step.Step.{Step}
use Rattle.hsr_world_steps.specs.declared.step.Step.TheVariants.{Clock, Send, Supervise, Age, Put, Take, Judge, Cut, Mend, Inject}
use Rattle.hsr_world_steps.specs.declared.step.WorldFault.{WorldFault}
use Rattle.hsr_world_steps.specs.declared.step.WorldFault.TheVariants.{TooLong}
use Rattle.hsr_world_laws.proofs.Keeps.{all_mapped, all_replaced, below_by, entry_of, node_below}
use Rattle.hsr_world_laws.proofs.Numbering.{IsFirst, IsNew, each_kept, first_kept, first_number, none_given, numbered, station_seq}
use Rattle.hsr_world_laws.proofs.Origin.{all_came, all_cons_option, held_is, in_cut, in_emptied, in_lanes, in_mended, in_put, in_taken, injected_here, injected_last, injected_lost, injected_mapped, injected_more, injected_set, injected_turned, span_implied}
use Rattle.hsr_world_laws.proofs.Passing.{IsCopyOf, NumberedAs, copy_kept, numbers_fit, passed_copy, sent_kept}
use Rattle.hsr_world_laws.proofs.Single.{IsNumbered, held_by, is_fresh, numbered_came}
use Rattle.hsr_world_laws.proofs.Wires.{WiredWell, wire}

pub record Holds (links : List (List End)) (w : World) : Type 0 where
  pub copies : EachCopy (IsCopyOf w.places w.records links) w
  pub first : (m : ℕ) → Each (λ x past. IsFirst w.places w.records links (owner_in w.places m) past x.event x.outcome) (record_in w.records m)

-- where nothing was injected, and sends are frames
abbrev pub HoldsOwn : List (List End) → World → Type 0
HoldsOwn links w = is_injected w.spans ≡ false → AreFrames w.places w.records → Holds links w

not_before : (a b : Bool) → (a ≡ true → b ≡ true) → b ≡ false → a ≡ false
not_before false b f h = refl
not_before true b f h = absurd (false≢true (sym h ∙ f refl))

-- ---- one span is changed

holds_span : (links : List (List End)) (w : World) (l : ℕ) (span : Span) → (has_injected (span_at w l) ≡ true → has_injected span ≡ true) →
    ((P : Carried → Type 0) → InSpan P (span_at w l) → InSpan P span) → HoldsOwn links w → HoldsOwn links (with_span w l span)
holds_span links w l span more within h none frames =
    let before = h (not_before (is_injected w.spans) (is_injected (set w.spans l span)) (injected_set w.spans l _ span more) none) frames in
    let P : Carried → Type 0 = IsCopyOf w.places w.records links in
    record {
      copies = record { spans = all_replaced (InSpan P) w.spans l _ span (within P) before.copies.spans; came = before.copies.came };
      first = before.first;
    }

holds_put : (links : List (List End)) (w : World) (spot : Option Spot) → HoldsOwn links w → HoldsOwn links (or_same w (put_at w spot))
holds_put links w None h = h
holds_put links w (Some s) h = by_case (lane_of s.dir (span_at w s.link)).outbox refl
  where
    rows_of : (dir : Dir) (lane : Lane) (span : Span) (link : Link) → (with_link link (with_lane dir lane span)).link.rows ≡ link.rows
    rows_of Forth lane span link = refl
    rows_of Back lane span link = refl

    by_case : (box : List Carried) → (lane_of s.dir (span_at w s.link)).outbox ≡ box → HoldsOwn links (or_same w (put_from w s box))
    by_case [] e = h
    by_case (c ∷ cs) e =
        let span = span_at w s.link in
        let lane : Lane = record (lane_of s.dir span) { outbox = cs } in
        let link = (put_step span.link s.dir c).1 in
        holds_span links w s.link (with_link link (with_lane s.dir lane span))
        (λ i. ap (λ (rows : List Row). list_any (λ (row : Row). row.injected) rows) (rows_of s.dir lane span link) ∙ injected_more span.link.rows _ i)
        (λ P. in_put P span s.dir c cs e) h

holds_take : (links : List (List End)) (w : World) (l : ℕ) (dir : Dir) → HoldsOwn links w → HoldsOwn links (or_same w (take_to w l dir (lane_of dir (span_at w l)).hand))
holds_take links w l dir h = by_case (lane_of dir (span_at w l)).hand
  where
    rows_of : (dir : Dir) (lane : Lane) (span : Span) (link : Link) → (with_link link (with_lane dir lane span)).link.rows ≡ link.rows
    rows_of Forth lane span link = refl
    rows_of Back lane span link = refl

    of_queue : (first : Option Carried) → first_copy dir (span_at w l).link.rows ≡ first → HoldsOwn links (or_same w (taken_by w l dir (first, (take_step (span_at w l).link dir).1)))
    of_queue None e = h
    of_queue (Some c) e =
        let span = span_at w l in
        let lane : Lane = record (lane_of dir span) { hand = Some c } in
        let link = (take_step span.link dir).1 in
        holds_span links w l (with_link link (with_lane dir lane span))
        (λ i. ap (λ (rows : List Row). list_any (λ (row : Row). row.injected) rows) (rows_of dir lane span link) ∙ (injected_turned Taken dir span.link.rows ∙ i))
        (λ P. in_taken P span dir c e) h

    by_case : (hand : Option Carried) → HoldsOwn links (or_same w (take_to w l dir hand))
    by_case (Some held) = h
    by_case None = of_queue (first_copy dir (span_at w l).link.rows) refl

-- what is injected is no run's own
holds_injected : (links : List (List End)) (w : World) (l : ℕ) (dir : Dir) (octets : List ℕ) → l < length w.spans → HoldsOwn links w → HoldsOwn links (or_same w (injected_at w l dir octets))
holds_injected links w l dir octets below h = by_case (nat_lt 2048 (length octets))
  where
    by_case : (b : Bool) → HoldsOwn links (or_same w (if b then Err TooLong else Ok (with_span w l (with_link (inject_step (span_at w l).link dir (record { probe = None; octets = octets })).1 (span_at w l)))))
    by_case true = h
    by_case false = λ none frames.
        let c : Carried = record { probe = None; octets = octets } in
        let span = span_at w l in
        let after : Span = with_link (inject_step span.link dir c).1 span in
        absurd (false≢true (sym none ∙ injected_here w.spans l after below (injected_last span.link.rows _ refl)))

-- ---- an entry is added

gifts : (P : Carried → Type 0) (owner : Owner) (x : Entry) (past : List Entry) → ((port : ℕ) (c : Carried) → pass_of owner port x past ≡ Some c → P c) → (lane : Lane) → AllByRecursion P (gift owner x past lane)
gifts P owner x past f lane = by_case (lane.from.node == owner.number) (pass_of owner lane.from.port x past) refl
  where
    by_case : (b : Bool) (o : Option Carried) → pass_of owner lane.from.port x past ≡ o → AllByRecursion P (if b then option_to_list o else [])
    by_case true None e = tt
    by_case true (Some c) e = (f lane.from.port c e, tt)
    by_case false o e = tt

spread_in : (P : Carried → Type 0) (owner : Owner) (x : Entry) (past : List Entry) → ((port : ℕ) (c : Carried) → pass_of owner port x past ≡ Some c → P c) → (span : Span) → InSpan P span →
    InSpan P (on_lanes (spread owner x past) span)
spread_in P owner x past f span h = record {
  rows = h.rows;
  forth = record { outbox = all_append P span.forth.outbox _ h.forth.outbox (gifts P owner x past f span.forth); hand = h.forth.hand };
  back = record { outbox = all_append P span.back.outbox _ h.back.outbox (gifts P owner x past f span.back); hand = h.back.hand };
}

-- each copy then, by what leaves and what came
copies_added : (P Q : Carried → Type 0) (w : World) (n : ℕ) (x : Entry) → n < length w.records → ((c : Carried) → P c → Q c) →
    ((port : ℕ) (c : Carried) → pass_of (owner_at w n) port x (record_at w n) ≡ Some c → Q c) → ((m : ℕ) (c : Carried) → x.event ≡ event.Arrive m c → Q c) →
    EachCopy P w → EachCopy Q (added w n x)
copies_added P Q w n x below kept left came h = record {
  spans = all_mapped (InSpan Q) (InSpan Q) (on_lanes (spread (owner_at w n) x (record_at w n))) (spread_in Q (owner_at w n) x (record_at w n) left) w.spans
      (all_implied (InSpan P) (InSpan Q) (span_implied P Q kept) w.spans h.spans);
  came = λ m port. ⊎_elim
      (λ same. subst (λ k. AllByRecursion Q (arrivals port (record_in (set w.records n (x ∷ record_at w n)) k))) (sym (eqb-true m n same))
      (subst (λ (all : List Entry). AllByRecursion Q (arrivals port all)) (sym (get_or-set_same w.records n (x ∷ record_at w n) [] below))
      (all_cons_option Q (copy_at port x.event) (arrivals port (record_at w n)) (all_came Q x.event came port) (all_implied P Q kept (arrivals port (record_at w n)) (h.came n port)))))
      (λ other. subst (λ (all : List Entry). AllByRecursion Q (arrivals port all)) (sym (get_or-set_other w.records n m (x ∷ record_at w n) [] (λ s. false≢true (sym other ∙ eq-eqb m n s))))
      (all_implied P Q kept (arrivals port (record_in w.records m)) (h.came m port)))
      (cases_Bool (m == n));
}

-- what came is of a send; and where it gets a number it is new
abbrev Arrived : List (List End) → World → ℕ → Event → Outcome → Type 0
Arrived links w n e o = (m : ℕ) (c : Carried) → e ≡ event.Arrive m c →
    IsCopyOf w.places w.records links c × ((k : ℕ) → number_in o ≡ Some k → IsNew w.places w.records links n c)

-- an arrival that got a number
record JudgedWith (o : Outcome) (k : ℕ) : Type 0 where
  pub up_too : Bool
  pub out_ports : List Bool
  pub cause : Cause
  pub is : o ≡ outcome.Judged up_too out_ports (Some k) cause

judged_with : (capacity : ℕ) (owner : Owner) (past : List Entry) (at port : ℕ) (copy : Carried) (o : Outcome) (k : ℕ) → answer capacity owner past at (event.Arrive port copy) ≡ Ok o → number_in o ≡ Some k → JudgedWith o k
judged_with capacity owner past at port copy o k ok number =
    let j = judged capacity owner past at port copy o ok in
    let passes : Exits = passing (remembers capacity owner past at) j.h.wants.exits (classified copy.octets) in
    let source : number_of j.h.source (next_number past) ≡ Some k = sym (ap number_in j.out) ∙ number in
    record { up_too = passes.up; out_ports = ports passes; cause = cause_of j.h.wants passes; is = j.out ∙ ap (λ seq. outcome.Judged passes.up (ports passes) seq (cause_of j.h.wants passes)) source }

holds_added : (capacity : ℕ) (links : List (List End)) (w : World) (worker n : ℕ) (e : Event) (o : Outcome) → n < length w.records →
    answer capacity (owner_at w n) (record_at w n) (max (now (record_at w n)) w.moment) e ≡ Ok o → Each (Answered capacity (owner_at w n)) (record_at w n) →
    AreFrames w.places (set w.records n (entry_of w worker e o ∷ record_at w n)) → Arrived links w n e o → Holds links w → Holds links (added w n (entry_of w worker e o))
holds_added capacity links w worker n e o below ok legal frames arrived h = record {
  copies = copies_added P Q w n x below kept
      (λ port c left. passed_copy w.places more links n port x past c (get_or-set_same w.records n (x ∷ past) [] below) (numbers_fit capacity (owner_at w n) past _ e o ok)
      (λ send s sent. frames send s sent) (λ m copy is. (kept copy (arrived m copy is).0, numbers m copy is)) left)
      (λ m c is. kept c (arrived m c is).0) h.copies;
  first = λ m. ⊎_elim
      (λ same. subst (λ k. Each (First k) (record_in more k)) (sym (eqb-true m n same)) (subst (Each (First n)) (sym (get_or-set_same w.records n (x ∷ past) [] below)) (newest e o refl refl, old n)))
      (λ other. subst (Each (First m)) (sym (get_or-set_other w.records n m (x ∷ past) [] (λ s. false≢true (sym other ∙ eq-eqb m n s)))) (old m))
      (cases_Bool (m == n));
}
  where
    x : Entry
    x = entry_of w worker e o

    past : List Entry
    past = record_at w n

    more : List (List Entry)
    more = set w.records n (x ∷ past)

    P : Carried → Type 0
    P = IsCopyOf w.places w.records links

    Q : Carried → Type 0
    Q = IsCopyOf w.places more links

    First : ℕ → Entry → List Entry → Type 0
    First m y below = IsFirst w.places more links (owner_in w.places m) below y.event y.outcome

    kept : (c : Carried) → P c → Q c
    kept c q = copy_kept w.places w.records links n x c below q

    old : (m : ℕ) → Each (First m) (record_in w.records m)
    old m =
        each_kept (λ y below. IsFirst w.places w.records links (owner_in w.places m) below y.event y.outcome) (First m)
        (λ y before. first_kept w.places w.records links n x below (owner_in w.places m) before y.event y.outcome) (record_in w.records m) (h.first m)

    numbers : (m : ℕ) (copy : Carried) → e ≡ event.Arrive m copy → NumberedAs w.places more links o copy
    numbers m copy is k number q =
        let A : Event → Type 0 = λ f. answer capacity (owner_at w n) (record_at w n) (max (now (record_at w n)) w.moment) f ≡ Ok o in
        let j = judged_with capacity (owner_at w n) (record_at w n) (max (now (record_at w n)) w.moment) m copy o k (subst A is ok) number in
        numbered capacity w.places w.records links n x copy m k j.up_too j.out_ports j.cause below ((arrived m copy is).1 k number) is j.is q.send q.sending q.named q.sent

    newest : (f : Event) (v : Outcome) → e ≡ f → o ≡ v → IsFirst w.places more links (owner_in w.places n) past f v
    newest (event.Send from dst vlan ethertype payload) v is out = tt
    newest (event.Supervise about) v is out = tt
    newest event.Age v is out = tt
    newest (event.Arrive port copy) (outcome.Sent seq ports) is out = tt
    newest (event.Arrive port copy) (outcome.Life seq life ports) is out = tt
    newest (event.Arrive port copy) outcome.Aged is out = tt
    newest (event.Arrive port copy) (outcome.Judged up_too ports None cause) is out = tt
    newest (event.Arrive port copy) (outcome.Judged up_too ports (Some k) cause) is out =
        first_number capacity w.places w.records links n x copy port k up_too ports cause below ((arrived port copy is).1 k (ap number_in out)) legal (λ m. h.copies.came n m) is out

-- what came before an entry of a world that is a run's own
frames_before : (places : List Place) (records : List (List Entry)) (n : ℕ) (x : Entry) → n < length records → AreFrames places (set records n (x ∷ record_in records n)) → AreFrames places records
frames_before places records n x below frames send s sent = frames send s (sent_kept places records n x send s below sent)

holds_entered : (capacity : ℕ) (links : List (List End)) (v w : World) (worker n : ℕ) (e : Event) → n < length w.records → Each (Answered capacity (owner_at w n)) (record_at w n) →
    ((o : Outcome) → answer capacity (owner_at w n) (record_at w n) (max (now (record_at w n)) w.moment) e ≡ Ok o → is_injected w.spans ≡ false → AreFrames w.places w.records → Arrived links w n e o) →
    HoldsOwn links w → HoldsOwn links v → HoldsOwn links (or_same v (entered capacity w worker n e))
holds_entered capacity links v w worker n e below legal arrived h before = by_case (answer capacity (owner_at w n) (record_at w n) (max (now (record_at w n)) w.moment) e) refl
  where
    by_case : (r : Result Outcome StepFault) → answer capacity (owner_at w n) (record_at w n) (max (now (record_at w n)) w.moment) e ≡ r → HoldsOwn links (or_same v (and_added w worker n e r))
    by_case (Err fault) is = before
    by_case (Ok o) is = λ none frames.
        let own : is_injected w.spans ≡ false = sym (injected_mapped (spread (owner_at w n) (entry_of w worker e o) (record_at w n)) w.spans) ∙ none in
        let earlier = frames_before w.places w.records n (entry_of w worker e o) below frames in
        holds_added capacity links w worker n e o below is legal frames (arrived o is own earlier) (h own earlier)

-- ---- a hand is judged

holds_cleared : (links : List (List End)) (w : World) (end : End) → HoldsOwn links w → HoldsOwn links (cleared w end)
holds_cleared links w end h none frames =
    let before = h (sym (injected_mapped (emptied end) w.spans) ∙ none) frames in
    let P : Carried → Type 0 = IsCopyOf w.places w.records links in
    record {
      copies = record { spans = all_mapped (InSpan P) (InSpan P) (on_lanes (emptied end)) (in_emptied P end) w.spans before.copies.spans; came = before.copies.came };
      first = before.first;
    }

-- what gets a number at an interlink is new there
new_there : (capacity : ℕ) (links : List (List End)) (w : World) (end : End) (c : Carried) → IsSound capacity w → is_injected w.spans ≡ false → AllByRecursion (WiredWell w.places links) (map wire w.spans) →
    held_in end (lanes_of w.spans) ≡ Some c → IsCopyOf w.places w.records links c → IsNumbered (owner_at w end.node).place end.port (classified c.octets) → IsNew w.places w.records links end.node c
new_there capacity links w end c sound none wired held q numbered =
    let h = held_by w.places w.records links end c w.spans held sound.agree none wired in
    let box : slice_index_or w.places h.lane.to.node QuadBox ≡ RedBox numbered.mac numbered.mode = ap (λ (to : End). slice_index_or w.places to.node QuadBox) h.to ∙ numbered.box in
    let from = h.faces.station numbered.mac numbered.mode box (ap (λ (to : End). to.port) h.to ∙ numbered.interlink) in
    let station : is_a_station (Some (owner_in w.places h.lane.from.node).place) ≡ true = ap (λ (p : Place). is_a_station (Some p)) from.station in
    let legal = legal_each capacity (owner_in w.places h.lane.from.node) (record_in w.records h.lane.from.node) (sound.legal h.lane.from.node) in
    let fresh = is_fresh capacity w.places w.records h.dir h.rows h.lane c station from.port legal h.own h.agrees h.hand in
    let send : q.send ≡ record { node = h.lane.from.node; place = fresh.place } = the_probe q.send (record { node = h.lane.from.node; place = fresh.place }) (sym q.named ∙ fresh.named) in
    let node : q.send.node ≡ h.lane.from.node = ap (λ (p : Probe). p.node) send in
    let there : h.lane.to ≡ record { node = end.node; port = 2 } = h.to ∙ (λ i. record { node = end.node; port = numbered.interlink i }) in
    let count : count_by (is_copy q.send) (arrivals 2 (record_at w end.node)) ≡ 0 =
    subst (λ (to : End). count_by (is_copy q.send) (arrivals to.port (record_in w.records to.node)) ≡ 0) there
    (subst (λ (p : Probe). count_by (is_copy p) (arrivals h.lane.to.port (record_in w.records h.lane.to.node)) ≡ 0) (sym send) fresh.none) in
    record {
      of_send = q;
      away = λ e. h.faces.apart (sym node ∙ (e ∙ sym (ap (λ (to : End). to.node) h.to)));
      peer = (2, subst (λ (from : End). peer_in from links ≡ Some (record { node = end.node; port = 2 })) (begins h.lane.from q.send.node from.port node) (h.peer ∙ ap (λ (to : End). Some to) there));
      seq = station_seq capacity (owner_in w.places q.send.node) q.send.place (record_in w.records q.send.node) q.sending
          (subst (λ k. is_a_station (Some (owner_in w.places k).place) ≡ true) (sym node) station) (legal_each capacity (owner_in w.places q.send.node) (record_in w.records q.send.node) (sound.legal q.send.node)) q.sent;
      none = none_given capacity (owner_at w end.node) q.send (record_at w end.node) (legal_each capacity (owner_at w end.node) (record_at w end.node) (sound.legal end.node)) count;
    }
  where
    the_probe : (p q : Probe) → Some p ≡ Some q → p ≡ q
    the_probe p q e = cc

    begins : (from : End) (n : ℕ) → from.port ≡ 0 → n ≡ from.node → from ≡ record { node = n; port = 0 }
    begins from n port node = λ i. record { node = sym node i; port = port i }

holds_judged : (capacity : ℕ) (links : List (List End)) (w : World) (end : End) → end.node < length w.records → IsSound capacity w → AllByRecursion (WiredWell w.places links) (map wire w.spans) →
    HoldsOwn links w → HoldsOwn links (or_same w (judged_at capacity w end (held_in end (lanes_of w.spans))))
holds_judged capacity links w end below sound wired h = by_case (held_in end (lanes_of w.spans)) refl
  where
    same : (m k : ℕ) (a b : Carried) → event.Arrive m a ≡ event.Arrive k b → a ≡ b
    same m k a b e = cc

    by_case : (held : Option Carried) → held_in end (lanes_of w.spans) ≡ held → HoldsOwn links (or_same w (judged_at capacity w end held))
    by_case None e = h
    by_case (Some c) e =
        holds_entered capacity links w (cleared w end) (port_worker end) end.node (event.Arrive end.port c) below
        (legal_each capacity (owner_at w end.node) (record_at w end.node) (sound.legal end.node)) arrived (holds_cleared links w end h) h
      where
        arrived : (o : Outcome) → answer capacity (owner_at w end.node) (record_at w end.node) (max (now (record_at w end.node)) w.moment) (event.Arrive end.port c) ≡ Ok o →
            is_injected (cleared w end).spans ≡ false → AreFrames w.places w.records → Arrived links (cleared w end) end.node (event.Arrive end.port c) o
        arrived o ok none frames m d is =
            let own : is_injected w.spans ≡ false = sym (injected_mapped (emptied end) w.spans) ∙ none in
            let P : Carried → Type 0 = IsCopyOf w.places w.records links in
            let N : Carried → Type 0 = λ x. IsCopyOf w.places w.records links x × ((k : ℕ) → number_in o ≡ Some k → IsNew w.places w.records links end.node x) in
            let here : IsCopyOf w.places w.records links c = held_is P end (lanes_of w.spans) c e (in_lanes P w.spans (h own frames).copies.spans) in
            subst N (same end.port m c d is) (
              here,
              λ k number.
                  let j = judged_with capacity (owner_at w end.node) (record_at w end.node) (max (now (record_at w end.node)) w.moment) end.port c o k ok number in
                  let A : Outcome → Type 0 = λ v. answer capacity (owner_at w end.node) (record_at w end.node) (max (now (record_at w end.node)) w.moment) (event.Arrive end.port c) ≡ Ok v in
                  new_there capacity links w end c sound own wired e here
                  (numbered_came capacity (owner_at w end.node) (record_at w end.node) (max (now (record_at w end.node)) w.moment) end.port c j.up_too j.out_ports k j.cause (subst A j.is ok)),
            )

-- ---- any step

holds_own : (capacity : ℕ) (links : List (List End)) (w : World) (n : ℕ) (e : Event) → n < length w.records → ((x : ℕ) (copy : Carried) → e ≡ event.Arrive x copy → ⊥) → IsSound capacity w → HoldsOwn links w →
    HoldsOwn links (or_same w (entered capacity (planned w n e) 0 n e))
holds_own capacity links w n e below away sound h =
    holds_entered capacity links w (planned w n e) 0 n e below (legal_each capacity (owner_at w n) (record_at w n) (sound.legal n)) (λ o ok none frames m copy same. absurd (away m copy same))
    (λ none frames. let before = h none frames in record { copies = record { spans = before.copies.spans; came = before.copies.came }; first = before.first }) h

met : (links : List (List End)) (w : World) (b : Bool) (r : Result World WorldFault) (f : WorldFault) → HoldsOwn links w → (b ≡ true → HoldsOwn links (or_same w r)) → HoldsOwn links (or_same w (if b then r else Err f))
met links w true r f h k = k refl
met links w false r f h k = h

pub holds_step : (capacity : ℕ) (links : List (List End)) (w : World) (step : Step) → IsSound capacity w → AllByRecursion (WiredWell w.places links) (map wire w.spans) → HoldsOwn links w →
    HoldsOwn links (or_same w (tried capacity w step))
unfolding tried
holds_step capacity links w (Clock at) s wired h = λ none frames. let before = h none frames in record { copies = record { spans = before.copies.spans; came = before.copies.came }; first = before.first }
holds_step capacity links w (Send n from dst vlan ethertype payload) s wired h =
    met links w (has_node w n) _ _ h (λ e. holds_own capacity links w n (event.Send from dst vlan ethertype payload) (node_below capacity w n s e) (λ x copy e. absurd (cc)) s h)
holds_step capacity links w (Supervise n about) s wired h =
    met links w (has_node w n) _ _ h (λ e. holds_own capacity links w n (event.Supervise about) (node_below capacity w n s e) (λ x copy e. absurd (cc)) s h)
holds_step capacity links w (Age n) s wired h = met links w (has_node w n) _ _ h (λ e. holds_own capacity links w n event.Age (node_below capacity w n s e) (λ x copy e. absurd (cc)) s h)
holds_step capacity links w (Put n port) s wired h =
    met links w (has_node w n) _ _ h (λ e. met links w (has_port w n port) _ _ h (λ f. holds_put links w (spot_from (record { node = n; port = port }) 0 w.spans) h))
holds_step capacity links w (Take l dir) s wired h = met links w (has_link w l) _ _ h (λ e. holds_take links w l dir h)
holds_step capacity links w (Judge n port) s wired h =
    met links w (has_node w n) _ _ h
    (λ e. met links w (has_port w n port) _ _ h (λ f. holds_judged capacity links w (record { node = n; port = port }) (node_below capacity w n s e) s wired h))
holds_step capacity links w (Cut l) s wired h = met links w (has_link w l) _ _ h (λ e. holds_span links w l _ (λ i. injected_lost (span_at w l).link.rows ∙ i) (λ P. in_cut P (span_at w l)) h)
holds_step capacity links w (Mend l) s wired h = met links w (has_link w l) _ _ h (λ e. holds_span links w l _ (λ i. i) (λ P. in_mended P (span_at w l)) h)
holds_step capacity links w (Inject l dir octets) s wired h = met links w (has_link w l) _ _ h (λ e. holds_injected links w l dir octets (below_by l (length w.spans) e) h)
