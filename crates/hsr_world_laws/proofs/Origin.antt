-- Each step keeps the origins of the copies.
use Rattle.std.proofs.Common.{◌≡◌, ◌⊎◌, ℕ, ◌<◌, nat_lt, max, Bool, true, false, cond, List, [], ◌∷◌, ◌++◌, map, set, get_or, length, option_map, option_to_list, slice_get, unwrap_or, Option, Some, None, Result, Ok, Err, refl, sym, ap, ◌∙◌, subst, arith, eqb-true, eq-eqb, ⊎_elim, inl, inr, zero, suc, ◌==◌}
use Rattle.std.specs.Prelude.{if◌then◌else◌, ◌||◌}
use Rattle.std.specs.List.{AllByRecursion, cons_option, list_any}
use Rattle.std.proofs.lemmas.Bool.{cases_Bool, false≢true, or_left, or_right}
use Rattle.std.proofs.lemmas.List.{get_or-set_same, get_or-set_other}
use Rattle.hsr_run_laws.proofs.Lists.{all_implied}
use Rattle.hsr_finished_run.proofs.Plan.{all_append}
use Rattle.hsr_topology.specs.Links.{is_same_end}
use Rattle.hsr_run_laws.specs.Run.{owner_in, record_in}
use Rattle.hsr_topology.specs.declared.end.End.{End}
use Rattle.hsr_frame.specs.Grammar.{Fields}
use Rattle.hsr_link.specs.Link.{Link, cut_step, inject_step, mended, put_step, take_step}
use Rattle.hsr_link.specs.Rows.{first_copy, is_queued, lost, queued, turned, waits, with_fate}
use Rattle.hsr_link.specs.declared.row.Dir.{Dir}
use Rattle.hsr_link.specs.declared.row.Dir.TheVariants.{Forth, Back}
use Rattle.hsr_link.specs.declared.row.Fate.{Fate}
use Rattle.hsr_link.specs.declared.row.Fate.TheVariants.{Taken, LostCut}
use Rattle.hsr_link.specs.declared.row.Row.{Row}
use Rattle.hsr_node.specs.Copies.{address_at, asked_frame, copy_octets, life_frame, passed_octets, ports_of, ring_address, side_of, written}
use Rattle.hsr_node.specs.Flow.{arrivals, copy_at, pass_of, send_at, sending_of, sent_by}
use Rattle.hsr_node.specs.declared.sending.Sending.{Sending}
use Rattle.hsr_node.specs.Record.{Owner, answer, now, probe_handled}
use Rattle.hsr_node.specs.declared.entry.Entry.{Entry}
use Rattle.hsr_node.specs.declared.event.Carried.{Carried}
use Rattle.hsr_node.specs.declared.event.Event.{Event}
use Rattle.hsr_node.specs.declared.event.Event.TheVariants as event
use Rattle.hsr_node.specs.declared.event.Outcome.{Outcome}
use Rattle.hsr_node.specs.declared.event.Outcome.TheVariants as outcome
use Rattle.hsr_node.specs.declared.event.Probe.{Probe}
use Rattle.hsr_node.specs.declared.event.StepFault.{StepFault}
use Rattle.hsr_node.specs.declared.place.Place.{Place}
use Rattle.hsr_world_laws.specs.Law.{IsSound}
use Rattle.hsr_world_laws.specs.Spans.{Lane, Span, emptied, gift, lane_of, on_lanes, spread, with_lane, with_link, Spot, held_in, lanes_of, spot_from}
use Rattle.hsr_world_laws.specs.Origin.{AlwaysOrigins, AlwaysSent, EachCopy, HasOrigin, HaveOrigins, InLane, InSpan, NamesSend, has_injected, is_injected}
use Rattle.hsr_world_laws.specs.World.{World, and_added, cleared, entered, has_link, has_node, has_port, injected_at, judged_at, span_at, new_span, new_world, or_same, owner_at, planned, put_at, put_from, record_at, take_to, taken_by, tried, with_span}
use Rattle.hsr_topology.specs.Workers.{port_worker}
use Rattle.hsr_world_steps.specs.declared.step.Step.TheVariants.{Clock, Send, Supervise, Age, Put, Take, Judge, Cut, Mend, Inject}
use Rattle.hsr_world_steps.specs.declared.step.Step.{Step}
use Rattle.hsr_world_steps.specs.declared.step.WorldFault.TheVariants.{TooLong}
use Rattle.hsr_world_steps.specs.declared.step.WorldFault.{WorldFault}
use Rattle.hsr_world_laws.proofs.First.{first_sound, no_entries}
use Rattle.hsr_world_laws.proofs.Keeps.{all_mapped, all_replaced, below_by, entry_of, keeps, node_below}

-- ---- lists

pub all_cons_option : {X : Type 0} (P : X → Type 0) (o : Option X) (xs : List X) → AllByRecursion P (option_to_list o) → AllByRecursion P xs → AllByRecursion P (cons_option o xs)
all_cons_option P None xs a b = b
all_cons_option P (Some x) xs a b = (a.0, b)

-- ---- one span, any P

lane_implied : (P Q : Carried → Type 0) → ((c : Carried) → P c → Q c) → (lane : Lane) → InLane P lane → InLane Q lane
lane_implied P Q f lane h = record { outbox = all_implied P Q f lane.outbox h.outbox; hand = all_implied P Q f (option_to_list lane.hand) h.hand }

pub span_implied : (P Q : Carried → Type 0) → ((c : Carried) → P c → Q c) → (span : Span) → InSpan P span → InSpan Q span
span_implied P Q f span h = record {
  rows = all_implied (λ (row : Row). P row.carried) (λ (row : Row). Q row.carried) (λ row p. f row.carried p) span.link.rows h.rows;
  forth = lane_implied P Q f span.forth h.forth;
  back = lane_implied P Q f span.back h.back;
}

-- a row more
rows_more : (P : Carried → Type 0) (rows : List Row) (r : Row) → AllByRecursion (λ (row : Row). P row.carried) rows → P r.carried → AllByRecursion (λ (row : Row). P row.carried) (rows ++ r ∷ [])
rows_more P rows r all p = all_append (λ (row : Row). P row.carried) rows (r ∷ []) all (p, tt)

rows_turned : (P : Carried → Type 0) (fate : Fate) (dir : Dir) (rows : List Row) → AllByRecursion (λ (row : Row). P row.carried) rows → AllByRecursion (λ (row : Row). P row.carried) (turned fate dir rows)
rows_turned P fate dir [] all = tt
rows_turned P fate dir (r ∷ rows) all = by_case (waits dir r) (rows_turned P fate dir rows all.1)
  where
    by_case : (b : Bool) → AllByRecursion (λ (row : Row). P row.carried) (turned fate dir rows) → AllByRecursion (λ (row : Row). P row.carried) (if b then with_fate fate r ∷ rows else r ∷ turned fate dir rows)
    by_case true rest = (all.0, all.1)
    by_case false rest = (all.0, rest)

rows_lost : (P : Carried → Type 0) (rows : List Row) → AllByRecursion (λ (row : Row). P row.carried) rows → AllByRecursion (λ (row : Row). P row.carried) (map lost rows)
rows_lost P [] all = tt
rows_lost P (r ∷ rows) all = (by_case (is_queued r.fate), rows_lost P rows all.1)
  where
    by_case : (b : Bool) → P (if b then with_fate LostCut r else r).carried
    by_case true = all.0
    by_case false = all.0

first_is : (P : Carried → Type 0) (dir : Dir) (rows : List Row) (c : Carried) → first_copy dir rows ≡ Some c → AllByRecursion (λ (row : Row). P row.carried) rows → P c
first_is P dir [] c h all = absurd (none_some h)
  where
    none_some : None ≡ Some c → ⊥
    none_some e = cc
first_is P dir (r ∷ rows) c h all = by_case (λ e. first_is P dir rows c e all.1) (waits dir r) h
  where
    same : (x y : Carried) → Some x ≡ Some y → x ≡ y
    same x y e = cc

    by_case : (first_copy dir rows ≡ Some c → P c) → (b : Bool) → option_map (λ (row : Row). row.carried) (slice_get (cond b (r ∷ queued dir rows) (queued dir rows)) 0) ≡ Some c → P c
    by_case below true h = subst P (same r.carried c h) all.0
    by_case below false h = below h

pub in_put : (P : Carried → Type 0) (span : Span) (dir : Dir) (c : Carried) (cs : List Carried) → (lane_of dir span).outbox ≡ c ∷ cs → InSpan P span →
    InSpan P (with_link (put_step span.link dir c).1 (with_lane dir (record (lane_of dir span) { outbox = cs }) span))
in_put P span Forth c cs box h =
    let all : AllByRecursion P (c ∷ cs) = subst (AllByRecursion P) box h.forth.outbox in
    record { rows = rows_more P span.link.rows _ h.rows all.0; forth = record { outbox = all.1; hand = h.forth.hand }; back = h.back }
in_put P span Back c cs box h =
    let all : AllByRecursion P (c ∷ cs) = subst (AllByRecursion P) box h.back.outbox in
    record { rows = rows_more P span.link.rows _ h.rows all.0; forth = h.forth; back = record { outbox = all.1; hand = h.back.hand } }

pub in_taken : (P : Carried → Type 0) (span : Span) (dir : Dir) (c : Carried) → first_copy dir span.link.rows ≡ Some c → InSpan P span →
    InSpan P (with_link (take_step span.link dir).1 (with_lane dir (record (lane_of dir span) { hand = Some c }) span))
in_taken P span Forth c first h =
    record { rows = rows_turned P Taken Forth span.link.rows h.rows; forth = record { outbox = h.forth.outbox; hand = (first_is P Forth span.link.rows c first h.rows, tt) }; back = h.back }
in_taken P span Back c first h =
    record { rows = rows_turned P Taken Back span.link.rows h.rows; forth = h.forth; back = record { outbox = h.back.outbox; hand = (first_is P Back span.link.rows c first h.rows, tt) } }

pub in_cut : (P : Carried → Type 0) (span : Span) → InSpan P span → InSpan P (with_link (cut_step span.link).1 span)
in_cut P span h = record { rows = rows_lost P span.link.rows h.rows; forth = h.forth; back = h.back }

pub in_mended : (P : Carried → Type 0) (span : Span) → InSpan P span → InSpan P (with_link (mended span.link) span)
in_mended P span h = record { rows = h.rows; forth = h.forth; back = h.back }

pub in_injected : (P : Carried → Type 0) (span : Span) (dir : Dir) (c : Carried) → P c → InSpan P span → InSpan P (with_link (inject_step span.link dir c).1 span)
in_injected P span dir c p h = record { rows = rows_more P span.link.rows _ h.rows p; forth = h.forth; back = h.back }

-- ---- what was injected stays so

pub injected_more : (rows : List Row) (r : Row) → list_any (λ (row : Row). row.injected) rows ≡ true → list_any (λ (row : Row). row.injected) (rows ++ r ∷ []) ≡ true
injected_more [] r h = absurd (false≢true h)
injected_more (x ∷ rows) r h = by_case x.injected h (λ e. injected_more rows r e)
  where
    by_case : (b : Bool) → (b || list_any (λ (row : Row). row.injected) rows) ≡ true → (list_any (λ (row : Row). row.injected) rows ≡ true → list_any (λ (row : Row). row.injected) (rows ++ r ∷ []) ≡ true) →
        (b || list_any (λ (row : Row). row.injected) (rows ++ r ∷ [])) ≡ true
    by_case true h below = refl
    by_case false h below = below h

pub injected_last : (rows : List Row) (r : Row) → r.injected ≡ true → list_any (λ (row : Row). row.injected) (rows ++ r ∷ []) ≡ true
injected_last [] r h = or_left r.injected false h
injected_last (x ∷ rows) r h = or_right x.injected _ (injected_last rows r h)

pub injected_turned : (fate : Fate) (dir : Dir) (rows : List Row) → list_any (λ (row : Row). row.injected) (turned fate dir rows) ≡ list_any (λ (row : Row). row.injected) rows
injected_turned fate dir [] = refl
injected_turned fate dir (r ∷ rows) = by_case (waits dir r) (injected_turned fate dir rows)
  where
    by_case : (b : Bool) → list_any (λ (row : Row). row.injected) (turned fate dir rows) ≡ list_any (λ (row : Row). row.injected) rows →
        list_any (λ (row : Row). row.injected) (if b then with_fate fate r ∷ rows else r ∷ turned fate dir rows) ≡ list_any (λ (row : Row). row.injected) (r ∷ rows)
    by_case true rest = refl
    by_case false rest = ap (λ b. r.injected || b) rest

pub injected_lost : (rows : List Row) → list_any (λ (row : Row). row.injected) (map lost rows) ≡ list_any (λ (row : Row). row.injected) rows
injected_lost [] = refl
injected_lost (r ∷ rows) = ap (λ b. b || list_any (λ (row : Row). row.injected) (map lost rows)) (by_case (is_queued r.fate)) ∙ ap (λ b. r.injected || b) (injected_lost rows)
  where
    by_case : (b : Bool) → (if b then with_fate LostCut r else r).injected ≡ r.injected
    by_case true = refl
    by_case false = refl

pub injected_set : (spans : List Span) (l : ℕ) (d span : Span) → (has_injected (get_or spans l d) ≡ true → has_injected span ≡ true) → is_injected spans ≡ true → is_injected (set spans l span) ≡ true
injected_set [] l d span f h = h
injected_set (x ∷ spans) zero d span f h = by_case (has_injected x) (has_injected span) f h
  where
    by_case : (a b : Bool) → (a ≡ true → b ≡ true) → (a || is_injected spans) ≡ true → (b || is_injected spans) ≡ true
    by_case true b f h = or_left b _ (f refl)
    by_case false b f h = or_right b _ h
injected_set (x ∷ spans) (suc l) d span f h = by_case (has_injected x) h (λ e. injected_set spans l d span f e)
  where
    by_case : (a : Bool) → (a || is_injected spans) ≡ true → (is_injected spans ≡ true → is_injected (set spans l span) ≡ true) → (a || is_injected (set spans l span)) ≡ true
    by_case true h below = refl
    by_case false h below = below h

pub injected_here : (spans : List Span) (l : ℕ) (span : Span) → l < length spans → has_injected span ≡ true → is_injected (set spans l span) ≡ true
injected_here [] l span below h = absurd (omega (arith, below))
injected_here (x ∷ spans) zero span below h = or_left (has_injected span) _ h
injected_here (x ∷ spans) (suc l) span below h = or_right (has_injected x) _ (injected_here spans l span (omega (arith, below)) h)

pub injected_mapped : (f : Lane → Lane) (spans : List Span) → is_injected (map (on_lanes f) spans) ≡ is_injected spans
injected_mapped f [] = refl
injected_mapped f (x ∷ spans) = ap (λ b. has_injected x || b) (injected_mapped f spans)

-- ---- a record grows

pub send_below : (place : Place) (k : ℕ) (past : List Entry) (s : Sending) → send_at place k past ≡ Some s → k < length past
send_below place k [] s h = absurd (none_some h)
  where
    none_some : None ≡ Some s → ⊥
    none_some e = cc
send_below place k (x ∷ past) s h = by_case (k == length past) refl h (λ e. send_below place k past s e)
  where
    by_case : (b : Bool) → (k == length past) ≡ b → (if b then sent_by place x.event x.outcome else send_at place k past) ≡ Some s → (send_at place k past ≡ Some s → k < length past) → k < length (x ∷ past)
    by_case true e h below = let same = eqb-true k (length past) e in omega (arith, same)
    by_case false e h below = let rest = below h in omega (arith, rest)

pub send_kept : (place : Place) (k : ℕ) (x : Entry) (past : List Entry) (s : Sending) → send_at place k past ≡ Some s → send_at place k (x ∷ past) ≡ Some s
send_kept place k x past s h =
    let below = send_below place k past s h in
    by_case (k == length past) refl (λ e. let same = eqb-true k (length past) e in omega (arith, same, below))
  where
    by_case : (b : Bool) → (k == length past) ≡ b → ((k == length past) ≡ true → ⊥) → (if b then sent_by place x.event x.outcome else send_at place k past) ≡ Some s
    by_case true e away = absurd (away e)
    by_case false e away = h

pub names_kept : (places : List Place) (records : List (List Entry)) (n : ℕ) (x : Entry) (c : Carried) → n < length records → NamesSend places records c → NamesSend places (set records n (x ∷ record_in records n)) c
names_kept places records n x c below h = record {
  probe = h.probe;
  sending = h.sending;
  named = h.named;
  sent = ⊎_elim
      (λ here. let same = eqb-true h.probe.node n here in
      subst (λ m. send_at (owner_in places m).place h.probe.place (record_in (set records n (x ∷ record_in records n)) m) ≡ Some h.sending) (sym same)
      (ap (send_at (owner_in places n).place h.probe.place) (get_or-set_same records n (x ∷ record_in records n) [] below)
      ∙ send_kept (owner_in places n).place h.probe.place x (record_in records n) h.sending (subst (λ m. send_at (owner_in places m).place h.probe.place (record_in records m) ≡ Some h.sending) same h.sent)))
      (λ other. ap (send_at (owner_in places h.probe.node).place h.probe.place) (get_or-set_other records n h.probe.node (x ∷ record_in records n) [] (λ s. false≢true (sym other ∙ eq-eqb h.probe.node n s))) ∙ h.sent)
      (cases_Bool (h.probe.node == n));
}

-- ---- what leaves a node

no_octets : {octets : List ℕ} → None ≡ Some octets → ⊥
no_octets e = cc

pub written_none : (place : Place) (port : ℕ) (seq : Option ℕ) → written (side_of place port) seq None ≡ None
written_none place port seq = elim (side_of place port) as (λ side. written side seq None ≡ None) [ None ↦ refl | Some side ↦ refl ]

-- what is written is a send's frame
frame_sent : (place : Place) (port : ℕ) (seq : Option ℕ) (frame : Option Fields) (octets : List ℕ) → written (side_of place port) seq frame ≡ Some octets → (s : Sending) × (sending_of seq frame ≡ Some s)
frame_sent place port seq None octets h = absurd (no_octets (sym (written_none place port seq) ∙ h))
frame_sent place port seq (Some f) octets h = (record { frame = f; seq = seq }, refl)

-- an event of the node's own by which something leaves is a send
own_sent : (place : Place) (e : Event) (o : Outcome) (port : ℕ) (octets : List ℕ) → ((x : ℕ) (copy : Carried) → e ≡ event.Arrive x copy → ⊥) →
    passed_octets place e o port ≡ Some octets → (s : Sending) × (sent_by place e o ≡ Some s)
unfolding passed_octets
own_sent place (event.Send from dst vlan ethertype payload) (outcome.Sent seq ports) port octets away h = frame_sent place port seq (asked_frame (address_at place from) dst vlan ethertype payload) octets h
own_sent place (event.Send from dst vlan ethertype payload) (outcome.Life seq life ports) port octets away h = absurd (no_octets h)
own_sent place (event.Send from dst vlan ethertype payload) (outcome.Judged up ports seq cause) port octets away h = absurd (no_octets h)
own_sent place (event.Send from dst vlan ethertype payload) outcome.Aged port octets away h = absurd (no_octets h)
own_sent place (event.Supervise about) (outcome.Sent seq ports) port octets away h = absurd (no_octets h)
own_sent place (event.Supervise about) (outcome.Life seq life ports) port octets away h = frame_sent place port (Some seq) (life_frame (ring_address place) about life) octets h
own_sent place (event.Supervise about) (outcome.Judged up ports seq cause) port octets away h = absurd (no_octets h)
own_sent place (event.Supervise about) outcome.Aged port octets away h = absurd (no_octets h)
own_sent place (event.Arrive x copy) o port octets away h = absurd (away x copy refl)
own_sent place event.Age o port octets away h = absurd (no_octets h)

-- the octets of a copy that leaves
pub copy_passed : (place : Place) (e : Event) (o : Outcome) (port : ℕ) (octets : List ℕ) → copy_octets place e o port ≡ Some octets → passed_octets place e o port ≡ Some octets
unfolding copy_octets
copy_passed place e o port octets h = by_case (unwrap_or (slice_get (ports_of o) port) false) h
  where
    by_case : (b : Bool) → (if b then passed_octets place e o port else None) ≡ Some octets → passed_octets place e o port ≡ Some octets
    by_case true h = h
    by_case false h = absurd (no_octets h)

-- A copy that leaves with an entry has the probe of what came, or names the entry, which is a send.
abbrev pub Named : Owner → Entry → List Entry → Option Probe → Type 0
Named owner x past probe =
    ((port : ℕ) × (copy : Carried) × (x.event ≡ event.Arrive port copy) × (probe ≡ copy.probe))
    ⊎ ((s : Sending) × (probe ≡ Some (record { node = owner.number; place = length past })) × (sent_by owner.place x.event x.outcome ≡ Some s))

pub pass_named : (owner : Owner) (port : ℕ) (x : Entry) (past : List Entry) (c : Carried) → pass_of owner port x past ≡ Some c → Named owner x past c.probe
pass_named owner port x past c h = by_octets (copy_octets owner.place x.event x.outcome port) refl h
  where
    here : Probe
    here = record { node = owner.number; place = length past }

    probe_same : (a b : Carried) → Some a ≡ Some b → b.probe ≡ a.probe
    probe_same a b e = let same : a ≡ b = cc in ap (λ (z : Carried). z.probe) (sym same)

    by_event : (e : Event) (o : Outcome) (octets : List ℕ) → x.event ≡ e → x.outcome ≡ o → passed_octets owner.place e o port ≡ Some octets → c.probe ≡ probe_handled here e → Named owner x past c.probe
    by_event (event.Arrive n copy) o octets same told h named = inl (n, copy, same, named)
    by_event (event.Send from dst vlan ethertype payload) o octets same told h named =
        let s = own_sent owner.place (event.Send from dst vlan ethertype payload) o port octets (λ n copy e. absurd (cc)) h in
        inr (s.0, named, ap (λ e. sent_by owner.place e x.outcome) same ∙ (ap (sent_by owner.place (event.Send from dst vlan ethertype payload)) told ∙ s.1))
    by_event (event.Supervise about) o octets same told h named =
        let s = own_sent owner.place (event.Supervise about) o port octets (λ n copy e. absurd (cc)) h in
        inr (s.0, named, ap (λ e. sent_by owner.place e x.outcome) same ∙ (ap (sent_by owner.place (event.Supervise about)) told ∙ s.1))
    by_event event.Age o octets same told h named =
        let s = own_sent owner.place event.Age o port octets (λ n copy e. absurd (cc)) h in
        inr (s.0, named, ap (λ e. sent_by owner.place e x.outcome) same ∙ (ap (sent_by owner.place event.Age) told ∙ s.1))

    by_octets : (r : Option (List ℕ)) → copy_octets owner.place x.event x.outcome port ≡ r →
        option_map (λ octets. record { probe = probe_handled here x.event; octets = octets }) r ≡ Some c → Named owner x past c.probe
    by_octets None e h = absurd (none_some h)
      where
        none_some : None ≡ Some c → ⊥
        none_some e = cc
    by_octets (Some octets) e h =
        by_event x.event x.outcome octets refl refl (copy_passed owner.place x.event x.outcome port octets e) (probe_same (record { probe = probe_handled here x.event; octets = octets }) c h)

-- ---- origins stay

origin_implied : (places : List Place) (records more : List (List Entry)) (spans others : List Span) → ((c : Carried) → NamesSend places records c → NamesSend places more c) →
    (is_injected spans ≡ true → is_injected others ≡ true) → (c : Carried) → HasOrigin places records spans c → HasOrigin places more others c
origin_implied places records more spans others f g c (inl named) = inl (f c named)
origin_implied places records more spans others f g c (inr none) = inr (none.0, g none.1)

-- only the probe tells
origin_by_probe : (places : List Place) (records : List (List Entry)) (spans : List Span) (copy c : Carried) → c.probe ≡ copy.probe → HasOrigin places records spans copy → HasOrigin places records spans c
origin_by_probe places records spans copy c e (inl named) = inl (record { probe = named.probe; sending = named.sending; named = e ∙ named.named; sent = named.sent })
origin_by_probe places records spans copy c e (inr none) = inr (e ∙ none.0, none.1)

-- one span of a world is changed
origins_span : (w : World) (l : ℕ) (span : Span) → (has_injected (span_at w l) ≡ true → has_injected span ≡ true) →
    (InSpan (HasOrigin w.places w.records (set w.spans l span)) (span_at w l) → InSpan (HasOrigin w.places w.records (set w.spans l span)) span) → HaveOrigins w → HaveOrigins (with_span w l span)
origins_span w l span more within h =
    let P : Carried → Type 0 = HasOrigin w.places w.records w.spans in
    let Q : Carried → Type 0 = HasOrigin w.places w.records (set w.spans l span) in
    let kept : (c : Carried) → P c → Q c = origin_implied w.places w.records w.records w.spans (set w.spans l span) (λ c named. named) (injected_set w.spans l _ span more) in
    record {
      spans = all_replaced (InSpan Q) w.spans l _ span within (all_implied (InSpan P) (InSpan Q) (span_implied P Q kept) w.spans h.spans);
      came = λ n port. all_implied P Q kept (arrivals port (record_in w.records n)) (h.came n port);
    }

-- ---- an entry is added

pub all_came : (P : Carried → Type 0) (e : Event) → ((x : ℕ) (copy : Carried) → e ≡ event.Arrive x copy → P copy) → (port : ℕ) → AllByRecursion P (option_to_list (copy_at port e))
all_came P (event.Send from dst vlan ethertype payload) f port = tt
all_came P (event.Supervise about) f port = tt
all_came P event.Age f port = tt
all_came P (event.Arrive x copy) f port = by_case (x == port)
  where
    by_case : (b : Bool) → AllByRecursion P (option_to_list (if b then Some copy else None))
    by_case true = (f x copy refl, tt)
    by_case false = tt

named_origin : (w : World) (n : ℕ) (x : Entry) (spans : List Span) (c : Carried) → n < length w.records →
    ((port : ℕ) (copy : Carried) → x.event ≡ event.Arrive port copy → HasOrigin w.places (set w.records n (x ∷ record_at w n)) spans copy) →
    Named (owner_at w n) x (record_at w n) c.probe → HasOrigin w.places (set w.records n (x ∷ record_at w n)) spans c
named_origin w n x spans c below arrived (inl came) =
    origin_by_probe w.places (set w.records n (x ∷ record_at w n)) spans came.1 c came.3 (arrived came.0 came.1 came.2)
named_origin w n x spans c below arrived (inr own) = inl (record {
  probe = record { node = n; place = length (record_at w n) };
  sending = own.0;
  named = own.1;
  sent = ap (send_at (owner_at w n).place (length (record_at w n))) (get_or-set_same w.records n (x ∷ record_at w n) [] below)
      ∙ (ap (λ b. if b then sent_by (owner_at w n).place x.event x.outcome else send_at (owner_at w n).place (length (record_at w n)) (record_at w n)) (eq-eqb (length (record_at w n)) (length (record_at w n)) refl)
      ∙ own.2);
})

-- what joins an outbox
all_gift : (P : Carried → Type 0) (owner : Owner) (x : Entry) (past : List Entry) → ((c : Carried) → Named owner x past c.probe → P c) → (lane : Lane) → AllByRecursion P (gift owner x past lane)
all_gift P owner x past f lane = by_case (lane.from.node == owner.number) (pass_of owner lane.from.port x past) refl
  where
    by_case : (b : Bool) (o : Option Carried) → pass_of owner lane.from.port x past ≡ o → AllByRecursion P (if b then option_to_list o else [])
    by_case true None e = tt
    by_case true (Some c) e = (f c (pass_named owner lane.from.port x past c e), tt)
    by_case false o e = tt

in_spread : (P : Carried → Type 0) (owner : Owner) (x : Entry) (past : List Entry) → ((c : Carried) → Named owner x past c.probe → P c) → (span : Span) → InSpan P span → InSpan P (on_lanes (spread owner x past) span)
in_spread P owner x past f span h = record {
  rows = h.rows;
  forth = record { outbox = all_append P span.forth.outbox _ h.forth.outbox (all_gift P owner x past f span.forth); hand = h.forth.hand };
  back = record { outbox = all_append P span.back.outbox _ h.back.outbox (all_gift P owner x past f span.back); hand = h.back.hand };
}

origins_entered : (capacity : ℕ) (v w : World) (worker n : ℕ) (e : Event) → n < length w.records →
    ((port : ℕ) (copy : Carried) → e ≡ event.Arrive port copy → HasOrigin w.places w.records w.spans copy) → HaveOrigins w → HaveOrigins v → HaveOrigins (or_same v (entered capacity w worker n e))
origins_entered capacity v w worker n event below arrived h before = by_case (answer capacity (owner_at w n) (record_at w n) (max (now (record_at w n)) w.moment) event)
  where
    by_case : (r : Result Outcome StepFault) → HaveOrigins (or_same v (and_added w worker n event r))
    by_case (Err fault) = before
    by_case (Ok outcome) =
        let x : Entry = entry_of w worker event outcome in
        let past = record_at w n in
        let f : Lane → Lane = spread (owner_at w n) x past in
        let P : Carried → Type 0 = HasOrigin w.places w.records w.spans in
        let Q : Carried → Type 0 = HasOrigin w.places (set w.records n (x ∷ past)) (map (on_lanes f) w.spans) in
        let kept : (c : Carried) → P c → Q c =
        origin_implied w.places w.records (set w.records n (x ∷ past)) w.spans (map (on_lanes f) w.spans) (λ c named. names_kept w.places w.records n x c below named) (λ i. injected_mapped f w.spans ∙ i) in
        let named : (c : Carried) → Named (owner_at w n) x past c.probe → Q c = λ c k. named_origin w n x (map (on_lanes f) w.spans) c below (λ port copy e. kept copy (arrived port copy e)) k in
        record {
          spans = all_mapped (InSpan Q) (InSpan Q) (on_lanes f) (in_spread Q (owner_at w n) x past named) w.spans (all_implied (InSpan P) (InSpan Q) (span_implied P Q kept) w.spans h.spans);
          came = λ m port. ⊎_elim
              (λ same. subst (λ k. AllByRecursion Q (arrivals port (record_in (set w.records n (x ∷ past)) k))) (sym (eqb-true m n same))
              (subst (λ (all : List Entry). AllByRecursion Q (arrivals port all)) (sym (get_or-set_same w.records n (x ∷ past) [] below))
              (all_cons_option Q (copy_at port event) (arrivals port past) (all_came Q event (λ y copy e. kept copy (arrived y copy e)) port) (all_implied P Q kept (arrivals port past) (h.came n port)))))
              (λ other. subst (λ (all : List Entry). AllByRecursion Q (arrivals port all)) (sym (get_or-set_other w.records n m (x ∷ past) [] (λ s. false≢true (sym other ∙ eq-eqb m n s))))
              (all_implied P Q kept (arrivals port (record_in w.records m)) (h.came m port)))
              (cases_Bool (m == n));
        }

origins_own : (capacity : ℕ) (w : World) (n : ℕ) (e : Event) → n < length w.records → ((x : ℕ) (copy : Carried) → e ≡ event.Arrive x copy → ⊥) → HaveOrigins w → HaveOrigins (or_same w (entered capacity (planned w n e) 0 n e))
origins_own capacity w n e below away h = origins_entered capacity w (planned w n e) 0 n e below (λ x copy same. absurd (away x copy same)) (record { spans = h.spans; came = h.came }) h

-- ---- a hand is judged

pub in_lanes : (P : Carried → Type 0) (spans : List Span) → AllByRecursion (InSpan P) spans → AllByRecursion (InLane P) (lanes_of spans)
in_lanes P [] all = tt
in_lanes P (span ∷ spans) all = (all.0.forth, (all.0.back, in_lanes P spans all.1))

pub held_is : (P : Carried → Type 0) (end : End) (lanes : List Lane) (c : Carried) → held_in end lanes ≡ Some c → AllByRecursion (InLane P) lanes → P c
held_is P end [] c h all = absurd (none_some h)
  where
    none_some : None ≡ Some c → ⊥
    none_some e = cc
held_is P end (lane ∷ lanes) c h all = by_case (is_same_end lane.to end) h (λ e. held_is P end lanes c e all.1)
  where
    by_case : (b : Bool) → (if b then lane.hand else held_in end lanes) ≡ Some c → (held_in end lanes ≡ Some c → P c) → P c
    by_case true h below = (subst (λ (o : Option Carried). AllByRecursion P (option_to_list o)) h all.0.hand).0
    by_case false h below = below h

pub in_emptied : (P : Carried → Type 0) (end : End) (span : Span) → InSpan P span → InSpan P (on_lanes (emptied end) span)
in_emptied P end span h = record {
  rows = h.rows;
  forth = record { outbox = h.forth.outbox; hand = by_case (is_same_end span.forth.to end) span.forth.hand h.forth.hand };
  back = record { outbox = h.back.outbox; hand = by_case (is_same_end span.back.to end) span.back.hand h.back.hand };
}
  where
    by_case : (b : Bool) (o : Option Carried) → AllByRecursion P (option_to_list o) → AllByRecursion P (option_to_list (if b then None else o))
    by_case true o all = tt
    by_case false o all = all

origins_cleared : (w : World) (end : End) → HaveOrigins w → HaveOrigins (cleared w end)
origins_cleared w end h =
    let spans = map (on_lanes (emptied end)) w.spans in
    let P : Carried → Type 0 = HasOrigin w.places w.records w.spans in
    let Q : Carried → Type 0 = HasOrigin w.places w.records spans in
    let kept : (c : Carried) → P c → Q c = origin_implied w.places w.records w.records w.spans spans (λ c named. named) (λ i. injected_mapped (emptied end) w.spans ∙ i) in
    record {
      spans = all_mapped (InSpan Q) (InSpan Q) (on_lanes (emptied end)) (in_emptied Q end) w.spans (all_implied (InSpan P) (InSpan Q) (span_implied P Q kept) w.spans h.spans);
      came = λ n port. all_implied P Q kept (arrivals port (record_in w.records n)) (h.came n port);
    }

origins_judged : (capacity : ℕ) (w : World) (end : End) → end.node < length w.records → HaveOrigins w → HaveOrigins (or_same w (judged_at capacity w end (held_in end (lanes_of w.spans))))
origins_judged capacity w end below h = by_case (held_in end (lanes_of w.spans)) refl
  where
    same : (m k : ℕ) (a b : Carried) → event.Arrive m a ≡ event.Arrive k b → a ≡ b
    same m k a b e = cc

    by_case : (held : Option Carried) → held_in end (lanes_of w.spans) ≡ held → HaveOrigins (or_same w (judged_at capacity w end held))
    by_case None e = h
    by_case (Some c) e =
        let P : Carried → Type 0 = HasOrigin w.places w.records w.spans in
        let Q : Carried → Type 0 = HasOrigin w.places w.records (map (on_lanes (emptied end)) w.spans) in
        let here : P c = held_is P end (lanes_of w.spans) c e (in_lanes P w.spans h.spans) in
        let there : Q c = origin_implied w.places w.records w.records w.spans (map (on_lanes (emptied end)) w.spans) (λ c named. named) (λ i. injected_mapped (emptied end) w.spans ∙ i) c here in
        origins_entered capacity w (cleared w end) (port_worker end) end.node (event.Arrive end.port c) below
        (λ port copy s. subst Q (same end.port port c copy s) there) (origins_cleared w end h) h

-- ---- the steps on links

origins_put : (w : World) (spot : Option Spot) → HaveOrigins w → HaveOrigins (or_same w (put_at w spot))
origins_put w None h = h
origins_put w (Some s) h = by_case (lane_of s.dir (span_at w s.link)).outbox refl
  where
    rows_of : (dir : Dir) (lane : Lane) (span : Span) (link : Link) → (with_link link (with_lane dir lane span)).link.rows ≡ link.rows
    rows_of Forth lane span link = refl
    rows_of Back lane span link = refl

    by_case : (box : List Carried) → (lane_of s.dir (span_at w s.link)).outbox ≡ box → HaveOrigins (or_same w (put_from w s box))
    by_case [] e = h
    by_case (c ∷ cs) e =
        let span = span_at w s.link in
        let lane : Lane = record (lane_of s.dir span) { outbox = cs } in
        let link = (put_step span.link s.dir c).1 in
        let after : Span = with_link link (with_lane s.dir lane span) in
        origins_span w s.link after
        (λ i. ap (λ (rows : List Row). list_any (λ (row : Row). row.injected) rows) (rows_of s.dir lane span link) ∙ injected_more span.link.rows _ i)
        (in_put (HasOrigin w.places w.records (set w.spans s.link after)) span s.dir c cs e) h

origins_take : (w : World) (l : ℕ) (dir : Dir) → HaveOrigins w → HaveOrigins (or_same w (take_to w l dir (lane_of dir (span_at w l)).hand))
origins_take w l dir h = by_case (lane_of dir (span_at w l)).hand
  where
    rows_of : (dir : Dir) (lane : Lane) (span : Span) (link : Link) → (with_link link (with_lane dir lane span)).link.rows ≡ link.rows
    rows_of Forth lane span link = refl
    rows_of Back lane span link = refl

    of_queue : (first : Option Carried) → first_copy dir (span_at w l).link.rows ≡ first → HaveOrigins (or_same w (taken_by w l dir (first, (take_step (span_at w l).link dir).1)))
    of_queue None e = h
    of_queue (Some c) e =
        let span = span_at w l in
        let lane : Lane = record (lane_of dir span) { hand = Some c } in
        let link = (take_step span.link dir).1 in
        let after : Span = with_link link (with_lane dir lane span) in
        origins_span w l after
        (λ i. ap (λ (rows : List Row). list_any (λ (row : Row). row.injected) rows) (rows_of dir lane span link) ∙ (injected_turned Taken dir span.link.rows ∙ i))
        (in_taken (HasOrigin w.places w.records (set w.spans l after)) span dir c e) h

    by_case : (hand : Option Carried) → HaveOrigins (or_same w (take_to w l dir hand))
    by_case (Some held) = h
    by_case None = of_queue (first_copy dir (span_at w l).link.rows) refl

origins_injected : (w : World) (l : ℕ) (dir : Dir) (octets : List ℕ) → l < length w.spans → HaveOrigins w → HaveOrigins (or_same w (injected_at w l dir octets))
origins_injected w l dir octets below h = by_case (nat_lt 2048 (length octets))
  where
    by_case : (b : Bool) → HaveOrigins (or_same w (if b then Err TooLong else Ok (with_span w l (with_link (inject_step (span_at w l).link dir (record { probe = None; octets = octets })).1 (span_at w l)))))
    by_case true = h
    by_case false =
        let c : Carried = record { probe = None; octets = octets } in
        let span = span_at w l in
        let after : Span = with_link (inject_step span.link dir c).1 span in
        let there : has_injected after ≡ true = injected_last span.link.rows _ refl in
        origins_span w l after (λ i. there) (in_injected (HasOrigin w.places w.records (set w.spans l after)) span dir c (inr (refl, injected_here w.spans l after below there))) h

-- ---- any step

met_or : (w : World) (b : Bool) (r : Result World WorldFault) (f : WorldFault) → HaveOrigins w → (b ≡ true → HaveOrigins (or_same w r)) → HaveOrigins (or_same w (if b then r else Err f))
met_or w true r f h met = met refl
met_or w false r f h met = h

origins_keep : (capacity : ℕ) (w : World) (step : Step) → IsSound capacity w → HaveOrigins w → HaveOrigins (or_same w (tried capacity w step))
unfolding tried
origins_keep capacity w (Clock at) s h = record { spans = h.spans; came = h.came }
origins_keep capacity w (Send n from dst vlan ethertype payload) s h =
    met_or w (has_node w n) _ _ h (λ e. origins_own capacity w n (event.Send from dst vlan ethertype payload) (node_below capacity w n s e) (λ x copy e. absurd (cc)) h)
origins_keep capacity w (Supervise n about) s h = met_or w (has_node w n) _ _ h (λ e. origins_own capacity w n (event.Supervise about) (node_below capacity w n s e) (λ x copy e. absurd (cc)) h)
origins_keep capacity w (Age n) s h = met_or w (has_node w n) _ _ h (λ e. origins_own capacity w n event.Age (node_below capacity w n s e) (λ x copy e. absurd (cc)) h)
origins_keep capacity w (Put n port) s h =
    met_or w (has_node w n) _ _ h (λ e. met_or w (has_port w n port) _ _ h (λ f. origins_put w (spot_from (record { node = n; port = port }) 0 w.spans) h))
origins_keep capacity w (Take l dir) s h = met_or w (has_link w l) _ _ h (λ e. origins_take w l dir h)
origins_keep capacity w (Judge n port) s h =
    met_or w (has_node w n) _ _ h (λ e. met_or w (has_port w n port) _ _ h (λ f. origins_judged capacity w (record { node = n; port = port }) (node_below capacity w n s e) h))
origins_keep capacity w (Cut l) s h =
    met_or w (has_link w l) _ _ h (λ e. origins_span w l _ (λ i. injected_lost (span_at w l).link.rows ∙ i) (in_cut _ (span_at w l)) h)
origins_keep capacity w (Mend l) s h = met_or w (has_link w l) _ _ h (λ e. origins_span w l _ (λ i. i) (in_mended _ (span_at w l)) h)
origins_keep capacity w (Inject l dir octets) s h = met_or w (has_link w l) _ _ h (λ e. origins_injected w l dir octets (below_by l (length w.spans) e) h)

pub always_origins : AlwaysOrigins
always_origins capacity [] w s h = h
always_origins capacity (step ∷ steps) w s h = always_origins capacity steps (or_same w (tried capacity w step)) (keeps capacity w step s) (origins_keep capacity w step s h)

-- ---- from the first world on

pub no_copies : (P : Carried → Type 0) (room : ℕ) (links : List (List End)) → AllByRecursion (InSpan P) (map (new_span room) links)
no_copies P room [] = tt
no_copies P room (link ∷ links) = (on_link link, no_copies P room links)
  where
    on_link : (x : List End) → InSpan P (new_span room x)
    on_link [] = record { rows = tt; forth = record { outbox = tt; hand = tt }; back = record { outbox = tt; hand = tt } }
    on_link (a ∷ []) = record { rows = tt; forth = record { outbox = tt; hand = tt }; back = record { outbox = tt; hand = tt } }
    on_link (a ∷ b ∷ ends) = record { rows = tt; forth = record { outbox = tt; hand = tt }; back = record { outbox = tt; hand = tt } }

first_origins : (room : ℕ) (places : List Place) (links : List (List End)) → HaveOrigins (new_world room places links)
first_origins room places links = record {
  spans = no_copies _ room links;
  came = λ n port. subst (λ (past : List Entry). AllByRecursion (HasOrigin places (map (λ (place : Place). []) places) (map (new_span room) links)) (arrivals port past)) (sym (no_entries places n)) tt;
}

all_named : (w : World) → is_injected w.spans ≡ false → HaveOrigins w → EachCopy (NamesSend w.places w.records) w
all_named w none h = record {
  spans = all_implied (InSpan P) (InSpan Q) (span_implied P Q named) w.spans h.spans;
  came = λ n port. all_implied P Q named (arrivals port (record_in w.records n)) (h.came n port);
}
  where
    P : Carried → Type 0
    P = HasOrigin w.places w.records w.spans

    Q : Carried → Type 0
    Q = NamesSend w.places w.records

    named : (c : Carried) → P c → Q c
    named c (inl sent) = sent
    named c (inr other) = absurd (false≢true (sym none ∙ other.1))

pub always_sent : AlwaysSent
always_sent capacity room places links steps wired w e none =
    all_named w none (subst HaveOrigins e (always_origins capacity steps (new_world room places links) (first_sound capacity room places links wired) (first_origins room places links)))
