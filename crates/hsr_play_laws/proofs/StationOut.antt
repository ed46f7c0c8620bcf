-- What leaves a Station: each frame that it sends, plain and from one of its addresses, and nothing else.
use Rattle.std.proofs.Common.{◌≡◌, ℕ, ◌+◌, ◌<◌, ◌==◌, ◌||◌, nat_lt, Bool, true, false, if◌then◌else◌, List, [], ◌∷◌, ◌++◌, length, Option, Some, None, Result, Ok, Err, refl, sym, ap, ◌∙◌, subst, arith}
use Rattle.std.specs.Prelude.{option_map, slice_get}
use Rattle.std.specs.List.{AllByRecursion, cons_option, list_any}
use Rattle.std.proofs.lemmas.Bool.{false≢true}
use Rattle.hsr_frame.specs.Address.{is_group, is_same_address}
use Rattle.hsr_frame.specs.Cases.{first_of}
use Rattle.hsr_frame.specs.Grammar.{Fields, spelling}
use Rattle.hsr_frame.specs.Layout.{ethertype_hsr, ethertype_vlan, max_payload}
use Rattle.hsr_frame.specs.Send.{send_refusal}
use Rattle.hsr_frame.specs.declared.fault.SendFault.{SendFault}
use Rattle.hsr_frame.specs.declared.fault.SendFault.TheVariants as fault
use Rattle.hsr_frame.specs.declared.node.About.{About}
use Rattle.hsr_tag.specs.Seen.{classified}
use Rattle.hsr_tag.specs.Tag.{IsPlain}
use Rattle.hsr_tag.specs.declared.seen.Seen.TheVariants.{Plain}
use Rattle.hsr_node.specs.Copies.{address_at, asked_frame, copy_octets, frame_of, passed_octets, ports_of, side_of, written}
use Rattle.hsr_node.specs.Flow.{pass_of, passes, send_at, sending_of, sent_by}
use Rattle.hsr_node.specs.Record.{Each, Owner, answer, has_port, knows, next_number, now, probe_handled, send_answer, sent_as, sent_or_refused, steps}
use Rattle.hsr_node.specs.Record as of_record
use Rattle.hsr_node.specs.declared.entry.Entry.{Entry}
use Rattle.hsr_node.specs.declared.event.Carried.{Carried}
use Rattle.hsr_node.specs.declared.event.Event.{Event}
use Rattle.hsr_node.specs.declared.event.Event.TheVariants.{Send, Supervise, Arrive, Age}
use Rattle.hsr_node.specs.declared.event.Outcome.{Outcome}
use Rattle.hsr_node.specs.declared.event.Outcome.TheVariants.{Sent, Life, Judged, Aged}
use Rattle.hsr_node.specs.declared.event.Probe.{Probe}
use Rattle.hsr_node.specs.declared.place.Place.{Place}
use Rattle.hsr_node.specs.declared.place.Place.TheVariants.{Danh, RedBox, QuadBox, Station}
use Rattle.hsr_node.specs.declared.sending.Sending.{Sending}
use Rattle.hsr_run_laws.specs.Once.{is_copy}
use Rattle.hsr_run_laws.proofs.Records.{Answered, IsAtPlace, all_at_place, asked_source}
use Rattle.hsr_run_laws.proofs.Views.{came, knows_at, leaves_wanted}
use Rattle.hsr_network_laws.specs.Network.{HasAddress, is_station}
use Rattle.hsr_network_laws.proofs.Leaving.{came_by, leaves_port}
use Rattle.hsr_network_laws.proofs.Sending.{send_left, sent_outcome}
use Rattle.hsr_network_laws.proofs.Sides.{exit_of}
use Rattle.hsr_network_laws.proofs.Unknown.{OfSource, each_unknown_before}
use Rattle.hsr_network_laws.proofs.Unwanted.{station_lets_none}
use Rattle.hsr_world_laws.proofs.Spelled.{plain_read}
use Rattle.hsr_plays.specs.declared.span.Asked.{Asked}
use Rattle.hsr_play_laws.specs.Told.{event_asks}
use Rattle.hsr_play_laws.proofs.SentFor.{each_under}

-- ---- what a Station sends

abbrev send_reasons : Bool → Bool → Bool → Bool → Option SendFault
send_reasons own reserved spent long =
    first_of ((own, Some fault.SelfAddressed) ∷ (reserved, Some fault.ReservedType) ∷ (spent, Some fault.Spent) ∷ (long, Some fault.TooLong) ∷ []) None

no_reason : (own reserved spent long : Bool) → send_reasons own reserved spent long ≡ None → (reserved ≡ false) × (long ≡ false)
no_reason true reserved spent long none = absurd cc
no_reason false true spent long none = absurd cc
no_reason false false true long none = absurd cc
no_reason false false false true none = absurd cc
no_reason false false false false none = (refl, refl)

pub frame_by : (group hsr vlan long : Bool) (f : Fields) → group ≡ false → (hsr || vlan) ≡ false → long ≡ false → (if group || hsr || vlan || long then None else Some f) ≡ Some f
frame_by true hsr vlan long f a b c = absurd (false≢true (sym a))
frame_by false true vlan long f a b c = absurd (false≢true (sym b))
frame_by false false true long f a b c = absurd (false≢true (sym b))
frame_by false false false true f a b c = absurd (false≢true (sym c))
frame_by false false false false f a b c = refl

not_refused : (o : Option SendFault) (made outcome : Outcome) → sent_or_refused o made ≡ Ok outcome → o ≡ None
not_refused None made outcome ok = refl
not_refused (Some x) made outcome ok = absurd cc

-- what is accepted has a frame
pub has_frame : (capacity : ℕ) (owner : Owner) (past : List Entry) (at : ℕ) (mac dst : List ℕ) (vlan : Option ℕ) (kind : ℕ) (payload : List ℕ) (outcome : Outcome) → is_group mac ≡ false →
    send_answer capacity owner past at (Some mac) dst kind (length payload) ≡ Ok outcome →
    asked_frame (Some mac) dst vlan kind payload ≡ Some (record { dst = dst; src = mac; vlan = vlan; kind = kind; rest = payload })
has_frame capacity owner past at mac dst vlan kind payload outcome single ok =
    let none : send_refusal mac (steps past) dst kind (length payload) ≡ None = not_refused _ _ outcome ok in
    let fine = no_reason (is_same_address dst mac) (kind == ethertype_hsr || kind == ethertype_vlan) (steps past == 4611686018427387904) (nat_lt max_payload (length payload)) none in
    frame_by (is_group mac) (kind == ethertype_hsr) (kind == ethertype_vlan) (nat_lt max_payload (length payload)) (record { dst = dst; src = mac; vlan = vlan; kind = kind; rest = payload }) single fine.0 fine.1

-- a send of a Station left
pub record HasLeft (k : ℕ) (place : Place) (h past : List Entry) (mac : List ℕ) : Type 0 where
  pub sending : Sending
  pub sent : send_at place (length past) h ≡ Some sending
  pub source : sending.frame.src ≡ mac
  pub left : list_any (is_copy (record { node = k; place = length past })) (passes (record { number = k; place = place }) 0 h) ≡ true

no_sources : (place : Place) → is_station place ≡ true → (h : List Entry) → Each (λ x past. OfSource (λ mac. ⊥) place x.event) h
no_sources place station [] = tt
no_sources place station (x ∷ past) = (by_event x.event, no_sources place station past)
  where
    by_event : (event : Event) → OfSource (λ mac. ⊥) place event
    by_event (Send from dst vlan ethertype payload) = tt
    by_event (Supervise about) = tt
    by_event (Arrive port copy) = λ edge other f plain. false≢true (sym other ∙ station)
    by_event Age = tt

pub station_left : (capacity k : ℕ) (place : Place) (h newer past : List Entry) (x : Entry) (asked : Asked) (mac : List ℕ) → is_station place ≡ true → Each (Answered capacity (record { number = k; place = place })) h →
    h ≡ newer ++ (x ∷ past) → event_asks k x.event ≡ Some asked → address_at place asked.from ≡ Some mac → is_group mac ≡ false → HasLeft k place h past mac
station_left capacity k (Danh own mode) h newer past x asked mac station legal is asks address single = absurd (false≢true station)
station_left capacity k (RedBox own mode) h newer past x asked mac station legal is asks address single = absurd (false≢true station)
station_left capacity k QuadBox h newer past x asked mac station legal is asks address single = absurd (false≢true station)
station_left capacity k (Station macs) h newer past x asked mac station legal is asks address single = by_event x.event refl asks
  where
    me : Owner
    me = record { number = k; place = Station macs }

    answered : Answered capacity me x past
    answered = (each_under (Answered capacity me) newer (x ∷ past) (subst (Each (Answered capacity me)) is legal)).0

    at_place : send_at (Station macs) (length past) h ≡ sent_by (Station macs) x.event x.outcome
    at_place = (each_under (IsAtPlace (Station macs) h) newer (x ∷ past) (subst (Each (IsAtPlace (Station macs) h)) is (all_at_place (Station macs) h))).0

    by_event : (event : Event) → x.event ≡ event → event_asks k event ≡ Some asked → HasLeft k (Station macs) h past mac
    by_event (Send from dst vlan kind payload) e asks =
        let made : Asked = record { node = k; from = from; dst = dst; kind = kind } in
        let same : made ≡ asked = let both : Some made ≡ Some asked = asks in cc in
        let there : address_at (Station macs) from ≡ Some mac = ap (address_at (Station macs)) (ap (λ (a : Asked). a.from) same) ∙ address in
        let ok : answer capacity me past (now (x ∷ past)) (Send from dst vlan kind payload) ≡ Ok x.outcome = subst (λ ev. answer capacity me past (now (x ∷ past)) ev ≡ Ok x.outcome) e answered in
        let frame = has_frame capacity me past (now (x ∷ past)) mac dst vlan kind payload x.outcome single
        (subst (λ o. send_answer capacity me past (now (x ∷ past)) o dst kind (length payload) ≡ Ok x.outcome) there ok) in
        let f : Fields = record { dst = dst; src = mac; vlan = vlan; kind = kind; rest = payload } in
        let outcome = sent_outcome capacity me past (now (x ∷ past)) from dst vlan kind payload x.outcome ok in
        let sending : Sending = record { frame = f; seq = None } in
        let sent : send_at (Station macs) (length past) h ≡ Some sending =
        at_place ∙ (ap (λ ev. sent_by (Station macs) ev x.outcome) e ∙ (ap (λ o. sent_by (Station macs) (Send from dst vlan kind payload) o) outcome
        ∙ (ap (λ o. sending_of None (asked_frame o dst vlan kind payload)) there ∙ ap (sending_of None) frame))) in
        record {
          sending = sending;
          sent = sent;
          source = refl;
          left = send_left capacity k (Station macs) 0 (length past) sending h (omega arith) refl legal (each_unknown_before (λ mac. ⊥) me f.dst (λ none. none) h (no_sources (Station macs) refl h)) sent;
        }
    by_event (Supervise about) e asks =
        let ok : answer capacity me past (now (x ∷ past)) (Supervise about) ≡ Ok x.outcome = subst (λ ev. answer capacity me past (now (x ∷ past)) ev ≡ Ok x.outcome) e answered in
        absurd cc
    by_event (Arrive port copy) e asks = absurd cc
    by_event Age e asks = absurd cc

-- ---- what leaves

pub record IsPlainFrom (place : Place) (copy : Carried) : Type 0 where
  pub frame : Fields
  pub plain : came copy ≡ Ok (Plain frame)
  pub source : HasAddress place frame.src

some_out : (t : Bool) (o : Option (List ℕ)) (octets : List ℕ) → (if t then o else None) ≡ Some octets → (t ≡ true) × (o ≡ Some octets)
some_out true o octets e = (refl, e)
some_out false o octets e = absurd cc

left_by : (place : Place) (event : Event) (outcome : Outcome) (n : ℕ) (octets : List ℕ) → copy_octets place event outcome n ≡ Some octets → (has_port (ports_of outcome) n ≡ true) × (passed_octets place event outcome n ≡ Some octets)
unfolding copy_octets
left_by place event outcome n octets e = some_out (has_port (ports_of outcome) n) (passed_octets place event outcome n) octets e

module _ (capacity k : ℕ) (place : Place) (station : is_station place ≡ true) (whole : List Entry) (frames : (n : ℕ) (sending : Sending) → send_at place n whole ≡ Some sending → IsPlain sending.frame) where
  abbrev me : Owner
  me = record { number = k; place = place }

  sent_plain : (p : Place) → is_station p ≡ true → (frames_of : (n : ℕ) (sending : Sending) → send_at p n whole ≡ Some sending → IsPlain sending.frame) (x : Entry) (past : List Entry) (from : ℕ) (dst : List ℕ) (vlan : Option ℕ) (kind : ℕ) (payload : List ℕ)
      (known : List ℕ → Bool) (probe : Option Probe) (octets : List ℕ) → x.event ≡ Send from dst vlan kind payload → x.outcome ≡ sent_as (of_record.sending p known dst kind) (next_number past) → IsAtPlace p whole x past →
      passed_octets p x.event x.outcome 0 ≡ Some octets → IsPlainFrom p (record { probe = probe; octets = octets })
  unfolding passed_octets
  sent_plain (Danh mac mode) s frames_of x past from dst vlan kind payload known probe octets e outcome at left = absurd (false≢true s)
  sent_plain (RedBox mac mode) s frames_of x past from dst vlan kind payload known probe octets e outcome at left = absurd (false≢true s)
  sent_plain QuadBox s frames_of x past from dst vlan kind payload known probe octets e outcome at left = absurd (false≢true s)
  sent_plain (Station macs) s frames_of x past from dst vlan kind payload known probe octets e outcome at left =
      by_frame (asked_frame (address_at (Station macs) from) dst vlan kind payload) refl
      (sym (ap (λ ev. passed_octets (Station macs) ev x.outcome 0) e ∙ ap (λ o. passed_octets (Station macs) (Send from dst vlan kind payload) o 0) outcome) ∙ left)
    where
      by_frame : (o : Option Fields) → asked_frame (address_at (Station macs) from) dst vlan kind payload ≡ o → written (side_of (Station macs) 0) None o ≡ Some octets → IsPlainFrom (Station macs) (record { probe = probe; octets = octets })
      by_frame None asked out = absurd cc
      by_frame (Some f) asked out =
          let same : spelling f ≡ octets = cc in
          let sending : Sending = record { frame = f; seq = None } in
          let sent : send_at (Station macs) (length past) whole ≡ Some sending =
          at ∙ (ap (λ ev. sent_by (Station macs) ev x.outcome) e ∙ (ap (λ o. sent_by (Station macs) (Send from dst vlan kind payload) o) outcome ∙ ap (sending_of None) asked)) in
          record {
            frame = f;
            plain = ap classified (sym same) ∙ plain_read f (frames_of (length past) sending sent);
            source = (from, (asked_source (address_at (Station macs) from) dst vlan kind payload f asked).0);
          }

  nothing_said : (p : Place) → is_station p ≡ true → (past : List Entry) (at : ℕ) (about : About) (outcome : Outcome) → answer capacity (record { number = k; place = p }) past at (Supervise about) ≡ Ok outcome → ⊥
  nothing_said (Danh mac mode) s past at about outcome ok = false≢true s
  nothing_said (RedBox mac mode) s past at about outcome ok = false≢true s
  nothing_said QuadBox s past at about outcome ok = false≢true s
  nothing_said (Station macs) s past at about outcome ok = cc

  one_plain : (x : Entry) (past : List Entry) → Answered capacity me x past → IsAtPlace place whole x past → (probe : Option Probe) (octets : List ℕ) → copy_octets place x.event x.outcome 0 ≡ Some octets → IsPlainFrom place (record { probe = probe; octets = octets })
  one_plain x past ok at probe octets out = by_event x.event refl
    where
      left : (has_port (ports_of x.outcome) 0 ≡ true) × (passed_octets place x.event x.outcome 0 ≡ Some octets)
      left = left_by place x.event x.outcome 0 octets out

      ok_of : (event : Event) → x.event ≡ event → answer capacity me past (now (x ∷ past)) event ≡ Ok x.outcome
      ok_of event e = subst (λ ev. answer capacity me past (now (x ∷ past)) ev ≡ Ok x.outcome) e ok

      by_event : (event : Event) → x.event ≡ event → IsPlainFrom place (record { probe = probe; octets = octets })
      by_event (Send from dst vlan kind payload) e =
          sent_plain place station frames x past from dst vlan kind payload (knows place past (now (x ∷ past)) Age) probe octets e
          (sent_outcome capacity me past (now (x ∷ past)) from dst vlan kind payload x.outcome (ok_of (Send from dst vlan kind payload) e)) at left.1
      by_event (Supervise about) e = absurd (nothing_said place station past (now (x ∷ past)) about x.outcome (ok_of (Supervise about) e))
      by_event (Arrive port copy) e =
          let came_so = ok_of (Arrive port copy) e in
          let goes = sym (leaves_port capacity me x past port 0 copy e came_so (omega arith)) ∙ left.0 in
          absurd (station_lets_none place station (knows_at me past (now (x ∷ past)) port copy) port (came copy) 0 (came_by capacity me past (now (x ∷ past)) port copy x.outcome came_so)
          (leaves_wanted capacity me past (now (x ∷ past)) port copy x.outcome (exit_of 0) came_so goes))
      by_event Age e =
          let aged : Ok Aged ≡ Ok x.outcome = ok_of Age e in
          let same : Aged ≡ x.outcome = cc in
          absurd (false≢true (ap (λ o. has_port (ports_of o) 0) same ∙ left.0))

  pub passes_plain : (h : List Entry) → Each (Answered capacity me) h → Each (IsAtPlace place whole) h → AllByRecursion (IsPlainFrom place) (passes me 0 h)
  passes_plain [] legal at = tt
  passes_plain (x ∷ past) legal at = by_octets (copy_octets place x.event x.outcome 0) refl (passes_plain past legal.1 at.1)
    where
      by_octets : (o : Option (List ℕ)) → copy_octets place x.event x.outcome 0 ≡ o → AllByRecursion (IsPlainFrom place) (passes me 0 past) →
          AllByRecursion (IsPlainFrom place) (cons_option (option_map (λ octets. let c : Carried = record { probe = probe_handled (record { node = k; place = length past }) x.event; octets = octets } in c) o) (passes me 0 past))
      by_octets None is rest = rest
      by_octets (Some octets) is rest = (one_plain x past legal.0 at.0 (probe_handled (record { node = k; place = length past }) x.event) octets is, rest)
