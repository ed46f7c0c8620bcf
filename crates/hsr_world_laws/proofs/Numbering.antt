-- Over runs each copy is of a send, with its number, and a RedBox numbers a send before anything tagged of it comes.
use Rattle.std.proofs.Common.{◌≡◌, ℕ, ◌<◌, ◌==◌, Bool, true, false, List, [], ◌∷◌, set, length, count_by, option_to_list, Option, Some, None, Result, Ok, refl, sym, ap, ◌∙◌, subst, arith, eq-eqb, ⊎_elim}
use Rattle.std.specs.Prelude.{if◌then◌else◌, ◌||◌}
use Rattle.std.specs.List.{AllByRecursion, cons_option, list_any}
use Rattle.std.specs.Option.{option_or}
use Rattle.std.proofs.lemmas.Bool.{false≢true}
use Rattle.std.proofs.lemmas.List.{get_or-set_same}
use Rattle.hsr_frame.specs.Egress.{Egress}
use Rattle.hsr_frame.specs.declared.fault.SendFault.{SendFault}
use Rattle.hsr_frame.specs.declared.node.Cause.{Cause}
use Rattle.hsr_tag.specs.Seen.{classified}
use Rattle.hsr_tag.specs.Tag.{TaggedFields}
use Rattle.hsr_tag.specs.declared.seen.Seen.TheVariants.{Tagged}
use Rattle.hsr_node.specs.Copies.{address_at}
use Rattle.hsr_node.specs.Flow.{arrivals, copy_at, send_at, sent_by}
use Rattle.hsr_node.specs.declared.sending.Sending.{Sending}
use Rattle.hsr_node.specs.Record.{Each, Noted, Owner, answer, knows, next_number, notes, now, number_in, send_answer, sent_as, sent_or_refused, sending}
use Rattle.hsr_node.specs.declared.entry.Entry.{Entry}
use Rattle.hsr_node.specs.declared.event.Carried.{Carried}
use Rattle.hsr_node.specs.declared.event.Event.{Event}
use Rattle.hsr_node.specs.declared.event.Event.TheVariants as event
use Rattle.hsr_node.specs.declared.event.Outcome.{Outcome}
use Rattle.hsr_node.specs.declared.event.Outcome.TheVariants as outcome
use Rattle.hsr_node.specs.declared.event.Probe.{Probe}
use Rattle.hsr_node.specs.declared.event.StepFault.{StepFault}
use Rattle.hsr_node.specs.declared.place.Place.{Place}
use Rattle.hsr_node.specs.declared.place.Place.TheVariants.{Danh, RedBox, QuadBox, Station}
use Rattle.hsr_run_laws.specs.Budget.{is_sending}
use Rattle.hsr_topology.specs.Links.{is_a_station}
use Rattle.hsr_run_laws.specs.Once.{is_copy}
use Rattle.hsr_run_laws.specs.Premises.{is_note_of}
use Rattle.hsr_run_laws.specs.Run.{given_at, gives, is_of, owner_in, peer_in, record_in}
use Rattle.hsr_topology.specs.declared.end.End.{End}
use Rattle.hsr_run_laws.proofs.Lists.{count_more, one_if}
use Rattle.hsr_run_laws.proofs.Noting.{IsNoteOf, note_from}
use Rattle.hsr_run_laws.proofs.Records.{Answered, OfArrival, each_from_ports, notes_more}
use Rattle.hsr_run_laws.proofs.Same.{is_of_itself, probe_is}
use Rattle.hsr_run_laws.proofs.SentNumbers.{sent_number}
use Rattle.hsr_world_laws.proofs.Counts.{count_option}
use Rattle.hsr_world_laws.proofs.Passing.{IsCopyOf, given_in, given_kept, number_kept, sent_kept}
use Rattle.hsr_world_laws.proofs.Single.{numbered_came}

-- ---- a Station's sends have no numbers

station_unnumbered : (capacity number : ℕ) (place : Place) (past : List Entry) (at : ℕ) (e : Event) (o : Outcome) → is_a_station (Some place) ≡ true → is_sending e ≡ true →
    answer capacity (record { number = number; place = place }) past at e ≡ Ok o → number_in o ≡ None
station_unnumbered capacity number (Danh mac mode) past at e o station sends ok = absurd (false≢true station)
station_unnumbered capacity number (RedBox mac mode) past at e o station sends ok = absurd (false≢true station)
station_unnumbered capacity number QuadBox past at e o station sends ok = absurd (false≢true station)
station_unnumbered capacity number (Station macs) past at (event.Arrive port copy) o station sends ok = absurd (false≢true sends)
station_unnumbered capacity number (Station macs) past at event.Age o station sends ok = absurd (false≢true sends)
station_unnumbered capacity number (Station macs) past at (event.Supervise about) o station sends ok = absurd cc
station_unnumbered capacity number (Station macs) past at (event.Send from dst vlan ethertype payload) o station sends ok = by_address (address_at (Station macs) from) ok
  where
    owner : Owner
    owner = record { number = number; place = Station macs }

    first : Outcome
    first = sent_as (sending (Station macs) (knows (Station macs) past at event.Age) dst ethertype) (next_number past)

    is_first : (r : Result Outcome StepFault) → r ≡ Ok o → Ok (sent_as (sending (Station macs) (knows (Station macs) past at event.Age) dst ethertype) (next_number past)) ≡ r → number_in o ≡ None
    is_first r e f =
        let same : sent_as (sending (Station macs) (knows (Station macs) past at event.Age) dst ethertype) (next_number past) ≡ o = cc in
        ap number_in (sym same)

    by_refusal : (f : Option SendFault) → sent_or_refused f (sent_as (sending (Station macs) (knows (Station macs) past at event.Age) dst ethertype) (next_number past)) ≡ Ok o → number_in o ≡ None
    by_refusal (Some fault) e = absurd cc
    by_refusal None e = is_first _ e refl

    by_address : (x : Option (List ℕ)) → send_answer capacity (record { number = number; place = Station macs }) past at x dst ethertype (length payload) ≡ Ok o → number_in o ≡ None
    by_address None e = absurd cc
    by_address (Some src) e = by_refusal _ e

pub station_seq : (capacity : ℕ) (owner : Owner) (k : ℕ) (h : List Entry) (s : Sending) → is_a_station (Some owner.place) ≡ true → Each (Answered capacity owner) h → send_at owner.place k h ≡ Some s → s.seq ≡ None
station_seq capacity owner k [] s station legal sent = absurd cc
station_seq capacity owner k (x ∷ past) s station legal sent = by_case (k == length past) sent (λ e. station_seq capacity owner k past s station legal.1 e)
  where
    by_case : (b : Bool) → (if b then sent_by owner.place x.event x.outcome else send_at owner.place k past) ≡ Some s → (send_at owner.place k past ≡ Some s → s.seq ≡ None) → s.seq ≡ None
    by_case true e rest =
        let two = sent_number owner.place x.event x.outcome s e in
        two.0 ∙ station_unnumbered capacity owner.number owner.place past (now (x ∷ past)) x.event x.outcome station two.1 legal.0
    by_case false e rest = rest e

-- ---- what never came was neither numbered nor noted

pub none_given : (capacity : ℕ) (owner : Owner) (send : Probe) (h : List Entry) → Each (Answered capacity owner) h → count_by (is_copy send) (arrivals 2 h) ≡ 0 → given_at send h ≡ None
none_given capacity owner send [] legal none = refl
none_given capacity owner send (x ∷ past) legal none =
    let parts = count_option (is_copy send) (copy_at 2 x.event) (arrivals 2 past) in
    ap (λ o. option_or o (gives send x.event x.outcome)) (none_given capacity owner send past legal.1 (omega (arith, parts, none)))
    ∙ step x.event x.outcome legal.0 (omega (arith, parts, none))
  where
    came : (port : ℕ) (copy : Carried) → port ≡ 2 → is_of send copy.probe ≡ true → count_by (is_copy send) (option_to_list (copy_at 2 (event.Arrive port copy))) ≡ 0 → ⊥
    came port copy two mine none =
        let here : copy_at 2 (event.Arrive port copy) ≡ Some copy = ap (λ b. if b then Some copy else None) (eq-eqb port 2 two) in
        let count = ap (λ o. count_by (is_copy send) (option_to_list o)) here in
        let more = count_more (is_copy send) copy [] in
        let one = one_if (is_copy send copy) mine in
        omega (arith, count, more, one, none)

    step : (e : Event) (o : Outcome) → answer capacity owner past (now (x ∷ past)) e ≡ Ok o → count_by (is_copy send) (option_to_list (copy_at 2 e)) ≡ 0 → gives send e o ≡ None
    step (event.Send from dst vlan ethertype payload) o ok none = refl
    step (event.Supervise about) o ok none = refl
    step event.Age o ok none = refl
    step (event.Arrive port copy) (outcome.Sent seq ports) ok none = refl
    step (event.Arrive port copy) (outcome.Life seq life ports) ok none = refl
    step (event.Arrive port copy) outcome.Aged ok none = refl
    step (event.Arrive port copy) (outcome.Judged up ports None cause) ok none = by_case (is_of send copy.probe) None refl
      where
        by_case : (b : Bool) (o : Option ℕ) → o ≡ None → (if b then o else None) ≡ None
        by_case true o e = e
        by_case false o e = refl
    step (event.Arrive port copy) (outcome.Judged up ports (Some k) cause) ok none = by_case (is_of send copy.probe) refl
      where
        by_case : (b : Bool) → is_of send copy.probe ≡ b → (if b then Some k else None) ≡ None
        by_case true e = absurd (came port copy (numbered_came capacity owner past (now (x ∷ past)) port copy up ports k cause ok).interlink e none)
        by_case false e = refl

-- nothing tagged of a send came
abbrev pub Untagged : Probe → Carried → Type 0
Untagged send copy = is_of send copy.probe ≡ true → (t : TaggedFields) → classified copy.octets ≡ Ok (Tagged t) → ⊥

parts_none : (a b : Option ℕ) → option_or a b ≡ None → (a ≡ None) × (b ≡ None)
parts_none None b h = (refl, h)
parts_none (Some k) b h = absurd cc

pub none_noted : (capacity : ℕ) (owner : Owner) (e : Egress) (send : Probe) (h : List Entry) → Each (Answered capacity owner) h → (send.node ≡ owner.number → ⊥) →
    Each (λ x past. OfArrival (Untagged send) x.event) h → given_at send h ≡ None → list_any (is_note_of (Some send)) (notes owner e h) ≡ false
none_noted capacity owner e send [] legal away untagged none = refl
none_noted capacity owner e send (x ∷ past) legal away untagged none =
    let parts = parts_none (given_at send past) (gives send x.event x.outcome) none in
    let rest = none_noted capacity owner e send past legal.1 away untagged.1 parts.0 in
    notes_more (λ ns. list_any (is_note_of (Some send)) ns ≡ false) owner e x past
    (λ note n. not_of (is_of send note.probe) (λ mine. new note n parts.1 mine) (list_any (is_note_of (Some send)) (notes owner e past)) rest)
    rest
  where
    not_of : (b : Bool) → (b ≡ true → ⊥) → (c : Bool) → c ≡ false → (b || c) ≡ false
    not_of true never c f = absurd (never refl)
    not_of false never c f = f

    of_probe : (note : Noted) → is_of send note.probe ≡ true → note.probe ≡ Some send
    of_probe note mine = probe_is send note.probe mine

    new : (note : Noted) → IsNoteOf owner e x past note → gives send x.event x.outcome ≡ None → is_of send note.probe ≡ true → ⊥
    new note n given mine = ⊎_elim
        (λ own.
        let here : Some send ≡ Some (record { node = owner.number; place = length past }) = sym (of_probe note mine) ∙ own in
        let same : send ≡ record { node = owner.number; place = length past } = cc in
        away (ap (λ (p : Probe). p.node) same))
        (λ c.
        let mine_too : is_of send c.copy.probe ≡ true = ap (is_of send) (sym c.probe) ∙ mine in
        let U : Event → Type 0 = λ ev. OfArrival (Untagged send) ev in
        ⊎_elim
        (λ t. let there : Untagged send c.copy = subst U c.is untagged.0 in there mine_too t.tagged t.is)
        (λ m.
        let gave : gives send x.event x.outcome ≡ (if is_of send c.copy.probe then Some m.seq else None) = ap (λ ev. gives send ev x.outcome) c.is ∙ ap (gives send (event.Arrive c.port c.copy)) m.out in
        let some : gives send x.event x.outcome ≡ Some m.seq = gave ∙ ap (λ b. if b then Some m.seq else None) mine_too in
        let both : None ≡ Some m.seq = sym given ∙ some in
        absurd cc)
        c.how)
        (note_from capacity owner e x past note legal.0 n)

-- ---- what a RedBox numbers is new to it

pub record IsFirstNumber (places : List Place) (records : List (List Entry)) (links : List (List End)) (owner : Owner) (past : List Entry) (copy : Carried) (k : ℕ) : Type 0 where
  pub send : Probe
  pub sending : Sending
  pub named : copy.probe ≡ Some send
  pub sent : send_at (owner_in places send.node).place send.place (record_in records send.node) ≡ Some sending
  pub number : option_or sending.seq (given_in records links send) ≡ Some k
  pub unnoted : (e : Egress) → list_any (is_note_of copy.probe) (notes owner e past) ≡ false

abbrev pub IsFirst : List Place → List (List Entry) → List (List End) → Owner → List Entry → Event → Outcome → Type 0
IsFirst places records links owner past (event.Arrive port copy) (outcome.Judged up_too ports (Some seq) cause) = IsFirstNumber places records links owner past copy seq
IsFirst places records links owner past event outcome = Unit {0}

pub first_kept : (places : List Place) (records : List (List Entry)) (links : List (List End)) (n : ℕ) (x : Entry) → n < length records → (owner : Owner) (past : List Entry) (e : Event) (o : Outcome) →
    IsFirst places records links owner past e o → IsFirst places (set records n (x ∷ record_in records n)) links owner past e o
first_kept places records links n x below owner past (event.Send from dst vlan ethertype payload) o h = tt
first_kept places records links n x below owner past (event.Supervise about) o h = tt
first_kept places records links n x below owner past event.Age o h = tt
first_kept places records links n x below owner past (event.Arrive port copy) (outcome.Sent seq ports) h = tt
first_kept places records links n x below owner past (event.Arrive port copy) (outcome.Life seq life ports) h = tt
first_kept places records links n x below owner past (event.Arrive port copy) outcome.Aged h = tt
first_kept places records links n x below owner past (event.Arrive port copy) (outcome.Judged up_too ports None cause) h = tt
first_kept places records links n x below owner past (event.Arrive port copy) (outcome.Judged up_too ports (Some k) cause) h = record {
  send = h.send;
  sending = h.sending;
  named = h.named;
  sent = sent_kept places records n x h.send h.sending below h.sent;
  number = number_kept h.sending.seq (given_in records links h.send) _ k (given_kept records links n x h.send k below) h.number;
  unnoted = h.unnoted;
}

pub each_kept : (P Q : Entry → List Entry → Type 0) → ((x : Entry) (past : List Entry) → P x past → Q x past) → (h : List Entry) → Each P h → Each Q h
each_kept P Q f [] all = tt
each_kept P Q f (x ∷ past) all = (f x past all.0, each_kept P Q f past all.1)

-- what is known of a copy of a send that comes to the interlink and gets a number there
pub record IsNew (places : List Place) (records : List (List Entry)) (links : List (List End)) (n : ℕ) (copy : Carried) : Type 0 where
  pub of_send : IsCopyOf places records links copy
  pub away : of_send.send.node ≡ n → ⊥
  pub peer : (port : ℕ) × (peer_in (record { node = of_send.send.node; port = 0 }) links ≡ Some (record { node = n; port = port }))
  pub seq : of_send.sending.seq ≡ None
  pub none : given_at of_send.send (record_in records n) ≡ None

-- the world's records once it is numbered
module _ (capacity : ℕ) (places : List Place) (records : List (List Entry)) (links : List (List End)) (n : ℕ) (x : Entry) where
  abbrev pub more : List (List Entry)
  more = set records n (x ∷ record_in records n)

  gave : (send : Probe) (copy : Carried) (port k : ℕ) (up_too : Bool) (ports : List Bool) (cause : Cause) → n < length records → copy.probe ≡ Some send →
      x.event ≡ event.Arrive port copy → x.outcome ≡ outcome.Judged up_too ports (Some k) cause → given_at send (record_in records n) ≡ None →
      (q : ℕ) → peer_in (record { node = send.node; port = 0 }) links ≡ Some (record { node = n; port = q }) → given_in more links send ≡ Some k
  gave send copy port k up_too ports cause below named is out none q peer =
      ap (λ (o : Option End). Rattle.std.specs.Prelude.option_and_then (λ (end : End). given_at send (record_in more end.node)) o) peer
      ∙ (ap (given_at send) (get_or-set_same records n (x ∷ record_in records n) [] below)
      ∙ (ap (λ o. option_or o (gives send x.event x.outcome)) none
      ∙ (ap (λ ev. gives send ev x.outcome) is ∙ (ap (gives send (event.Arrive port copy)) out
      ∙ ap (λ b. if b then Some k else None) (ap (is_of send) named ∙ is_of_itself send)))))

  pub numbered : (copy : Carried) (port k : ℕ) (up_too : Bool) (ports : List Bool) (cause : Cause) → n < length records → IsNew places records links n copy →
      x.event ≡ event.Arrive port copy → x.outcome ≡ outcome.Judged up_too ports (Some k) cause →
      (send : Probe) (sending : Sending) → copy.probe ≡ Some send → send_at (owner_in places send.node).place send.place (record_in more send.node) ≡ Some sending →
      option_or sending.seq (given_in more links send) ≡ Some k
  numbered copy port k up_too ports cause below new is out send sending named sent =
      let q = new.of_send in
      let same_send : send ≡ q.send = the_probe send q.send (sym named ∙ q.named) in
      let given : given_in more links send ≡ Some k =
      subst (λ (p : Probe). given_in more links p ≡ Some k) (sym same_send) (gave q.send copy port k up_too ports cause below q.named is out new.none new.peer.0 new.peer.1) in
      let old : send_at (owner_in places send.node).place send.place (record_in more send.node) ≡ Some q.sending =
      subst (λ (p : Probe). send_at (owner_in places p.node).place p.place (record_in more p.node) ≡ Some q.sending) (sym same_send) (sent_kept places records n x q.send q.sending below q.sent) in
      let seq : sending.seq ≡ None = ap (λ (s : Sending). s.seq) (the_sending sending q.sending (sym sent ∙ old)) ∙ new.seq in
      ap (λ o. option_or o (given_in more links send)) seq ∙ given
    where
      the_probe : (p q : Probe) → Some p ≡ Some q → p ≡ q
      the_probe p q e = cc

      the_sending : (p q : Sending) → Some p ≡ Some q → p ≡ q
      the_sending p q e = cc

  -- and so it is the first
  pub first_number : (copy : Carried) (port k : ℕ) (up_too : Bool) (ports : List Bool) (cause : Cause) → n < length records → IsNew places records links n copy →
      Each (Answered capacity (owner_in places n)) (record_in records n) → ((m : ℕ) → AllByRecursion (IsCopyOf places records links) (arrivals m (record_in records n))) →
      x.event ≡ event.Arrive port copy → x.outcome ≡ outcome.Judged up_too ports (Some k) cause → IsFirstNumber places more links (owner_in places n) (record_in records n) copy k
  first_number copy port k up_too ports cause below new legal came is out =
      let q = new.of_send in record {
        send = q.send;
        sending = q.sending;
        named = q.named;
        sent = sent_kept places records n x q.send q.sending below q.sent;
        number = numbered copy port k up_too ports cause below new is out q.send q.sending q.named (sent_kept places records n x q.send q.sending below q.sent);
        unnoted = λ e.
            subst (λ (o : Option Probe). list_any (is_note_of o) (notes (owner_in places n) e (record_in records n)) ≡ false) (sym q.named)
            (none_noted capacity (owner_in places n) e q.send (record_in records n) legal new.away
            (each_kept (λ y past. OfArrival (IsCopyOf places records links) y.event) (λ y past. OfArrival (Untagged q.send) y.event) (λ y past. at_event y.event) (record_in records n)
            (each_from_ports (IsCopyOf places records links) (record_in records n) came)) new.none);
      }
    where
      the_probe : (p q : Probe) → Some p ≡ Some q → p ≡ q
      the_probe p q e = cc

      the_sending : (p q : Sending) → Some p ≡ Some q → p ≡ q
      the_sending p q e = cc

      -- what came of it can't be tagged, since no number is given yet
      untagged : (c : Carried) → IsCopyOf places records links c → Untagged new.of_send.send c
      untagged c of mine t tagged =
          let q = new.of_send in
          let same_send : of.send ≡ q.send = the_probe of.send q.send (sym of.named ∙ probe_is q.send c.probe mine) in
          let sent : send_at (owner_in places q.send.node).place q.send.place (record_in records q.send.node) ≡ Some of.sending =
          subst (λ (p : Probe). send_at (owner_in places p.node).place p.place (record_in records p.node) ≡ Some of.sending) same_send of.sent in
          let seq : of.sending.seq ≡ None = ap (λ (s : Sending). s.seq) (the_sending of.sending q.sending (sym sent ∙ q.sent)) ∙ new.seq in
          let given : given_in records links of.send ≡ None =
          ap (given_in records links) same_send
          ∙ (ap (λ (o : Option End). Rattle.std.specs.Prelude.option_and_then (λ (end : End). given_at q.send (record_in records end.node)) o) new.peer.1 ∙ new.none) in
          let number : option_or of.sending.seq (given_in records links of.send) ≡ Some t.seq = of.number t tagged in
          let none : option_or of.sending.seq (given_in records links of.send) ≡ None = ap (λ o. option_or o (given_in records links of.send)) seq ∙ given in
          let both : None ≡ Some t.seq = sym none ∙ number in
          absurd cc

      at_event : (e : Event) → OfArrival (IsCopyOf places records links) e → OfArrival (Untagged new.of_send.send) e
      at_event (event.Send from dst vlan ethertype payload) h = tt
      at_event (event.Supervise about) h = tt
      at_event event.Age h = tt
      at_event (event.Arrive port c) h = untagged c h
