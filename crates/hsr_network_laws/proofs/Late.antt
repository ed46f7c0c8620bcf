-- In a closed run of a network each RedBox numbers first where nothing gets its number late: what gets a number came from the
-- RedBox's Station, whose sends have none, and it is the first that the RedBox gave to the send.
use Rattle.std.proofs.Common.{◌≡◌, ℕ, ◌<◌, ◌==◌, ◌||◌, Bool, true, false, if◌then◌else◌, List, [], ◌∷◌, length, Option, Some, None, Ok, Err, refl, sym, ap, ◌∙◌, subst, arith, ⊎_elim, zero, suc, eq-eqb}
use Rattle.std.specs.Prelude.{slice_index_or}
use Rattle.std.specs.Option.{option_and_then, option_or}
use Rattle.std.specs.List.{list_any, cons_option}
use Rattle.std.proofs.lemmas.Bool.{false≢true, or_parts, cases_Bool}
use Rattle.hsr_frame.specs.Egress.{Egress, up, a, b, c, d}
use Rattle.hsr_frame.specs.Grammar.{Fields}
use Rattle.hsr_frame.specs.declared.node.Cause.{Cause}
use Rattle.hsr_tag.specs.declared.seen.Seen.TheVariants.{Plain, Tagged}
use Rattle.hsr_redbox.specs.Step.{number_of}
use Rattle.hsr_redbox.specs.declared.wanted.Handling.{Handling}
use Rattle.hsr_node.specs.Copies.{plain_in}
use Rattle.hsr_node.specs.Flow.{send_at, sent_by}
use Rattle.hsr_node.specs.Record.{Each, Noted, Owner, answer, handling, key_handled, key_in, is_noted, next_number, note_if, note_of, notes, now, number_in, probe_handled}
use Rattle.hsr_node.specs.declared.entry.Entry.{Entry}
use Rattle.hsr_node.specs.declared.event.Carried.{Carried}
use Rattle.hsr_node.specs.declared.event.Event.{Event}
use Rattle.hsr_node.specs.declared.event.Event.TheVariants.{Send, Supervise, Arrive, Age}
use Rattle.hsr_node.specs.declared.event.Outcome.{Outcome}
use Rattle.hsr_node.specs.declared.event.Outcome.TheVariants.{Sent, Life, Judged, Aged}
use Rattle.hsr_node.specs.declared.event.Probe.{Probe}
use Rattle.hsr_node.specs.declared.place.Place.{Place}
use Rattle.hsr_node.specs.declared.place.Place.TheVariants.{Danh, RedBox, QuadBox, Station}
use Rattle.hsr_node.specs.declared.sending.Sending.{Sending}
use Rattle.hsr_link.specs.declared.row.Dir.{Dir}
use Rattle.hsr_link.specs.declared.row.Dir.TheVariants.{Forth, Back}
use Rattle.hsr_run_laws.specs.Closed as closed_run
use Rattle.hsr_run_laws.specs.Closed.{IsClosed, IsOfSend, IsSend}
use Rattle.hsr_run_laws.specs.Once.{is_copy}
use Rattle.hsr_run_laws.specs.Premises.{NumbersFirst, is_note_of}
use Rattle.hsr_run_laws.specs.Run.{Run, from_end, given, given_at, gives, is_of, owner_of, past_of, peer_in, place_of, to_end}
use Rattle.hsr_topology.specs.Links.{is_same_end}
use Rattle.hsr_topology.specs.declared.end.End.{End}
use Rattle.hsr_topology.proofs.Ends.{end_is, end_same}
use Rattle.hsr_run_laws.proofs.Keys.{each_of_send}
use Rattle.hsr_run_laws.proofs.Noting.{tagged_unnumbered}
use Rattle.hsr_run_laws.proofs.Records.{Answered, OfArrival}
use Rattle.hsr_run_laws.proofs.SentNumbers.{sent_number}
use Rattle.hsr_run_laws.proofs.Views.{Came, came, judged, knows_at}
use Rattle.hsr_network_laws.specs.Late.{LateDecides, is_numbered_late, was_noted}
use Rattle.hsr_network_laws.specs.Network.{IsNetwork, is_edge, is_station, start_of}
use Rattle.hsr_network_laws.proofs.Fits.{legal}
use Rattle.hsr_network_laws.proofs.Hops.{FromEdge, IsByStation, each_from_edge}
use Rattle.hsr_network_laws.proofs.Leaving.{IsInterlink, numbered_at_edge}
use Rattle.hsr_network_laws.proofs.Sending.{by_event, sent_outcome}

-- ---- what gets a number

-- it came plain to an interlink
pub numbered_came : (capacity : ℕ) (owner : Owner) (past : List Entry) (at port : ℕ) (copy : Carried) (outcome : Outcome) (seq : ℕ) (f : Fields) → answer capacity owner past at (Arrive port copy) ≡ Ok outcome →
    number_in outcome ≡ Some seq → plain_in (came copy) ≡ Some f → (came copy ≡ Ok (Plain f)) × IsInterlink owner.place port
numbered_came capacity owner past at port copy outcome seq f ok number frame =
    let j = judged capacity owner past at port copy outcome ok in
    by_came (came copy) refl frame j.h j.is (sym (ap number_in j.out) ∙ number)
  where
    known : List ℕ → Bool
    known = knows_at owner past at port copy

    nothing : (h : Handling) → h.source ≡ None → number_of h.source (next_number past) ≡ Some seq → ⊥
    nothing h none has = let no : number_of h.source (next_number past) ≡ None = ap (λ s. number_of s (next_number past)) none in cc

    by_came : (seen : Came) → came copy ≡ seen → plain_in seen ≡ Some f → (h : Handling) → handling owner.place (knows_at owner past at port copy) port seen ≡ Some h → number_of h.source (next_number past) ≡ Some seq →
        (came copy ≡ Ok (Plain f)) × IsInterlink owner.place port
    by_came (Err fault) is frame h handles has = absurd cc
    by_came (Ok (Tagged t)) is frame h handles has = absurd (nothing h (tagged_unnumbered owner.place (knows_at owner past at port copy) port t h handles) has)
    by_came (Ok (Plain g)) is frame h handles has =
        let same : g ≡ f = cc in
        ⊎_elim (λ none. absurd (nothing h none has)) (λ box. (is ∙ ap (λ (x : Fields). Ok (Plain x)) same, box)) (numbered_at_edge owner.place (knows_at owner past at port copy) port g h handles)

-- ---- at all egresses

pub at_each : (p : Egress → Bool) → list_any p (up ∷ a ∷ b ∷ c ∷ d ∷ []) ≡ false → (e : Egress) → p e ≡ false
at_each p none up = (or_parts (p up) _ none).0
at_each p none a = (or_parts (p a) _ (or_parts (p up) _ none).1).0
at_each p none b = (or_parts (p b) _ (or_parts (p a) _ (or_parts (p up) _ none).1).1).0
at_each p none c = (or_parts (p c) _ (or_parts (p b) _ (or_parts (p a) _ (or_parts (p up) _ none).1).1).1).0
at_each p none d = (or_parts (p d) _ (or_parts (p c) _ (or_parts (p b) _ (or_parts (p a) _ (or_parts (p up) _ none).1).1).1).1).0

at_none : (p : Egress → Bool) → ((e : Egress) → p e ≡ false) → list_any p (up ∷ a ∷ b ∷ c ∷ d ∷ []) ≡ false
at_none p none = none_of (p up) (p a) (p b) (p c) (p d) (none up) (none a) (none b) (none c) (none d)
  where
    none_of : (q r s t u : Bool) → q ≡ false → r ≡ false → s ≡ false → t ≡ false → u ≡ false → (q || (r || (s || (t || (u || false))))) ≡ false
    none_of q r s t u q' r' s' t' u' = ap (λ x. x || (r || (s || (t || (u || false))))) q' ∙ (ap (λ x. x || (s || (t || (u || false)))) r' ∙ (ap (λ x. x || (t || (u || false))) s' ∙ (ap (λ x. x || (u || false)) t' ∙ ap (λ x. x || false) u')))

-- ---- a RedBox notes each send that it gave a number to

none_noted : (send : Probe) (o : Option Noted) (ns : List Noted) → list_any (is_note_of (Some send)) (cons_option o ns) ≡ false → list_any (is_note_of (Some send)) ns ≡ false
none_noted send None ns h = h
none_noted send (Some note) ns h = (or_parts (is_note_of (Some send) note) (list_any (is_note_of (Some send)) ns) h).1

no_number : (t : Bool) → (if t then (let o : Option ℕ = None in o) else None) ≡ None
no_number true = refl
no_number false = refl

-- what numbers no copy of a send gives it no number
pub gives_none : (send : Probe) (event : Event) (outcome : Outcome) →
    ((port : ℕ) (copy : Carried) (up_too : Bool) (ports : List Bool) (seq : ℕ) (why : Cause) → event ≡ Arrive port copy → outcome ≡ Judged up_too ports (Some seq) why → is_copy send copy ≡ true → ⊥) → gives send event outcome ≡ None
gives_none send (Send from dst vlan ethertype payload) outcome never = refl
gives_none send (Supervise about) outcome never = refl
gives_none send Age outcome never = refl
gives_none send (Arrive port copy) (Sent seq ports) never = refl
gives_none send (Arrive port copy) (Life seq life ports) never = refl
gives_none send (Arrive port copy) Aged never = refl
gives_none send (Arrive port copy) (Judged up_too ports None why) never = no_number (is_copy send copy)
gives_none send (Arrive port copy) (Judged up_too ports (Some seq) why) never =
    ⊎_elim (λ mine. absurd (never port copy up_too ports seq why refl refl mine)) (λ other. ap (λ t. if t then Some seq else None) other) (cases_Bool (is_copy send copy))

-- what is given none at each entry is given none
pub all_none : (send : Probe) (h : List Entry) → Each (λ x past. gives send x.event x.outcome ≡ None) h → given_at send h ≡ None
all_none send [] none = refl
all_none send (x ∷ past) none = ap (λ o. option_or o (gives send x.event x.outcome)) (all_none send past none.1) ∙ none.0

module _ (run : Run) (capacity : ℕ) (owner : Owner) where
  -- what gives a send a number is noted on the interlink
  gives_noted : (send : Probe) (x : Entry) (past : List Entry) → Answered capacity owner x past → OfArrival (IsOfSend run) x.event → list_any (is_note_of (Some send)) (notes owner c (x ∷ past)) ≡ false → gives send x.event x.outcome ≡ None
  gives_noted send x past ok of none = gives_none send x.event x.outcome given_here
    where
      given_here : (port : ℕ) (copy : Carried) (up_too : Bool) (ports : List Bool) (seq : ℕ) (why : Cause) → x.event ≡ Arrive port copy → x.outcome ≡ Judged up_too ports (Some seq) why → is_copy send copy ≡ true → ⊥
      given_here port copy up_too ports seq why event outcome mine =
          let A : Event → Type 0 = λ ev. answer capacity owner past (now (x ∷ past)) ev ≡ Ok x.outcome in
          let O : Event → Type 0 = OfArrival (IsOfSend run) in
          let o : IsOfSend run copy = subst O event of in
          let plain = (numbered_came capacity owner past (now (x ∷ past)) port copy x.outcome seq o.sending.frame (subst A event ok) (ap number_in outcome) o.frame).0 in
          let note : Noted = record { key = record { src = o.sending.frame.src; seq = seq }; moment = now (x ∷ past); probe = copy.probe } in
          let E : Event → Type 0 = λ ev. note_if (is_noted x.outcome c) (key_handled owner.place ev x.outcome) (now (x ∷ past)) (probe_handled (record { node = owner.number; place = length past }) ev) ≡ Some note in
          let J : Outcome → Type 0 = λ out. note_if (is_noted out c) (key_handled owner.place (Arrive port copy) out) (now (x ∷ past)) copy.probe ≡ Some note in
          let C : Came → Type 0 = λ s. note_if true (key_in s (Some seq)) (now (x ∷ past)) copy.probe ≡ Some note in
          let noted : note_of owner c x past ≡ Some note = subst E (sym event) (subst J (sym outcome) (subst C (sym plain) refl)) in
          let Q : Option Noted → Type 0 = λ n. list_any (is_note_of (Some send)) (cons_option n (notes owner c past)) ≡ false in
          false≢true (sym (or_parts (is_note_of (Some send) note) (list_any (is_note_of (Some send)) (notes owner c past)) (subst Q noted none)).0 ∙ mine)

  none_given : (send : Probe) (h : List Entry) → Each (Answered capacity owner) h → Each (λ x past. OfArrival (IsOfSend run) x.event) h → list_any (is_note_of (Some send)) (notes owner c h) ≡ false → given_at send h ≡ None
  none_given send [] legal of none = refl
  none_given send (x ∷ past) legal of none =
      ap (λ o. option_or o (gives send x.event x.outcome)) (none_given send past legal.1 of.1 (none_noted send (note_of owner c x past) (notes owner c past) none)) ∙ gives_noted send x past legal.0 of.0 none

  -- so where none is late, each number is the first that its send got
  abbrev pub IsFirstGiven : List Entry → Event → Outcome → Type 0
  IsFirstGiven whole (Arrive port copy) (Judged up_too ports (Some seq) why) = (send : Probe) → copy.probe ≡ Some send → given_at send whole ≡ Some seq
  IsFirstGiven whole event outcome = Unit {0}

  first_given : (whole h : List Entry) → ((send : Probe) (seq : ℕ) → given_at send h ≡ Some seq → given_at send whole ≡ Some seq) → Each (Answered capacity owner) h → Each (λ x past. OfArrival (IsOfSend run) x.event) h →
      Each (λ x past. is_numbered_late owner past x.event x.outcome ≡ false) h → Each (λ x past. IsFirstGiven whole x.event x.outcome) h
  first_given whole [] lasts legal of late = tt
  first_given whole (x ∷ past) lasts legal of late = (
    by_event' x.event x.outcome refl refl late.0,
    first_given whole past (λ send seq e. lasts send seq (ap (λ o. option_or o (gives send x.event x.outcome)) e)) legal.1 of.1 late.1,
  )
    where
      by_event' : (event : Event) (outcome : Outcome) → x.event ≡ event → x.outcome ≡ outcome → is_numbered_late owner past event outcome ≡ false → IsFirstGiven whole event outcome
      by_event' (Send from dst vlan ethertype payload) outcome e o late = tt
      by_event' (Supervise about) outcome e o late = tt
      by_event' Age outcome e o late = tt
      by_event' (Arrive port copy) (Sent seq ports) e o late = tt
      by_event' (Arrive port copy) (Life seq life ports) e o late = tt
      by_event' (Arrive port copy) Aged e o late = tt
      by_event' (Arrive port copy) (Judged up_too ports None why) e o late = tt
      by_event' (Arrive port copy) (Judged up_too ports (Some seq) why) e o late = λ send named.
          let P : Option Probe → Type 0 = λ p. was_noted owner p past ≡ false in
          let none = none_given send past legal.1 of.1 (at_each (λ e. list_any (is_note_of (Some send)) (notes owner e past)) (subst P named late) c) in
          let B : Option Probe → Type 0 = λ p. (if is_of send p then Some seq else None) ≡ Some seq in
          let it : gives send (Arrive port copy) (Judged up_too ports (Some seq) why) ≡ Some seq = subst B (sym named) (ap (λ t. if t then Some seq else None) (Rattle.hsr_run_laws.proofs.Same.is_of_itself send)) in
          lasts send seq (ap (λ o. option_or o (gives send x.event x.outcome)) none ∙ (ap (λ ev. gives send ev x.outcome) e ∙ (ap (λ out. gives send (Arrive port copy) out) o ∙ it)))

-- ---- the end that a port is joined with

pub peer_is : (links : List (List End)) (end peer : End) (l : ℕ) (dir : Dir) → l < length links → from_end dir (slice_index_or links l []) ≡ end →
    ((m : ℕ) (dir : Dir) → m < length links → from_end dir (slice_index_or links m []) ≡ end → to_end dir (slice_index_or links m []) ≡ peer) → peer_in end links ≡ Some peer
peer_is [] end peer l dir below from all = absurd (omega arith)
peer_is (ends ∷ links) end peer l dir below from all =
    by_first (is_same_end (from_end Forth ends) end) (is_same_end (from_end Back ends) end) refl refl
    (λ l there starts. peer_is links end peer l dir there starts (λ m dir there starts. all (suc m) dir (omega (arith, there)) starts))
  where
    at_zero : (dir : Dir) → from_end dir ends ≡ end → is_same_end (from_end Forth ends) end ≡ false → is_same_end (from_end Back ends) end ≡ false → ⊥
    at_zero Forth from f g = false≢true (sym f ∙ end_same (from_end Forth ends) end from)
    at_zero Back from f g = false≢true (sym g ∙ end_same (from_end Back ends) end from)

    Rest : Type 0
    Rest = (l : ℕ) → l < length links → from_end dir (slice_index_or links l []) ≡ end → peer_in end links ≡ Some peer

    later : (l : ℕ) → l < suc (length links) → from_end dir (slice_index_or (ends ∷ links) l []) ≡ end → is_same_end (from_end Forth ends) end ≡ false → is_same_end (from_end Back ends) end ≡ false → Rest → peer_in end links ≡ Some peer
    later zero below from f g rest = absurd (at_zero dir from f g)
    later (suc l) below from f g rest = rest l (omega arith) from

    by_first : (forth back : Bool) → is_same_end (from_end Forth ends) end ≡ forth → is_same_end (from_end Back ends) end ≡ back → Rest →
        option_or (if forth then Some (to_end Forth ends) else (if back then Some (to_end Back ends) else None)) (peer_in end links) ≡ Some peer
    by_first true back f g rest = ap (λ (e : End). Some e) (all 0 Forth (omega arith) (end_is (from_end Forth ends) end f))
    by_first false true f g rest = ap (λ (e : End). Some e) (all 0 Back (omega arith) (end_is (from_end Back ends) end g))
    by_first false false f g rest = later l below from f g rest

-- ---- a Station's send has no number

pub station_unnumbered : (capacity number n : ℕ) (place : Place) (s : Sending) (h : List Entry) → is_station place ≡ true → Each (Answered capacity (record { number = number; place = place })) h → send_at place n h ≡ Some s → s.seq ≡ None
station_unnumbered capacity number n (Danh mac mode) s h station legal is = absurd (false≢true station)
station_unnumbered capacity number n (RedBox mac mode) s h station legal is = absurd (false≢true station)
station_unnumbered capacity number n QuadBox s h station legal is = absurd (false≢true station)
station_unnumbered capacity number n (Station macs) s [] station legal is = absurd cc
station_unnumbered capacity number n (Station macs) s (x ∷ past) station legal is = step (n == length past) is (station_unnumbered capacity number n (Station macs) s past station legal.1)
  where
    sent_here : sent_by (Station macs) x.event x.outcome ≡ Some s → s.seq ≡ None
    sent_here is =
        let A : Event → Type 0 = λ ev. answer capacity (record { number = number; place = Station macs }) past (now (x ∷ past)) ev ≡ Ok x.outcome in
        by_event capacity number (Station macs) x past s (s.seq ≡ None) is
        (λ from dst vlan ethertype payload e.
        (sent_number (Station macs) x.event x.outcome s is).0 ∙ ap number_in (sent_outcome capacity (record { number = number; place = Station macs }) past (now (x ∷ past)) from dst vlan ethertype payload x.outcome (subst A e legal.0)))
        (λ about e. let no = subst A e legal.0 in absurd cc)

    step : (t : Bool) → (if t then sent_by (Station macs) x.event x.outcome else send_at (Station macs) n past) ≡ Some s → (send_at (Station macs) n past ≡ Some s → s.seq ≡ None) → s.seq ≡ None
    step true is rest = sent_here is
    step false is rest = rest is

-- ---- so it is its first number

module _ (run : Run) (closed : IsClosed run) (net : IsNetwork run) where
  -- what a Station sends is given its number by the RedBox that it comes to
  pub number_is : (k : ℕ) (copy : Carried) (send : Probe) (sending : Sending) → IsByStation run closed net k 2 copy → copy.probe ≡ Some send → IsSend run send sending → closed_run.number_of run send sending ≡ given_at send (past_of run k)
  number_is k copy send sending by named is =
      let both : Some by.from.0 ≡ Some send = sym by.from.1 ∙ named in
      let same : by.from.0 ≡ send = cc in
      let node : (start_of run by.channel).node ≡ send.node = sym by.from.2 ∙ ap (λ (p : Probe). p.node) same in
      let S : ℕ → Type 0 = λ j. is_station (place_of run j) ≡ true in
      let begins : start_of run by.channel ≡ record { node = send.node; port = 0 } = begin_at (start_of run by.channel) send.node node by.first in
      let peer = peer_is run.links (record { node = send.node; port = 0 }) (record { node = k; port = 2 }) by.channel.link by.channel.dir by.below begins
      (λ m dir below starts. net.apart (record { link = m; dir = dir }) by.channel below by.below (starts ∙ sym begins) ∙ by.stops) in
      let none = station_unnumbered run.capacity send.node send.place (place_of run send.node) sending (past_of run send.node) (subst S node by.station) (legal run closed net send.node is.0) is.1 in
      ap (λ o. option_or o (given run send)) none ∙ ap (option_and_then (λ (end : End). given_at send (past_of run end.node))) peer
    where
      begin_at : (end : End) (node : ℕ) → end.node ≡ node → end.port ≡ 0 → end ≡ record { node = node; port = 0 }
      begin_at end node n p = λ i. record { node = n i; port = p i }

  numbers_first : (k : ℕ) (x : Entry) (past : List Entry) → Answered run.capacity (owner_of run k) x past → OfArrival (IsOfSend run) x.event → is_numbered_late (owner_of run k) past x.event x.outcome ≡ false →
      IsFirstGiven run run.capacity (owner_of run k) (past_of run k) x.event x.outcome → ((port : ℕ) (copy : Carried) → x.event ≡ Arrive port copy → is_edge (place_of run k) port ≡ true → is_station (place_of run k) ≡ false → IsByStation run closed net k port copy) →
      NumbersFirst run (owner_of run k) past x.event x.outcome
  numbers_first k x past ok of late first by = by_event' x.event x.outcome refl refl late first
    where
      at_box : (port : ℕ) (copy : Carried) → x.event ≡ Arrive port copy → IsInterlink (place_of run k) port → IsByStation run closed net k 2 copy
      at_box port copy e box =
          let D : Place → Type 0 = λ p. is_edge p port ≡ true in
          let S : Place → Type 0 = λ p. is_station p ≡ false in
          let T : ℕ → Type 0 = λ n. IsByStation run closed net k n copy in
          subst T box.is_two (by port copy e (subst D (sym box.is_box) (eq-eqb port 2 box.is_two)) (subst S (sym box.is_box) refl))

      by_event' : (event : Event) (outcome : Outcome) → x.event ≡ event → x.outcome ≡ outcome → is_numbered_late (owner_of run k) past event outcome ≡ false → IsFirstGiven run run.capacity (owner_of run k) (past_of run k) event outcome →
          NumbersFirst run (owner_of run k) past event outcome
      by_event' (Send from dst vlan ethertype payload) outcome e o late first = tt
      by_event' (Supervise about) outcome e o late first = tt
      by_event' Age outcome e o late first = tt
      by_event' (Arrive port copy) (Sent seq ports) e o late first = tt
      by_event' (Arrive port copy) (Life seq life ports) e o late first = tt
      by_event' (Arrive port copy) Aged e o late first = tt
      by_event' (Arrive port copy) (Judged up_too ports None why) e o late first = tt
      by_event' (Arrive port copy) (Judged up_too ports (Some seq) why) e o late first = λ send named.
          let A : Event → Type 0 = λ ev. answer run.capacity (owner_of run k) past (now (x ∷ past)) ev ≡ Ok x.outcome in
          let O : Event → Type 0 = OfArrival (IsOfSend run) in
          let s : IsOfSend run copy = subst O e of in
          let box = (numbered_came run.capacity (owner_of run k) past (now (x ∷ past)) port copy x.outcome seq s.sending.frame (subst A e ok) (ap number_in o) s.frame).1 in (
            λ sending is. number_is k copy send sending (at_box port copy e box) named is ∙ first send named,
            at_each (λ egress. list_any (is_note_of copy.probe) (notes (owner_of run k) egress past)) late,
          )

  -- all of a record
  all_first : (k : ℕ) (h : List Entry) → Each (Answered run.capacity (owner_of run k)) h → Each (λ x past. OfArrival (IsOfSend run) x.event) h → Each (λ x past. is_numbered_late (owner_of run k) past x.event x.outcome ≡ false) h →
      Each (λ x past. IsFirstGiven run run.capacity (owner_of run k) (past_of run k) x.event x.outcome) h → Each (λ x past. FromEdge run closed net k x.event) h → Each (λ x past. NumbersFirst run (owner_of run k) past x.event x.outcome) h
  all_first k [] legal of late first by = tt
  all_first k (x ∷ past) legal of late first by = (
    numbers_first k x past legal.0 of.0 late.0 first.0 (λ port copy e. let F : Event → Type 0 = FromEdge run closed net k in subst F e by.0),
    all_first k past legal.1 of.1 late.1 first.1 by.1,
  )

  -- and where each RedBox numbers first nothing is late
  none_late : (k : ℕ) (x : Entry) (past : List Entry) → OfArrival (IsOfSend run) x.event → NumbersFirst run (owner_of run k) past x.event x.outcome → is_numbered_late (owner_of run k) past x.event x.outcome ≡ false
  none_late k x past of first = by_event' x.event x.outcome of first
    where
      by_event' : (event : Event) (outcome : Outcome) → OfArrival (IsOfSend run) event → NumbersFirst run (owner_of run k) past event outcome → is_numbered_late (owner_of run k) past event outcome ≡ false
      by_event' (Send from dst vlan ethertype payload) outcome of first = refl
      by_event' (Supervise about) outcome of first = refl
      by_event' Age outcome of first = refl
      by_event' (Arrive port copy) (Sent seq ports) of first = refl
      by_event' (Arrive port copy) (Life seq life ports) of first = refl
      by_event' (Arrive port copy) Aged of first = refl
      by_event' (Arrive port copy) (Judged up_too ports None why) of first = refl
      by_event' (Arrive port copy) (Judged up_too ports (Some seq) why) of first = at_none (λ egress. list_any (is_note_of copy.probe) (notes (owner_of run k) egress past)) (first of.send of.named).1

  all_in_time : (k : ℕ) (h : List Entry) → Each (λ x past. OfArrival (IsOfSend run) x.event) h → Each (λ x past. NumbersFirst run (owner_of run k) past x.event x.outcome) h → Each (λ x past. is_numbered_late (owner_of run k) past x.event x.outcome ≡ false) h
  all_in_time k [] of first = tt
  all_in_time k (x ∷ past) of first = (none_late k x past of.0 first.0, all_in_time k past of.1 first.1)

pub late_decides : LateDecides
late_decides run closed net = record {
  first = λ late k below.
      let lawful = legal run closed net k below in
      let of = each_of_send run closed k below in
      all_first run closed net k (past_of run k) lawful of (late k below) (first_given run run.capacity (owner_of run k) (past_of run k) (past_of run k) (λ send seq e. e) lawful of (late k below)) (each_from_edge run closed net k below);
  late = λ first k below. all_in_time run closed net k (past_of run k) (each_of_send run closed k below) (first k below);
}
