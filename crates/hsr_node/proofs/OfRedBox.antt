-- A RedBox answers as its record does.
use Rattle.std.proofs.Common.{◌≡◌, ℕ, ◌+◌, ◌%◌, ◌^◌, ◌==◌, Bool, true, false, if◌then◌else◌, cond, List, [], ◌∷◌, ◌++◌, length, reverse, Option, Some, None, Result, Ok, Err, refl, sym, ap, ap₂, subst, ◌∙◌, add-zero}
use Rattle.std.specs.Prelude.{max, is_some, option_map}
use Rattle.std.specs.List.{cons_option, list_any}
use Rattle.std.proofs.lemmas.List.{reverse-append}
use Rattle.hsr_frame.specs.Address.{is_group, is_same_address}
use Rattle.hsr_frame.specs.Egress.{Egress, up, a, b, c, d, cause_of, is_supervision, nowhere, to, with_exit, has_exit}
use Rattle.hsr_frame.specs.Grammar.{Fields}
use Rattle.hsr_frame.specs.Send.{send_refusal}
use Rattle.hsr_frame.specs.declared.counters.Counters.{Counters}
use Rattle.hsr_frame.specs.declared.egress.Exits.{Exits}
use Rattle.hsr_frame.specs.declared.egress.Wants.{Wants}
use Rattle.hsr_frame.specs.declared.fault.FrameFault.{FrameFault}
use Rattle.hsr_frame.specs.declared.fault.SendFault.{SendFault}
use Rattle.hsr_frame.specs.declared.fault.SendFault.TheVariants.{Spent}
use Rattle.hsr_frame.specs.declared.fault.Spent.{Spent as IsSpent}
use Rattle.hsr_frame.specs.declared.node.Cause.TheVariants as cause
use Rattle.hsr_frame.specs.declared.node.Life.{Life}
use Rattle.hsr_frame.specs.declared.node.Mode.{Mode}
use Rattle.hsr_frame.specs.declared.node.RingPort.{RingPort}
use Rattle.hsr_frame.specs.declared.node.RingPort.TheVariants as ring
use Rattle.hsr_tag.specs.Seen.{classified, is_told, payload_in}
use Rattle.hsr_tag.specs.declared.seen.Seen.{Seen}
use Rattle.hsr_tag.specs.declared.seen.Seen.TheVariants.{Plain, Tagged}
use Rattle.hsr_duptable.specs.Notes.{note_if as noted_if}
use Rattle.hsr_supervision.specs.Payload.{read_of}
use Rattle.hsr_tables.specs.Known.{known, latest_heard}
use Rattle.hsr_tables.specs.Nodes.{Hearing}
use Rattle.hsr_forwarding.specs.Tables.{judged_as as verdict_as}
use Rattle.hsr_forwarding.specs.Past.{log_remembers, passes_from}
use Rattle.hsr_forwarding.proofs.Counts.{counts_plus}
use Rattle.hsr_forwarding.proofs.Keeping.{passes-same, unwanted-shut}
use Rattle.hsr_forwarding.proofs.Wants.{wanted-d}
use Rattle.hsr_redbox.specs.Machine.{Machine, new_machine}
use Rattle.hsr_redbox.specs.Past as deeds
use Rattle.hsr_redbox.specs.Past.{Answer, Deed, done, gave_up, judged_interlink, judged_ring, linked, sent_frame, sent_life, source_in}
use Rattle.hsr_forwarding.specs.Arrival.{key_of}
use Rattle.hsr_redbox.specs.Step.{arrive_step, life_refusal, life_step, number_of, send_step, sent_of, verdict_of}
use Rattle.hsr_redbox.specs.Wanted.{handling_interlink, handling_plain, handling_send, interlink, numbered, unnumbered, wanted}
use Rattle.hsr_frame.specs.declared.node.About.{About}
use Rattle.hsr_redbox.specs.declared.call.BoxPort.{BoxPort}
use Rattle.hsr_redbox.specs.declared.call.BoxPort.TheVariants.{A, B, I}
use Rattle.hsr_redbox.specs.declared.call.BoxSent.{BoxSent}
use Rattle.hsr_redbox.specs.declared.call.BoxVerdict.{BoxVerdict}
use Rattle.hsr_redbox.specs.declared.call.LifeFault.{LifeFault}
use Rattle.hsr_redbox.specs.declared.call.LifeFault.TheVariants as refused_life
use Rattle.hsr_redbox.specs.declared.wanted.Handling.{Handling}
use Rattle.hsr_redbox.proofs.PastLaw.{IsPastOf, begins}
use Rattle.hsr_redbox.proofs.PastLaw as law
use Rattle.hsr_node.specs.Counts.{counters, hears_at, is_some_ring, is_unreadable_for}
use Rattle.hsr_node.specs.Record.{Owner, arrive_answer, box_handling, count_of, heard, hearing_by, hearings, is_noted, judged_as, key_in, knows, lived_or_refused, lives, next_number, note_if, notes, now, number_in, oldest_first, own_key, passing, remembers, ring_of, send_answer, sent_as, sent_or_refused, source_at, steps}
use Rattle.hsr_node.specs.Step.{box_judged, box_port, box_sent, life_fault, lived, redbox_arrive, redbox_send, redbox_step, spent, told, wrong}
use Rattle.hsr_node.specs.declared.entry.Entry.{Entry}
use Rattle.hsr_node.specs.declared.event.Carried.{Carried}
use Rattle.hsr_node.specs.declared.event.Event.{Event}
use Rattle.hsr_node.specs.declared.event.Event.TheVariants.{Send, Supervise, Arrive, Age}
use Rattle.hsr_node.specs.declared.event.Outcome.{Outcome}
use Rattle.hsr_node.specs.declared.event.Outcome.TheVariants as outcome
use Rattle.hsr_node.specs.declared.event.Probe.{Probe}
use Rattle.hsr_node.specs.declared.event.StepFault.TheVariants as refused
use Rattle.hsr_node.specs.declared.place.Place.TheVariants as place
use Rattle.hsr_node.proofs.Remembering.{log-remembers}
use Rattle.hsr_node.proofs.Told.{Call, Keeps, Stays, answered-by, heard-same as hearing-same, logged, silent, unlogged}

abbrev owner_of : ℕ → List ℕ → Mode → Owner
owner_of number mac mode = record { number = number; place = place.RedBox mac mode }

-- deeds and a record tell the same
pub record Tells (number : ℕ) (mac : List ℕ) (mode : Mode) (did : List Deed) (past : List Entry) : Type 0 where
  pub moment : deeds.moment_of did ≡ now past
  pub steps : deeds.count_of deeds.is_step did ≡ steps past
  pub numbered : deeds.count_of deeds.is_numbered did ≡ count_of (λ x. is_some (number_in x.outcome)) past
  pub log : (e : Egress) → deeds.log_of mac e did ≡ oldest_first (notes (owner_of number mac mode) e past)
  pub sources : reverse (deeds.sources_of mac did) ≡ heard (place.RedBox mac mode) past
  pub hearing : reverse (deeds.hearings_of mac did) ≡ hearings (place.RedBox mac mode) past
  pub counters : deeds.counters_of mac did ≡ counters (place.RedBox mac mode) past

-- what a machine holds is told by a record
pub record Held (capacity number : ℕ) (mac : List ℕ) (mode : Mode) (machine : Machine) (past : List Entry) : Type 0 where
  pub did : List Deed
  pub of_past : IsPastOf capacity machine did
  pub own : machine.own ≡ mac
  pub mode_is : machine.mode ≡ mode
  pub tells : Tells number mac mode did past

-- ---- a frame of the node's own

-- where a send goes: not up, and to no fourth port; it gets a number for the node's own address, or none
record IsOwn (mac : List ℕ) (h : Handling) : Type 0 where
  no_up : h.wants.exits.up ≡ false
  no_d : h.wants.exits.d ≡ false
  has_number : Bool
  source : h.source ≡ cond has_number (Some mac) None

is-own : (mac : List ℕ) (known : List ℕ → Bool) (dst : List ℕ) (ethertype : ℕ) → IsOwn mac (handling_send mac known dst ethertype)
is-own mac known dst ethertype = by_case (known dst) (is_supervision dst ethertype) (is_group dst)
  where
    by_case : (p q r : Bool) → IsOwn mac (if p then unnumbered (to (interlink ∷ [])) else (if q then numbered mac (to (a ∷ b ∷ [])) else (if r then numbered mac (to (a ∷ b ∷ interlink ∷ [])) else numbered mac (to (a ∷ b ∷ [])))))
    by_case true q r = record { no_up = refl; no_d = refl; has_number = false; source = refl }
    by_case false true r = record { no_up = refl; no_d = refl; has_number = true; source = refl }
    by_case false false true = record { no_up = refl; no_d = refl; has_number = true; source = refl }
    by_case false false false = record { no_up = refl; no_d = refl; has_number = true; source = refl }

is-numbered : (source : Option (List ℕ)) (seq : ℕ) → is_some source ≡ is_some (number_of source seq)
is-numbered None seq = refl
is-numbered (Some src) seq = refl

-- the effective moment
abbrev at_least : List Deed → ℕ → ℕ
at_least did at = max (deeds.moment_of did) at

sent-tells : (number : ℕ) (mac : List ℕ) (mode : Mode) (did : List Deed) (past : List Entry) (worker at from seq : ℕ) (h : Handling) (dst : List ℕ) (vlan : Option ℕ) (ethertype : ℕ) (payload : List ℕ)
    → IsOwn mac h → Tells number mac mode did past
    → Tells number mac mode (done did (at_least did at) (sent_frame h seq))
    (record { worker = worker; at = at; event = Send from dst vlan ethertype payload; outcome = box_sent (sent_of h seq) } ∷ past)
sent-tells number mac mode did past worker at from seq h dst vlan ethertype payload own t = record {
  moment = ap (λ m. max m at) t.moment;
  steps = ap (λ n. n + 1) t.steps;
  numbered = ap₂ (λ p n. if p then n + 1 else n) (is-numbered h.source seq) t.numbered;
  log = by_egress;
  sources = silent (deeds.sources_of mac did) ∙ t.sources;
  hearing = silent (deeds.hearings_of mac did) ∙ t.hearing;
  counters = λ i. let k : Counters = t.counters i in record k { sent = k.sent + 1; forwarded = k.forwarded + 0 };
}
  where
    here : Option Probe
    here = Some (record { node = number; place = length past })

    marked : (has_number noted : Bool) (e : Egress)
        → deeds.log_of mac e did ++ deeds.mark_if (cond has_number (Some mac) None) seq noted (at_least did at)
        ≡ oldest_first (cons_option (note_if noted (own_key (Some mac) (number_of (cond has_number (Some mac) None) seq)) (max (now past) at) here) (notes (owner_of number mac mode) e past))
    marked true noted e = logged noted (record { src = mac; seq = seq }) (at_least did at) (max (now past) at) here (deeds.log_of mac e did) (notes (owner_of number mac mode) e past) (ap (λ m. max m at) t.moment) (t.log e)
    marked false noted e = unlogged (deeds.log_of mac e did) (notes (owner_of number mac mode) e past) (t.log e)

    noted : (noted : Bool) (e : Egress)
        → deeds.log_of mac e did ++ deeds.mark_if h.source seq noted (at_least did at)
        ≡ oldest_first (cons_option (note_if noted (own_key (Some mac) (number_of h.source seq)) (max (now past) at) here) (notes (owner_of number mac mode) e past))
    noted n e = subst (λ (s : Option (List ℕ)). deeds.log_of mac e did ++ deeds.mark_if s seq n (at_least did at)
        ≡ oldest_first (cons_option (note_if n (own_key (Some mac) (number_of s seq)) (max (now past) at) here) (notes (owner_of number mac mode) e past))) (sym own.source) (marked own.has_number n e)

    by_egress : (e : Egress) → deeds.log_of mac e (done did (at_least did at) (sent_frame h seq))
        ≡ oldest_first (notes (owner_of number mac mode) e (record { worker = worker; at = at; event = Send from dst vlan ethertype payload; outcome = box_sent (sent_of h seq) } ∷ past))
    by_egress up = ap (λ p. deeds.log_of mac up did ++ deeds.mark_if h.source seq p (at_least did at)) own.no_up ∙ noted false up
    by_egress a = noted h.wants.exits.a a
    by_egress b = noted h.wants.exits.b b
    by_egress c = noted h.wants.exits.c c
    by_egress d = ap (λ p. deeds.log_of mac d did ++ deeds.mark_if h.source seq p (at_least did at)) own.no_d ∙ noted false d

life-tells : (number : ℕ) (mac : List ℕ) (mode : Mode) (did : List Deed) (past : List Entry) (worker at seq life : ℕ) (about : About)
    → Tells number mac mode did past
    → Tells number mac mode (done did (at_least did at) (sent_life seq))
    (record { worker = worker; at = at; event = Supervise about; outcome = outcome.Life seq life (true ∷ true ∷ false ∷ false ∷ []) } ∷ past)
life-tells number mac mode did past worker at seq life about t = record {
  moment = ap (λ m. max m at) t.moment;
  steps = ap (λ n. n + 1) t.steps;
  numbered = ap (λ n. n + 1) t.numbered;
  log = by_egress;
  sources = silent (deeds.sources_of mac did) ∙ t.sources;
  hearing = silent (deeds.hearings_of mac did) ∙ t.hearing;
  counters = λ i. let k : Counters = t.counters i in record k { life = k.life + 1; forwarded = k.forwarded + 0 };
}
  where
    one : (noted : Bool) (e : Egress) → deeds.log_of mac e did ++ noted_if noted (record { src = mac; seq = seq }) (at_least did at)
        ≡ oldest_first (cons_option (note_if noted (Some (record { src = mac; seq = seq })) (max (now past) at) (Some (record { node = number; place = length past }))) (notes (owner_of number mac mode) e past))
    one noted e = logged noted (record { src = mac; seq = seq }) (at_least did at) (max (now past) at) (Some (record { node = number; place = length past })) (deeds.log_of mac e did) (notes (owner_of number mac mode) e past) (ap (λ m. max m at) t.moment) (t.log e)

    by_egress : (e : Egress) → deeds.log_of mac e (done did (at_least did at) (sent_life seq))
        ≡ oldest_first (notes (owner_of number mac mode) e (record { worker = worker; at = at; event = Supervise about; outcome = outcome.Life seq life (true ∷ true ∷ false ∷ false ∷ []) } ∷ past))
    by_egress up = one false up
    by_egress a = one true a
    by_egress b = one true b
    by_egress c = one false c
    by_egress d = one false d

aged-tells : (number : ℕ) (mac : List ℕ) (mode : Mode) (did : List Deed) (past : List Entry) (worker at : ℕ)
    → Tells number mac mode did past
    → Tells number mac mode (done did (at_least did at) gave_up) (record { worker = worker; at = at; event = Age; outcome = outcome.Aged } ∷ past)
aged-tells number mac mode did past worker at t = record {
  moment = ap (λ m. max m at) t.moment;
  steps = t.steps;
  numbered = t.numbered;
  log = λ e. unlogged (deeds.log_of mac e did) (notes (owner_of number mac mode) e past) (t.log e);
  sources = silent (deeds.sources_of mac did) ∙ t.sources;
  hearing = silent (deeds.hearings_of mac did) ∙ t.hearing;
  counters = λ i. let k : Counters = t.counters i in record k { forwarded = k.forwarded + 0 };
}

-- ---- an arrival

-- an arrival is counted as an entry of a record is
counted-same : (mac : List ℕ) (mode : Mode) (past : List Entry) (worker at port : ℕ) (copy : Carried) (v : BoxVerdict) (unreadable : Bool)
    → unreadable ≡ is_unreadable_for (hears_at (place.RedBox mac mode) port) (classified copy.octets)
    → counts_plus (counters (place.RedBox mac mode) past) v.cause v.up (deeds.copies_of v) unreadable
    ≡ counters (place.RedBox mac mode) (record { worker = worker; at = at; event = Arrive port copy; outcome = box_judged v } ∷ past)
counted-same mac mode past worker at port copy v unreadable bad = λ i. counts_plus (counters (place.RedBox mac mode) past) v.cause v.up (sym (add-zero (deeds.copies_of v)) i) (bad i)

ring-tells : (number : ℕ) (mac : List ℕ) (mode : Mode) (did : List Deed) (past : List Entry) (worker at port : ℕ) (y : BoxPort) (x : RingPort) (copy : Carried) (wants : Wants) (passes : Exits)
    → box_port port ≡ Some y → is_some_ring (Some y) ≡ true → ring_of (Some y) ≡ Some x → Tells number mac mode did past
    → let v : BoxVerdict = verdict_of (verdict_as wants passes) None in
    Tells number mac mode (done did (at_least did at) (judged_ring x (classified copy.octets) v))
    (record { worker = worker; at = at; event = Arrive port copy; outcome = box_judged v } ∷ past)
ring-tells number mac mode did past worker at port y x copy wants passes is_y is_ring is_x t =
    let v : BoxVerdict = verdict_of (verdict_as wants passes) None in
    record {
      moment = ap (λ m. max m at) t.moment;
      steps = ap (λ n. n + 1) t.steps;
      numbered = t.numbered;
      log = λ e. by_seen e (classified copy.octets);
      sources = silent (deeds.sources_of mac did) ∙ t.sources ∙ ap (λ xs. xs ++ heard (place.RedBox mac mode) past) (sym unheard);
      hearing = reverse-append (deeds.hearings_of mac did) (deeds.heard_by mac (at_least did at) (judged_ring x (classified copy.octets) v))
          ∙ ap₂ (λ (xs ys : List Hearing). xs ++ ys) (hearing-same x (at_least did at) (max (now past) at) (is_told mac (classified copy.octets)) (read_of (payload_in (classified copy.octets))) (ap (λ m. max m at) t.moment)) t.hearing
          ∙ ap (λ (found : Option RingPort). hearing_by (Some mac) found (max (now past) at) (classified copy.octets) ++ hearings (place.RedBox mac mode) past) (sym (ap ring_of is_y ∙ is_x));
      counters = ap (λ (k : Counters). counts_plus k v.cause v.up (deeds.copies_of v) (deeds.is_unreadable mac (judged_ring x (classified copy.octets) v))) t.counters
          ∙ counted-same mac mode past worker at port copy v (deeds.is_unreadable mac (judged_ring x (classified copy.octets) v)) unreadable;
    }
  where
    unheard : source_at (box_port port) mac (max (now past) at) (classified copy.octets) ≡ []
    unheard = ap (λ (found : Option BoxPort). source_at found mac (max (now past) at) (classified copy.octets)) is_y ∙ quiet y is_ring
      where
        quiet : (y : BoxPort) → is_some_ring (Some y) ≡ true → source_at (Some y) mac (max (now past) at) (classified copy.octets) ≡ []
        quiet A e = refl
        quiet B e = refl
        quiet I e = absurd (cc)

    hears : hears_at (place.RedBox mac mode) port ≡ Some mac
    hears = ap (λ (p : Bool). if p then Some mac else None) (ap is_some_ring is_y ∙ is_ring)

    unreadable : deeds.is_unreadable mac (judged_ring x (classified copy.octets) (verdict_of (verdict_as wants passes) None)) ≡ is_unreadable_for (hears_at (place.RedBox mac mode) port) (classified copy.octets)
    unreadable = ap (λ own. is_unreadable_for own (classified copy.octets)) (sym hears)

    by_seen : (e : Egress) (seen : Result Seen FrameFault)
        → deeds.log_of mac e did ++ deeds.noted_by mac e (at_least did at) (judged_ring x seen (verdict_of (verdict_as wants passes) None))
        ≡ oldest_first (cons_option (note_if (is_noted (box_judged (verdict_of (verdict_as wants passes) None)) e) (key_in seen None) (max (now past) at) copy.probe) (notes (owner_of number mac mode) e past))
    by_seen e (Err fault) = unlogged (deeds.log_of mac e did) (notes (owner_of number mac mode) e past) (t.log e)
    by_seen e (Ok (Plain frame)) = unlogged (deeds.log_of mac e did) (notes (owner_of number mac mode) e past) (t.log e)
    by_seen e (Ok (Tagged frame)) = by_egress e
      where
        one : (e : Egress) (passed : Bool) → deeds.log_of mac e did ++ noted_if passed (key_of frame) (at_least did at)
            ≡ oldest_first (cons_option (note_if passed (Some (key_of frame)) (max (now past) at) copy.probe) (notes (owner_of number mac mode) e past))
        one e passed = logged passed (key_of frame) (at_least did at) (max (now past) at) copy.probe (deeds.log_of mac e did) (notes (owner_of number mac mode) e past) (ap (λ m. max m at) t.moment) (t.log e)

        by_egress : (e : Egress) → deeds.log_of mac e did ++ noted_if (deeds.passed (verdict_of (verdict_as wants passes) None) e) (key_of frame) (at_least did at)
            ≡ oldest_first (cons_option (note_if (is_noted (box_judged (verdict_of (verdict_as wants passes) None)) e) (Some (key_of frame)) (max (now past) at) copy.probe) (notes (owner_of number mac mode) e past))
        by_egress up = one up passes.up
        by_egress a = one a passes.a
        by_egress b = one b passes.b
        by_egress c = one c passes.c
        by_egress d = one d false

-- what is plain on the interlink goes to no fourth port, and gets a number for its source, or none
record IsLocal (src : List ℕ) (h : Handling) : Type 0 where
  no_d : h.wants.exits.d ≡ false
  has_number : Bool
  source : h.source ≡ cond has_number (Some src) None

is-local : (mac : List ℕ) (known : List ℕ → Bool) (frame : Fields) → IsLocal frame.src (handling_plain mac known frame)
is-local mac known frame = by_case (is_same_address frame.src mac) (is_same_address frame.dst mac) (known frame.dst) (is_group frame.dst)
  where
    by_case : (p q r s : Bool) → IsLocal frame.src
        (if p then unnumbered (nowhere cause.Returned) else (if q then unnumbered (to (up ∷ [])) else (if r then unnumbered (nowhere cause.Local)
        else (if s then numbered frame.src (to (up ∷ a ∷ b ∷ [])) else numbered frame.src (to (a ∷ b ∷ []))))))
    by_case true q r s = record { no_d = refl; has_number = false; source = refl }
    by_case false true r s = record { no_d = refl; has_number = false; source = refl }
    by_case false false true s = record { no_d = refl; has_number = false; source = refl }
    by_case false false false true = record { no_d = refl; has_number = true; source = refl }
    by_case false false false false = record { no_d = refl; has_number = true; source = refl }

interlink-tells : (number : ℕ) (mac : List ℕ) (mode : Mode) (did : List Deed) (past : List Entry) (worker at port seq : ℕ) (copy : Carried) (known : List ℕ → Bool)
    → box_port port ≡ Some I → Tells number mac mode did past
    → let h = handling_interlink mac known (classified copy.octets) in
    Tells number mac mode (done did (at_least did at) (judged_interlink (classified copy.octets) h seq))
    (record { worker = worker; at = at; event = Arrive port copy; outcome = box_judged (linked h seq) } ∷ past)
interlink-tells number mac mode did past worker at port seq copy known is_i t =
    let h = handling_interlink mac known (classified copy.octets) in
    record {
      moment = ap (λ m. max m at) t.moment;
      steps = ap (λ n. n + 1) t.steps;
      numbered = ap₂ (λ p n. if p then n + 1 else n) (is-numbered h.source seq) t.numbered;
      log = λ e. by_seen e (classified copy.octets);
      sources = reverse-append (deeds.sources_of mac did) (source_in mac (at_least did at) (classified copy.octets))
          ∙ ap₂ (λ (xs ys : List (List ℕ × ℕ)). xs ++ ys) (heard-same (classified copy.octets)) t.sources
          ∙ ap (λ (found : Option BoxPort). source_at found mac (max (now past) at) (classified copy.octets) ++ heard (place.RedBox mac mode) past) (sym is_i);
      hearing = silent (deeds.hearings_of mac did) ∙ t.hearing
          ∙ ap (λ (found : Option BoxPort). hearing_by (Some mac) (ring_of found) (max (now past) at) (classified copy.octets) ++ hearings (place.RedBox mac mode) past) (sym is_i);
      counters = ap (λ (k : Counters). counts_plus k (linked h seq).cause (linked h seq).up (deeds.copies_of (linked h seq)) false) t.counters ∙ counted-same mac mode past worker at port copy (linked h seq) false unreadable;
    }
  where
    heard-same : (seen : Result Seen FrameFault) → reverse (source_in mac (at_least did at) seen) ≡ source_in mac (max (now past) at) seen
    heard-same (Err fault) = refl
    heard-same (Ok (Tagged frame)) = refl
    heard-same (Ok (Plain frame)) = by_own (is_same_address frame.src mac)
      where
        by_own : (is_own : Bool) → reverse {A = List ℕ × ℕ} (if is_own then [] else (frame.src, at_least did at) ∷ []) ≡ (if is_own then [] else (frame.src, max (now past) at) ∷ [])
        by_own true = refl
        by_own false = ap (λ (m : ℕ). (frame.src, max m at) ∷ []) t.moment

    unreadable : false ≡ is_unreadable_for (hears_at (place.RedBox mac mode) port) (classified copy.octets)
    unreadable = ap (λ (found : Option BoxPort). is_unreadable_for (if is_some_ring found then Some mac else None) (classified copy.octets)) (sym is_i)

    nothing : (e : Egress) → deeds.log_of mac e did ++ [] ≡ oldest_first (notes (owner_of number mac mode) e past)
    nothing e = unlogged (deeds.log_of mac e did) (notes (owner_of number mac mode) e past) (t.log e)

    by_seen : (e : Egress) (seen : Result Seen FrameFault) → let h = handling_interlink mac known seen in
        deeds.log_of mac e did ++ deeds.noted_by mac e (at_least did at) (judged_interlink seen h seq)
        ≡ oldest_first (cons_option (note_if (is_noted (box_judged (linked h seq)) e) (key_in seen (number_of h.source seq)) (max (now past) at) copy.probe) (notes (owner_of number mac mode) e past))
    by_seen e (Err fault) = nothing e
    by_seen up (Ok (Tagged frame)) = nothing up
    by_seen a (Ok (Tagged frame)) = nothing a
    by_seen b (Ok (Tagged frame)) = nothing b
    by_seen c (Ok (Tagged frame)) = nothing c
    by_seen d (Ok (Tagged frame)) = nothing d
    by_seen e (Ok (Plain frame)) = by_source (handling_plain mac known frame) (is-local mac known frame)
      where
        one : (e : Egress) (noted : Bool) → deeds.log_of mac e did ++ noted_if noted (record { src = frame.src; seq = seq }) (at_least did at)
            ≡ oldest_first (cons_option (note_if noted (Some (record { src = frame.src; seq = seq })) (max (now past) at) copy.probe) (notes (owner_of number mac mode) e past))
        one e noted = logged noted (record { src = frame.src; seq = seq }) (at_least did at) (max (now past) at) copy.probe (deeds.log_of mac e did) (notes (owner_of number mac mode) e past) (ap (λ m. max m at) t.moment) (t.log e)

        by_egress : (e : Egress) (wants : Wants) → wants.exits.d ≡ false
            → deeds.log_of mac e did ++ deeds.mark_if (Some frame.src) seq (has_exit (with_exit interlink wants.exits) e) (at_least did at)
            ≡ oldest_first (cons_option (note_if (is_noted (box_judged (linked (numbered frame.src wants) seq)) e) (Some (record { src = frame.src; seq = seq })) (max (now past) at) copy.probe) (notes (owner_of number mac mode) e past))
        by_egress up wants no_d = one up wants.exits.up
        by_egress a wants no_d = one a wants.exits.a
        by_egress b wants no_d = one b wants.exits.b
        by_egress c wants no_d = one c true
        by_egress d wants no_d = ap (λ p. deeds.log_of mac d did ++ noted_if p (record { src = frame.src; seq = seq }) (at_least did at)) no_d ∙ one d false

        by_number : (has_number : Bool) (wants : Wants) → wants.exits.d ≡ false → let h : Handling = record { wants = wants; source = cond has_number (Some frame.src) None } in
            deeds.log_of mac e did ++ deeds.noted_by mac e (at_least did at) (judged_interlink (Ok (Plain frame)) h seq)
            ≡ oldest_first (cons_option (note_if (is_noted (box_judged (linked h seq)) e) (key_in (Ok (Plain frame)) (number_of h.source seq)) (max (now past) at) copy.probe) (notes (owner_of number mac mode) e past))
        by_number true wants no_d = by_egress e wants no_d
        by_number false wants no_d = nothing e

        by_source : (h : Handling) → IsLocal frame.src h
            → deeds.log_of mac e did ++ deeds.noted_by mac e (at_least did at) (judged_interlink (Ok (Plain frame)) h seq)
            ≡ oldest_first (cons_option (note_if (is_noted (box_judged (linked h seq)) e) (key_in (Ok (Plain frame)) (number_of h.source seq)) (max (now past) at) copy.probe) (notes (owner_of number mac mode) e past))
        by_source h local = subst (λ (s : Option (List ℕ)). let h : Handling = record { wants = h.wants; source = s } in
            deeds.log_of mac e did ++ deeds.noted_by mac e (at_least did at) (judged_interlink (Ok (Plain frame)) h seq)
            ≡ oldest_first (cons_option (note_if (is_noted (box_judged (linked h seq)) e) (key_in (Ok (Plain frame)) (number_of h.source seq)) (max (now past) at) copy.probe) (notes (owner_of number mac mode) e past)))
            (sym local.source) (by_number local.has_number h.wants local.no_d)

-- ---- what is known

knows-same : (number : ℕ) (mac : List ℕ) (mode : Mode) (did : List Deed) (past : List Entry) (at : ℕ) → Tells number mac mode did past
    → deeds.knows_among (deeds.sources_of mac did) at ≡ knows (place.RedBox mac mode) past at Age
knows-same number mac mode did past at t =
    ap {B = List ℕ → Bool} (λ (xs : List (List ℕ × ℕ)) mac. list_any (λ h. is_same_address h.0 mac) (known at (latest_heard (λ h. h.0) xs))) t.sources

-- ---- verdicts

-- by what is known
abbrev ring_verdict : ℕ → List ℕ → Mode → List Deed → ℕ → (List ℕ → Bool) → RingPort → Result Seen FrameFault → BoxVerdict
ring_verdict capacity mac mode did at knows x seen =
    let wants = wanted mac mode knows x seen in verdict_of (verdict_as wants (passes_from capacity (λ e. deeds.log_of mac e did) wants.exits seen at)) None

ring-same : (capacity number : ℕ) (mac : List ℕ) (mode : Mode) (did : List Deed) (past : List Entry) (at next : ℕ) (knows : List ℕ → Bool) (x : RingPort) (seen : Result Seen FrameFault) → Tells number mac mode did past
    → judged_as (unnumbered (wanted mac mode knows x seen)) (passing (remembers capacity (owner_of number mac mode) past at) (wanted mac mode knows x seen).exits seen) next
    ≡ box_judged (ring_verdict capacity mac mode did at knows x seen)
ring-same capacity number mac mode did past at next knows x (Err fault) t = refl
ring-same capacity number mac mode did past at next knows x (Ok (Plain frame)) t = refl
ring-same capacity number mac mode did past at next knows x (Ok (Tagged frame)) t =
    let seen : Result Seen FrameFault = Ok (Tagged frame) in
    let wants : Wants = wanted mac mode knows x seen in
    let key = key_of frame in
    let told : Egress → Bool = λ e. log_remembers capacity (deeds.log_of mac e did) at key in
    let old : Exits = passes_from capacity (λ e. deeds.log_of mac e did) wants.exits seen at in
    let no_d = unwanted-shut wants.exits.d (told d) (wanted-d mac mode (Some knows) x seen) in
    ap (λ (p : Exits). judged_as (unnumbered wants) p next)
    (passes-same wants.exits (remembers capacity (owner_of number mac mode) past at key) told (λ e. sym (log-remembers capacity at key (deeds.log_of mac e did) (notes (owner_of number mac mode) e past) (t.log e))))
    ∙ λ i. outcome.Judged old.up (old.a ∷ old.b ∷ old.c ∷ no_d i ∷ []) None (cause_of wants old)

-- what comes from the interlink passes wherever it is wanted
local-same : (capacity number : ℕ) (mac : List ℕ) (mode : Mode) (past : List Entry) (at next : ℕ) (knows : List ℕ → Bool) (seen : Result Seen FrameFault)
    → let h = handling_interlink mac knows seen in
    judged_as h (passing (remembers capacity (owner_of number mac mode) past at) h.wants.exits seen) next ≡ box_judged (linked h next)
local-same capacity number mac mode past at next knows (Err fault) = refl
local-same capacity number mac mode past at next knows (Ok (Tagged frame)) = refl
local-same capacity number mac mode past at next knows (Ok (Plain frame)) =
    let h = handling_plain mac knows frame in
    ap (λ p. outcome.Judged h.wants.exits.up (h.wants.exits.a ∷ h.wants.exits.b ∷ h.wants.exits.c ∷ p ∷ []) (number_of h.source next) (cause_of h.wants h.wants.exits)) (is-local mac knows frame).no_d

-- ---- one event

abbrev sent_in : Answer → Result BoxSent SendFault
sent_in (deeds.sent r) = r
sent_in _ = Err Spent

abbrev lived_in : Answer → Result Life LifeFault
lived_in (deeds.lived r) = r
lived_in _ = Err refused_life.Spent

abbrev judged_in : Answer → Result BoxVerdict IsSpent
judged_in (deeds.judged r) = r
judged_in _ = Err (record {})

abbrev HeldBy : ℕ → ℕ → Machine → Machine → List Entry → Type 0
HeldBy capacity number machine = Held capacity number machine.own machine.mode

send-case : (capacity number worker at from : ℕ) (machine : Machine) (did : List Deed) (past : List Entry) (dst : List ℕ) (vlan : Option ℕ) (ethertype : ℕ) (payload : List ℕ)
    (s : Result BoxSent SendFault × Machine) (h : Handling) (refusal : Option SendFault) → IsOwn machine.own h → Tells number machine.own machine.mode did past
    → law.Kept capacity machine (deeds.sent s.0, s.1) (deeds.send_from did (at_least did at) h refusal)
    → (sent_or_refused refusal (sent_as h (next_number past)) ≡ told box_sent refused.Send s.0)
    × Stays (HeldBy capacity number machine) past (record { worker = worker; at = at; event = Send from dst vlan ethertype payload }) (told box_sent refused.Send s.0) s.1
send-case capacity number worker at from machine did past dst vlan ethertype payload s h (Some fault) own t k =
    let call : Call = record { worker = worker; at = at; event = Send from dst vlan ethertype payload } in
    answered-by box_sent refused.Send (HeldBy capacity number machine) past call (Err (refused.Send fault)) s.1 s.0 _ (ap sent_in k.0)
    (refl, record { did = did; of_past = k.1; own = k.2; mode_is = k.3; tells = t })
send-case capacity number worker at from machine did past dst vlan ethertype payload s h None own t k =
    let call : Call = record { worker = worker; at = at; event = Send from dst vlan ethertype payload } in
    let n : deeds.number_after did ≡ next_number past = ap (λ m. m % 65536) t.numbered in
    let e : Exits = h.wants.exits in
    answered-by box_sent refused.Send (HeldBy capacity number machine) past call (Ok (sent_as h (next_number past))) s.1 s.0 _ (ap sent_in k.0) (
      ap₂ (λ m p. Ok (outcome.Sent (number_of h.source m) (e.a ∷ e.b ∷ e.c ∷ p ∷ []))) (sym n) own.no_d,
      record {
        did = done did (at_least did at) (sent_frame h (deeds.number_after did));
        of_past = k.1;
        own = k.2;
        mode_is = k.3;
        tells = sent-tells number machine.own machine.mode did past worker at from (deeds.number_after did) h dst vlan ethertype payload own t;
      },
    )

life-case : (capacity number worker at : ℕ) (about : About) (machine : Machine) (did : List Deed) (past : List Entry) (s : Result Life LifeFault × Machine) (refusal : Option LifeFault) → Tells number machine.own machine.mode did past
    → law.Kept capacity machine (deeds.lived s.0, s.1) (deeds.life_from did (at_least did at) refusal)
    → (lived_or_refused past refusal ≡ told lived life_fault s.0)
    × Stays (HeldBy capacity number machine) past (record { worker = worker; at = at; event = Supervise about }) (told lived life_fault s.0) s.1
life-case capacity number worker at about machine did past s (Some fault) t k =
    let call : Call = record { worker = worker; at = at; event = Supervise about } in
    answered-by lived life_fault (HeldBy capacity number machine) past call (Err (life_fault fault)) s.1 s.0 _ (ap lived_in k.0)
    (refl, record { did = did; of_past = k.1; own = k.2; mode_is = k.3; tells = t })
life-case capacity number worker at about machine did past s None t k =
    let call : Call = record { worker = worker; at = at; event = Supervise about } in
    let n : deeds.number_after did ≡ next_number past = ap (λ m. m % 65536) t.numbered in
    let l : deeds.count_of deeds.is_life did % 65536 ≡ lives past % 65536 = ap (λ (k : Counters). k.life % 65536) t.counters in
    answered-by lived life_fault (HeldBy capacity number machine) past call (lived_or_refused past None) s.1 s.0 _ (ap lived_in k.0) (
      ap₂ (λ m k. Ok (outcome.Life m k (true ∷ true ∷ false ∷ false ∷ []))) (sym n) (sym l),
      record {
        did = done did (at_least did at) (sent_life (deeds.number_after did));
        of_past = k.1;
        own = k.2;
        mode_is = k.3;
        tells = life-tells number machine.own machine.mode did past worker at (deeds.number_after did) (deeds.count_of deeds.is_life did % 65536) about t;
      },
    )

-- what comes to a ring port is judged by what was known before
knows-ring : (mac : List ℕ) (mode : Mode) (past : List Entry) (at port : ℕ) (y : BoxPort) (copy : Carried) → box_port port ≡ Some y → is_some_ring (Some y) ≡ true
    → knows (place.RedBox mac mode) past at (Arrive port copy) ≡ knows (place.RedBox mac mode) past at Age
knows-ring mac mode past at port y copy is_y is_ring =
    ap {B = List ℕ → Bool} (λ (xs : List (List ℕ × ℕ)) m. list_any (λ h. is_same_address h.0 m) (known at (latest_heard (λ h. h.0) (xs ++ heard (place.RedBox mac mode) past))))
    (ap (λ (found : Option BoxPort). source_at found mac at (classified copy.octets)) is_y ∙ quiet y is_ring)
  where
    quiet : (y : BoxPort) → is_some_ring (Some y) ≡ true → source_at (Some y) mac at (classified copy.octets) ≡ []
    quiet A e = refl
    quiet B e = refl
    quiet I e = absurd (cc)

-- what comes from the interlink is judged by what is known once its own source is heard
knows-interlink : (number : ℕ) (mac : List ℕ) (mode : Mode) (did : List Deed) (past : List Entry) (at port : ℕ) (copy : Carried) → box_port port ≡ Some I → Tells number mac mode did past
    → deeds.knows_among (deeds.sources_of mac did ++ source_in mac at (classified copy.octets)) at ≡ knows (place.RedBox mac mode) past at (Arrive port copy)
knows-interlink number mac mode did past at port copy is_i t =
    ap {B = List ℕ → Bool} (λ (xs : List (List ℕ × ℕ)) m. list_any (λ h. is_same_address h.0 m) (known at (latest_heard (λ h. h.0) xs)))
    (reverse-append (deeds.sources_of mac did) (source_in mac at (classified copy.octets))
    ∙ ap₂ (λ (xs ys : List (List ℕ × ℕ)). xs ++ ys) (same (classified copy.octets)) t.sources
    ∙ ap (λ (found : Option BoxPort). source_at found mac at (classified copy.octets) ++ heard (place.RedBox mac mode) past) (sym is_i))
  where
    same : (seen : Result Seen FrameFault) → reverse (source_in mac at seen) ≡ source_in mac at seen
    same (Err fault) = refl
    same (Ok (Tagged frame)) = refl
    same (Ok (Plain frame)) = by_own (is_same_address frame.src mac)
      where
        by_own : (is_own : Bool) → reverse {A = List ℕ × ℕ} (if is_own then [] else (frame.src, at) ∷ []) ≡ (if is_own then [] else (frame.src, at) ∷ [])
        by_own true = refl
        by_own false = refl

ring-case : (capacity number worker at port : ℕ) (y : BoxPort) (x : RingPort) (copy : Carried) (machine : Machine) (did : List Deed) (past : List Entry) (s : Result BoxVerdict IsSpent × Machine)
    → box_port port ≡ Some y → is_some_ring (Some y) ≡ true → ring_of (Some y) ≡ Some x → Tells number machine.own machine.mode did past
    → let v = ring_verdict capacity machine.own machine.mode did (at_least did at) (deeds.knows_among (deeds.sources_of machine.own did) (at_least did at)) x (classified copy.octets) in
    law.Kept capacity machine (deeds.judged s.0, s.1) (deeds.judged (Ok v), done did (at_least did at) (judged_ring x (classified copy.octets) v))
    → let h = unnumbered (wanted machine.own machine.mode (knows (place.RedBox machine.own machine.mode) past (max (now past) at) (Arrive port copy)) x (classified copy.octets)) in
    (Ok (judged_as h (passing (remembers capacity (owner_of number machine.own machine.mode) past (max (now past) at)) h.wants.exits (classified copy.octets)) (next_number past)) ≡ told box_judged spent s.0)
    × Stays (HeldBy capacity number machine) past (record { worker = worker; at = at; event = Arrive port copy }) (told box_judged spent s.0) s.1
ring-case capacity number worker at port y x copy machine did past s is_y is_ring is_x t k =
    let call : Call = record { worker = worker; at = at; event = Arrive port copy } in
    let mac = machine.own in
    let mode = machine.mode in
    let seen = classified copy.octets in
    let old = at_least did at in
    let moment = max (now past) at in
    let m : old ≡ moment = ap (λ m. max m at) t.moment in
    let next = next_number past in
    let judged : (List ℕ → Bool) → Outcome = λ f. judged_as (unnumbered (wanted mac mode f x seen)) (passing (remembers capacity (owner_of number mac mode) past moment) (wanted mac mode f x seen).exits seen) next in
    let knew = deeds.knows_among (deeds.sources_of mac did) old in
    let wants : Wants = wanted mac mode knew x seen in
    let same : judged (knows (place.RedBox mac mode) past moment (Arrive port copy)) ≡ box_judged (ring_verdict capacity mac mode did old knew x seen)
    = ap judged (knows-ring mac mode past moment port y copy is_y is_ring)
    ∙ ring-same capacity number mac mode did past moment next (knows (place.RedBox mac mode) past moment Age) x seen t
    ∙ ap (λ (f : List ℕ → Bool). box_judged (ring_verdict capacity mac mode did moment f x seen)) (sym (knows-same number mac mode did past moment t))
    ∙ ap (λ n. box_judged (ring_verdict capacity mac mode did n (deeds.knows_among (deeds.sources_of mac did) n) x seen)) (sym m) in
    answered-by box_judged spent (HeldBy capacity number machine) past call (Ok (judged (knows (place.RedBox mac mode) past moment (Arrive port copy)))) s.1 s.0 _ (ap judged_in k.0) (
      ap (λ (o : Outcome). Ok o) same,
      record {
        did = done did old (judged_ring x seen (ring_verdict capacity mac mode did old knew x seen));
        of_past = k.1;
        own = k.2;
        mode_is = k.3;
        tells = ring-tells number mac mode did past worker at port y x copy wants (passes_from capacity (λ e. deeds.log_of mac e did) wants.exits seen old) is_y is_ring is_x t;
      },
    )

interlink-case : (capacity number worker at port : ℕ) (copy : Carried) (machine : Machine) (did : List Deed) (past : List Entry) (s : Result BoxVerdict IsSpent × Machine)
    → box_port port ≡ Some I → Tells number machine.own machine.mode did past
    → law.Kept capacity machine (deeds.judged s.0, s.1) (deeds.arrive_from capacity machine.own machine.mode did (at_least did at) I (classified copy.octets) false)
    → let h = handling_interlink machine.own (knows (place.RedBox machine.own machine.mode) past (max (now past) at) (Arrive port copy)) (classified copy.octets) in
    (Ok (judged_as h (passing (remembers capacity (owner_of number machine.own machine.mode) past (max (now past) at)) h.wants.exits (classified copy.octets)) (next_number past)) ≡ told box_judged spent s.0)
    × Stays (HeldBy capacity number machine) past (record { worker = worker; at = at; event = Arrive port copy }) (told box_judged spent s.0) s.1
interlink-case capacity number worker at port copy machine did past s is_i t k =
    let call : Call = record { worker = worker; at = at; event = Arrive port copy } in
    let mac = machine.own in
    let mode = machine.mode in
    let seen = classified copy.octets in
    let old = at_least did at in
    let moment = max (now past) at in
    let m : old ≡ moment = ap (λ m. max m at) t.moment in
    let next = next_number past in
    let n : deeds.number_after did ≡ next = ap (λ m. m % 65536) t.numbered in
    let known_at : ℕ → List ℕ → Bool = λ n. deeds.knows_among (deeds.sources_of mac did ++ source_in mac n seen) n in
    let knew = known_at old in
    let knowing = knows (place.RedBox mac mode) past moment (Arrive port copy) in
    let h : (List ℕ → Bool) → Handling = λ f. handling_interlink mac f seen in
    let same : judged_as (h knowing) (passing (remembers capacity (owner_of number mac mode) past moment) (h knowing).wants.exits seen) next ≡ box_judged (linked (h knew) (deeds.number_after did))
    = local-same capacity number mac mode past moment next knowing seen
    ∙ ap (λ (f : List ℕ → Bool). box_judged (linked (h f) next)) (sym (knows-interlink number mac mode did past moment port copy is_i t))
    ∙ ap₂ (λ n q. box_judged (linked (h (known_at n)) q)) (sym m) (sym n) in
    answered-by box_judged spent (HeldBy capacity number machine) past call (Ok (judged_as (h knowing) (passing (remembers capacity (owner_of number mac mode) past moment) (h knowing).wants.exits seen) next)) s.1 s.0 _ (ap judged_in k.0) (
      ap (λ (o : Outcome). Ok o) same,
      record {
        did = done did old (judged_interlink seen (h knew) (deeds.number_after did));
        of_past = k.1;
        own = k.2;
        mode_is = k.3;
        tells = interlink-tells number mac mode did past worker at port (deeds.number_after did) copy knew is_i t;
      },
    )

arrive-case : (capacity number worker at port : ℕ) (y : BoxPort) (copy : Carried) (machine : Machine) (did : List Deed) (past : List Entry) (s : Result BoxVerdict IsSpent × Machine) (is_spent : Bool)
    → box_port port ≡ Some y → Tells number machine.own machine.mode did past
    → law.Kept capacity machine (deeds.judged s.0, s.1) (deeds.arrive_from capacity machine.own machine.mode did (at_least did at) y (classified copy.octets) is_spent)
    → let h = box_handling machine.own machine.mode (knows (place.RedBox machine.own machine.mode) past (max (now past) at) (Arrive port copy)) y (classified copy.octets) in
    ((if is_spent then Err refused.Spent
    else Ok (judged_as h (passing (remembers capacity (owner_of number machine.own machine.mode) past (max (now past) at)) h.wants.exits (classified copy.octets)) (next_number past)))
    ≡ told box_judged spent s.0)
    × Stays (HeldBy capacity number machine) past (record { worker = worker; at = at; event = Arrive port copy }) (told box_judged spent s.0) s.1
arrive-case capacity number worker at port y copy machine did past s true is_y t k =
    let call : Call = record { worker = worker; at = at; event = Arrive port copy } in
    answered-by box_judged spent (HeldBy capacity number machine) past call (Err refused.Spent) s.1 s.0 _ (ap judged_in k.0)
    (refl, record { did = did; of_past = k.1; own = k.2; mode_is = k.3; tells = t })
arrive-case capacity number worker at port A copy machine did past s false is_y t k = ring-case capacity number worker at port A ring.A copy machine did past s is_y refl refl t k
arrive-case capacity number worker at port B copy machine did past s false is_y t k = ring-case capacity number worker at port B ring.B copy machine did past s is_y refl refl t k
arrive-case capacity number worker at port I copy machine did past s false is_y t k = interlink-case capacity number worker at port copy machine did past s is_y t k

pub redbox-keeps : (capacity number : ℕ) (machine : Machine) (did : List Deed) (past : List Entry) (worker at : ℕ) (event : Event)
    → IsPastOf capacity machine did → Tells number machine.own machine.mode did past
    → Keeps capacity (owner_of number machine.own machine.mode) (HeldBy capacity number machine) past (record { worker = worker; at = at; event = event }) (redbox_step capacity machine at event)
unfolding redbox_step
redbox-keeps capacity number machine did past worker at (Send from dst vlan ethertype payload) r t = by_source (from == 0)
  where
    by_source : (is_own : Bool)
        → (send_answer capacity (owner_of number machine.own machine.mode) past (max (now past) at) (if is_own then Some machine.own else None) dst ethertype (length payload)
        ≡ (if is_own then redbox_send capacity machine at dst ethertype (length payload) else wrong machine).0)
        × Stays (HeldBy capacity number machine) past (record { worker = worker; at = at; event = Send from dst vlan ethertype payload })
        (if is_own then redbox_send capacity machine at dst ethertype (length payload) else wrong machine).0
        (if is_own then redbox_send capacity machine at dst ethertype (length payload) else wrong machine).1
    by_source true =
        let knowing = knows (place.RedBox machine.own machine.mode) past (max (now past) at) Age in
        let m : at_least did at ≡ max (now past) at = ap (λ m. max m at) t.moment in
        let knew : deeds.knows_among (deeds.sources_of machine.own did) (at_least did at) ≡ knowing
        = ap {B = List ℕ → Bool} (λ n. deeds.knows_among (deeds.sources_of machine.own did) n) m ∙ knows-same number machine.own machine.mode did past (max (now past) at) t in
        let s = send_step capacity machine at dst ethertype (length payload) in
        send-case capacity number worker at from machine did past dst vlan ethertype payload s (handling_send machine.own knowing dst ethertype) (send_refusal machine.own (steps past) dst ethertype (length payload))
        (is-own machine.own knowing dst ethertype) t
        (subst (λ (f : List ℕ → Bool). law.Kept capacity machine (deeds.sent s.0, s.1) (deeds.send_from did (at_least did at) (handling_send machine.own f dst ethertype) (send_refusal machine.own (steps past) dst ethertype (length payload)))) knew
        (subst (λ n. law.Kept capacity machine (deeds.sent s.0, s.1) (deeds.send_from did (at_least did at) (handling_send machine.own (deeds.knows_among (deeds.sources_of machine.own did) (at_least did at)) dst ethertype) (send_refusal machine.own n dst ethertype (length payload)))) t.steps
        (law.kept capacity machine did (deeds.sending at dst ethertype (length payload)) r)))
    by_source false = (refl, record { did = did; of_past = r; own = refl; mode_is = refl; tells = t })
redbox-keeps capacity number machine did past worker at (Supervise about) r t =
    let knowing = knows (place.RedBox machine.own machine.mode) past (max (now past) at) Age in
    let m : at_least did at ≡ max (now past) at = ap (λ m. max m at) t.moment in
    let knew : deeds.knows_among (deeds.sources_of machine.own did) (at_least did at) ≡ knowing
    = ap {B = List ℕ → Bool} (λ n. deeds.knows_among (deeds.sources_of machine.own did) n) m ∙ knows-same number machine.own machine.mode did past (max (now past) at) t in
    let s = life_step capacity machine at about in
    life-case capacity number worker at about machine did past s (life_refusal knowing (steps past) about) t
    (subst (λ (f : List ℕ → Bool). law.Kept capacity machine (deeds.lived s.0, s.1) (deeds.life_from did (at_least did at) (life_refusal f (steps past) about))) knew
    (subst (λ n. law.Kept capacity machine (deeds.lived s.0, s.1) (deeds.life_from did (at_least did at) (life_refusal (deeds.knows_among (deeds.sources_of machine.own did) (at_least did at)) n about))) t.steps
    (law.kept capacity machine did (deeds.supervising at about) r)))
redbox-keeps capacity number machine did past worker at (Arrive port copy) r t = by_port (box_port port) refl
  where
    by_port : (found : Option BoxPort) → box_port port ≡ found
        → (arrive_answer capacity (owner_of number machine.own machine.mode) past (max (now past) at)
        (option_map (λ y. box_handling machine.own machine.mode (knows (place.RedBox machine.own machine.mode) past (max (now past) at) (Arrive port copy)) y (classified copy.octets)) found) (classified copy.octets)
        ≡ (redbox_arrive capacity machine at found copy.octets).0)
        × Stays (HeldBy capacity number machine) past (record { worker = worker; at = at; event = Arrive port copy }) (redbox_arrive capacity machine at found copy.octets).0 (redbox_arrive capacity machine at found copy.octets).1
    by_port None e = (refl, record { did = did; of_past = r; own = refl; mode_is = refl; tells = t })
    by_port (Some y) e =
        let s = arrive_step capacity machine at y copy.octets in
        arrive-case capacity number worker at port y copy machine did past s (steps past == 2 ^ 62) e t
        (subst (λ n. law.Kept capacity machine (deeds.judged s.0, s.1) (deeds.arrive_from capacity machine.own machine.mode did (at_least did at) y (classified copy.octets) (n == 2 ^ 62))) t.steps
        (law.kept capacity machine did (deeds.arriving at y copy.octets) r))
redbox-keeps capacity number machine did past worker at Age r t =
    let k = law.kept capacity machine did (deeds.ageing at) r in
    (refl, record { did = done did (at_least did at) gave_up; of_past = k.1; own = k.2; mode_is = k.3; tells = aged-tells number machine.own machine.mode did past worker at t })

-- ---- any RedBox

pub begins-held : (capacity number : ℕ) (mac : List ℕ) (mode : Mode) → Held capacity number mac mode (new_machine mac mode) []
begins-held capacity number mac mode = record {
  did = [];
  of_past = begins capacity mac mode;
  own = refl;
  mode_is = refl;
  tells = record { moment = refl; steps = refl; numbered = refl; log = λ e. refl; sources = refl; hearing = refl; counters = refl };
}

pub counters-held : (capacity number : ℕ) (mac : List ℕ) (mode : Mode) (machine : Machine) (past : List Entry) → Held capacity number mac mode machine past
    → machine.counters ≡ counters (place.RedBox mac mode) past
counters-held capacity number mac mode machine past h =
    h.of_past.counters ∙ ap (λ (own : List ℕ). deeds.counters_of own h.did) h.own ∙ h.tells.counters

pub keeps-held : (capacity number : ℕ) (mac : List ℕ) (mode : Mode) (machine : Machine) (past : List Entry) (worker at : ℕ) (event : Event) → Held capacity number mac mode machine past
    → Keeps capacity (owner_of number mac mode) (Held capacity number mac mode) past (record { worker = worker; at = at; event = event }) (redbox_step capacity machine at event)
keeps-held capacity number mac mode machine past worker at event h =
    subst (λ (m : List ℕ). Keeps capacity (owner_of number m mode) (Held capacity number m mode) past (record { worker = worker; at = at; event = event }) (redbox_step capacity machine at event)) h.own
    (subst (λ (n : Mode). Keeps capacity (owner_of number machine.own n) (Held capacity number machine.own n) past (record { worker = worker; at = at; event = event }) (redbox_step capacity machine at event)) h.mode_is
    (redbox-keeps capacity number machine h.did past worker at event h.of_past
    (subst (λ (m : List ℕ). Tells number m machine.mode h.did past) (sym h.own) (subst (λ (n : Mode). Tells number mac n h.did past) (sym h.mode_is) h.tells))))
