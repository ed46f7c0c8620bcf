-- A DANH answers as its record does.
use Rattle.std.proofs.Common.{◌≡◌, ℕ, ◌+◌, ◌%◌, ◌^◌, ◌==◌, Bool, true, false, if◌then◌else◌, List, [], ◌∷◌, ◌++◌, length, reverse, Option, Some, None, Result, Ok, Err, refl, sym, ap, ap₂, subst, ◌∙◌, arith, add-zero}
use Rattle.std.specs.Prelude.{max, is_some, option_map}
use Rattle.std.specs.List.{cons_option}
use Rattle.std.proofs.lemmas.List.{reverse-append}
use Rattle.hsr_frame.specs.Counters.{bit}
use Rattle.hsr_frame.specs.Egress.{Egress, up, a, b, c, d, cause_of}
use Rattle.hsr_frame.specs.Send.{send_refusal}
use Rattle.hsr_frame.specs.declared.counters.Counters.{Counters}
use Rattle.hsr_frame.specs.declared.egress.Exits.{Exits}
use Rattle.hsr_frame.specs.declared.egress.Wants.{Wants}
use Rattle.hsr_frame.specs.declared.fault.FrameFault.{FrameFault}
use Rattle.hsr_frame.specs.declared.fault.SendFault.{SendFault}
use Rattle.hsr_frame.specs.declared.fault.SendFault.TheVariants.{Spent}
use Rattle.hsr_frame.specs.declared.fault.Spent.{Spent as IsSpent}
use Rattle.hsr_frame.specs.declared.node.Life.{Life}
use Rattle.hsr_frame.specs.declared.node.Mode.{Mode}
use Rattle.hsr_frame.specs.declared.node.RingPort.{RingPort}
use Rattle.hsr_tag.specs.Seen.{classified, is_told, payload_in}
use Rattle.hsr_tag.specs.declared.seen.Seen.{Seen}
use Rattle.hsr_tag.specs.declared.seen.Seen.TheVariants.{Plain, Tagged}
use Rattle.hsr_duptable.specs.Key.{Key}
use Rattle.hsr_duptable.specs.Notes.{note_if as noted_if}
use Rattle.hsr_supervision.specs.Payload.{read_of}
use Rattle.hsr_tables.specs.Nodes.{Hearing}
use Rattle.hsr_danh.specs.Machine.{Machine, new_machine}
use Rattle.hsr_danh.specs.Past as deeds
use Rattle.hsr_danh.specs.Past.{Answer, Deed, done, gave_up, judged_frame, sent_frame, sent_life}
use Rattle.hsr_forwarding.specs.Arrival.{key_of}
use Rattle.hsr_forwarding.specs.Past.{log_remembers, passes_from}
use Rattle.hsr_forwarding.proofs.Counts.{counts_plus}
use Rattle.hsr_forwarding.proofs.Keeping.{passes-same, unwanted-shut}
use Rattle.hsr_forwarding.proofs.Wants.{wanted-c, wanted-d}
use Rattle.hsr_danh.specs.Step.{arrive_step, life_step, send_step}
use Rattle.hsr_danh.specs.Wanted.{wanted}
use Rattle.hsr_danh.specs.declared.danh.Sent.{Sent as DanhSent}
use Rattle.hsr_danh.specs.declared.danh.Verdict.{Verdict}
use Rattle.hsr_danh.proofs.PastLaw.{IsPastOf, begins}
use Rattle.hsr_danh.proofs.PastLaw as law
use Rattle.hsr_redbox.specs.Wanted.{unnumbered}
use Rattle.hsr_frame.specs.declared.node.About.{About}
use Rattle.hsr_frame.specs.declared.node.About.TheVariants.{Own, Proxied}
use Rattle.hsr_node.specs.Counts.{copies, counters, hears_at, is_unreadable_for}
use Rattle.hsr_node.specs.Record.{Owner, arrive_answer, count_of, hearing_by, hearings, is_noted, judged_as, key_in, lived_or_refused, lives, next_number, note_if, notes, now, number_in, oldest_first, passing, remembers, send_answer, sent_or_refused, steps, sum_of}
use Rattle.hsr_node.specs.Step.{danh_arrive, danh_judged, danh_send, danh_sent, danh_step, lived, ring_port, spent, told, wrong}
use Rattle.hsr_node.specs.declared.entry.Entry.{Entry}
use Rattle.hsr_node.specs.declared.event.Carried.{Carried}
use Rattle.hsr_node.specs.declared.event.Event.{Event}
use Rattle.hsr_node.specs.declared.event.Event.TheVariants.{Send, Supervise, Arrive, Age}
use Rattle.hsr_node.specs.declared.event.Outcome.{Outcome}
use Rattle.hsr_node.specs.declared.event.Outcome.TheVariants as outcome
use Rattle.hsr_node.specs.declared.event.StepFault.TheVariants as refused
use Rattle.hsr_node.specs.declared.place.Place.TheVariants as place
use Rattle.hsr_node.proofs.Remembering.{log-remembers}
use Rattle.hsr_node.proofs.Told.{Call, Keeps, Stays, answered-by, heard-same, logged, silent, unlogged}

abbrev owner_of : ℕ → List ℕ → Mode → Owner
owner_of number mac mode = record { number = number; place = place.Danh mac mode }

-- deeds and a record tell the same
pub record Tells (number : ℕ) (mac : List ℕ) (mode : Mode) (did : List Deed) (past : List Entry) : Type 0 where
  pub moment : deeds.moment_of did ≡ now past
  pub steps : deeds.count_of deeds.is_step did ≡ steps past
  pub numbered : deeds.count_of deeds.is_numbered did ≡ count_of (λ x. is_some (number_in x.outcome)) past
  pub log : (e : Egress) → deeds.log_of mac e did ≡ oldest_first (notes (owner_of number mac mode) e past)
  pub heard : reverse (deeds.hearings_of mac did) ≡ hearings (place.Danh mac mode) past
  pub counters : deeds.counters_of mac did ≡ counters (place.Danh mac mode) past

-- what a machine holds is told by a record
pub record Held (capacity number : ℕ) (mac : List ℕ) (mode : Mode) (machine : Machine) (past : List Entry) : Type 0 where
  pub did : List Deed
  pub of_past : IsPastOf capacity machine did
  pub own : machine.own ≡ mac
  pub mode_is : machine.mode ≡ mode
  pub tells : Tells number mac mode did past

-- ---- a frame of the node's own

-- one that leaves by both ports with the next number
sent-tells : (number : ℕ) (mac : List ℕ) (mode : Mode) (did : List Deed) (past : List Entry) (worker at from seq : ℕ) (dst : List ℕ) (vlan : Option ℕ) (ethertype : ℕ) (payload : List ℕ)
    → Tells number mac mode did past
    → Tells number mac mode (done did at (sent_frame seq))
    (record { worker = worker; at = at; event = Send from dst vlan ethertype payload; outcome = outcome.Sent (Some seq) (true ∷ true ∷ false ∷ false ∷ []) } ∷ past)
sent-tells number mac mode did past worker at from seq dst vlan ethertype payload t = record {
  moment = ap (λ m. max m at) t.moment;
  steps = ap (λ n. n + 1) t.steps;
  numbered = ap (λ n. n + 1) t.numbered;
  log = by_egress;
  heard = silent (deeds.hearings_of mac did) ∙ t.heard;
  counters = λ i. let k : Counters = t.counters i in record k { sent = k.sent + 1; forwarded = forwards i };
}
  where
    key : Key
    key = record { src = mac; seq = seq }

    by_egress : (e : Egress) → deeds.log_of mac e (done did at (sent_frame seq))
        ≡ oldest_first (notes (owner_of number mac mode) e (record { worker = worker; at = at; event = Send from dst vlan ethertype payload; outcome = outcome.Sent (Some seq) (true ∷ true ∷ false ∷ false ∷ []) } ∷ past))
    by_egress up = unlogged (deeds.log_of mac up did) (notes (owner_of number mac mode) up past) (t.log up)
    by_egress a = logged true key (max (deeds.moment_of did) at) (max (now past) at) (Some (record { node = number; place = length past })) (deeds.log_of mac a did) (notes (owner_of number mac mode) a past) (ap (λ m. max m at) t.moment) (t.log a)
    by_egress b = logged true key (max (deeds.moment_of did) at) (max (now past) at) (Some (record { node = number; place = length past })) (deeds.log_of mac b did) (notes (owner_of number mac mode) b past) (ap (λ m. max m at) t.moment) (t.log b)
    by_egress c = unlogged (deeds.log_of mac c did) (notes (owner_of number mac mode) c past) (t.log c)
    by_egress d = unlogged (deeds.log_of mac d did) (notes (owner_of number mac mode) d past) (t.log d)

    forwards : (deeds.counters_of mac did).forwarded ≡ sum_of (λ x. copies x.outcome) past + 0
    forwards = ap (λ (k : Counters). k.forwarded) t.counters ∙ sym (add-zero (sum_of (λ x. copies x.outcome) past))

life-tells : (number : ℕ) (mac : List ℕ) (mode : Mode) (did : List Deed) (past : List Entry) (worker at seq life : ℕ) (about : About)
    → Tells number mac mode did past
    → Tells number mac mode (done did at (sent_life seq))
    (record { worker = worker; at = at; event = Supervise about; outcome = outcome.Life seq life (true ∷ true ∷ false ∷ false ∷ []) } ∷ past)
life-tells number mac mode did past worker at seq life about t = record {
  moment = ap (λ m. max m at) t.moment;
  steps = ap (λ n. n + 1) t.steps;
  numbered = ap (λ n. n + 1) t.numbered;
  log = by_egress;
  heard = silent (deeds.hearings_of mac did) ∙ t.heard;
  counters = λ i. let k : Counters = t.counters i in record k { life = k.life + 1; forwarded = forwards i };
}
  where
    key : Key
    key = record { src = mac; seq = seq }

    by_egress : (e : Egress) → deeds.log_of mac e (done did at (sent_life seq))
        ≡ oldest_first (notes (owner_of number mac mode) e (record { worker = worker; at = at; event = Supervise about; outcome = outcome.Life seq life (true ∷ true ∷ false ∷ false ∷ []) } ∷ past))
    by_egress up = unlogged (deeds.log_of mac up did) (notes (owner_of number mac mode) up past) (t.log up)
    by_egress a = logged true key (max (deeds.moment_of did) at) (max (now past) at) (Some (record { node = number; place = length past })) (deeds.log_of mac a did) (notes (owner_of number mac mode) a past) (ap (λ m. max m at) t.moment) (t.log a)
    by_egress b = logged true key (max (deeds.moment_of did) at) (max (now past) at) (Some (record { node = number; place = length past })) (deeds.log_of mac b did) (notes (owner_of number mac mode) b past) (ap (λ m. max m at) t.moment) (t.log b)
    by_egress c = unlogged (deeds.log_of mac c did) (notes (owner_of number mac mode) c past) (t.log c)
    by_egress d = unlogged (deeds.log_of mac d did) (notes (owner_of number mac mode) d past) (t.log d)

    forwards : (deeds.counters_of mac did).forwarded ≡ sum_of (λ x. copies x.outcome) past + 0
    forwards = ap (λ (k : Counters). k.forwarded) t.counters ∙ sym (add-zero (sum_of (λ x. copies x.outcome) past))

aged-tells : (number : ℕ) (mac : List ℕ) (mode : Mode) (did : List Deed) (past : List Entry) (worker at : ℕ)
    → Tells number mac mode did past
    → Tells number mac mode (done did at gave_up) (record { worker = worker; at = at; event = Age; outcome = outcome.Aged } ∷ past)
aged-tells number mac mode did past worker at t = record {
  moment = ap (λ m. max m at) t.moment;
  steps = t.steps;
  numbered = t.numbered;
  log = λ e. unlogged (deeds.log_of mac e did) (notes (owner_of number mac mode) e past) (t.log e);
  heard = silent (deeds.hearings_of mac did) ∙ t.heard;
  counters = λ i. let k : Counters = t.counters i in record k { forwarded = forwards i };
}
  where
    forwards : (deeds.counters_of mac did).forwarded ≡ sum_of (λ x. copies x.outcome) past + 0
    forwards = ap (λ (k : Counters). k.forwarded) t.counters ∙ sym (add-zero (sum_of (λ x. copies x.outcome) past))

-- ---- an arrival

forwards-two : (p q : Bool) (m n s : ℕ) → m + n ≡ s → (if p then m + 1 else m) + (if q then n + 1 else n) ≡ s + (bit p + bit q + bit false + bit false)
forwards-two true true m n s e = omega arith
forwards-two true false m n s e = omega arith
forwards-two false true m n s e = omega arith
forwards-two false false m n s e = omega arith

abbrev arrival : ℕ → ℕ → ℕ → Carried → Verdict → Entry
arrival worker at port copy v = record { worker = worker; at = at; event = Arrive port copy; outcome = danh_judged v }

judged-tells : (number : ℕ) (mac : List ℕ) (mode : Mode) (did : List Deed) (past : List Entry) (worker at port : ℕ) (x : RingPort) (copy : Carried) (v : Verdict)
    → ring_port port ≡ Some x → Tells number mac mode did past
    → Tells number mac mode (done did at (judged_frame x (classified copy.octets) v)) (arrival worker at port copy v ∷ past)
judged-tells number mac mode did past worker at port x copy v is_x t = record {
  moment = ap (λ m. max m at) t.moment;
  steps = ap (λ n. n + 1) t.steps;
  numbered = t.numbered;
  log = λ e. by_seen e (classified copy.octets);
  heard = reverse-append (deeds.hearings_of mac did) (deeds.heard_by mac (max (deeds.moment_of did) at) (judged_frame x (classified copy.octets) v))
      ∙ ap₂ (λ (xs ys : List Hearing). xs ++ ys)
      (heard-same x (max (deeds.moment_of did) at) (max (now past) at) (is_told mac (classified copy.octets)) (read_of (payload_in (classified copy.octets))) (ap (λ m. max m at) t.moment)) t.heard
      ∙ ap (λ (found : Option RingPort). hearing_by (Some mac) found (max (now past) at) (classified copy.octets) ++ hearings (place.Danh mac mode) past) (sym is_x);
  counters = λ i. record (counts_plus (t.counters i) v.cause v.up (copies (danh_judged v)) (unreadable i)) { forwarded = forwards i };
}
  where
    forwards : (deeds.counters_of mac (done did at (judged_frame x (classified copy.octets) v))).forwarded ≡ sum_of (λ x. copies x.outcome) (arrival worker at port copy v ∷ past)
    forwards = forwards-two v.a v.b (deeds.count_of (deeds.has (λ v. v.a)) did) (deeds.count_of (deeds.has (λ v. v.b)) did) (sum_of (λ x. copies x.outcome) past) (ap (λ (k : Counters). k.forwarded) t.counters)

    unreadable : deeds.is_unreadable mac (judged_frame x (classified copy.octets) v) ≡ is_unreadable_for (hears_at (place.Danh mac mode) port) (classified copy.octets)
    unreadable = λ i. is_unreadable_for (option_map (λ (x : RingPort). mac) (sym is_x i)) (classified copy.octets)

    by_seen : (e : Egress) (seen : Result Seen FrameFault)
        → deeds.log_of mac e did ++ deeds.noted_by mac e (max (deeds.moment_of did) at) (judged_frame x seen v)
        ≡ oldest_first (cons_option (note_if (is_noted (danh_judged v) e) (key_in seen None) (max (now past) at) copy.probe) (notes (owner_of number mac mode) e past))
    by_seen e (Err fault) = unlogged (deeds.log_of mac e did) (notes (owner_of number mac mode) e past) (t.log e)
    by_seen e (Ok (Plain frame)) = unlogged (deeds.log_of mac e did) (notes (owner_of number mac mode) e past) (t.log e)
    by_seen e (Ok (Tagged frame)) = by_egress e
      where
        one : (e : Egress) (passed : Bool) → deeds.log_of mac e did ++ noted_if passed (key_of frame) (max (deeds.moment_of did) at)
            ≡ oldest_first (cons_option (note_if passed (Some (key_of frame)) (max (now past) at) copy.probe) (notes (owner_of number mac mode) e past))
        one e passed = logged passed (key_of frame) (max (deeds.moment_of did) at) (max (now past) at) copy.probe (deeds.log_of mac e did) (notes (owner_of number mac mode) e past) (ap (λ m. max m at) t.moment) (t.log e)

        by_egress : (e : Egress) → deeds.log_of mac e did ++ noted_if (deeds.passed v e) (key_of frame) (max (deeds.moment_of did) at)
            ≡ oldest_first (cons_option (note_if (is_noted (danh_judged v) e) (Some (key_of frame)) (max (now past) at) copy.probe) (notes (owner_of number mac mode) e past))
        by_egress up = one up v.up
        by_egress a = one a v.a
        by_egress b = one b v.b
        by_egress c = one c false
        by_egress d = one d false

-- ---- the verdict

verdict-same : (capacity number : ℕ) (mac : List ℕ) (mode : Mode) (did : List Deed) (past : List Entry) (at next : ℕ) (x : RingPort) (seen : Result Seen FrameFault) → Tells number mac mode did past
    → judged_as (unnumbered (wanted mac mode x seen)) (passing (remembers capacity (owner_of number mac mode) past at) (wanted mac mode x seen).exits seen) next
    ≡ danh_judged (deeds.verdict_from capacity mac mode did at x seen)
verdict-same capacity number mac mode did past at next x (Err fault) t = refl
verdict-same capacity number mac mode did past at next x (Ok (Plain frame)) t = refl
verdict-same capacity number mac mode did past at next x (Ok (Tagged frame)) t =
    let seen : Result Seen FrameFault = Ok (Tagged frame) in
    let wants : Wants = wanted mac mode x seen in
    let key = key_of frame in
    let told : Egress → Bool = λ e. log_remembers capacity (deeds.log_of mac e did) at key in
    let old : Exits = passes_from capacity (λ e. deeds.log_of mac e did) wants.exits seen at in
    let no_c = unwanted-shut wants.exits.c (told c) (wanted-c mac mode x seen) in
    let no_d = unwanted-shut wants.exits.d (told d) (wanted-d mac mode None x seen) in
    ap (λ (p : Exits). judged_as (unnumbered wants) p next)
    (passes-same wants.exits (remembers capacity (owner_of number mac mode) past at key) told (λ e. sym (log-remembers capacity at key (deeds.log_of mac e did) (notes (owner_of number mac mode) e past) (t.log e))))
    ∙ λ i. outcome.Judged old.up (old.a ∷ old.b ∷ no_c i ∷ no_d i ∷ []) None (cause_of wants old)

-- ---- one event

abbrev sent_in : Answer → Result DanhSent SendFault
sent_in (deeds.sent r) = r
sent_in _ = Err Spent

abbrev lived_in : Answer → Result Life IsSpent
lived_in (deeds.lived r) = r
lived_in _ = Err (record {})

abbrev judged_in : Answer → Result Verdict IsSpent
judged_in (deeds.judged r) = r
judged_in _ = Err (record {})

abbrev HeldBy : ℕ → ℕ → Machine → Machine → List Entry → Type 0
HeldBy capacity number machine = Held capacity number machine.own machine.mode

send-case : (capacity number worker at from : ℕ) (machine : Machine) (did : List Deed) (past : List Entry) (dst : List ℕ) (vlan : Option ℕ) (ethertype : ℕ) (payload : List ℕ)
    (s : Result DanhSent SendFault × Machine) (refusal : Option SendFault) → Tells number machine.own machine.mode did past
    → law.Kept capacity machine (deeds.sent s.0, s.1) (deeds.send_from did at refusal)
    → (sent_or_refused refusal (outcome.Sent (Some (next_number past)) (true ∷ true ∷ false ∷ false ∷ [])) ≡ told danh_sent refused.Send s.0)
    × Stays (HeldBy capacity number machine) past (record { worker = worker; at = at; event = Send from dst vlan ethertype payload }) (told danh_sent refused.Send s.0) s.1
send-case capacity number worker at from machine did past dst vlan ethertype payload s (Some fault) t k =
    let call : Call = record { worker = worker; at = at; event = Send from dst vlan ethertype payload } in
    answered-by danh_sent refused.Send (HeldBy capacity number machine) past call (Err (refused.Send fault)) s.1 s.0 _ (ap sent_in k.0)
    (refl, record { did = did; of_past = k.1; own = k.2; mode_is = k.3; tells = t })
send-case capacity number worker at from machine did past dst vlan ethertype payload s None t k =
    let call : Call = record { worker = worker; at = at; event = Send from dst vlan ethertype payload } in
    let n : deeds.number_after did ≡ next_number past = ap (λ m. m % 65536) t.numbered in
    answered-by danh_sent refused.Send (HeldBy capacity number machine) past call (Ok (outcome.Sent (Some (next_number past)) (true ∷ true ∷ false ∷ false ∷ []))) s.1 s.0 _ (ap sent_in k.0) (
      ap (λ m. Ok (outcome.Sent (Some m) (true ∷ true ∷ false ∷ false ∷ []))) (sym n),
      record {
        did = done did at (sent_frame (deeds.number_after did));
        of_past = k.1;
        own = k.2;
        mode_is = k.3;
        tells = sent-tells number machine.own machine.mode did past worker at from (deeds.number_after did) dst vlan ethertype payload t;
      },
    )

life-case : (capacity number worker at : ℕ) (machine : Machine) (did : List Deed) (past : List Entry) (s : Result Life IsSpent × Machine) (is_spent : Bool) → Tells number machine.own machine.mode did past
    → law.Kept capacity machine (deeds.lived s.0, s.1) (deeds.life_from did at is_spent)
    → ((if is_spent then Err refused.Spent else lived_or_refused past None) ≡ told lived spent s.0)
    × Stays (HeldBy capacity number machine) past (record { worker = worker; at = at; event = Supervise Own }) (told lived spent s.0) s.1
life-case capacity number worker at machine did past s true t k =
    let call : Call = record { worker = worker; at = at; event = Supervise Own } in
    answered-by lived spent (HeldBy capacity number machine) past call (Err refused.Spent) s.1 s.0 _ (ap lived_in k.0)
    (refl, record { did = did; of_past = k.1; own = k.2; mode_is = k.3; tells = t })
life-case capacity number worker at machine did past s false t k =
    let call : Call = record { worker = worker; at = at; event = Supervise Own } in
    let n : deeds.number_after did ≡ next_number past = ap (λ m. m % 65536) t.numbered in
    let l : deeds.count_of deeds.is_life did % 65536 ≡ lives past % 65536 = ap (λ (k : Counters). k.life % 65536) t.counters in
    answered-by lived spent (HeldBy capacity number machine) past call (lived_or_refused past None) s.1 s.0 _ (ap lived_in k.0) (
      ap₂ (λ m k. Ok (outcome.Life m k (true ∷ true ∷ false ∷ false ∷ []))) (sym n) (sym l),
      record {
        did = done did at (sent_life (deeds.number_after did));
        of_past = k.1;
        own = k.2;
        mode_is = k.3;
        tells = life-tells number machine.own machine.mode did past worker at (deeds.number_after did) (deeds.count_of deeds.is_life did % 65536) Own t;
      },
    )

arrive-case : (capacity number worker at port : ℕ) (x : RingPort) (copy : Carried) (machine : Machine) (did : List Deed) (past : List Entry) (s : Result Verdict IsSpent × Machine) (is_spent : Bool)
    → ring_port port ≡ Some x → Tells number machine.own machine.mode did past
    → law.Kept capacity machine (deeds.judged s.0, s.1) (deeds.arrive_from capacity machine.own machine.mode did at x (classified copy.octets) is_spent)
    → let h = unnumbered (wanted machine.own machine.mode x (classified copy.octets)) in
    ((if is_spent then Err refused.Spent
    else Ok (judged_as h (passing (remembers capacity (owner_of number machine.own machine.mode) past (max (now past) at)) h.wants.exits (classified copy.octets)) (next_number past)))
    ≡ told danh_judged spent s.0)
    × Stays (HeldBy capacity number machine) past (record { worker = worker; at = at; event = Arrive port copy }) (told danh_judged spent s.0) s.1
arrive-case capacity number worker at port x copy machine did past s true is_x t k =
    let call : Call = record { worker = worker; at = at; event = Arrive port copy } in
    answered-by danh_judged spent (HeldBy capacity number machine) past call (Err refused.Spent) s.1 s.0 _ (ap judged_in k.0)
    (refl, record { did = did; of_past = k.1; own = k.2; mode_is = k.3; tells = t })
arrive-case capacity number worker at port x copy machine did past s false is_x t k =
    let call : Call = record { worker = worker; at = at; event = Arrive port copy } in
    let seen = classified copy.octets in
    let h = unnumbered (wanted machine.own machine.mode x seen) in
    let v : Verdict = deeds.verdict_from capacity machine.own machine.mode did (max (deeds.moment_of did) at) x seen in
    let m : max (deeds.moment_of did) at ≡ max (now past) at = ap (λ m. max m at) t.moment in
    let same = verdict-same capacity number machine.own machine.mode did past (max (now past) at) (next_number past) x seen t
    ∙ ap (λ n. danh_judged (deeds.verdict_from capacity machine.own machine.mode did n x seen)) (sym m) in
    answered-by danh_judged spent (HeldBy capacity number machine) past call (Ok (judged_as h (passing (remembers capacity (owner_of number machine.own machine.mode) past (max (now past) at)) h.wants.exits seen) (next_number past))) s.1 s.0 _ (ap judged_in k.0) (
      ap (λ (o : Outcome). Ok o) same,
      record {
        did = done did at (judged_frame x seen v);
        of_past = k.1;
        own = k.2;
        mode_is = k.3;
        tells = judged-tells number machine.own machine.mode did past worker at port x copy v is_x t;
      },
    )

pub danh-keeps : (capacity number : ℕ) (machine : Machine) (did : List Deed) (past : List Entry) (worker at : ℕ) (event : Event)
    → IsPastOf capacity machine did → Tells number machine.own machine.mode did past
    → Keeps capacity (owner_of number machine.own machine.mode) (HeldBy capacity number machine) past (record { worker = worker; at = at; event = event }) (danh_step capacity machine at event)
unfolding danh_step
danh-keeps capacity number machine did past worker at (Send from dst vlan ethertype payload) r t = by_source (from == 0)
  where
    stays : Held capacity number machine.own machine.mode machine past
    stays = record { did = did; of_past = r; own = refl; mode_is = refl; tells = t }

    by_source : (is_own : Bool)
        → (send_answer capacity (owner_of number machine.own machine.mode) past (max (now past) at) (if is_own then Some machine.own else None) dst ethertype (length payload)
        ≡ (if is_own then danh_send capacity machine at dst ethertype (length payload) else wrong machine).0)
        × Stays (HeldBy capacity number machine) past (record { worker = worker; at = at; event = Send from dst vlan ethertype payload })
        (if is_own then danh_send capacity machine at dst ethertype (length payload) else wrong machine).0
        (if is_own then danh_send capacity machine at dst ethertype (length payload) else wrong machine).1
    by_source true =
        send-case capacity number worker at from machine did past dst vlan ethertype payload (send_step capacity machine at dst ethertype (length payload)) (send_refusal machine.own (steps past) dst ethertype (length payload)) t
        (subst (λ n. law.Kept capacity machine (deeds.sent (send_step capacity machine at dst ethertype (length payload)).0, (send_step capacity machine at dst ethertype (length payload)).1) (deeds.send_from did at (send_refusal machine.own n dst ethertype (length payload)))) t.steps
        (law.kept capacity machine did (deeds.sending at dst ethertype (length payload)) r))
    by_source false = (refl, stays)
danh-keeps capacity number machine did past worker at (Supervise Own) r t =
    life-case capacity number worker at machine did past (life_step capacity machine at) (steps past == 2 ^ 62) t
    (subst (λ n. law.Kept capacity machine (deeds.lived (life_step capacity machine at).0, (life_step capacity machine at).1) (deeds.life_from did at (n == 2 ^ 62))) t.steps
    (law.kept capacity machine did (deeds.supervising at) r))
danh-keeps capacity number machine did past worker at (Supervise (Proxied mac)) r t =
    (refl, record { did = did; of_past = r; own = refl; mode_is = refl; tells = t })
danh-keeps capacity number machine did past worker at (Arrive port copy) r t = by_port (ring_port port) refl
  where
    by_port : (found : Option RingPort) → ring_port port ≡ found
        → (arrive_answer capacity (owner_of number machine.own machine.mode) past (max (now past) at) (option_map (λ x. unnumbered (wanted machine.own machine.mode x (classified copy.octets))) found) (classified copy.octets)
        ≡ (danh_arrive capacity machine at found copy.octets).0)
        × Stays (HeldBy capacity number machine) past (record { worker = worker; at = at; event = Arrive port copy }) (danh_arrive capacity machine at found copy.octets).0 (danh_arrive capacity machine at found copy.octets).1
    by_port None e = (refl, record { did = did; of_past = r; own = refl; mode_is = refl; tells = t })
    by_port (Some x) e =
        arrive-case capacity number worker at port x copy machine did past (arrive_step capacity machine at x copy.octets) (steps past == 2 ^ 62) e t
        (subst (λ n. law.Kept capacity machine (deeds.judged (arrive_step capacity machine at x copy.octets).0, (arrive_step capacity machine at x copy.octets).1)
        (deeds.arrive_from capacity machine.own machine.mode did at x (classified copy.octets) (n == 2 ^ 62))) t.steps
        (law.kept capacity machine did (deeds.arriving at x copy.octets) r))
danh-keeps capacity number machine did past worker at Age r t =
    let k = law.kept capacity machine did (deeds.ageing at) r in
    (refl, record { did = done did at gave_up; of_past = k.1; own = k.2; mode_is = k.3; tells = aged-tells number machine.own machine.mode did past worker at t })

-- ---- any DANH

pub begins-held : (capacity number : ℕ) (mac : List ℕ) (mode : Mode) → Held capacity number mac mode (new_machine mac mode) []
begins-held capacity number mac mode = record {
  did = [];
  of_past = begins capacity mac mode;
  own = refl;
  mode_is = refl;
  tells = record { moment = refl; steps = refl; numbered = refl; log = λ e. refl; heard = refl; counters = refl };
}

pub counters-held : (capacity number : ℕ) (mac : List ℕ) (mode : Mode) (machine : Machine) (past : List Entry) → Held capacity number mac mode machine past
    → machine.counters ≡ counters (place.Danh mac mode) past
counters-held capacity number mac mode machine past h =
    h.of_past.counters ∙ ap (λ (own : List ℕ). deeds.counters_of own h.did) h.own ∙ h.tells.counters

pub keeps-held : (capacity number : ℕ) (mac : List ℕ) (mode : Mode) (machine : Machine) (past : List Entry) (worker at : ℕ) (event : Event) → Held capacity number mac mode machine past
    → Keeps capacity (owner_of number mac mode) (Held capacity number mac mode) past (record { worker = worker; at = at; event = event }) (danh_step capacity machine at event)
keeps-held capacity number mac mode machine past worker at event h =
    subst (λ (m : List ℕ). Keeps capacity (owner_of number m mode) (Held capacity number m mode) past (record { worker = worker; at = at; event = event }) (danh_step capacity machine at event)) h.own
    (subst (λ (n : Mode). Keeps capacity (owner_of number machine.own n) (Held capacity number machine.own n) past (record { worker = worker; at = at; event = event }) (danh_step capacity machine at event)) h.mode_is
    (danh-keeps capacity number machine h.did past worker at event h.of_past
    (subst (λ (m : List ℕ). Tells number m machine.mode h.did past) (sym h.own) (subst (λ (n : Mode). Tells number mac n h.did past) (sym h.mode_is) h.tells))))
