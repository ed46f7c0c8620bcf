-- The stepping machine answers as its whole past.
use Rattle.std.proofs.Common.{◌≡◌, ℕ, ◌+◌, ◌%◌, ◌≤◌, ◌==◌, not, Bool, true, false, if◌then◌else◌, List, [], ◌∷◌, ◌++◌, map, Option, Some, None, Result, Ok, refl, sym, ap, ap₂, subst, ◌∙◌, arith, add-zero}
use Rattle.std.specs.Prelude.{max, fold, is_some}
use Rattle.std.specs.List.{list_any}
use Rattle.std.proofs.lemmas.List.{append-nil}
use Rattle.std.proofs.lemmas.List.Sums.{fold-append}
use Rattle.hsr_frame.specs.Address.{is_same_address}
use Rattle.hsr_frame.specs.Counters.{bit, step_limit}
use Rattle.hsr_frame.specs.Egress.{Egress, up, a, b, c, d, exits_of, with_exit, has_exit}
use Rattle.hsr_frame.specs.Send.{send_refusal}
use Rattle.hsr_frame.specs.declared.counters.Counters.{Counters}
use Rattle.hsr_frame.specs.declared.egress.Exits.{Exits}
use Rattle.hsr_frame.specs.declared.egress.Wants.{Wants}
use Rattle.hsr_frame.specs.declared.fault.FrameFault.{FrameFault}
use Rattle.hsr_frame.specs.declared.fault.SendFault.{SendFault}
use Rattle.hsr_frame.specs.declared.node.Mode.{Mode}
use Rattle.hsr_frame.specs.declared.node.RingPort.{RingPort}
use Rattle.hsr_frame.specs.declared.node.RingPort.TheVariants as ring
use Rattle.hsr_tag.specs.Seen.{classified}
use Rattle.hsr_tag.specs.declared.seen.Seen.{Seen}
use Rattle.hsr_duptable.specs.Log.{StandsFor}
use Rattle.hsr_duptable.specs.declared.note.Note.{Note}
use Rattle.hsr_tables.specs.Known.{known}
use Rattle.hsr_tables.specs.Nodes.{Nodes, heard, no_nodes}
use Rattle.hsr_tables.specs.Proxies.{Proxies, is_known, learned, no_proxies}
use Rattle.hsr_tables.proofs.NodeLaws.{rows_of_latest}
use Rattle.hsr_tables.proofs.ProxyLaws.{knows_latest}
use Rattle.hsr_forwarding.specs.Arrival.{heard_of}
use Rattle.hsr_forwarding.specs.Numbers.{number_range}
use Rattle.hsr_forwarding.specs.Past.{answers_of, is_bad_life, note_of, passes_from}
use Rattle.hsr_forwarding.specs.Tables.{AreWithin, Notes, aged, copies_of, counted_with, judged, judged_as, table_of}
use Rattle.hsr_forwarding.specs.declared.judged.Judged.{Judged}
use Rattle.hsr_forwarding.proofs.Counts.{counted-plus, counts_plus}
use Rattle.hsr_forwarding.proofs.Keeping.{AreWithin-aged, AreWithin-new, AreWithin-passed, last-earlier, passed-logged, passed-shut, stands-aged, stands-new, stands-passed, stands-passes, stands-same}
use Rattle.hsr_forwarding.proofs.Pasts.{answers-same-as, heard-same, heard-told, later-max}
use Rattle.hsr_forwarding.proofs.Wants.{wanted-d}
use Rattle.hsr_redbox.specs.Machine.{Machine, new_machine}
use Rattle.hsr_redbox.specs.Step.{after_arrival, after_frame, after_interlink, after_marks, after_ring, age_step, arrive_or_spent, arrive_step, heard_from, life_or_refuse, life_refusal, life_step, now_at, number_of, send_or_refuse, send_step, sent_of, verdict_of}
use Rattle.hsr_redbox.specs.Wanted.{egresses, handling_interlink, handling_send, interlink, wanted}
use Rattle.hsr_redbox.specs.Past as deeds
use Rattle.hsr_redbox.specs.Past.{Call, Deed, Did, count_of, counters_of, done, gave_up, hearings_of, is_step, judged_interlink, judged_ring, knows_among, linked, log_of, mark_if, moment_of, noted_by, number_after, past_step, sent_frame, sent_life, source_in, sources_of, step}
use Rattle.hsr_redbox.specs.declared.wanted.Handling.{Handling}
use Rattle.hsr_redbox.specs.declared.call.BoxPort.{BoxPort}
use Rattle.hsr_redbox.specs.declared.call.BoxPort.TheVariants.{A, B, I}
use Rattle.hsr_redbox.specs.declared.call.BoxVerdict.{BoxVerdict}
use Rattle.hsr_redbox.specs.declared.call.LifeFault.{LifeFault}
use Rattle.hsr_redbox.proofs.Steps.{interlink-fits, notes-marked}

-- what a machine holds is what its past gives
pub record IsPastOf (capacity : ℕ) (machine : Machine) (past : List Deed) : Type 0 where
  pub logs : (egress : Egress) → StandsFor capacity (table_of machine.notes egress) (log_of machine.own egress past)
  pub within : AreWithin machine.notes machine.moment machine.accepted
  pub nodes : machine.nodes ≡ fold heard no_nodes (hearings_of machine.own past)
  pub proxies : machine.proxies ≡ fold learned no_proxies (sources_of machine.own past)
  pub next : machine.next ≡ number_after past
  pub counters : machine.counters ≡ counters_of machine.own past
  pub moment : machine.moment ≡ moment_of past
  pub accepted : machine.accepted ≡ count_of is_step past

-- the answers agree, and what is held after is what the past after gives; address and mode stay
abbrev pub Kept : {X : Type 0} → ℕ → Machine → X × Machine → X × List Deed → Type 0
Kept capacity machine s p = (s.0 ≡ p.0) × IsPastOf capacity s.1 p.1 × (s.1.own ≡ machine.own) × (s.1.mode ≡ machine.mode)

-- ---- logs

log-marked : (capacity : ℕ) (notes : Notes) (log : List Note) (exits : Exits) (source : Option (List ℕ)) (seq now : ℕ) (egress : Egress) → (table_of notes egress).last ≤ now → StandsFor capacity (table_of notes egress) log
    → StandsFor capacity (table_of (after_marks capacity notes exits source seq now) egress) (log ++ mark_if source seq (has_exit exits egress) now)
log-marked capacity notes log exits None seq now egress h s = stands-same capacity notes log egress s
log-marked capacity notes log exits (Some src) seq now egress h s = stands-passes capacity notes log exits (record { src = src; seq = seq }) now egress h s

-- a RedBox passes an arrival up, by its ring ports and by its interlink alone
passed-told : (judgement : Judged) → judgement.passes.d ≡ false → (egress : Egress) → has_exit judgement.passes egress ≡ deeds.passed (verdict_of judgement None) egress
passed-told judgement no_d up = refl
passed-told judgement no_d a = refl
passed-told judgement no_d b = refl
passed-told judgement no_d c = refl
passed-told judgement no_d d = no_d

-- ---- numbers and counters

numbered-same : (source : Option (List ℕ)) (next count : ℕ) → next ≡ count % number_range → (next + bit (is_some source)) % number_range ≡ (if is_some source then count + 1 else count) % number_range
numbered-same None next count e = omega (arith, e)
numbered-same (Some src) next count e = omega (arith, e)

-- three ports at most pass an arrival
copies-told : (judgement : Judged) (seq : Option ℕ) → judgement.passes.d ≡ false → copies_of judgement.passes ≡ deeds.copies_of (verdict_of judgement seq)
copies-told judgement seq no_d =
    let passes = judgement.passes in
    ap (λ p. bit passes.a + bit passes.b + bit passes.c + bit p) no_d ∙ add-zero (bit passes.a + bit passes.b + bit passes.c)

-- an arrival is counted as the past counts it
counted-told : (k : Counters) (judgement : Judged) (seq : Option ℕ) (readable bad : Bool) → judgement.passes.d ≡ false → not readable ≡ bad
    → counted_with k judgement readable ≡ counts_plus k judgement.cause judgement.passes.up (deeds.copies_of (verdict_of judgement seq)) bad
counted-told k judgement seq readable bad no_d e =
    counted-plus k judgement readable bad e ∙ ap (λ n. counts_plus k judgement.cause judgement.passes.up n bad) (copies-told judgement seq no_d)

-- nothing more was forwarded
still : (n : ℕ) → n ≡ n + 0
still n = sym (add-zero n)

-- ---- what is known on the interlink

knows-latest : (table : Proxies) (sources : List (List ℕ × ℕ)) (now : ℕ) → table ≡ fold learned no_proxies sources → is_known now table.heard ≡ knows_among sources now
knows-latest table sources now e =
    ap {B = List ℕ → Bool} (λ (rows : List (List ℕ × ℕ)) mac. list_any (λ h. is_same_address h.0 mac) rows) (ap (λ (p : Proxies). known now p.heard) e ∙ knows_latest sources now)

-- the hearing of a frame of the interlink
sources-same : (own : List ℕ) (table : Proxies) (sources : List (List ℕ × ℕ)) (seen : Result Seen FrameFault) (now : ℕ) → table ≡ fold learned no_proxies sources
    → heard_from own table seen now ≡ fold learned no_proxies (sources ++ source_in own now seen)
sources-same own table sources seen now e =
    ap (λ (t : Proxies). fold learned t (source_in own now seen)) e
    ∙ sym (fold-append learned no_proxies sources (source_in own now seen))

learned-same : (table : Proxies) (sources : List (List ℕ × ℕ)) → table ≡ fold learned no_proxies sources → table ≡ fold learned no_proxies (sources ++ [])
learned-same table sources e = rw (append-nil sources) e

-- ---- frames that pass without a look

-- the machine after such a frame, and a past that begins with it
marked : (capacity : ℕ) (machine : Machine) (past : List Deed) (now : ℕ) (proxies : Proxies) (exits : Exits) (source : Option (List ℕ)) (counters : Counters) (did : Did)
    → machine.moment ≤ now → IsPastOf capacity machine past
    → ((egress : Egress) → noted_by machine.own egress now did ≡ mark_if source machine.next (has_exit exits egress) now)
    → deeds.heard_by machine.own now did ≡ [] → deeds.is_numbered did ≡ is_some source → is_step did ≡ true
    → proxies ≡ fold learned no_proxies (sources_of machine.own (record { now = now; did = did } ∷ past))
    → counters ≡ counters_of machine.own (record { now = now; did = did } ∷ past)
    → IsPastOf capacity (after_frame capacity (record machine { proxies = proxies }) now exits source counters) (record { now = now; did = did } ∷ past)
marked capacity machine past now proxies exits source counters did later r noted silent counts steps learnt counted =
    record {
      logs = λ egress. rw (noted egress) (log-marked capacity machine.notes (log_of machine.own egress past) exits source machine.next now egress (last-earlier r.within later egress) (r.logs egress));
      within = notes-marked capacity machine.notes exits source machine.next machine.moment now machine.accepted later r.within;
      nodes = rw silent (heard-same machine.nodes (hearings_of machine.own past) r.nodes);
      proxies = learnt;
      next = rw counts (numbered-same source machine.next (count_of deeds.is_numbered past) r.next);
      counters = counted;
      moment = refl;
      accepted = rw steps (ap (λ n. n + 1) r.accepted);
    }

send-case : (capacity : ℕ) (machine : Machine) (past : List Deed) (now : ℕ) (h : Handling) (refusal : Option SendFault) → machine.moment ≤ now → IsPastOf capacity machine past
    → let s = send_or_refuse capacity machine now h refusal in Kept capacity machine (deeds.sent s.0, s.1) (deeds.send_from past now h refusal)
send-case capacity machine past now h (Some fault) later r = (refl, r, refl, refl)
send-case capacity machine past now h None later r =
    let counters : Counters = record machine.counters { sent = machine.counters.sent + 1 } in
    let k : Counters = counters_of machine.own past in
    let after = after_frame capacity machine now h.wants.exits h.source counters in (
      ap (λ n. deeds.sent (Ok (sent_of h n))) r.next,
      subst (λ n. IsPastOf capacity after (record { now = now; did = sent_frame h n } ∷ past)) r.next
          (marked capacity machine past now machine.proxies h.wants.exits h.source counters (sent_frame h machine.next) later r (λ egress. refl) refl refl refl
          (learned-same machine.proxies (sources_of machine.own past) r.proxies) (ap (λ (k : Counters). record k { sent = k.sent + 1 }) r.counters ∙ (λ i. record k { sent = k.sent + 1; forwarded = still k.forwarded i }))),
      refl,
      refl,
    )

life-case : (capacity : ℕ) (machine : Machine) (past : List Deed) (now : ℕ) (refusal : Option LifeFault) → machine.moment ≤ now → IsPastOf capacity machine past
    → let s = life_or_refuse capacity machine now refusal in Kept capacity machine (deeds.lived s.0, s.1) (deeds.life_from past now refusal)
life-case capacity machine past now (Some fault) later r = (refl, r, refl, refl)
life-case capacity machine past now None later r =
    let counters : Counters = record machine.counters { life = machine.counters.life + 1 } in
    let k : Counters = counters_of machine.own past in
    let after = after_frame capacity machine now (exits_of (a ∷ b ∷ [])) (Some machine.own) counters in (
      ap₂ (λ n (k : Counters). deeds.lived (Ok (record { seq = n; life = k.life % number_range }))) r.next r.counters,
      subst (λ n. IsPastOf capacity after (record { now = now; did = sent_life n } ∷ past)) r.next
          (marked capacity machine past now machine.proxies (exits_of (a ∷ b ∷ [])) (Some machine.own) counters (sent_life machine.next) later r (λ egress. refl) refl refl refl
          (learned-same machine.proxies (sources_of machine.own past) r.proxies) (ap (λ (k : Counters). record k { life = k.life + 1 }) r.counters ∙ (λ i. record k { life = k.life + 1; forwarded = still k.forwarded i }))),
      refl,
      refl,
    )

interlink-case : (capacity : ℕ) (machine : Machine) (past : List Deed) (now : ℕ) (seen : Result Seen FrameFault) → machine.moment ≤ now → IsPastOf capacity machine past
    → Kept capacity machine (after_interlink capacity machine now seen) (deeds.interlink_from machine.own past now seen)
interlink-case capacity machine past now seen later r =
    let sources = sources_of machine.own past ++ source_in machine.own now seen in
    let proxies = heard_from machine.own machine.proxies seen now in
    let learnt = sources-same machine.own machine.proxies (sources_of machine.own past) seen now r.proxies in
    let after = after_interlink capacity machine now seen in
    let by : (List ℕ → Bool) → ℕ → BoxVerdict × List Deed = λ knows n. (linked (handling_interlink machine.own knows seen) n, done past now (judged_interlink seen (handling_interlink machine.own knows seen) n)) in
    let h = handling_interlink machine.own (is_known now proxies.heard) seen in
    let verdict = judged_as h.wants h.wants.exits in
    let counters : Counters = counted_with machine.counters verdict true in
    let counted : counters ≡ counters_of machine.own (done past now (judged_interlink seen h machine.next)) =
    ap (λ (k : Counters). counted_with k verdict true) r.counters
    ∙ counted-told (counters_of machine.own past) verdict (number_of h.source machine.next) true false (interlink-fits machine.own (is_known now proxies.heard) seen).1 refl in
    subst (λ knows. Kept capacity machine after (by knows (number_after past))) (knows-latest proxies sources now learnt)
    (subst (λ n. Kept capacity machine after (by (is_known now proxies.heard) n)) r.next (
      refl,
      marked capacity machine past now proxies (with_exit interlink h.wants.exits) h.source counters (judged_interlink seen h machine.next) later r (λ egress. refl) refl refl refl learnt counted,
      refl,
      refl,
    ))

-- ---- arrivals at a ring port

ring-case : (capacity : ℕ) (machine : Machine) (past : List Deed) (now : ℕ) (x : RingPort) (seen : Result Seen FrameFault) → machine.moment ≤ now → IsPastOf capacity machine past
    → Kept capacity machine (after_ring capacity machine now x seen) (deeds.ring_from capacity machine.own machine.mode past now x seen)
ring-case capacity machine past now x seen later r =
    let after = after_ring capacity machine now x seen in
    let knows = is_known now machine.proxies.heard in
    let wants = wanted machine.own machine.mode knows x seen in
    let by : Wants → Exits → BoxVerdict × List Deed = λ w passes. let verdict = verdict_of (judged_as w passes) None in (verdict, done past now (judged_ring x seen verdict)) in
    let outcome = judged capacity machine.notes wants seen now in
    let verdict = verdict_of outcome.0 None in
    let hearing = heard_of machine.own machine.nodes x seen now in
    let told = heard-told machine.own machine.nodes x seen now in
    let more = deeds.heard_by machine.own now (judged_ring x seen verdict) in
    let no_d = passed-shut capacity machine.notes wants.exits seen now d (wanted-d machine.own machine.mode (Some knows) x seen) in
    subst (λ knows. let w = wanted machine.own machine.mode knows x seen in Kept capacity machine after (by w (passes_from capacity (λ egress. log_of machine.own egress past) w.exits seen now)))
    (knows-latest machine.proxies (sources_of machine.own past) now r.proxies)
    (subst (λ passes. Kept capacity machine after (by wants passes)) (passed-logged capacity machine.notes (λ egress. log_of machine.own egress past) wants.exits seen machine.moment now machine.accepted later r.within r.logs) (
      refl,
      record {
        logs = λ egress. subst (λ (p : Bool). StandsFor capacity (table_of outcome.1 egress) (log_of machine.own egress past ++ note_of seen p now)) (passed-told outcome.0 no_d egress)
            (stands-passed capacity machine.notes (log_of machine.own egress past) wants.exits seen now egress (last-earlier r.within later egress) (r.logs egress));
        within = AreWithin-passed capacity machine.notes wants.exits seen machine.moment now machine.accepted later r.within;
        nodes = told.0 ∙ ap (λ (n : Nodes). fold heard n more) r.nodes ∙ sym (fold-append heard no_nodes (hearings_of machine.own past) more);
        proxies = learned-same machine.proxies (sources_of machine.own past) r.proxies;
        next = r.next;
        counters = ap (λ (k : Counters). counted_with k outcome.0 hearing.0) r.counters
            ∙ counted-told (counters_of machine.own past) outcome.0 None hearing.0 (is_bad_life machine.own seen) no_d told.1;
        moment = refl;
        accepted = ap (λ n. n + 1) r.accepted;
      },
      refl,
      refl,
    ))

arrive-case : (capacity : ℕ) (machine : Machine) (past : List Deed) (now : ℕ) (port : BoxPort) (octets : List ℕ) (spent : Bool) → machine.moment ≤ now → IsPastOf capacity machine past
    → let s = arrive_or_spent capacity machine now port octets spent in
    Kept capacity machine (deeds.judged s.0, s.1) (deeds.arrive_from capacity machine.own machine.mode past now port (classified octets) spent)
arrive-case capacity machine past now port octets true later r = (refl, r, refl, refl)
arrive-case capacity machine past now port octets false later r = let k = by_port port in (ap (λ (v : BoxVerdict). deeds.judged (Ok v)) k.0, k.1, k.2, k.3)
  where
    by_port : (p : BoxPort) → Kept capacity machine (after_arrival capacity machine now p (classified octets)) (deeds.port_from capacity machine.own machine.mode past now p (classified octets))
    by_port A = ring-case capacity machine past now ring.A (classified octets) later r
    by_port B = ring-case capacity machine past now ring.B (classified octets) later r
    by_port I = interlink-case capacity machine past now (classified octets) later r

-- ---- ageing

age-case : (capacity : ℕ) (machine : Machine) (past : List Deed) (now : ℕ) → machine.moment ≤ now → IsPastOf capacity machine past
    → IsPastOf capacity (record machine { notes = aged machine.notes now; moment = now }) (done past now gave_up)
age-case capacity machine past now later r =
    let k : Counters = counters_of machine.own past in
    record {
      logs = λ egress. stands-same capacity (aged machine.notes now) (log_of machine.own egress past) egress
          (stands-aged capacity machine.notes (log_of machine.own egress past) now egress (last-earlier r.within later egress) (r.logs egress));
      within = AreWithin-aged machine.notes machine.moment now machine.accepted later r.within;
      nodes = heard-same machine.nodes (hearings_of machine.own past) r.nodes;
      proxies = learned-same machine.proxies (sources_of machine.own past) r.proxies;
      next = r.next;
      counters = r.counters ∙ (λ i. record k { forwarded = still k.forwarded i });
      moment = refl;
      accepted = r.accepted;
    }

-- ---- a call, and all calls

pub kept : (capacity : ℕ) (machine : Machine) (past : List Deed) (call : Call) → IsPastOf capacity machine past → Kept capacity machine (step capacity machine call) (past_step capacity machine.own machine.mode past call)
unfolding send_step life_step arrive_step
kept capacity machine past (deeds.sending at dst ethertype len) r =
    let now = now_at machine at in
    let knows = knows-latest machine.proxies (sources_of machine.own past) now r.proxies in
    let after = step capacity machine (deeds.sending at dst ethertype len) in
    subst (λ m. Kept capacity machine after (deeds.send_from past (max m at) (handling_send machine.own (knows_among (sources_of machine.own past) (max m at)) dst ethertype) (send_refusal machine.own (count_of is_step past) dst ethertype len))) r.moment
    (subst (λ n. Kept capacity machine after (deeds.send_from past now (handling_send machine.own (knows_among (sources_of machine.own past) now) dst ethertype) (send_refusal machine.own n dst ethertype len))) r.accepted
    (subst (λ k. Kept capacity machine after (deeds.send_from past now (handling_send machine.own k dst ethertype) (send_refusal machine.own machine.accepted dst ethertype len))) knows
    (send-case capacity machine past now (handling_send machine.own (is_known now machine.proxies.heard) dst ethertype) (send_refusal machine.own machine.accepted dst ethertype len) (later-max machine.moment at) r)))
kept capacity machine past (deeds.supervising at about) r =
    let now = now_at machine at in
    let knows = knows-latest machine.proxies (sources_of machine.own past) now r.proxies in
    let after = step capacity machine (deeds.supervising at about) in
    subst (λ m. Kept capacity machine after (deeds.life_from past (max m at) (life_refusal (knows_among (sources_of machine.own past) (max m at)) (count_of is_step past) about))) r.moment
    (subst (λ n. Kept capacity machine after (deeds.life_from past now (life_refusal (knows_among (sources_of machine.own past) now) n about))) r.accepted
    (subst (λ k. Kept capacity machine after (deeds.life_from past now (life_refusal k machine.accepted about))) knows
    (life-case capacity machine past now (life_refusal (is_known now machine.proxies.heard) machine.accepted about) (later-max machine.moment at) r)))
kept capacity machine past (deeds.arriving at port octets) r =
    let after = step capacity machine (deeds.arriving at port octets) in
    subst (λ m. Kept capacity machine after (deeds.arrive_from capacity machine.own machine.mode past (max m at) port (classified octets) (count_of is_step past == step_limit))) r.moment
    (subst (λ n. Kept capacity machine after (deeds.arrive_from capacity machine.own machine.mode past (now_at machine at) port (classified octets) (n == step_limit))) r.accepted
    (arrive-case capacity machine past (now_at machine at) port octets (machine.accepted == step_limit) (later-max machine.moment at) r))
kept capacity machine past (deeds.ageing at) r =
    (refl, subst (λ m. IsPastOf capacity (age_step machine at) (done past (max m at) gave_up)) r.moment (age-case capacity machine past (now_at machine at) (later-max machine.moment at) r), refl, refl)

pub begins : (capacity : ℕ) (own : List ℕ) (mode : Mode) → IsPastOf capacity (new_machine own mode) []
begins capacity own mode = record {
  logs = stands-new capacity egresses;
  within = AreWithin-new egresses;
  nodes = refl;
  proxies = refl;
  next = refl;
  counters = refl;
  moment = refl;
  accepted = refl;
}

-- what a machine stays
abbrev address_mode : Machine → List ℕ × Mode
address_mode machine = (machine.own, machine.mode)

pub answers_as_past : (capacity : ℕ) → deeds.AnswersAsPast capacity
answers_as_past capacity own mode calls =
    let ran = answers-same-as address_mode (IsPastOf capacity) (step capacity) (λ am. past_step capacity am.0 am.1) (λ machine past call r. let k = kept capacity machine past call r in (k.0, k.1, λ i. (k.2 i, k.3 i)))
    (new_machine own mode) [] calls (begins capacity own mode) in
    let past = (answers_of (past_step capacity own mode) [] calls).1 in
    let held = ran.1 in
    let same : (answers_of (step capacity) (new_machine own mode) calls).1.own ≡ own = ap (λ (am : List ℕ × Mode). am.0) ran.2 in (
      ran.0,
      held.counters ∙ ap (λ (o : List ℕ). counters_of o past) same,
      (λ at. ap (λ (n : Nodes). map (λ r. r.0) (known at n.rows)) held.nodes ∙ ap (λ (o : List ℕ). map (λ r. r.0) (known at (fold heard no_nodes (hearings_of o past)).rows)) same
          ∙ rows_of_latest (hearings_of own past) at),
      (λ at. ap (λ (p : Proxies). known at p.heard) held.proxies ∙ ap (λ (o : List ℕ). known at (fold learned no_proxies (sources_of o past)).heard) same
          ∙ knows_latest (sources_of own past) at),
    )
