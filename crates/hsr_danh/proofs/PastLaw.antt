-- The stepping machine answers as its whole past.
use Rattle.std.proofs.Common.{◌≡◌, ℕ, ◌+◌, ◌%◌, ◌≤◌, ◌==◌, not, Bool, true, false, if◌then◌else◌, List, [], ◌∷◌, ◌++◌, map, Option, Some, None, Result, Ok, refl, sym, ap, ap₂, subst, ◌∙◌, arith}
use Rattle.std.specs.Prelude.{max, fold}
use Rattle.std.proofs.lemmas.List.Sums.{fold-append}
use Rattle.hsr_frame.specs.Counters.{bit, step_limit}
use Rattle.hsr_frame.specs.Egress.{Egress, up, a, b, c, d, exits_of, has_exit}
use Rattle.hsr_frame.specs.Send.{send_refusal}
use Rattle.hsr_frame.specs.declared.counters.Counters.{Counters}
use Rattle.hsr_frame.specs.declared.egress.Exits.{Exits}
use Rattle.hsr_frame.specs.declared.fault.FrameFault.{FrameFault}
use Rattle.hsr_frame.specs.declared.fault.SendFault.{SendFault}
use Rattle.hsr_frame.specs.declared.node.Mode.{Mode}
use Rattle.hsr_frame.specs.declared.node.RingPort.{RingPort}
use Rattle.hsr_tag.specs.Seen.{classified}
use Rattle.hsr_tag.specs.declared.seen.Seen.{Seen}
use Rattle.hsr_duptable.specs.Key.{Key}
use Rattle.hsr_duptable.specs.Log.{StandsFor}
use Rattle.hsr_duptable.specs.Notes.{note_if}
use Rattle.hsr_tables.specs.Known.{known}
use Rattle.hsr_tables.specs.Nodes.{Nodes, heard, no_nodes}
use Rattle.hsr_tables.proofs.NodeLaws.{rows_of_latest}
use Rattle.hsr_forwarding.specs.Arrival.{heard_of}
use Rattle.hsr_forwarding.specs.Numbers.{number_range}
use Rattle.hsr_forwarding.specs.Past.{answers_of, is_bad_life, note_of}
use Rattle.hsr_forwarding.specs.Tables.{AreWithin, aged, copies_of, counted_with, judged, judged_as, table_of}
use Rattle.hsr_forwarding.specs.declared.judged.Judged.{Judged}
use Rattle.hsr_forwarding.proofs.Counts.{counted-plus, counts_plus}
use Rattle.hsr_forwarding.proofs.Keeping.{AreWithin-aged, AreWithin-new, AreWithin-passed, AreWithin-passes, last-earlier, passed-logged, passed-shut, stands-aged, stands-new, stands-passed, stands-passes, stands-same}
use Rattle.hsr_forwarding.proofs.Pasts.{answers-same-as, heard-same, heard-told, later-max}
use Rattle.hsr_forwarding.proofs.Wants.{wanted-c, wanted-d}
use Rattle.hsr_danh.specs.Machine.{Machine, new_machine}
use Rattle.hsr_danh.specs.Step.{after_arrival, after_numbered, age_step, arrive_or_spent, arrive_step, life_or_spent, life_step, now_at, send_or_refuse, send_step, verdict_of}
use Rattle.hsr_danh.specs.Wanted.{egresses, wanted}
use Rattle.hsr_danh.specs.Past as deeds
use Rattle.hsr_danh.specs.Past.{Answer, Call, Deed, Did, count_of, counters_of, done, gave_up, hearings_of, is_step, is_unreadable, judged_frame, log_of, number_after, moment_of, past_step, sent_frame, sent_life, step, verdict_from}
use Rattle.hsr_danh.specs.declared.danh.Verdict.{Verdict}

-- what a machine holds is what its past gives
pub record IsPastOf (capacity : ℕ) (machine : Machine) (past : List Deed) : Type 0 where
  pub logs : (egress : Egress) → StandsFor capacity (table_of machine.notes egress) (log_of machine.own egress past)
  pub within : AreWithin machine.notes machine.moment machine.accepted
  pub nodes : machine.nodes ≡ fold heard no_nodes (hearings_of machine.own past)
  pub next : machine.next ≡ number_after past
  pub counters : machine.counters ≡ counters_of machine.own past
  pub moment : machine.moment ≡ moment_of past
  pub accepted : machine.accepted ≡ count_of is_step past

-- the answers agree, what is held after is what the past after gives, and the node stays itself
abbrev pub Kept : ℕ → Machine → Answer × Machine → Answer × List Deed → Type 0
Kept capacity machine s p = (s.0 ≡ p.0) × IsPastOf capacity s.1 p.1 × (s.1.own ≡ machine.own) × (s.1.mode ≡ machine.mode)

-- ---- frames of the node's own

-- the machine after a numbered frame, and a past that begins with it
numbered : (capacity : ℕ) (machine : Machine) (past : List Deed) (now : ℕ) (counters : Counters) (did : Did)
    → machine.moment ≤ now → IsPastOf capacity machine past
    → ((egress : Egress) → deeds.noted_by machine.own egress now did ≡ note_if (has_exit (exits_of (a ∷ b ∷ [])) egress) (record { src = machine.own; seq = machine.next }) now)
    → deeds.heard_by machine.own now did ≡ [] → deeds.is_numbered did ≡ true → is_step did ≡ true
    → counters ≡ counters_of machine.own (record { now = now; did = did } ∷ past)
    → IsPastOf capacity (after_numbered capacity machine now counters) (record { now = now; did = did } ∷ past)
numbered capacity machine past now counters did later r noted silent counts steps counted =
    let key : Key = record { src = machine.own; seq = machine.next } in
    record {
      logs = λ egress. rw (noted egress) (stands-passes capacity machine.notes (log_of machine.own egress past) (exits_of (a ∷ b ∷ [])) key now egress (last-earlier r.within later egress) (r.logs egress));
      within = AreWithin-passes capacity machine.notes (exits_of (a ∷ b ∷ [])) key machine.moment now machine.accepted later r.within;
      nodes = rw silent (heard-same machine.nodes (hearings_of machine.own past) r.nodes);
      next = rw counts (omega (arith, r.next));
      counters = counted;
      moment = refl;
      accepted = rw steps (ap (λ n. n + 1) r.accepted);
    }

send-case : (capacity : ℕ) (machine : Machine) (past : List Deed) (at : ℕ) (refusal : Option SendFault) → IsPastOf capacity machine past
    → let s = send_or_refuse capacity machine (now_at machine at) refusal in Kept capacity machine (deeds.sent s.0, s.1) (deeds.send_from past at refusal)
send-case capacity machine past at (Some fault) r = (refl, r, refl, refl)
send-case capacity machine past at None r =
    let deed : record { now = now_at machine at; did = sent_frame machine.next } ≡ record { now = max (moment_of past) at; did = sent_frame (number_after past) }
    = λ i. record { now = max (r.moment i) at; did = sent_frame (r.next i) } in (
      ap (λ n. deeds.sent (Ok (record { seq = n }))) r.next,
      subst (λ (d : Deed). IsPastOf capacity (after_numbered capacity machine (now_at machine at) (record machine.counters { sent = machine.counters.sent + 1 })) (d ∷ past)) deed
          (numbered capacity machine past (now_at machine at) (record machine.counters { sent = machine.counters.sent + 1 }) (sent_frame machine.next) (later-max machine.moment at) r (λ egress. refl) refl refl refl
          (ap (λ (c : Counters). record c { sent = c.sent + 1 }) r.counters)),
      refl,
      refl,
    )

life-case : (capacity : ℕ) (machine : Machine) (past : List Deed) (at : ℕ) (spent : Bool) → IsPastOf capacity machine past
    → let s = life_or_spent capacity machine (now_at machine at) spent in Kept capacity machine (deeds.lived s.0, s.1) (deeds.life_from past at spent)
life-case capacity machine past at true r = (refl, r, refl, refl)
life-case capacity machine past at false r =
    let deed : record { now = now_at machine at; did = sent_life machine.next } ≡ record { now = max (moment_of past) at; did = sent_life (number_after past) }
    = λ i. record { now = max (r.moment i) at; did = sent_life (r.next i) } in (
      ap₂ (λ n (c : Counters). deeds.lived (Ok (record { seq = n; life = c.life % number_range }))) r.next r.counters,
      subst (λ (d : Deed). IsPastOf capacity (after_numbered capacity machine (now_at machine at) (record machine.counters { life = machine.counters.life + 1 })) (d ∷ past)) deed
          (numbered capacity machine past (now_at machine at) (record machine.counters { life = machine.counters.life + 1 }) (sent_life machine.next) (later-max machine.moment at) r (λ egress. refl) refl refl refl
          (ap (λ (c : Counters). record c { life = c.life + 1 }) r.counters)),
      refl,
      refl,
    )

-- ---- arrivals

-- a DANH passes an arrival up and by its ring ports alone
passed-told : (judgement : Judged) → judgement.passes.c ≡ false → judgement.passes.d ≡ false → (egress : Egress) → has_exit judgement.passes egress ≡ deeds.passed (verdict_of judgement) egress
passed-told judgement no_c no_d up = refl
passed-told judgement no_c no_d a = refl
passed-told judgement no_c no_d b = refl
passed-told judgement no_c no_d c = no_c
passed-told judgement no_c no_d d = no_d

two_more : (p q r s : Bool) (m n : ℕ) → r ≡ false → s ≡ false → m + n + (bit p + bit q + bit r + bit s) ≡ (if p then m + 1 else m) + (if q then n + 1 else n)
two_more p q r s m n no_c no_d = rw (no_c, no_d) (by_two p q)
  where
    by_two : (p q : Bool) → m + n + (bit p + bit q + bit false + bit false) ≡ (if p then m + 1 else m) + (if q then n + 1 else n)
    by_two true true = omega arith
    by_two true false = omega arith
    by_two false true = omega arith
    by_two false false = omega arith

counted-same : (own : List ℕ) (past : List Deed) (now : ℕ) (x : RingPort) (seen : Result Seen FrameFault) (judgement : Judged) (readable : Bool) → judgement.passes.c ≡ false → judgement.passes.d ≡ false
    → not readable ≡ is_unreadable own (judged_frame x seen (verdict_of judgement))
    → counted_with (counters_of own past) judgement readable ≡ counters_of own (record { now = now; did = judged_frame x seen (verdict_of judgement) } ∷ past)
counted-same own past now x seen judgement readable no_c no_d bad =
    let k = counters_of own past in
    let passes = judgement.passes in
    let m = count_of (deeds.has (λ v. v.a)) past in
    let n = count_of (deeds.has (λ v. v.b)) past in
    counted-plus k judgement readable (is_bad_life own seen) bad
    ∙ (λ i. record (counts_plus k judgement.cause passes.up (copies_of passes) (is_bad_life own seen)) { forwarded = two_more passes.a passes.b passes.c passes.d m n no_c no_d i })

arrive-case : (capacity : ℕ) (machine : Machine) (past : List Deed) (at : ℕ) (x : RingPort) (octets : List ℕ) (spent : Bool) → IsPastOf capacity machine past
    → let s = arrive_or_spent capacity machine (now_at machine at) x octets spent in Kept capacity machine (deeds.judged s.0, s.1) (deeds.arrive_from capacity machine.own machine.mode past at x (classified octets) spent)
arrive-case capacity machine past at x octets true r = (refl, r, refl, refl)
arrive-case capacity machine past at x octets false r =
    let now = now_at machine at in
    let later = later-max machine.moment at in
    let seen = classified octets in
    let wants = wanted machine.own machine.mode x seen in
    let outcome = judged capacity machine.notes wants seen now in
    let verdict = verdict_of outcome.0 in
    let hearing = heard_of machine.own machine.nodes x seen now in
    let told = heard-told machine.own machine.nodes x seen now in
    let no_c = passed-shut capacity machine.notes wants.exits seen now c (wanted-c machine.own machine.mode x seen) in
    let no_d = passed-shut capacity machine.notes wants.exits seen now d (wanted-d machine.own machine.mode None x seen) in
    let same : verdict ≡ verdict_from capacity machine.own machine.mode past (max (moment_of past) at) x seen
    = ap (λ (passes : Exits). verdict_of (judged_as wants passes)) (passed-logged capacity machine.notes (λ egress. log_of machine.own egress past) wants.exits seen machine.moment now machine.accepted later r.within r.logs)
    ∙ ap (λ n. verdict_from capacity machine.own machine.mode past (max n at) x seen) r.moment in
    let deed : record { now = now; did = judged_frame x seen verdict } ≡ record { now = max (moment_of past) at; did = judged_frame x seen (verdict_from capacity machine.own machine.mode past (max (moment_of past) at) x seen) }
    = λ i. record { now = max (r.moment i) at; did = judged_frame x seen (same i) } in (
      ap (λ (v : Verdict). deeds.judged (Ok v)) same,
      subst (λ (d : Deed). IsPastOf capacity (after_arrival capacity machine now x seen).1 (d ∷ past)) deed (record {
        logs = λ egress. subst (λ (p : Bool). StandsFor capacity (table_of outcome.1 egress) (log_of machine.own egress past ++ note_of seen p now)) (passed-told outcome.0 no_c no_d egress)
            (stands-passed capacity machine.notes (log_of machine.own egress past) wants.exits seen now egress (last-earlier r.within later egress) (r.logs egress));
        within = AreWithin-passed capacity machine.notes wants.exits seen machine.moment now machine.accepted later r.within;
        nodes = told.0 ∙ ap (λ (n : Nodes). fold heard n (deeds.heard_by machine.own now (judged_frame x seen verdict))) r.nodes
            ∙ sym (fold-append heard no_nodes (hearings_of machine.own past) (deeds.heard_by machine.own now (judged_frame x seen verdict)));
        next = r.next;
        counters = ap (λ (k : Counters). counted_with k outcome.0 hearing.0) r.counters
            ∙ counted-same machine.own past now x seen outcome.0 hearing.0 no_c no_d told.1;
        moment = refl;
        accepted = ap (λ n. n + 1) r.accepted;
      }),
      refl,
      refl,
    )

-- ---- ageing

age-case : (capacity : ℕ) (machine : Machine) (past : List Deed) (at : ℕ) → IsPastOf capacity machine past → IsPastOf capacity (age_step machine at) (done past at gave_up)
age-case capacity machine past at r =
    let now = now_at machine at in
    let after : IsPastOf capacity (age_step machine at) (record { now = now; did = gave_up } ∷ past) = record {
      logs = λ egress. stands-same capacity (aged machine.notes now) (log_of machine.own egress past) egress
          (stands-aged capacity machine.notes (log_of machine.own egress past) now egress (last-earlier r.within (later-max machine.moment at) egress) (r.logs egress));
      within = AreWithin-aged machine.notes machine.moment now machine.accepted (later-max machine.moment at) r.within;
      nodes = heard-same machine.nodes (hearings_of machine.own past) r.nodes;
      next = r.next;
      counters = r.counters;
      moment = refl;
      accepted = r.accepted;
    } in
    let deed : record { now = now; did = gave_up } ≡ record { now = max (moment_of past) at; did = gave_up } = λ i. record { now = max (r.moment i) at; did = gave_up } in
    subst (λ (d : Deed). IsPastOf capacity (age_step machine at) (d ∷ past)) deed after

-- ---- a call, and all calls

pub kept : (capacity : ℕ) (machine : Machine) (past : List Deed) (call : Call) → IsPastOf capacity machine past → Kept capacity machine (step capacity machine call) (past_step capacity machine.own machine.mode past call)
unfolding send_step life_step arrive_step
kept capacity machine past (deeds.sending at dst ethertype len) r =
    subst (λ n. Kept capacity machine (step capacity machine (deeds.sending at dst ethertype len)) (deeds.send_from past at (send_refusal machine.own n dst ethertype len))) r.accepted
    (send-case capacity machine past at (send_refusal machine.own machine.accepted dst ethertype len) r)
kept capacity machine past (deeds.supervising at) r =
    subst (λ n. Kept capacity machine (step capacity machine (deeds.supervising at)) (deeds.life_from past at (n == step_limit))) r.accepted
    (life-case capacity machine past at (machine.accepted == step_limit) r)
kept capacity machine past (deeds.arriving at x octets) r =
    subst (λ n. Kept capacity machine (step capacity machine (deeds.arriving at x octets)) (deeds.arrive_from capacity machine.own machine.mode past at x (classified octets) (n == step_limit))) r.accepted
    (arrive-case capacity machine past at x octets (machine.accepted == step_limit) r)
kept capacity machine past (deeds.ageing at) r = (refl, age-case capacity machine past at r, refl, refl)

pub begins : (capacity : ℕ) (own : List ℕ) (mode : Mode) → IsPastOf capacity (new_machine own mode) []
begins capacity own mode = record {
  logs = stands-new capacity egresses;
  within = AreWithin-new egresses;
  nodes = refl;
  next = refl;
  counters = refl;
  moment = refl;
  accepted = refl;
}

-- what a machine stays
abbrev address_mode : Machine → List ℕ × Mode
address_mode machine = (machine.own, machine.mode)

pub answers_as_past : (capacity : ℕ) → deeds.AnswersAsPast capacity
answers_as_past capacity own mode calls =
    let ran = answers-same-as address_mode (IsPastOf capacity) (step capacity) (λ am. past_step capacity am.0 am.1) (λ machine past call r. let k = kept capacity machine past call r in (k.0, k.1, λ i. (k.2 i, k.3 i)))
    (new_machine own mode) [] calls (begins capacity own mode) in
    let past = (answers_of (past_step capacity own mode) [] calls).1 in
    let held = ran.1 in
    let same : (answers_of (step capacity) (new_machine own mode) calls).1.own ≡ own = ap (λ (am : List ℕ × Mode). am.0) ran.2 in (
      ran.0,
      held.counters ∙ ap (λ (o : List ℕ). counters_of o past) same,
      λ at. ap (λ (n : Nodes). map (λ r. r.0) (known at n.rows)) held.nodes ∙ ap (λ (o : List ℕ). map (λ r. r.0) (known at (fold heard no_nodes (hearings_of o past)).rows)) same
          ∙ rows_of_latest (hearings_of own past) at,
    )
