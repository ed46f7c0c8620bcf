-- The stepping machine answers as the one that keeps its past.
use Rattle.std.proofs.Common.{◌≡◌, ℕ, ◌+◌, ◌≤◌, ◌==◌, Bool, true, false, not, ◌&&◌, List, [], ◌∷◌, ◌++◌, length, refl, ap, sym, ◌∙◌, add-zero, filter, subst, arith, Some, Result, Ok, Err, if◌then◌else◌}
use Rattle.std.specs.Prelude.{max}
use Rattle.std.specs.List.{sum_by}
use Rattle.std.proofs.lemmas.List.Sums.{sum_by-cons}
use Rattle.hsr_frame.specs.Cause.{is_duplicate, is_malformed, is_untagged}
use Rattle.hsr_frame.specs.Counters.{counted, no_counts, step_limit}
use Rattle.hsr_frame.specs.Egress.{up, cause_of, has_exit, is_any}
use Rattle.hsr_frame.specs.declared.counters.Counters.{Counters}
use Rattle.hsr_frame.specs.declared.egress.Exits.{Exits}
use Rattle.hsr_frame.specs.declared.fault.FrameFault.{FrameFault}
use Rattle.hsr_frame.specs.declared.node.Cause.{Cause}
use Rattle.hsr_frame.specs.declared.node.Cause.TheVariants.{Passed, Duplicate, Untagged, Malformed}
use Rattle.hsr_tag.specs.Seen.{classified}
use Rattle.hsr_tag.specs.declared.seen.Seen.{Seen}
use Rattle.hsr_tag.specs.declared.seen.Seen.TheVariants.{Plain, Tagged}
use Rattle.hsr_duptable.specs.Log.{StandsFor}
use Rattle.hsr_duptable.specs.Table.{remembers}
use Rattle.hsr_forwarding.specs.Arrival.{key_of}
use Rattle.hsr_forwarding.specs.Past.{log_remembers, note_of}
use Rattle.hsr_forwarding.specs.Tables.{copies_of, counted_with, judged as judged_notes, judged_as, passed as passed_notes, table_of}
use Rattle.hsr_forwarding.specs.declared.judged.Judged.{Judged as Verdict}
use Rattle.hsr_forwarding.proofs.Keeping.{AreWithin-aged, AreWithin-new, AreWithin-passed, last-earlier, passed-shut, remembers-logged, stands-aged, stands-new, stands-passed}
use Rattle.hsr_forwarding.proofs.Pasts.{answers-same, later-max}
use Rattle.hsr_quadbox.specs.Wanted.{egresses, wanted}
use Rattle.hsr_quadbox.specs.Machine.{Machine, new_machine}
use Rattle.hsr_quadbox.specs.Step.{after_arrival, age_step, arrive_or_spent, arrive_step, now_at, verdict_of}
use Rattle.hsr_quadbox.specs.Past.{AnswersAsPast, Answer, IsTold, Call, arriving, ageing, Deed, judged, aged, Judged, arrivals, counts, egress_of, greatest, judgement, judge_or_spent, log, machine_call, passed_by, passes_in, past_call, verdict_on}
use Rattle.hsr_quadbox.specs.declared.quadbox.QuadVerdict.{QuadVerdict}
use Rattle.hsr_quadbox.specs.declared.wanted.QuadPort.{QuadPort}
use Rattle.hsr_quadbox.specs.declared.wanted.QuadPort.TheVariants.{A, B, C, D}

-- ---- where an arrival passes

-- nothing is wanted up
pub never-up : (x : QuadPort) (seen : Result Seen FrameFault) → (wanted x seen).exits.up ≡ false
never-up x (Err fault) = refl
never-up x (Ok (Plain frame)) = refl
never-up A (Ok (Tagged frame)) = refl
never-up B (Ok (Tagged frame)) = refl
never-up C (Ok (Tagged frame)) = refl
never-up D (Ok (Tagged frame)) = refl

pub off : (p q : Bool) → p ≡ false → p && not q ≡ p
off true q e = absurd (cc)
off false q e = refl

passes-told : (capacity : ℕ) (machine : Machine) (past : List Deed) (x : QuadPort) (seen : Result Seen FrameFault) (now : ℕ) → machine.moment ≤ now → IsTold capacity machine past
    → let exits = (wanted x seen).exits in (passed_notes capacity machine.notes exits seen now).0 ≡ passes_in capacity past exits seen now
passes-told capacity machine past x (Err fault) now h told = refl
passes-told capacity machine past x (Ok (Plain frame)) now h told = refl
passes-told capacity machine past x (Ok (Tagged frame)) now h told =
    let exits = (wanted x (Ok (Tagged frame))).exits in
    let key = key_of frame in
    let none = never-up x (Ok (Tagged frame)) in
    let same : (port : QuadPort) → remembers (table_of machine.notes (egress_of port)) key now ≡ log_remembers capacity (log port past) now key = λ port.
    remembers-logged capacity machine.notes (log port past) machine.moment now machine.accepted key (egress_of port) h told.within (told.logs port) in
    λ i. record {
      up = off exits.up (remembers machine.notes.up key now) none i;
      a = exits.a && not (same A i);
      b = exits.b && not (same B i);
      c = exits.c && not (same C i);
      d = exits.d && not (same D i);
    }

-- ---- what is noted

-- a port passes what its egress does
passed-told : (passes : Exits) (port : QuadPort) → has_exit passes (egress_of port) ≡ passed_by port passes
passed-told passes A = refl
passed-told passes B = refl
passed-told passes C = refl
passed-told passes D = refl

-- ---- what is counted

-- the causes of a QuadBox's verdicts
data IsOurs : Cause → Type 0 where
  passed : IsOurs Passed
  duplicate : IsOurs Duplicate
  untagged : IsOurs Untagged
  malformed : (fault : FrameFault) → IsOurs (Malformed fault)

ours : (x : QuadPort) (seen : Result Seen FrameFault) (passes : Exits) → IsOurs (cause_of (wanted x seen) passes)
ours x (Err fault) passes = elim (is_any passes) as (λ b. IsOurs (if b then Passed else Malformed fault)) [ true ↦ passed | false ↦ malformed fault ]
ours x (Ok (Plain frame)) passes = elim (is_any passes) as (λ b. IsOurs (if b then Passed else Untagged)) [ true ↦ passed | false ↦ untagged ]
ours x (Ok (Tagged frame)) passes =
    elim x as (λ p. IsOurs (cause_of (wanted p (Ok (Tagged frame))) passes)) [ A ↦ new_or_not | B ↦ new_or_not | C ↦ new_or_not | D ↦ new_or_not ]
  where
    new_or_not : IsOurs (if is_any passes then Passed else Duplicate)
    new_or_not = elim (is_any passes) as (λ b. IsOurs (if b then Passed else Duplicate)) [ true ↦ passed | false ↦ duplicate ]

same_counts : {f f' d d' u u' m m' : ℕ} → f ≡ f' → d ≡ d' → u ≡ u' → m ≡ m'
    → record no_counts { forwarded = f; duplicate = d; untagged = u; malformed = m } ≡ record no_counts { forwarded = f'; duplicate = d'; untagged = u'; malformed = m' }
same_counts f d u m = λ i. record no_counts { forwarded = f i; duplicate = d i; untagged = u i; malformed = m i }

-- one arrival more is one more of its kind
counts-one_more : (j : Judged) (ds us ms : List Judged) (f n : ℕ) {k : Cause} → IsOurs k
    → counted (record no_counts { forwarded = f; duplicate = length ds; untagged = length us; malformed = length ms }) k false n
    ≡ record no_counts {
      forwarded = n + f;
      duplicate = length (if is_duplicate k then j ∷ ds else ds);
      untagged = length (if is_untagged k then j ∷ us else us);
      malformed = length (if is_malformed k then j ∷ ms else ms);
    }
counts-one_more j ds us ms f n passed = same_counts (omega arith) refl refl refl
counts-one_more j ds us ms f n duplicate = same_counts (omega arith) (omega arith) refl refl
counts-one_more j ds us ms f n untagged = same_counts (omega arith) refl (omega arith) refl
counts-one_more j ds us ms f n (malformed fault) = same_counts (omega arith) refl refl (omega arith)

pub counts-judged : (past : List Deed) (j : Judged) → counted (counts past) (cause_of (wanted j.port j.seen) j.passes) false (copies_of j.passes) ≡ counts (judged j ∷ past)
counts-judged past j =
    let such : (Cause → Bool) → List Judged = λ is_such. filter (λ (o : Judged). is_such (verdict_on o).cause) (arrivals past) in
    let copies : Judged → ℕ = λ o. copies_of o.passes in
    counts-one_more j (such is_duplicate) (such is_untagged) (such is_malformed) (sum_by copies (arrivals past)) (copies j) (ours j.port j.seen j.passes)
    ∙ same_counts (sym (sum_by-cons copies j (arrivals past))) refl refl refl

-- the count of what doesn't go up, and is no supervision
counted-told : (k : Counters) (verdict : Verdict) → verdict.passes.up ≡ false → counted_with k verdict true ≡ counted k verdict.cause false (copies_of verdict.passes)
counted-told k verdict none = λ i. let arrived = counted k verdict.cause (none i) (copies_of verdict.passes) in record arrived { bad_life = add-zero arrived.bad_life i }

-- ---- one call

pub told-new : (capacity : ℕ) → IsTold capacity new_machine []
told-new capacity = record {
  logs = λ port. stands-new capacity egresses (egress_of port);
  within = AreWithin-new egresses;
  moment = refl;
  accepted = refl;
  counters = refl;
}

-- an arrival at the effective moment: the verdict on the deed that it is
told-judged : (capacity : ℕ) (machine : Machine) (past : List Deed) (at : ℕ) (x : QuadPort) (seen : Result Seen FrameFault) → IsTold capacity machine past
    → let after = after_arrival capacity machine (max (greatest past) at) x seen in
    let j = judgement capacity past at x seen in
    (after.0 ≡ verdict_on j) × IsTold capacity after.1 (judged j ∷ past)
told-judged capacity machine past at x seen told =
    let now = max (greatest past) at in
    let later : machine.moment ≤ now = omega (arith, told.moment) in
    let wants = wanted x seen in
    let outcome = judged_notes capacity machine.notes wants seen now in
    let deed : Exits → Judged = λ passes. record { at = at; port = x; seen = seen; passes = passes } in
    let passes = passes-told capacity machine past x seen now later told in
    let none = passed-shut capacity machine.notes wants.exits seen now up (never-up x seen) in
    let after = (after_arrival capacity machine now x seen).1 in
    let one_told : IsTold capacity after (judged (deed outcome.0.passes) ∷ past) = record {
      logs = λ port. subst (λ (p : Bool). StandsFor capacity (table_of outcome.1 (egress_of port)) (log port past ++ note_of seen p now)) (passed-told outcome.0.passes port)
          (stands-passed capacity machine.notes (log port past) wants.exits seen now (egress_of port) (last-earlier told.within later (egress_of port)) (told.logs port));
      within = AreWithin-passed capacity machine.notes wants.exits seen machine.moment now machine.accepted later told.within;
      moment = refl;
      accepted = omega (arith, told.accepted);
      counters = rw told.counters (counted-told (counts past) outcome.0 none ∙ counts-judged past (deed outcome.0.passes));
    } in
    (ap (λ (p : Exits). verdict_of (judged_as wants p)) passes, subst (λ (p : Exits). IsTold capacity after (judged (deed p) ∷ past)) passes one_told)

told-aged : (capacity : ℕ) (machine : Machine) (past : List Deed) (at : ℕ) → IsTold capacity machine past → IsTold capacity (age_step machine at) (aged at ∷ past)
told-aged capacity machine past at told =
    let now = now_at machine at in
    let later = later-max machine.moment at in
    record {
      logs = λ port. stands-aged capacity machine.notes (log port past) now (egress_of port) (last-earlier told.within later (egress_of port)) (told.logs port);
      within = AreWithin-aged machine.notes machine.moment now machine.accepted later told.within;
      moment = ap (λ (m : ℕ). max m at) told.moment;
      accepted = told.accepted;
      counters = told.counters;
    }

-- the same answer, and it stays told
abbrev pub IsSame : ℕ → Answer × Machine → Answer × List Deed → Type 0
IsSame capacity m p = (m.0 ≡ p.0) × IsTold capacity m.1 p.1

told-arriving : (capacity : ℕ) (machine : Machine) (past : List Deed) (at : ℕ) (x : QuadPort) (octets : List ℕ) (spent : Bool) → IsTold capacity machine past
    → let step = arrive_or_spent capacity machine (max (greatest past) at) x octets spent in
    IsSame capacity (Some step.0, step.1) (judge_or_spent capacity past at x (classified octets) spent)
told-arriving capacity machine past at x octets true told = (refl, told)
told-arriving capacity machine past at x octets false told =
    let next = told-judged capacity machine past at x (classified octets) told in
    (ap (λ (v : QuadVerdict). Some (Ok v)) next.0, next.1)

pub told-call : (capacity : ℕ) (machine : Machine) (past : List Deed) (call : Call) → IsTold capacity machine past
    → IsSame capacity (machine_call capacity machine call) (past_call capacity past call)
unfolding arrive_step
told-call capacity machine past (arriving at x octets) told =
    let step : ℕ → ℕ → Answer × Machine = λ moment accepted. let s = arrive_or_spent capacity machine (max moment at) x octets (accepted == step_limit) in (Some s.0, s.1) in
    let kept = past_call capacity past (arriving at x octets) in
    subst (λ (m : ℕ). IsSame capacity (step m machine.accepted) kept) (sym told.moment)
    (subst (λ (n : ℕ). IsSame capacity (step (greatest past) n) kept) (sym told.accepted)
    (told-arriving capacity machine past at x octets (length (arrivals past) == step_limit) told))
told-call capacity machine past (ageing at) told = (refl, told-aged capacity machine past at told)

-- ---- any calls

pub answers_as_past : (capacity : ℕ) → AnswersAsPast capacity
answers_as_past capacity calls =
    let told = answers-same (IsTold capacity) (machine_call capacity) (past_call capacity) (told-call capacity) new_machine [] calls (told-new capacity) in
    (told.0, told.1.counters)
