-- A QuadBox answers as its record does.
use Rattle.std.proofs.Common.{◌≡◌, ℕ, ◌==◌, ◌^◌, ◌&&◌, not, Bool, true, false, if◌then◌else◌, List, [], ◌∷◌, ◌++◌, length, Option, Some, None, Result, Ok, Err, refl, sym, ap, subst, ◌∙◌, arith, add-zero}
use Rattle.std.specs.Prelude.{max, option_map}
use Rattle.std.specs.List.{cons_option}
use Rattle.hsr_frame.specs.Counters.{counted}
use Rattle.hsr_frame.specs.Egress.{Egress, up, a, b, c, d, cause_of}
use Rattle.hsr_frame.specs.declared.counters.Counters.{Counters}
use Rattle.hsr_frame.specs.declared.egress.Exits.{Exits}
use Rattle.hsr_frame.specs.declared.egress.Wants.{Wants}
use Rattle.hsr_frame.specs.declared.fault.FrameFault.{FrameFault}
use Rattle.hsr_frame.specs.declared.fault.Spent.{Spent as IsSpent}
use Rattle.hsr_frame.specs.declared.node.Cause.{Cause}
use Rattle.hsr_tag.specs.Seen.{classified}
use Rattle.hsr_tag.specs.declared.seen.Seen.{Seen}
use Rattle.hsr_tag.specs.declared.seen.Seen.TheVariants.{Plain, Tagged}
use Rattle.hsr_duptable.specs.Log.{remembered}
use Rattle.hsr_duptable.specs.Notes.{has_key, entry_forget}
use Rattle.hsr_redbox.specs.Wanted.{unnumbered}
use Rattle.hsr_quadbox.specs.Machine.{Machine, new_machine}
use Rattle.hsr_quadbox.specs.Past as deeds
use Rattle.hsr_quadbox.specs.Past.{Answer, Deed, IsTold, Judged, aged, egress_of, judged, judgement, verdict_on}
use Rattle.hsr_forwarding.specs.Arrival.{key_of}
use Rattle.hsr_forwarding.specs.Past.{note_of}
use Rattle.hsr_forwarding.proofs.Counts.{counted-as}
use Rattle.hsr_forwarding.specs.Tables.{copies_of}
use Rattle.hsr_quadbox.specs.Step.{arrive_step}
use Rattle.hsr_quadbox.specs.Wanted.{wanted}
use Rattle.hsr_quadbox.specs.declared.quadbox.QuadVerdict.{QuadVerdict}
use Rattle.hsr_quadbox.specs.declared.wanted.QuadPort.{QuadPort}
use Rattle.hsr_quadbox.specs.declared.wanted.QuadPort.TheVariants as quad
use Rattle.hsr_quadbox.proofs.PastLaw as law
use Rattle.hsr_node.specs.Counts.{counters}
use Rattle.hsr_node.specs.Record.{Noted, Owner, arrive_answer, is_noted, judged_as, key_in, next_number, note_if, notes, now, oldest_first, passing, remembers, steps}
use Rattle.hsr_node.specs.Step.{quad_judged, quad_port, quadbox_arrive, quadbox_step, spent, told}
use Rattle.hsr_node.specs.declared.entry.Entry.{Entry}
use Rattle.hsr_node.specs.declared.event.Carried.{Carried}
use Rattle.hsr_node.specs.declared.event.Event.{Event}
use Rattle.hsr_node.specs.declared.event.Event.TheVariants.{Send, Supervise, Arrive, Age}
use Rattle.hsr_node.specs.declared.event.Outcome.{Outcome}
use Rattle.hsr_node.specs.declared.event.Outcome.TheVariants as outcome
use Rattle.hsr_node.specs.declared.event.StepFault.TheVariants as refused
use Rattle.hsr_node.specs.declared.place.Place.TheVariants as place
use Rattle.hsr_node.proofs.Remembering.{log-remembers}
use Rattle.hsr_node.proofs.Told.{Call, Keeps, Stays, answered-by, logged, unlogged}

abbrev owner_of : ℕ → Owner
owner_of number = record { number = number; place = place.QuadBox }

-- deeds and a record tell the same
pub record Tells (number : ℕ) (did : List Deed) (past : List Entry) : Type 0 where
  pub moment : deeds.greatest did ≡ now past
  pub steps : length (deeds.arrivals did) ≡ steps past
  pub log : (port : QuadPort) → deeds.log port did ≡ oldest_first (notes (owner_of number) (egress_of port) past)
  pub counters : deeds.counts did ≡ counters place.QuadBox past

-- what a machine holds is told by a record
pub record Held (capacity number : ℕ) (machine : Machine) (past : List Entry) : Type 0 where
  pub did : List Deed
  pub is_told : IsTold capacity machine did
  pub tells : Tells number did past

-- ---- ageing

aged-tells : (number : ℕ) (did : List Deed) (past : List Entry) (worker at : ℕ) → Tells number did past
    → Tells number (aged at ∷ did) (record { worker = worker; at = at; event = Age; outcome = outcome.Aged } ∷ past)
aged-tells number did past worker at t = record {
  moment = ap (λ m. max m at) t.moment;
  steps = t.steps;
  log = t.log;
  counters = t.counters ∙ λ i. let k : Counters = counters place.QuadBox past in record k { forwarded = sym (add-zero k.forwarded) i };
}

-- ---- an arrival

abbrev arrival : ℕ → ℕ → ℕ → Carried → QuadVerdict → Entry
arrival worker at port copy v = record { worker = worker; at = at; event = Arrive port copy; outcome = quad_judged v }

judged-tells : (number : ℕ) (did : List Deed) (past : List Entry) (worker at port : ℕ) (x : QuadPort) (copy : Carried) (passes : Exits) → Tells number did past
    → let j : Judged = record { at = at; port = x; seen = classified copy.octets; passes = passes } in
    Tells number (judged j ∷ did) (arrival worker at port copy (verdict_on j) ∷ past)
judged-tells number did past worker at port x copy passes t = record {
  moment = m;
  steps = omega (arith, t.steps);
  log = λ q. by_seen q (classified copy.octets);
  counters = sym (law.counts-judged did j)
      ∙ ap (λ (k : Counters). counted k kind false (copies_of passes)) t.counters
      ∙ counted-as (counters place.QuadBox past) kind false (copies_of passes);
}
  where
    j : Judged
    j = record { at = at; port = x; seen = classified copy.octets; passes = passes }

    kind : Cause
    kind = cause_of (wanted x (classified copy.octets)) passes

    m : max (deeds.greatest did) at ≡ max (now past) at
    m = ap (λ m. max m at) t.moment

    noted : QuadPort → List Noted
    noted q = notes (owner_of number) (egress_of q) past

    is_passed : QuadPort → Bool
    is_passed q = is_noted (quad_judged (verdict_on j)) (egress_of q)

    by_seen : (q : QuadPort) (seen : Result Seen FrameFault)
        → deeds.log q did ++ note_of seen (deeds.passed_by q passes) (max (deeds.greatest did) at)
        ≡ oldest_first (cons_option (note_if (is_passed q) (key_in seen None) (max (now past) at) copy.probe) (noted q))
    by_seen q (Err fault) = unlogged (deeds.log q did) (noted q) (t.log q)
    by_seen q (Ok (Plain frame)) = unlogged (deeds.log q did) (noted q) (t.log q)
    by_seen q (Ok (Tagged frame)) = by_port q
      where
        one : (q : QuadPort) (passed : Bool) → deeds.log q did ++ note_of (Ok (Tagged frame)) passed (max (deeds.greatest did) at)
            ≡ oldest_first (cons_option (note_if passed (Some (key_of frame)) (max (now past) at) copy.probe) (noted q))
        one q passed = logged passed (key_of frame) (max (deeds.greatest did) at) (max (now past) at) copy.probe (deeds.log q did) (noted q) m (t.log q)

        by_port : (q : QuadPort) → deeds.log q did ++ note_of (Ok (Tagged frame)) (deeds.passed_by q passes) (max (deeds.greatest did) at)
            ≡ oldest_first (cons_option (note_if (is_passed q) (Some (key_of frame)) (max (now past) at) copy.probe) (noted q))
        by_port quad.A = one quad.A passes.a
        by_port quad.B = one quad.B passes.b
        by_port quad.C = one quad.C passes.c
        by_port quad.D = one quad.D passes.d

-- ---- the verdict

verdict-same : (capacity number : ℕ) (did : List Deed) (past : List Entry) (at next : ℕ) (x : QuadPort) (seen : Result Seen FrameFault) → Tells number did past
    → judged_as (unnumbered (wanted x seen)) (passing (remembers capacity (owner_of number) past (max (now past) at)) (wanted x seen).exits seen) next
    ≡ quad_judged (verdict_on (judgement capacity did at x seen))
verdict-same capacity number did past at next x (Err fault) t = refl
verdict-same capacity number did past at next x (Ok (Plain frame)) t = refl
verdict-same capacity number did past at next x (Ok (Tagged frame)) t =
    let wants : Wants = wanted x (Ok (Tagged frame)) in
    let exits : Exits = wants.exits in
    let none = law.never-up x (Ok (Tagged frame)) in
    let held : (e : Egress) → Bool = λ e. remembers capacity (owner_of number) past (max (now past) at) (key_of frame) e in
    let moment : max (deeds.greatest did) at ≡ max (now past) at = ap (λ m. max m at) t.moment in
    let same : (port : QuadPort) → held (egress_of port) ≡ has_key (key_of frame) (remembered capacity entry_forget (deeds.log port did) (max (deeds.greatest did) at)) = λ port.
    sym (ap (λ m. has_key (key_of frame) (remembered capacity entry_forget (deeds.log port did) m)) moment ∙ log-remembers capacity (max (now past) at) (key_of frame) (deeds.log port did) (notes (owner_of number) (egress_of port) past) (t.log port)) in
    let passed : Exits = deeds.passes_in capacity did exits (Ok (Tagged frame)) (max (deeds.greatest did) at) in
    let passes : record {
      up = exits.up && not (held up);
      a = exits.a && not (held a);
      b = exits.b && not (held b);
      c = exits.c && not (held c);
      d = exits.d && not (held d);
    } ≡ passed
    = λ i. record {
      up = law.off exits.up (held up) none i;
      a = exits.a && not (same quad.A i);
      b = exits.b && not (same quad.B i);
      c = exits.c && not (same quad.C i);
      d = exits.d && not (same quad.D i);
    } in
    ap (λ (p : Exits). judged_as (unnumbered wants) p next) passes
    ∙ λ i. outcome.Judged (none i) (passed.a ∷ passed.b ∷ passed.c ∷ passed.d ∷ []) None (cause_of wants passed)

-- ---- one event

abbrev judged_in : Answer → Result QuadVerdict IsSpent
judged_in (Some r) = r
judged_in None = Err (record {})

arrive-case : (capacity number worker at port : ℕ) (x : QuadPort) (copy : Carried) (did : List Deed) (past : List Entry) (s : Result QuadVerdict IsSpent × Machine) (is_spent : Bool)
    → Tells number did past → law.IsSame capacity (Some s.0, s.1) (deeds.judge_or_spent capacity did at x (classified copy.octets) is_spent)
    → let h = unnumbered (wanted x (classified copy.octets)) in
    ((if is_spent then Err refused.Spent
    else Ok (judged_as h (passing (remembers capacity (owner_of number) past (max (now past) at)) h.wants.exits (classified copy.octets)) (next_number past)))
    ≡ told quad_judged spent s.0)
    × Stays (Held capacity number) past (record { worker = worker; at = at; event = Arrive port copy }) (told quad_judged spent s.0) s.1
arrive-case capacity number worker at port x copy did past s true t k =
    let call : Call = record { worker = worker; at = at; event = Arrive port copy } in
    answered-by quad_judged spent (Held capacity number) past call (Err refused.Spent) s.1 s.0 _ (ap judged_in k.0)
    (refl, record { did = did; is_told = k.1; tells = t })
arrive-case capacity number worker at port x copy did past s false t k =
    let call : Call = record { worker = worker; at = at; event = Arrive port copy } in
    let seen = classified copy.octets in
    let h = unnumbered (wanted x seen) in
    let j : Judged = judgement capacity did at x seen in
    answered-by quad_judged spent (Held capacity number) past call (Ok (judged_as h (passing (remembers capacity (owner_of number) past (max (now past) at)) h.wants.exits seen) (next_number past))) s.1 s.0 _ (ap judged_in k.0) (
      ap (λ (o : Outcome). Ok o) (verdict-same capacity number did past at (next_number past) x seen t),
      record {
        did = judged j ∷ did;
        is_told = k.1;
        tells = judged-tells number did past worker at port x copy j.passes t;
      },
    )

-- ---- any QuadBox

pub begins-held : (capacity number : ℕ) → Held capacity number new_machine []
begins-held capacity number = record {
  did = [];
  is_told = law.told-new capacity;
  tells = record { moment = refl; steps = refl; log = λ port. refl; counters = refl };
}

pub counters-held : (capacity number : ℕ) (machine : Machine) (past : List Entry) → Held capacity number machine past → machine.counters ≡ counters place.QuadBox past
counters-held capacity number machine past h = h.is_told.counters ∙ h.tells.counters

pub keeps-held : (capacity number : ℕ) (machine : Machine) (past : List Entry) (worker at : ℕ) (event : Event) → Held capacity number machine past
    → Keeps capacity (owner_of number) (Held capacity number) past (record { worker = worker; at = at; event = event }) (quadbox_step capacity machine at event)
unfolding quadbox_step
keeps-held capacity number machine past worker at (Send from dst vlan kind payload) h = (refl, h)
keeps-held capacity number machine past worker at (Supervise about) h = (refl, h)
keeps-held capacity number machine past worker at (Arrive port copy) h = by_port (quad_port port)
  where
    call : Call
    call = record { worker = worker; at = at; event = Arrive port copy }

    seen : Result Seen FrameFault
    seen = classified copy.octets

    by_port : (found : Option QuadPort)
        → (arrive_answer capacity (owner_of number) past (max (now past) at) (option_map (λ x. unnumbered (wanted x seen)) found) seen ≡ (quadbox_arrive capacity machine at found copy.octets).0)
        × Stays (Held capacity number) past call (quadbox_arrive capacity machine at found copy.octets).0 (quadbox_arrive capacity machine at found copy.octets).1
    by_port None = (refl, h)
    by_port (Some x) =
        arrive-case capacity number worker at port x copy h.did past (arrive_step capacity machine at x copy.octets) (steps past == 2 ^ 62) h.tells
        (subst (λ n. law.IsSame capacity (Some (arrive_step capacity machine at x copy.octets).0, (arrive_step capacity machine at x copy.octets).1)
        (deeds.judge_or_spent capacity h.did at x seen (n == 2 ^ 62))) h.tells.steps
        (law.told-call capacity machine h.did (deeds.arriving at x copy.octets) h.is_told))
keeps-held capacity number machine past worker at Age h = (
  refl,
  record {
    did = aged at ∷ h.did;
    is_told = (law.told-call capacity machine h.did (deeds.ageing at) h.is_told).1;
    tells = aged-tells number h.did past worker at h.tells;
  },
)
