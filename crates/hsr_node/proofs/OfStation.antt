-- A station answers as its record does.
use Rattle.std.proofs.Common.{◌≡◌, ℕ, ◌+◌, ◌==◌, ◌^◌, ◌||◌, Bool, true, false, if◌then◌else◌, List, [], ◌∷◌, length, Option, Some, None, Result, Ok, Err, refl, sym, ap, subst, ◌∙◌, add-zero}
use Rattle.std.specs.Prelude.{max, slice_get}
use Rattle.arrayvec.specs.ArrayVec.{ArrayVec}
use Rattle.hsr_frame.specs.Address.{is_among, is_group}
use Rattle.hsr_frame.specs.Cases.{first_of}
use Rattle.hsr_frame.specs.Counters.{counted}
use Rattle.hsr_frame.specs.Egress.{Egress, up, nowhere, to}
use Rattle.hsr_frame.specs.Send.{send_refusal}
use Rattle.hsr_frame.specs.declared.counters.Counters.{Counters}
use Rattle.hsr_frame.specs.declared.egress.Wants.{Wants}
use Rattle.hsr_frame.specs.declared.fault.FrameFault.{FrameFault}
use Rattle.hsr_frame.specs.declared.fault.SendFault.{SendFault}
use Rattle.hsr_frame.specs.declared.node.Cause.{Cause}
use Rattle.hsr_frame.specs.declared.node.Cause.TheVariants.{Foreign, Passed, Returned}
use Rattle.hsr_tag.specs.Seen.{classified}
use Rattle.hsr_tag.specs.declared.seen.Seen.{Seen}
use Rattle.hsr_tag.specs.declared.seen.Seen.TheVariants.{Plain, Tagged}
use Rattle.hsr_duptable.specs.Key.{Key}
use Rattle.hsr_redbox.specs.Wanted.{unnumbered}
use Rattle.hsr_node.specs.Counts.{counters}
use Rattle.hsr_node.specs.Record.{Owner, arrive_answer, judged_as, next_number, now, passing, remembers, send_answer, sent_or_refused, station_wanted, steps}
use Rattle.hsr_node.specs.Station.{Machine, after_arrival, after_cause, after_send, arrive_or_spent, is_passed, judged_seen, new_machine, send_from, send_or_refuse, station_step}
use Rattle.hsr_node.specs.declared.entry.Entry.{Entry}
use Rattle.hsr_node.specs.declared.event.Carried.{Carried}
use Rattle.hsr_node.specs.declared.event.Event.{Event}
use Rattle.hsr_node.specs.declared.event.Event.TheVariants.{Send, Supervise, Arrive, Age}
use Rattle.hsr_node.specs.declared.event.Outcome.{Outcome}
use Rattle.hsr_node.specs.declared.event.Outcome.TheVariants as outcome
use Rattle.hsr_node.specs.declared.event.StepFault.{StepFault}
use Rattle.hsr_node.specs.declared.event.StepFault.TheVariants as refused
use Rattle.hsr_node.specs.declared.place.Place.TheVariants as place
use Rattle.hsr_forwarding.proofs.Counts.{counted-as}
use Rattle.hsr_node.proofs.Told.{Call, Keeps, Stays}

abbrev owner_of : ℕ → ArrayVec (List ℕ) → Owner
owner_of number macs = record { number = number; place = place.Station macs }

-- what a machine holds is told by a record
pub record Held (macs : ArrayVec (List ℕ)) (machine : Machine) (past : List Entry) : Type 0 where
  pub own : machine.macs ≡ macs.items
  pub moment : machine.moment ≡ now past
  pub steps : machine.accepted ≡ steps past
  pub counters : machine.counters ≡ counters (place.Station macs) past

-- an answer, and what is held after it
abbrev Answers : ArrayVec (List ℕ) → List Entry → Call → Result Outcome StepFault → Result Outcome StepFault × Machine → Type 0
Answers macs past call answer s = (answer ≡ s.0) × Stays (Held macs) past call s.0 s.1

-- ---- a frame of the station's own

-- it leaves by the one port, with no number
abbrev sent_plain : Outcome
sent_plain = outcome.Sent None (true ∷ false ∷ false ∷ false ∷ [])

send-case : (macs : ArrayVec (List ℕ)) (machine : Machine) (past : List Entry) (worker at from : ℕ) (dst : List ℕ) (vlan : Option ℕ) (ethertype : ℕ) (payload : List ℕ) (refusal : Option SendFault)
    → Held macs machine past
    → Answers macs past (record { worker = worker; at = at; event = Send from dst vlan ethertype payload }) (sent_or_refused refusal sent_plain) (send_or_refuse machine at refusal)
send-case macs machine past worker at from dst vlan ethertype payload (Some fault) h = (refl, h)
send-case macs machine past worker at from dst vlan ethertype payload None h = (
  refl,
  record {
    own = h.own;
    moment = ap (λ m. max m at) h.moment;
    steps = ap (λ n. n + 1) h.steps;
    counters = λ i. let k : Counters = h.counters i in record k { sent = k.sent + 1; forwarded = sym (add-zero k.forwarded) i };
  },
)

-- ---- an arrival

verdict-same : (macs : List (List ℕ)) (is_held : Key → Egress → Bool) (next : ℕ) (seen : Result Seen FrameFault)
    → judged_as (unnumbered (station_wanted macs seen)) (passing is_held (station_wanted macs seen).exits seen) next
    ≡ outcome.Judged (is_passed (judged_seen macs seen)) (false ∷ false ∷ false ∷ false ∷ []) None (judged_seen macs seen)
verdict-same macs is_held next (Err fault) = refl
verdict-same macs is_held next (Ok (Tagged frame)) = refl
verdict-same macs is_held next (Ok (Plain frame)) = by_address (is_among macs frame.src) (is_among macs frame.dst || is_group frame.dst)
  where
    by_address : (is_own is_wanted : Bool)
        → let wants : Wants = first_of ((is_own, nowhere Returned) ∷ (is_wanted, to (up ∷ [])) ∷ []) (to []) in
        let cause : Cause = first_of ((is_own, Returned) ∷ (is_wanted, Passed) ∷ []) Foreign in
        judged_as (unnumbered wants) wants.exits next ≡ outcome.Judged (is_passed cause) (false ∷ false ∷ false ∷ false ∷ []) None cause
    by_address true is_wanted = refl
    by_address false true = refl
    by_address false false = refl

after-cause : (macs : ArrayVec (List ℕ)) (machine : Machine) (past : List Entry) (worker at port : ℕ) (copy : Carried) (cause : Cause) → Held macs machine past
    → Stays (Held macs) past (record { worker = worker; at = at; event = Arrive port copy }) (after_cause machine at cause).0 (after_cause machine at cause).1
after-cause macs machine past worker at port copy cause h = record {
  own = h.own;
  moment = ap (λ m. max m at) h.moment;
  steps = ap (λ n. n + 1) h.steps;
  counters = ap (λ (k : Counters). counted k cause (is_passed cause) 0) h.counters ∙ counted-as (counters (place.Station macs) past) cause (is_passed cause) 0;
}

-- the answer to an arrival at the port, by whether all steps are spent
abbrev arrived : ℕ → ℕ → ArrayVec (List ℕ) → List Entry → ℕ → List ℕ → Bool → Result Outcome StepFault
arrived capacity number macs past at octets is_spent =
    let wants : Wants = station_wanted macs.items (classified octets) in
    if is_spent then Err refused.Spent
    else Ok (judged_as (unnumbered wants) (passing (remembers capacity (owner_of number macs) past (max (now past) at)) wants.exits (classified octets)) (next_number past))

arrive-case : (capacity number : ℕ) (macs : ArrayVec (List ℕ)) (machine : Machine) (past : List Entry) (worker at port : ℕ) (copy : Carried) (is_spent : Bool) → Held macs machine past
    → Answers macs past (record { worker = worker; at = at; event = Arrive port copy }) (arrived capacity number macs past at copy.octets is_spent) (arrive_or_spent machine at copy.octets is_spent)
arrive-case capacity number macs machine past worker at port copy true h = (refl, h)
arrive-case capacity number macs machine past worker at port copy false h =
    let seen = classified copy.octets in
    let same = verdict-same macs.items (remembers capacity (owner_of number macs) past (max (now past) at)) (next_number past) seen
    ∙ ap (λ (own : List (List ℕ)). outcome.Judged (is_passed (judged_seen own seen)) (false ∷ false ∷ false ∷ false ∷ []) None (judged_seen own seen)) (sym h.own) in
    (ap (λ (o : Outcome). Ok o) same, after-cause macs machine past worker at port copy (judged_seen machine.macs seen) h)

-- ---- any station

pub begins-held : (macs : ArrayVec (List ℕ)) → Held macs (new_machine macs.items) []
begins-held macs = record { own = refl; moment = refl; steps = refl; counters = refl }

pub counters-held : (macs : ArrayVec (List ℕ)) (machine : Machine) (past : List Entry) → Held macs machine past → machine.counters ≡ counters (place.Station macs) past
counters-held macs machine past h = h.counters

pub keeps-held : (capacity number : ℕ) (macs : ArrayVec (List ℕ)) (machine : Machine) (past : List Entry) (worker at : ℕ) (event : Event) → Held macs machine past
    → Keeps capacity (owner_of number macs) (Held macs) past (record { worker = worker; at = at; event = event }) (station_step machine at event)
unfolding after_arrival after_send
keeps-held capacity number macs machine past worker at (Send from dst vlan ethertype payload) h =
    subst (λ (own : List (List ℕ)). Answers macs past call (asked (slice_get own from)) (send_from machine at (slice_get machine.macs from) dst ethertype (length payload))) h.own
    (by_source (slice_get machine.macs from))
  where
    call : Call
    call = record { worker = worker; at = at; event = Send from dst vlan ethertype payload }

    asked : Option (List ℕ) → Result Outcome StepFault
    asked src = send_answer capacity (owner_of number macs) past (max (now past) at) src dst ethertype (length payload)

    by_source : (src : Option (List ℕ)) → Answers macs past call (asked src) (send_from machine at src dst ethertype (length payload))
    by_source None = (refl, h)
    by_source (Some src) =
        subst (λ n. Answers macs past call (sent_or_refused (send_refusal src n dst ethertype (length payload)) sent_plain)
        (send_or_refuse machine at (send_refusal src machine.accepted dst ethertype (length payload)))) h.steps
        (send-case macs machine past worker at from dst vlan ethertype payload (send_refusal src machine.accepted dst ethertype (length payload)) h)
keeps-held capacity number macs machine past worker at (Supervise about) h = (refl, h)
keeps-held capacity number macs machine past worker at (Arrive port copy) h = by_port (port == 0)
  where
    call : Call
    call = record { worker = worker; at = at; event = Arrive port copy }

    wants : Wants
    wants = station_wanted macs.items (classified copy.octets)

    by_port : (is_first : Bool)
        → Answers macs past call
        (arrive_answer capacity (owner_of number macs) past (max (now past) at) (if is_first then Some (unnumbered wants) else None) (classified copy.octets))
        (if is_first then after_arrival machine at copy.octets else (Err refused.WrongEvent, machine))
    by_port true =
        subst (λ n. Answers macs past call (arrived capacity number macs past at copy.octets (n == 2 ^ 62)) (arrive_or_spent machine at copy.octets (machine.accepted == 2 ^ 62))) h.steps
        (arrive-case capacity number macs machine past worker at port copy (machine.accepted == 2 ^ 62) h)
    by_port false = (refl, h)
keeps-held capacity number macs machine past worker at Age h = (
  refl,
  record {
    own = h.own;
    moment = ap (λ m. max m at) h.moment;
    steps = h.steps;
    counters = h.counters ∙ λ i. let k : Counters = counters (place.Station macs) past in record k { forwarded = sym (add-zero k.forwarded) i };
  },
)
