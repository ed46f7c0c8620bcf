-- What one step of a QuadBox keeps.
use Rattle.std.proofs.Common.{◌≡◌, ℕ, ◌+◌, ◌≤◌, ◌<◌, ◌==◌, true, false, ap, refl, arith, rules, Result, Ok, Err, List}
use Rattle.hsr_frame.specs.Counters.{step_limit}
use Rattle.hsr_frame.specs.Egress.{a, b, c, d}
use Rattle.hsr_frame.specs.declared.counters.Counters.{Counters}
use Rattle.hsr_frame.specs.declared.egress.Exits.{Exits}
use Rattle.hsr_frame.specs.declared.fault.FrameFault.{FrameFault}
use Rattle.hsr_frame.specs.declared.fault.Spent.{Spent}
use Rattle.hsr_tag.specs.Seen.{classified}
use Rattle.hsr_tag.specs.declared.seen.Seen.{Seen}
use Rattle.hsr_tag.specs.declared.seen.Seen.TheVariants.{Plain, Tagged}
use Rattle.hsr_forwarding.specs.Tables.{Notes, among, copies_of, counted_with, judged, passed}
use Rattle.hsr_forwarding.specs.declared.judged.Judged.{Judged}
use Rattle.hsr_forwarding.proofs.Keeping.{copies-few as few}
use Rattle.hsr_quadbox.specs.Wanted.{egresses, wanted}
use Rattle.hsr_quadbox.specs.Machine.{Machine}
use Rattle.hsr_quadbox.specs.Step.{arrive_step, now_at, verdict_of}
use Rattle.hsr_quadbox.specs.declared.quadbox.QuadVerdict.{QuadVerdict}
use Rattle.hsr_quadbox.specs.declared.wanted.QuadPort.{QuadPort}
use Rattle.hsr_quadbox.specs.declared.wanted.QuadPort.TheVariants.{A, B, C, D}

-- what came to a port is wanted at ports of the box alone
pub wanted-among : (x : QuadPort) (seen : Result Seen FrameFault) → let exits = (wanted x seen).exits in exits ≡ among exits egresses
wanted-among x (Err fault) = refl
wanted-among x (Ok (Plain frame)) = refl
wanted-among A (Ok (Tagged frame)) = refl
wanted-among B (Ok (Tagged frame)) = refl
wanted-among C (Ok (Tagged frame)) = refl
wanted-among D (Ok (Tagged frame)) = refl

-- the port of arrival never passes, so three do at most
pub copies-few : (capacity : ℕ) (notes : Notes) (x : QuadPort) (seen : Result Seen FrameFault) (now : ℕ) → copies_of (judged capacity notes (wanted x seen) seen now).0.passes ≤ 3
copies-few capacity notes x (Err fault) now = omega arith
copies-few capacity notes x (Ok (Plain frame)) now = omega arith
copies-few capacity notes x (Ok (Tagged frame)) now = by_port x
  where
    passes_at : QuadPort → Exits
    passes_at x = (passed capacity notes (wanted x (Ok (Tagged frame))).exits (Ok (Tagged frame)) now).0

    by_port : (x : QuadPort) → copies_of (passes_at x) ≤ 3
    by_port A = few (passes_at A) a refl refl
    by_port B = few (passes_at B) b refl refl
    by_port C = few (passes_at C) c refl refl
    by_port D = few (passes_at D) d refl refl

-- a spent box changes nothing
pub arrive-spent : (capacity : ℕ) (machine : Machine) (at : ℕ) (x : QuadPort) (octets : List ℕ) → machine.accepted ≡ step_limit
    → (Err (record {}), machine) ≡ arrive_step capacity machine at x octets
unfolding arrive_step
arrive-spent capacity machine at x octets spent =
    let full : (machine.accepted == step_limit) ≡ true = search (rules, arith) in
    rw full refl

-- an arrival that is judged and counted is the step
pub arrive-accepted : (capacity : ℕ) (machine : Machine) (at : ℕ) (x : QuadPort) (octets : List ℕ) (verdict : Judged) (notes : Notes) (counters : Counters)
    → machine.accepted < step_limit
    → (verdict, notes) ≡ judged capacity machine.notes (wanted x (classified octets)) (classified octets) (now_at machine at)
    → counters ≡ counted_with machine.counters verdict true
    → (Ok (verdict_of verdict), record machine { notes = notes; counters = counters; moment = now_at machine at; accepted = machine.accepted + 1 })
    ≡ arrive_step capacity machine at x octets
unfolding arrive_step
arrive-accepted capacity machine at x octets verdict notes counters some outcome count =
    let left : (machine.accepted == step_limit) ≡ false = search (rules, arith) in
    let step : Judged × Notes → Result QuadVerdict Spent × Machine = λ o. (
      Ok (verdict_of o.0),
      record machine { notes = o.1; counters = counted_with machine.counters o.0 true; moment = now_at machine at; accepted = machine.accepted + 1 },
    ) in
    rw (left, count) (ap step outcome)
