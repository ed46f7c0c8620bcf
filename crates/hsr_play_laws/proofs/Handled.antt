-- A port that is there judges what comes to it, while its node has had few steps.
use Rattle.std.proofs.Common.{◌≡◌, ℕ, ◌^◌, ◌<◌, ◌==◌, Bool, List, Some, Result, Ok, Err, refl, ap, ◌∙◌, arith, zero, suc, ne_eqb}
use Rattle.std.proofs.lemmas.Bool.{cond-false}
use Rattle.hsr_frame.specs.declared.fault.FrameFault.{FrameFault}
use Rattle.hsr_redbox.specs.declared.wanted.Handling.{Handling}
use Rattle.hsr_tag.specs.Seen.{classified}
use Rattle.hsr_tag.specs.declared.seen.Seen.{Seen}
use Rattle.hsr_node.specs.Place.{ports}
use Rattle.hsr_node.specs.Record.{Owner, answer, arrive_answer, handling, judged_as, knows, next_number, passing, remembers, steps}
use Rattle.hsr_node.specs.declared.entry.Entry.{Entry}
use Rattle.hsr_node.specs.declared.event.Carried.{Carried}
use Rattle.hsr_node.specs.declared.event.Event.TheVariants.{Arrive}
use Rattle.hsr_node.specs.declared.event.Outcome.{Outcome}
use Rattle.hsr_node.specs.declared.event.StepFault.TheVariants.{Spent}
use Rattle.hsr_node.specs.declared.place.Place.{Place}
use Rattle.hsr_node.specs.declared.place.Place.TheVariants.{Danh, RedBox, QuadBox, Station}

-- each port that is there handles what comes
handled : (place : Place) (known : List ℕ → Bool) (port : ℕ) (seen : Result Seen FrameFault) → port < ports place → (h : Handling) × (handling place known port seen ≡ Some h)
handled (Danh mac mode) known zero seen below = (_, refl)
handled (Danh mac mode) known (suc zero) seen below = (_, refl)
handled (Danh mac mode) known (suc (suc port)) seen below = absurd (omega (arith, below))
handled (RedBox mac mode) known zero seen below = (_, refl)
handled (RedBox mac mode) known (suc zero) seen below = (_, refl)
handled (RedBox mac mode) known (suc (suc zero)) seen below = (_, refl)
handled (RedBox mac mode) known (suc (suc (suc port))) seen below = absurd (omega (arith, below))
handled QuadBox known zero seen below = (_, refl)
handled QuadBox known (suc zero) seen below = (_, refl)
handled QuadBox known (suc (suc zero)) seen below = (_, refl)
handled QuadBox known (suc (suc (suc zero))) seen below = (_, refl)
handled QuadBox known (suc (suc (suc (suc port)))) seen below = absurd (omega (arith, below))
handled (Station macs) known zero seen below = (_, refl)
handled (Station macs) known (suc port) seen below = absurd (omega (arith, below))

pub arrival_answered : (capacity : ℕ) (owner : Owner) (past : List Entry) (at port : ℕ) (copy : Carried) → port < ports owner.place → steps past < 2 ^ 62 →
    (outcome : Outcome) × (answer capacity owner past at (Arrive port copy) ≡ Ok outcome)
arrival_answered capacity owner past at port copy below few =
    let h = handled owner.place (knows owner.place past at (Arrive port copy)) port (classified copy.octets) below in
    let outcome : Outcome = judged_as h.0 (passing (remembers capacity owner past at) h.0.wants.exits (classified copy.octets)) (next_number past) in
    (outcome, ap (λ o. arrive_answer capacity owner past at o (classified copy.octets)) h.1 ∙ cond-false (steps past == 2 ^ 62) (Err Spent) (Ok outcome) (ne_eqb (steps past) (2 ^ 62) (λ e. omega (arith, e, few))))
