-- What is told is the answer of the node's step.
use Rattle.std.proofs.Common.{◌≡◌, List, ℕ, Option, Some, option_map, Result, Ok, Err, ap, sym, subst}
use Rattle.hsr_text.specs.Words.{Gives}
use Rattle.hsr_text.specs.declared.words.WordFault.{WordFault}
use Rattle.hsr_text.specs.declared.words.WordFault.TheVariants.{Bad, Memory}
use Rattle.hsr_node.specs.Step.{node_step}
use Rattle.hsr_node.specs.declared.event.Outcome.{Outcome}
use Rattle.hsr_node.specs.declared.event.StepFault.{StepFault}
use Rattle.hsr_node.specs.declared.node.Node.{Node}
use Rattle.hsr_node.specs.declared.place.Place.{Place}
use Rattle.hsr_node_text.specs.Reply.{answer_to, outcome_text, refusal_code, refused_text, replied, reply}
use Rattle.hsr_node_text.specs.declared.request.Request.{Request}

-- a text that is told, with the node behind it
told : {M : Type 0} (node : M) (text : List ℕ) (said : Option (List ℕ)) (result : Result (Unit {0}) WordFault) → Gives (λ (_ : Unit {0}). text) result said
    → Gives {Y = List ℕ × M} (λ (_ : Unit {0}). (text, node)) result (option_map {U = List ℕ × M} (λ (t : List ℕ). (t, node)) said)
told {M} node text said (Ok _) h = ap (λ (s : Option (List ℕ)). option_map {U = List ℕ × M} (λ (t : List ℕ). (t, node)) s) h
told {M} node text said (Err Bad) h = ap (λ (s : Option (List ℕ)). option_map {U = List ℕ × M} (λ (t : List ℕ). (t, node)) s) h
told {M} node text said (Err Memory) h = tt

stepped : (capacity : ℕ) (place : Place) (old new : Node capacity) (r : Request) (text : List ℕ) (result : Result (Unit {0}) WordFault) (done : Result Outcome StepFault)
    → (done, new) ≡ node_step capacity old r.at r.event → Gives (λ (_ : Unit {0}). text) result (reply place r.event done)
    → Gives {Y = List ℕ × Node capacity} (λ (_ : Unit {0}). (text, new)) result (answer_to capacity place old (Some r))
stepped capacity place old new r text result done step h =
    subst (λ (after : Result Outcome StepFault × Node capacity). Gives {Y = List ℕ × Node capacity} (λ (_ : Unit {0}). (text, new)) result (replied place r.event after)) step
    (told new text (reply place r.event done) result h)

pub accepted : (capacity : ℕ) (place : Place) (old new : Node capacity) (r : Request) (text : List ℕ) (result : Result (Unit {0}) WordFault) (outcome : Outcome)
    → (Ok outcome, new) ≡ node_step capacity old r.at r.event → Gives (λ (_ : Unit {0}). text) result (Some (outcome_text place r.event outcome))
    → Gives {Y = List ℕ × Node capacity} (λ (_ : Unit {0}). (text, new)) result (answer_to capacity place old (Some r))
accepted capacity place old new r text result outcome step h = stepped capacity place old new r text result (Ok outcome) step h

pub refused : (capacity : ℕ) (place : Place) (old new : Node capacity) (r : Request) (text : List ℕ) (result : Result (Unit {0}) WordFault) (fault : StepFault)
    → (Err fault, new) ≡ node_step capacity old r.at r.event → Gives (λ (_ : Unit {0}). text) result (option_map refused_text (refusal_code fault))
    → Gives {Y = List ℕ × Node capacity} (λ (_ : Unit {0}). (text, new)) result (answer_to capacity place old (Some r))
refused capacity place old new r text result fault step h = stepped capacity place old new r text result (Err fault) step h

-- what asks for something is answered so
pub asked : (capacity : ℕ) (place : Place) (old new : Node capacity) (text : List ℕ) (r : Request) (result : Result (Unit {0}) WordFault) (said : Option Request)
    → Gives (λ (q : Request). q) (Ok r) said → Gives {Y = List ℕ × Node capacity} (λ (_ : Unit {0}). (text, new)) result (answer_to capacity place old (Some r))
    → Gives {Y = List ℕ × Node capacity} (λ (_ : Unit {0}). (text, new)) result (answer_to capacity place old said)
asked capacity place old new text r result said is h =
    subst (λ (o : Option Request). Gives {Y = List ℕ × Node capacity} (λ (_ : Unit {0}). (text, new)) result (answer_to capacity place old o)) (sym is) h

-- what asks for nothing is bad
pub unasked : (capacity : ℕ) (place : Place) (old new : Node capacity) (text : List ℕ) (fault : WordFault) (said : Option Request)
    → Gives (λ (q : Request). q) (Err fault) said → Gives {Y = List ℕ × Node capacity} (λ (_ : Unit {0}). (text, new)) (Err fault) (answer_to capacity place old said)
unasked capacity place old new text Bad said h = ap (answer_to capacity place old) h
unasked capacity place old new text Memory said h = tt
