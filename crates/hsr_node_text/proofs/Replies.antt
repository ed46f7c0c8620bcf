-- There is always something to answer.
use Rattle.std.proofs.Common.{◌≡◌, ◌<◌, ◌++◌, List, ℕ, length, Bool, Option, Some, None, option_map, Result, Ok, Err, ap, subst, arith, codes}
use Rattle.std.proofs.lemmas.List.{length-append}
use Rattle.hsr_frame.specs.Words.{cause_text}
use Rattle.hsr_frame.specs.declared.counters.Counters.{Counters}
use Rattle.hsr_text.proofs.Cuts.{none≢some}
use Rattle.hsr_node.specs.Copies.{up_octets}
use Rattle.hsr_node.specs.Step.{node_step}
use Rattle.hsr_node.specs.declared.event.Event.{Event}
use Rattle.hsr_node.specs.declared.event.Outcome.{Outcome}
use Rattle.hsr_node.specs.declared.event.Outcome.TheVariants.{Sent, Life, Judged, Aged}
use Rattle.hsr_node.specs.declared.event.StepFault.{StepFault}
use Rattle.hsr_node.specs.declared.node.Node.{Node}
use Rattle.hsr_node.specs.declared.place.Place.{Place}
use Rattle.hsr_node_text.specs.Request.{request_of}
use Rattle.hsr_node_text.specs.declared.request.Request.{Request}
use Rattle.hsr_node_text.specs.declared.request.Setting.{Setting}
use Rattle.hsr_node_text.specs.Reply.{answer_of, answer_to, counter_line, leaving_text, outcome_line, outcome_text, passed_text, port_text, refusal_code, refused_text, reply, verdict_text, word_if}

pub some_before : (front rest : List ℕ) → 0 < length front → 0 < length (front ++ rest)
some_before front rest h = simp length-append (omega arith)

pub some_behind : (front rest : List ℕ) → 0 < length rest → 0 < length (front ++ rest)
some_behind front rest h = simp length-append (omega arith)

verdict_some : (place : Place) (up : Bool) (ports : List Bool) → 0 < length (verdict_text place up ports)
verdict_some place up ports =
    some_behind (word_if up (codes " up") ++ port_text place ports 0 ++ port_text place ports 1 ++ port_text place ports 2 ++ port_text place ports 3) (codes "\n") (omega arith)

line_some : (place : Place) (o : Outcome) → 0 < length (outcome_line place o)
line_some place (Sent seq ports) = some_before (codes "sent ") _ (omega arith)
line_some place (Life seq life ports) = some_before (codes "life ") _ (omega arith)
line_some place (Judged up ports seq cause) = some_behind (cause_text (codes " ") cause) _ (verdict_some place up ports)
line_some place Aged = omega arith

outcome_some : (place : Place) (event : Event) (o : Outcome) → 0 < length (outcome_text place event o)
unfolding outcome_text
outcome_some place event o = some_before (outcome_line place o ++ leaving_text (codes "up") (up_octets event o)) _ (some_before (outcome_line place o) _ (line_some place o))

refused_some : (code : Option ℕ) (text : List ℕ) → option_map refused_text code ≡ Some text → 0 < length text
refused_some None text e = absurd (none≢some e)
refused_some (Some n) text e =
    let is : Some (refused_text n) ≡ Some text = e in
    let same : refused_text n ≡ text = cc in
    subst (λ (t : List ℕ). 0 < length t) same (some_before (codes "refused ") _ (omega arith))

reply_some : (place : Place) (event : Event) (r : Result Outcome StepFault) (text : List ℕ) → reply place event r ≡ Some text → 0 < length text
reply_some place event (Ok o) text e =
    let is : Some (outcome_text place event o) ≡ Some text = e in
    let same : outcome_text place event o ≡ text = cc in
    subst (λ (t : List ℕ). 0 < length t) same (outcome_some place event o)
reply_some place event (Err fault) text e = refused_some (refusal_code fault) text e

replied_some : {M : Type 0} (said : Option (List ℕ)) (node new : M) (text : List ℕ) → option_map {U = List ℕ × M} (λ (t : List ℕ). (t, node)) said ≡ Some (text, new) → said ≡ Some text
replied_some {M} None node new text e = absurd (none≢some e)
replied_some {M} (Some t) node new text e = ap (option_map (λ (p : List ℕ × M). p.0)) e

to_some : (capacity : ℕ) (place : Place) (old new : Node capacity) (r : Option Request) (text : List ℕ) → answer_to capacity place old r ≡ Some (text, new) → 0 < length text
to_some capacity place old new None text e = absurd (none≢some e)
to_some capacity place old new (Some r) text e =
    let step = node_step capacity old r.at r.event in
    reply_some place r.event step.0 text (replied_some (reply place r.event step.0) step.1 new text e)

pub answer_some : (capacity : ℕ) (setting : Setting) (old new : Node capacity) (line text : List ℕ) → answer_of capacity setting old line ≡ Some (text, new) → 0 < length text
unfolding answer_of
answer_some capacity setting old new line text e = to_some capacity setting.place old new (request_of setting line) text e

pub counter_some : (c : Counters) → 0 < length (counter_line c)
unfolding counter_line
counter_some c = some_before (passed_text c) _ (some_before (codes "sent ") _ (omega arith))
