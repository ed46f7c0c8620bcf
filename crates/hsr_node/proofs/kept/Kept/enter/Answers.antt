use Rattle.std.proofs.Common.{◌≡◌, List, reverse, Result, Ok, Err, subst, sym, ap, ◌∙◌, inr}
use Rattle.hsr_node.specs.Kept.{Record, Replays, answer_to}
use Rattle.hsr_node.specs.Step.{node_step}
use Rattle.hsr_node.specs.declared.entry.Entry.{Entry}
use Rattle.hsr_node.specs.declared.event.Outcome.{Outcome}
use Rattle.hsr_node.specs.declared.event.StepFault.{StepFault}
use Rattle.hsr_node.specs.declared.node.Node.{Node}
use Rattle.hsr_node.proofs.Refused.{refused-leaves}
use Rattle.hsr_node.proofs.Replayed.{answers}
use Rattle.hsr_node.proofs.kept.Kept.enter.Goals as goal

-- a refusal left the node as it was
pub invariant_of-self-in-Err : goal.invariant_of-self-in-Err
invariant_of-self-in-Err g c =
    let kept = c.self.inside in
    let is_refused : (node_step g.row.C kept.node c.args.at c.args.event).0 ≡ Err c.in-Err.fault = sym {A = Result Outcome StepFault} (ap (λ s. s.0) c.apply.ensures) ∙ c.in-Err.is in
    let same : c.apply.new.self ≡ kept.node = ap (λ s. s.1) c.apply.ensures ∙ refused-leaves g.row.C kept.node c.args.at c.args.event c.in-Err.fault is_refused in
    subst (λ (n : Node g.row.C). Replays g.row.C kept.place (reverse c.make_room.new.list.items) n) (sym {A = Node g.row.C} same)
    (subst (λ (es : List Entry). Replays g.row.C kept.place (reverse es) kept.node) (sym {A = List Entry} c.make_room.ensures.items) c.self.invariant)

-- a node refuses what its record refuses
pub returns-in-Err-clause-answered : goal.returns-in-Err-clause-answered
returns-in-Err-clause-answered g c =
    let kept = c.self.inside in
    inr (subst (λ (r : Record). answer_to g.row.C r c.args.at c.args.event ≡ Err c.in-Err.fault) c.self.view_is
    (answers g.row.C kept.number kept.place kept.node (reverse kept.entries.items) c.args.at c.args.event c.self.invariant
    ∙ sym (ap (λ s. s.0) c.apply.ensures) ∙ c.in-Err.is))

-- a node answers what its record answers
pub returns-clause-answered : goal.returns-clause-answered
returns-clause-answered g c =
    let kept = c.self.inside in
    subst (λ (r : Record). answer_to g.row.C r c.args.at c.args.event ≡ Ok c.in-Ok.outcome) c.self.view_is
    (answers g.row.C kept.number kept.place kept.node (reverse kept.entries.items) c.args.at c.args.event c.self.invariant
    ∙ sym (ap (λ s. s.0) c.apply.ensures) ∙ c.in-Ok.is)
