use Rattle.std.proofs.Common.{◌∙◌, ◌++◌, ◌∷◌, [], ℕ, Bool, List, ap, append-nil, sym}
use Rattle.std.specs.Prelude.{if◌then◌else◌, Vec}
use Rattle.std.specs.Global.{Global}
use Rattle.hsr_frame.proofs.OneMore.{passing_more}
use Rattle.hsr_bitset.specs.Numbers.{has}
use Rattle.hsr_deliveries.specs.Delivered.{nodes_below}
use Rattle.hsr_plan_report.proofs.missing.nodes_of.Goals as goal
use Rattle.hsr_plan_report.proofs.missing.nodes_of.Goals.{then-has+in_ok-push, else-has}

pub loop-node-preserved : goal.loop-node-preserved
loop-node-preserved c =
    let set = c.args.set.now in
    let node = c.loop-node.node in
    let before : List ℕ = nodes_below node (has set) in
    let items : Vec ℕ Global → List ℕ = λ list. list.items in
    let with : Bool → List ℕ = λ b. before ++ (if b then node ∷ [] else []) in
    elim c.if-has.branch [
      | then-has+in_ok-push w ↦ ap items w.list-is ∙ w.in_ok-push.ensures.items ∙ ap (λ list. list ++ node ∷ []) c.loop-node.invariant ∙ ap with w.if-has.ensures ∙ sym (passing_more (has set) node)
      | else-has w ↦ ap items w.list-is ∙ c.loop-node.invariant ∙ sym (append-nil before) ∙ ap with w.if-has.ensures ∙ sym (passing_more (has set) node)
    ]
