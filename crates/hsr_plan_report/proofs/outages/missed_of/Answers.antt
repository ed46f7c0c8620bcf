use Rattle.std.proofs.Common.{◌∙◌, ℕ, ◌-◌, ◌^◌, ◌++◌, ◌∷◌, [], List, ap, sym, zero-add}
use Rattle.std.specs.Prelude.{min}
use Rattle.std.proofs.lemmas.List.FromFn.{map-range_with_len_more}
use Rattle.hsr_plan_report.specs.Outages.{missed_of, sends_from}
use Rattle.hsr_plan_report.proofs.outages.missed_of.Goals as goal

pub loop-node-preserved : goal.loop-node-preserved
loop-node-preserved c =
    let cuts = c.args.cuts.now in
    let node = c.loop-node.node in
    let from : ℕ → ℕ = λ k. min (sends_from k cuts) (2 ^ 64 - 1) in
    c.in_ok-push.ensures.items ∙ ap (λ (list : List ℕ). list ++ c.missed_by.result ∷ []) c.loop-node.invariant
    ∙ ap (λ (n : ℕ). missed_of node cuts ++ n ∷ []) c.missed_by.ensures ∙ sym (map-range_with_len_more from 0 node node (zero-add node))
