use Rattle.std.proofs.Common.{◌++◌, ◌∷◌, [], ◌∙◌, ℕ, List, count_by, ap, sym, arith}
use Rattle.std.proofs.lemmas.List.FromFn.{map-range_with_len_more}
use Rattle.hsr_node.specs.declared.entry.Entry.{Entry}
use Rattle.hsr_devices.specs.Counted.{is_counted}
use Rattle.hsr_devices.specs.Lines.{counts}
use Rattle.hsr_devices.proofs.lines.counts.Goals as goal

pub loop-port-preserved : goal.loop-port-preserved
unfolding counts
loop-port-preserved c =
    let entries : List Entry = c.args.columns.now.entries.now in
    let port : ℕ = c.loop-port.port in
    let f : ℕ → ℕ = λ p. count_by (is_counted c.args.what p) entries in
    c.in_ok-push.ensures.items
    ∙ (ap (λ (ns : List ℕ). ns ++ c.count.result ∷ []) c.loop-port.invariant
    ∙ (ap (λ (n : ℕ). counts entries port c.args.what ++ n ∷ []) c.count.ensures ∙ sym (map-range_with_len_more f 0 port port (omega arith))))
