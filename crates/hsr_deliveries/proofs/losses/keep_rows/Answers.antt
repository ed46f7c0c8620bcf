use Rattle.std.proofs.Common.{rules, ◌≡◌, ◌++◌, ◌<◌, length, slice_index_or, take, ap, sym, ◌∙◌, append_assoc}
use Rattle.std.specs.Prelude.{filter_map}
use Rattle.std.specs.List.{cons_option}
use Rattle.hsr_link.specs.declared.row.Row.{Row}
use Rattle.hsr_deliveries.specs.Counted.{losses_in}
use Rattle.hsr_deliveries.specs.Delivered.{loss_of}
use Rattle.hsr_deliveries.proofs.Gathering.{rows_more}
use Rattle.hsr_deliveries.proofs.losses.keep_rows.Goals as goal

pub loop-row-preserved : goal.loop-row-preserved
loop-row-preserved c = λ send.
    let row : Row = c.row-item.result in
    let below : c.loop-row.row-index < length c.args.rows.now = search rules in
    let is : row ≡ slice_index_or c.args.rows.now c.loop-row.row-index row = search rules in
    let old = losses_in c.args.kept.now send in
    c.in_ok-keep_row.ensures send
    ∙ ap (λ ls. ls ++ cons_option (loss_of send c.args.link row) Rattle.std.proofs.Common.[]) (c.loop-row.invariant send)
    ∙ append_assoc old (filter_map (loss_of send c.args.link) (take c.loop-row.row-index c.args.rows.now)) (cons_option (loss_of send c.args.link row) Rattle.std.proofs.Common.[])
    ∙ ap (λ (x : Row). old ++ (filter_map (loss_of send c.args.link) (take c.loop-row.row-index c.args.rows.now) ++ cons_option (loss_of send c.args.link x) Rattle.std.proofs.Common.[])) is
    ∙ sym (ap (λ ls. old ++ ls) (rows_more send c.args.link c.args.rows.now c.loop-row.row-index row below))
