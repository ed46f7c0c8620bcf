use Rattle.std.proofs.Common.{◌≡◌, ◌∙◌, [], drop, map, get_or, ap, sym, subst}
use Rattle.std.specs.Prelude.{filter_map}
use Rattle.std.proofs.lemmas.List.{get_or-map}
use Rattle.hsr_finished_run.specs.Finished.{planned_by}
use Rattle.hsr_transcript.specs.Items.{entry_items}
use Rattle.hsr_transcript.proofs.Orders.{next_some}
use Rattle.hsr_transcript.proofs.order.is_used_up.Goals as goal

pub returns-then-is_some : goal.returns-then-is_some
returns-then-is_some c = (
  λ h. absurd (cc),
  λ none.
      let k = c.loop-k.k in
      let records = c.args.records.now in
      let here : get_or (map entry_items records) k [] ≡ c.as_slice.result.now =
      get_or-map entry_items records k c.index-records-k.result [] c.loop-k-test.true ∙ sym (ap entry_items c.index-records-k.is) ∙ sym c.as_slice.ensures.value in
      let empty : filter_map (planned_by k) (drop (get_or c.args.passed.now k 0) c.as_slice.result.now) ≡ [] = subst (λ l. filter_map (planned_by k) (drop (get_or c.args.passed.now k 0) l) ≡ []) here (none k) in
      absurd (next_some c.as_slice.result.now (get_or c.args.passed.now k 0) k c.next_main-next.result c.next_main-next.ensures (sym c.if-is_some.ensures) empty),
)
