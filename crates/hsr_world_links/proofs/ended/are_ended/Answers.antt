use Rattle.std.proofs.Common.{◌≡◌, ◌||◌, ◌∙◌, map, not, sym, ap}
use Rattle.std.specs.List.{list_any}
use Rattle.hsr_world_laws.specs.Closing.{is_busy}
use Rattle.hsr_world_laws.specs.Origin.{has_injected, is_injected}
use Rattle.hsr_world_links.specs.Views.{span_view}
use Rattle.hsr_world_links.proofs.Anywhere.{any_seen}
use Rattle.hsr_world_links.proofs.ended.are_ended.Goals as goal
use Rattle.hsr_world_links.proofs.ended.are_ended.Goals.{then-are_busy, else-are_busy}

pub returns : goal.returns
returns c =
    let spans = c.args.spans.now in
    let busy : c.are_busy.result ≡ list_any is_busy (map span_view spans) = c.are_busy.ensures ∙ any_seen is_busy span_view spans in
    elim c.if-are_busy.branch [
      | then-are_busy w ↦ ap not (w.result-is ∙ w.if-are_busy.true ∙ sym (ap (λ b. b || is_injected (map span_view spans)) (sym busy ∙ w.if-are_busy.true)))
      | else-are_busy w ↦
          ap not (w.result-is ∙ (w.were_injected.ensures ∙ any_seen has_injected span_view spans) ∙ sym (ap (λ b. b || is_injected (map span_view spans)) (sym busy ∙ w.if-are_busy.false)))
    ]
