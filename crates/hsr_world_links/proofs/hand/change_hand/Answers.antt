use Rattle.std.proofs.Common.{Option, map, option_map, sym, ap, ◌∙◌}
use Rattle.hsr_world_links.specs.Hands.{handed, with_hand}
use Rattle.hsr_world_links.specs.Views.{span_view, spot_view}
use Rattle.hsr_world_links.specs.declared.spot.Spot.{Spot}
use Rattle.hsr_world_links.proofs.Places.{on_span_seen}
use Rattle.hsr_world_links.proofs.hand.change_hand.Goals as goal

pub returns-in-Some-clause-now : goal.returns-in-Some-clause-now
returns-in-Some-clause-now c =
    on_span_seen (handed c.in-Some.spot.dir c.args.hand) c.args.spans.now c.in-Some.spot.link c.change.new.span c.index-spans-spot.result c.if-spot-spans.true c.change.ensures.now
    ∙ ap (λ (spot : Option Spot). with_hand c.args.hand (map span_view c.args.spans.now) (option_map spot_view spot)) (sym c.in-Some.is)
