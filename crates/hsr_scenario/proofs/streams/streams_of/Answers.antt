use Rattle.std.proofs.Common.{◌∙◌, ap, map}
use Rattle.hsr_scenario.specs.Streams.{streams_at}
use Rattle.hsr_scenario.proofs.Sent.{nodes_more}
use Rattle.hsr_scenario.proofs.streams.streams_of.Goals as goal

pub loop-node-preserved : goal.loop-node-preserved
loop-node-preserved c =
    ap (map (λ list. map (λ name. name.items) list.items)) c.in_ok-push.ensures.items
    ∙ nodes_more (λ list. map (λ name. name.items) list.items) (streams_at c.args.sends.now) c.loop-node.streams.items c.in_ok-streams_at.field-0 c.loop-node.node
    c.loop-node.invariant c.in_ok-streams_at.ensures
