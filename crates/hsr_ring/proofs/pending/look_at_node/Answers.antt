use Rattle.std.proofs.Common.{◌≡◌, ◌+◌, ◌*◌, ◌<◌, map, ◌∙◌, arith}
use Rattle.std.proofs.lemmas.Grind.{common_steps}
use Rattle.hsr_world_links.specs.Views.{span_view}
use Rattle.hsr_ring.proofs.Nodes.{four_looked}
use Rattle.hsr_ring.proofs.pending.look_at_node.Goals as goal

pub returns : goal.returns
returns c = λ k below.
    let all : c.loop-number.number ≡ 8 * c.args.node + 4 = omega arith in
    c.loop-number.invariant k below ∙ four_looked c.args.ports.now (map span_view c.args.spans.now) c.args.waiting.now c.args.node k c.loop-number.number all below c.requires

pub loop-number-preserved : goal.loop-number-preserved
loop-number-preserved c = λ k below.
    let set = c.look_at_number.ensures k below in
    let before = c.loop-number.invariant k below in
    grind (arith, common_steps, set, before)

pub look_at_number-requires : goal.look_at_number-requires
look_at_number-requires c =
    let below : c.loop-number.number < 512 = omega arith in
    record {
      below = below;
      sender = λ none.
          let before = c.loop-number.invariant c.loop-number.number below in
          let old = c.requires.senders c.loop-number.number below none in
          grind (arith, common_steps, before, old);
    }
