use Rattle.std.proofs.Common.{◌∙◌, arith}
use Rattle.hsr_certify.proofs.Serves.{avoided_more}
use Rattle.hsr_certify.proofs.serving.avoided.Goals as goal

pub loop-link-init : goal.loop-link-init
loop-link-init c = λ channel inside. absurd (omega (arith, inside))

pub loop-link-preserved : goal.loop-link-preserved
loop-link-preserved c =
    avoided_more c.args.orders.now c.args.span.now c.loop-link.link c.has.result c.loop-link.set c.put_link.new.set (omega arith) (c.has.ensures ∙ c.requires.down c.loop-link.link (omega arith)) c.put_link.ensures c.loop-link.invariant

pub returns : goal.returns
returns c = λ channel inside. c.loop-link.invariant channel (omega (arith, inside))
