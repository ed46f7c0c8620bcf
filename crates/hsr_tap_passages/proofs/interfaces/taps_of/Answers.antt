use Rattle.std.proofs.Common.{arith}
use Rattle.hsr_playback.specs.Letting.{has_in, has_out}
use Rattle.hsr_tap_passages.specs.Interfaces.{shows_in, shows_out}
use Rattle.hsr_tap_passages.proofs.Tapped.{one_more}
use Rattle.hsr_tap_passages.proofs.interfaces.taps_of.Goals as goal

pub loop-k-preserved : goal.loop-k-preserved
loop-k-preserved c = record {
  ins = λ end. one_more (shows_in end) c.args.interfaces.now c.loop-k.k _ (has_in c.loop-k.taps end) _ _ (omega arith) (c.with_tap-taps.ensures.ins end) (c.loop-k.invariant.ins end);
  outs = λ end. one_more (shows_out end) c.args.interfaces.now c.loop-k.k _ (has_out c.loop-k.taps end) _ _ (omega arith) (c.with_tap-taps.ensures.outs end) (c.loop-k.invariant.outs end);
}
