use Rattle.std.proofs.Common.{◌∙◌, None, arith}
use Rattle.hsr_judging.proofs.Numbered.{taken_long, taken_more, taken_whole}
use Rattle.hsr_judging.proofs.numbers.taken_of.Goals as goal

pub loop-k-preserved : goal.loop-k-preserved
loop-k-preserved c =
    let es = c.args.expected.now in
    let seen = c.args.observed.now in
    let gots = c.args.gots.now in
    let taken = c.loop-k.taken.items in
    let after = c.take_into.new.taken.items in
    let k = c.loop-k.k in
    record {
      long = taken_long taken after c.index-observed-k.result.now _ c.take_into.ensures ∙ c.loop-k.invariant.long;
      each = λ cause below. taken_more cause es seen gots k c.index-observed-k.result None _ taken after _ (omega arith) (omega arith) (omega (arith, c.loop-k.invariant.long, below))
          c.index-observed-k.is c.copy_of-copy.ensures c.take_into.ensures (c.loop-k.invariant.each cause below);
    }

pub returns : goal.returns
returns c =
    taken_whole c.args.expected.now c.args.observed.now c.args.gots.now c.loop-k.k c.args.passages c.loop-k.taken.items (omega arith) c.loop-k.invariant.long c.loop-k.invariant.each
