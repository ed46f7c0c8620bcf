use Rattle.std.proofs.Common.{◌≡◌, true, false, arith}
use Rattle.hsr_judging.proofs.Opening.{over_here, over_on, over_within}
use Rattle.hsr_judging.specs.Windows.{is_over}
use Rattle.hsr_judging.proofs.matching.first_open.Goals as goal

pub returns-then-not-is_over : goal.returns-then-not-is_over
returns-then-not-is_over c =
    let e = c.index-expected-i.result in
    let open_yet : is_over c.args.window e.moment c.args.at ≡ false = cc in
    record {
      value = over_here c.args.window c.args.at c.args.expected.now c.loop-i.i e (omega arith) c.index-expected-i.is c.loop-i.invariant open_yet;
      within = omega arith;
    }

pub loop-i-preserved : goal.loop-i-preserved
loop-i-preserved c =
    let e = c.index-expected-i.result in
    let over : is_over c.args.window e.moment c.args.at ≡ true = cc in
    over_on c.args.window c.args.at c.args.expected.now c.loop-i.i e (omega arith) c.index-expected-i.is c.loop-i.invariant over

pub returns : goal.returns
returns c = record {
  value = omega (arith, over_within c.args.window c.args.at c.args.expected.now);
  within = omega arith;
}
