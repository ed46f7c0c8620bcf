use Rattle.std.proofs.Common.{◌≡◌, ◌∙◌, ◌&&◌, true, false, sym, arith}
use Rattle.hsr_judging.proofs.Parted.{free_within}
use Rattle.hsr_judging.proofs.Turning.{first_ahead, first_all, first_free, first_on}
use Rattle.hsr_judging.specs.Matching.{fits, is_alone}
use Rattle.hsr_judging.specs.Windows.{is_ahead}
use Rattle.hsr_judging.proofs.matching.first_alone.Goals as goal

pub returns-then-is_ahead-clause-value : goal.returns-then-is_ahead-clause-value
returns-then-is_ahead-clause-value c =
    let e = c.index-expected-i.result in
    let ahead : is_ahead c.args.turn.window e.moment c.args.seen.now.moment ≡ true = cc in
    sym (first_ahead c.args.turn c.args.alone.now c.args.seen.now c.args.expected.now c.loop-i.i e (omega arith) c.index-expected-i.is ahead) ∙ c.loop-i.invariant

pub returns-then-is_free-clause-value : goal.returns-then-is_free-clause-value
returns-then-is_free-clause-value c =
    let e = c.index-expected-i.result in
    let begun : is_ahead c.args.turn.window e.moment c.args.seen.now.moment ≡ false = cc in
    let free : (is_alone c.args.alone.now c.loop-i.i && fits c.args.turn e c.args.seen.now) ≡ true = cc in
    sym (first_free c.args.turn c.args.alone.now c.args.seen.now c.args.expected.now c.loop-i.i e (omega arith) c.index-expected-i.is begun free) ∙ c.loop-i.invariant

pub returns-then-is_free-clause-within : goal.returns-then-is_free-clause-within
returns-then-is_free-clause-within c =
    let e = c.index-expected-i.result in
    let free : (is_alone c.args.alone.now c.loop-i.i && fits c.args.turn e c.args.seen.now) ≡ true = cc in
    free_within c.args.alone.now c.loop-i.i (fits c.args.turn e c.args.seen.now) free

pub loop-i-preserved : goal.loop-i-preserved
loop-i-preserved c =
    let e = c.index-expected-i.result in
    let begun : is_ahead c.args.turn.window e.moment c.args.seen.now.moment ≡ false = cc in
    let other : (is_alone c.args.alone.now c.loop-i.i && fits c.args.turn e c.args.seen.now) ≡ false = cc in
    sym (first_on c.args.turn c.args.alone.now c.args.seen.now c.args.expected.now c.loop-i.i e (omega arith) c.index-expected-i.is begun other) ∙ c.loop-i.invariant

pub returns-clause-value : goal.returns-clause-value
returns-clause-value c = sym (first_all c.args.turn c.args.alone.now c.args.seen.now c.args.expected.now c.loop-i.i (omega arith)) ∙ c.loop-i.invariant
