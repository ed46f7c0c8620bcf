use Rattle.std.proofs.Common.{◌≡◌, ◌-◌, ◌∙◌, arith, false, nat_le, sym, true}
use Rattle.hsr_judging.proofs.Latest.{twice_all, twice_here, twice_old, twice_on}
use Rattle.hsr_judging.specs.Reasons.{is_again}
use Rattle.hsr_judging.proofs.reason.is_twice.Goals as goal

pub returns-then-is_forgotten : goal.returns-then-is_forgotten
returns-then-is_forgotten c =
    let p = c.index-earlier-earlier.result in
    let old : nat_le 400000000 (c.args.copy.now.moment - p.now.moment) ≡ true = cc in
    sym (twice_old c.args.copy.now c.args.earlier.now c.loop-j.j p (omega arith) c.index-earlier-earlier.is old) ∙ c.loop-j.invariant

pub returns-then-is_again : goal.returns-then-is_again
returns-then-is_again c =
    let p = c.index-earlier-earlier.result in
    let young : nat_le 400000000 (c.args.copy.now.moment - p.now.moment) ≡ false = cc in
    let again : is_again p.now c.args.copy.now ≡ true = cc in
    sym (twice_here c.args.copy.now c.args.earlier.now c.loop-j.j p (omega arith) c.index-earlier-earlier.is young again) ∙ c.loop-j.invariant

pub loop-j-preserved : goal.loop-j-preserved
loop-j-preserved c =
    let p = c.index-earlier-earlier.result in
    let young : nat_le 400000000 (c.args.copy.now.moment - p.now.moment) ≡ false = cc in
    let other : is_again p.now c.args.copy.now ≡ false = cc in
    sym (twice_on c.args.copy.now c.args.earlier.now c.loop-j.j p (omega arith) c.index-earlier-earlier.is young other) ∙ c.loop-j.invariant

pub returns : goal.returns
returns c = sym (twice_all c.args.copy.now c.args.earlier.now c.loop-j.j (omega arith)) ∙ c.loop-j.invariant
