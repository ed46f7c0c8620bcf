use Rattle.std.proofs.Common.{ℕ, Bool, arith, length, sym}
use Rattle.std.specs.Prelude.{nat_lt}
use Rattle.hsr_health.specs.Told.{lost_at}
use Rattle.hsr_health.proofs.Finding.{here_in_range, less_than, none_in_range, none_more_in_range, not_less}
use Rattle.hsr_health.proofs.whole_reasons.first_lost.Goals as goal

pub returns-then-lost_at-gt0 : goal.returns-then-lost_at-gt0
returns-then-lost_at-gt0 c =
    let lost : ℕ → Bool = λ i. nat_lt 0 (lost_at c.args.losses.now c.args.is_asked.now i) in
    sym (here_in_range lost (length c.args.losses.now) c.loop-i.i (omega arith) (less_than 0 _ (omega (arith, c.lost_at.ensures, c.if-lost_at-gt0.true))) c.loop-i.invariant)

pub loop-i-preserved : goal.loop-i-preserved
loop-i-preserved c =
    let lost : ℕ → Bool = λ i. nat_lt 0 (lost_at c.args.losses.now c.args.is_asked.now i) in
    none_more_in_range lost (length c.args.losses.now) c.loop-i.i (omega arith) (not_less 0 _ (omega (arith, c.lost_at.ensures, c.if-lost_at-gt0.false))) c.loop-i.invariant

pub returns : goal.returns
returns c =
    let lost : ℕ → Bool = λ i. nat_lt 0 (lost_at c.args.losses.now c.args.is_asked.now i) in
    sym (none_in_range lost (length c.args.losses.now) c.loop-i.i (omega arith) c.loop-i.invariant)
