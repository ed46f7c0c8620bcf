use Rattle.std.proofs.Common.{◌≡◌, ◌-◌, ◌∙◌, true, false, sym, arith, nat_le}
use Rattle.hsr_playback.proofs.Backwards.{known_all, known_here, known_old, known_on}
use Rattle.hsr_playback.specs.Known.{is_given}
use Rattle.hsr_playback.proofs.known.known_number.Goals as goal

pub returns-then-is_forgotten : goal.returns-then-is_forgotten
returns-then-is_forgotten c =
    let g = c.index-given-given.result in
    let old : nat_le 400000 (c.args.at - g.at) ≡ true = cc in
    sym (known_old c.args.given.now c.args.at c.args.source.now c.args.number c.loop-j.j g (omega arith) c.index-given-given.is old) ∙ c.loop-j.invariant

pub returns-then-is_given : goal.returns-then-is_given
returns-then-is_given c =
    let g = c.index-given-given.result in
    let young : nat_le 400000 (c.args.at - g.at) ≡ false = cc in
    let here : is_given g c.args.source.now c.args.number ≡ true = cc in
    sym (known_here c.args.given.now c.args.at c.args.source.now c.args.number c.loop-j.j g (omega arith) c.index-given-given.is young here) ∙ c.loop-j.invariant

pub loop-j-preserved : goal.loop-j-preserved
loop-j-preserved c =
    let g = c.index-given-given.result in
    let young : nat_le 400000 (c.args.at - g.at) ≡ false = cc in
    let other : is_given g c.args.source.now c.args.number ≡ false = cc in
    sym (known_on c.args.given.now c.args.at c.args.source.now c.args.number c.loop-j.j g (omega arith) c.index-given-given.is young other) ∙ c.loop-j.invariant

pub returns : goal.returns
returns c = sym (known_all c.args.given.now c.args.at c.args.source.now c.args.number c.loop-j.j (omega arith)) ∙ c.loop-j.invariant
