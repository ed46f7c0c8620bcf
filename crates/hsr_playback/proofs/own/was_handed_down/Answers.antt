use Rattle.std.proofs.Common.{◌≡◌, ◌-◌, ◌/◌, ◌∙◌, ◌&&◌, true, false, sym, arith, nat_lt}
use Rattle.std.specs.Str.{bytes_eq}
use Rattle.hsr_playback.proofs.Backwards.{handed_all, handed_here, handed_old, handed_on}
use Rattle.hsr_playback.specs.Own.{is_handed_down}
use Rattle.hsr_playback.proofs.own.was_handed_down.Goals as goal

pub returns-then-is_past : goal.returns-then-is_past
returns-then-is_past c =
    let p = c.index-before-before.result in
    let old : nat_lt c.args.within ((c.args.moment - p.moment) / 1000) ≡ true = cc in
    sym (handed_old c.args.within c.args.moment c.args.plain.now c.args.before.now c.loop-j.j p (omega arith) c.index-before-before.is old) ∙ c.loop-j.invariant

pub returns-then-is_handed : goal.returns-then-is_handed
returns-then-is_handed c =
    let p = c.index-before-before.result in
    let young : nat_lt c.args.within ((c.args.moment - p.moment) / 1000) ≡ false = cc in
    let here : (is_handed_down p && bytes_eq c.args.plain.now p.octets) ≡ true = cc in
    sym (handed_here c.args.within c.args.moment c.args.plain.now c.args.before.now c.loop-j.j p (omega arith) c.index-before-before.is young here) ∙ c.loop-j.invariant

pub loop-j-preserved : goal.loop-j-preserved
loop-j-preserved c =
    let p = c.index-before-before.result in
    let young : nat_lt c.args.within ((c.args.moment - p.moment) / 1000) ≡ false = cc in
    let other : (is_handed_down p && bytes_eq c.args.plain.now p.octets) ≡ false = cc in
    sym (handed_on c.args.within c.args.moment c.args.plain.now c.args.before.now c.loop-j.j p (omega arith) c.index-before-before.is young other) ∙ c.loop-j.invariant

pub returns : goal.returns
returns c = sym (handed_all c.args.within c.args.moment c.args.plain.now c.args.before.now c.loop-j.j (omega arith)) ∙ c.loop-j.invariant
