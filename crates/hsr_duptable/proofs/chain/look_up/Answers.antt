use Rattle.std.proofs.Common.{arith, refl, sym, ◌∙◌, ◌-◌, reverse, ap, List}
use Rattle.hsr_duptable.specs.Buckets.{bucket_of, looks_until}
use Rattle.hsr_duptable.specs.declared.note.Note.{Note}
use Rattle.hsr_duptable.proofs.RisingNotes.{has_key-found, has_key-other, IsRising-filter, IsRising-older}
use Rattle.hsr_duptable.proofs.Walks.{IsYoungest-take, bucket_notes-take, has_key-bucket_notes, looks_of-le, looks_until-found, looks_until-other, looks_until-some, none_left, steps_down}
use Rattle.hsr_duptable.proofs.chain.look_up.Goals as goal

pub loop-entry-init : goal.loop-entry-init
loop-entry-init g c =
    let bucket = bucket_of g.row.C c.args.key in
    let all = bucket_notes-take g.row.C bucket c.args.gone (c.args.head - c.args.gone) c.args.ring.now.items c.args.head refl c.requires.head in
    record {
      youngest = IsYoungest-take _ _ _ _ _ _ refl c.requires.head;
      rising = rw all (IsRising-filter _ 0 _ _ c.requires.rising);
      seen = rw all (has_key-bucket_notes _ _ _ _ _);
      counted = let same = ap (λ (xs : List Note). looks_until c.args.key (reverse xs)) all in omega (arith, same);
    }

pub overflow_add-looks : goal.overflow_add-looks
overflow_add-looks g c =
    let spot = sym (rw c.in-Some.is at c.held_entry.ensures) in
    let step = steps_down g.row.C _ c.args.gone c.args.ring.now.items c.loop-entry.serial _ c.requires.links c.loop-entry.invariant.youngest spot in
    let one = looks_until-some c.args.key _ _ _ step.last in
    let most = looks_of-le g.row.C c.args.key c.args.ring.now.items in
    omega (arith, one, most, c.loop-entry.invariant.counted, c.requires.few, g.C.fits)

pub returns-then-eq-clause-seen : goal.returns-then-eq-clause-seen
returns-then-eq-clause-seen g c =
    let spot = sym (rw c.in-Some.is at c.held_entry.ensures) in
    let step = steps_down g.row.C _ c.args.gone c.args.ring.now.items c.loop-entry.serial _ c.requires.links c.loop-entry.invariant.youngest spot in
    let found = has_key-found c.args.forget c.args.at c.args.key _ _ _ _ step.last c.loop-entry.invariant.rising (sym c.eq.ensures ∙ c.if-eq.true) in
    c.is_unexpired.ensures ∙ sym found ∙ c.loop-entry.invariant.seen

pub returns-then-eq-clause-looks : goal.returns-then-eq-clause-looks
returns-then-eq-clause-looks g c =
    let spot = sym (rw c.in-Some.is at c.held_entry.ensures) in
    let step = steps_down g.row.C _ c.args.gone c.args.ring.now.items c.loop-entry.serial _ c.requires.links c.loop-entry.invariant.youngest spot in
    let one = looks_until-found c.args.key _ _ _ step.last (sym c.eq.ensures ∙ c.if-eq.true) in
    omega (arith, one, c.loop-entry.invariant.counted)

pub returns-then-eq-clause-within : goal.returns-then-eq-clause-within
returns-then-eq-clause-within g c =
    let looks = returns-then-eq-clause-looks g c in
    let most = looks_of-le g.row.C c.args.key c.args.ring.now.items in
    omega (arith, most, looks, c.requires.few)

pub loop-entry-smaller : goal.loop-entry-smaller
loop-entry-smaller g c =
    let spot = sym (rw c.in-Some.is at c.held_entry.ensures) in
    let step = steps_down g.row.C _ c.args.gone c.args.ring.now.items c.loop-entry.serial _ c.requires.links c.loop-entry.invariant.youngest spot in
    step.falls

pub loop-entry-preserved : goal.loop-entry-preserved
loop-entry-preserved g c =
    let spot = sym (rw c.in-Some.is at c.held_entry.ensures) in
    let step = steps_down g.row.C _ c.args.gone c.args.ring.now.items c.loop-entry.serial _ c.requires.links c.loop-entry.invariant.youngest spot in
    let other = sym c.eq.ensures ∙ c.if-eq.false in
    let more = looks_until-other c.args.key _ _ _ step.last other in
    record {
      youngest = step.youngest;
      rising = IsRising-older 0 _ _ _ _ step.last c.loop-entry.invariant.rising;
      seen = has_key-other _ _ _ _ _ _ step.last other ∙ c.loop-entry.invariant.seen;
      counted = omega (arith, more, c.loop-entry.invariant.counted);
    }

pub returns-clause-seen : goal.returns-clause-seen
returns-clause-seen g c =
    let spot = sym (rw c.in_default.is at c.held_entry.ensures) in
    let none = none_left g.row.C _ c.args.gone c.args.ring.now.items c.loop-entry.serial c.loop-entry.invariant.youngest spot in
    rw none at c.loop-entry.invariant.seen

pub returns-clause-looks : goal.returns-clause-looks
returns-clause-looks g c =
    let spot = sym (rw c.in_default.is at c.held_entry.ensures) in
    let none = none_left g.row.C _ c.args.gone c.args.ring.now.items c.loop-entry.serial c.loop-entry.invariant.youngest spot in
    let left = ap (λ (xs : List Note). looks_until c.args.key (reverse xs)) none in
    omega (arith, left, c.loop-entry.invariant.counted)

pub returns-clause-within : goal.returns-clause-within
returns-clause-within g c =
    let most = looks_of-le g.row.C c.args.key c.args.ring.now.items in
    omega (arith, most, c.loop-entry.invariant.counted, c.requires.few)
