use Rattle.std.proofs.Common.{arith, length, length-drop, sym, ◌∙◌, ◌≡◌, ◌-◌, drop}
use Rattle.hsr_duptable.proofs.RisingNotes.{unexpired_notes-front, unexpired_notes-drop_front, unexpired_notes-no_front, IsRising-drop}
use Rattle.hsr_duptable.proofs.Chains.{last_entries-drop_front, notes_of-drop, notes_of-front, notes_of-no_front, has_front}
use Rattle.hsr_duptable.proofs.chain.drop_expired.Goals as goal

pub returns-then-is_unexpired-clause-notes : goal.returns-then-is_unexpired-clause-notes
returns-then-is_unexpired-clause-notes c =
    let spot = notes_of-front _ _ (sym (rw c.in-Some.is at c.front.ensures)) in
    let all = unexpired_notes-front _ _ _ _ _ c.loop-oldest.invariant.rising spot (sym c.is_unexpired.ensures ∙ c.if-is_unexpired.true) in
    sym all ∙ c.loop-oldest.invariant.rest

pub loop-oldest-preserved : goal.loop-oldest-preserved
loop-oldest-preserved c =
    let front = sym (rw c.in-Some.is at c.front.ensures) in
    let spot = notes_of-front _ _ front in
    let before = c.loop-oldest.ring.items in
    let some = has_front _ _ front in
    let size : length (drop 1 before) ≡ length before - 1 = length-drop 1 before in
    rw c.pop_front.ensures.items record {
      capacity = c.loop-oldest.invariant.capacity;
      fewer = omega (arith, size, c.loop-oldest.invariant.fewer);
      last = last_entries-drop_front _ _ c.loop-oldest.invariant.fewer some c.loop-oldest.invariant.last;
      rising = rw (notes_of-drop 1 before) (IsRising-drop 1 0 _ _ c.loop-oldest.invariant.rising);
      rest = rw (notes_of-drop 1 before) (unexpired_notes-drop_front _ _ _ _ spot (sym c.is_unexpired.ensures ∙ c.if-is_unexpired.false)) ∙ c.loop-oldest.invariant.rest;
    }

pub returns-clause-notes : goal.returns-clause-notes
returns-clause-notes c =
    let spot = notes_of-no_front _ (sym (rw c.in_default.is at c.front.ensures)) in
    let all = unexpired_notes-no_front c.args.forget c.args.at _ spot in
    sym all ∙ c.loop-oldest.invariant.rest
