use Rattle.std.proofs.Common.{ap, length, arith}
use Rattle.hsr_link.proofs.Sound.{refilled, sound_turned_back, sound_turned_forth}
use Rattle.hsr_link.proofs.link.Link.take.Goals as goal

pub invariant_of-self : goal.invariant_of-self
invariant_of-self c =
    let same = ap length c.as_mut_slice.ensures.value in
    let is = rw (c.in-Forth.is, c.as_mut_slice.ensures.value) at c.turn_first.ensures.rows in
    let holds = rw c.in-Forth.is at c.turn_first.ensures.queue in
    rw (refilled c.self.inside.rows.len c.turn_first.new.rows c.self.inside.rows.items (omega arith) (omega arith)) (sound_turned_forth _ _ _ _ _ _ _ c.self.invariant is holds)

pub invariant_of-self-in-Back : goal.invariant_of-self-in-Back
invariant_of-self-in-Back c =
    let same = ap length c.as_mut_slice-in-Back.ensures.value in
    let is = rw (c.in-Back.is, c.as_mut_slice-in-Back.ensures.value) at c.turn_first-in-Back.ensures.rows in
    let holds = rw c.in-Back.is at c.turn_first-in-Back.ensures.queue in
    rw (refilled c.self.inside.rows.len c.turn_first-in-Back.new.rows c.self.inside.rows.items (omega arith) (omega arith)) (sound_turned_back _ _ _ _ _ _ _ c.self.invariant is holds)
