use Rattle.std.proofs.Common.{ap, length, arith}
use Rattle.hsr_link.proofs.Sound.{refilled, sound_lost}
use Rattle.hsr_link.proofs.link.Link.cut.Goals as goal

pub invariant_of-self : goal.invariant_of-self
invariant_of-self c =
    let same = ap length c.as_mut_slice.ensures.value in
    let is = rw c.as_mut_slice.ensures.value at c.lose_both.ensures.rows in
    rw (refilled c.self.inside.rows.len c.lose_both.new.rows c.self.inside.rows.items (omega arith) (omega arith)) (sound_lost _ _ _ _ _ _ _ c.self.invariant is c.lose_both.ensures.forth c.lose_both.ensures.back)
