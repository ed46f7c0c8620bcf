use Rattle.hsr_duptable.proofs.RisingNotes.{IsRising-raise}
use Rattle.hsr_duptable.proofs.table.DupTable.seen_looks.Goals as goal

pub look_up-requires-clause-rising : goal.look_up-requires-clause-rising
look_up-requires-clause-rising g c =
    let later = rw (← c.self.view_is) at c.requires in
    IsRising-raise 0 _ _ _ later c.self.invariant.0.rising
