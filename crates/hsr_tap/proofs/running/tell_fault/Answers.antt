use Rattle.std.proofs.Common.{inr, refl}
use Rattle.hsr_tap.proofs.running.tell_fault.Goals as goal

pub returns-in_ok-write_all-in-Err : goal.returns-in_ok-write_all-in-Err
returns-in_ok-write_all-in-Err g c = (refl, inr c.in_ok-write_all-in-Err.ensures.bytes)
