use Rattle.std.proofs.Common.{◌≡◌, drop}
use Rattle.hsr_diagram.specs.Sends.{is_among}
use Rattle.hsr_diagram.proofs.sending.is_among.Given as goal

abbrev pub invariant-loop-i : goal.invariant-loop-i
invariant-loop-i l = is_among (drop l.i l.sends) l.send ≡ is_among l.sends l.send
