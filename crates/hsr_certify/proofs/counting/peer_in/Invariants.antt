use Rattle.std.proofs.Common.{◌≡◌, drop}
use Rattle.hsr_run_laws.specs.Run.{peer_in}
use Rattle.hsr_certify.proofs.counting.peer_in.Given as goal

abbrev pub invariant-loop-i : goal.invariant-loop-i
invariant-loop-i l = peer_in l.end (drop l.i l.links) ≡ peer_in l.end l.links
