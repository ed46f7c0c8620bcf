use Rattle.std.proofs.Common.{◌≡◌, take}
use Rattle.std.specs.Prelude.{is_some}
use Rattle.hsr_run_laws.specs.Run.{peer_in}
use Rattle.hsr_topology.specs.Links.{is_used}
use Rattle.hsr_topology.specs.declared.end.End.{End}
use Rattle.hsr_run_index.specs.Indexed.{peer_of}
use Rattle.hsr_run_index.proofs.ends.peers_of.Given as goal

abbrev pub invariant-loop-i : goal.invariant-loop-i
invariant-loop-i l = record {
  peers : (e : End) → peer_of l.peers e ≡ peer_in e (take l.i l.links);
  used : (e : End) → is_some (peer_of l.peers e) ≡ is_used (take l.i l.links) e;
}
