-- The numbers of workers. The main one is 0. Each node has eight: those of its ports first, and the last ages it.
use Rattle.std.specs.Prelude.{ℕ, ◌+◌, ◌*◌}
use Rattle.hsr_topology.specs.declared.end.End.{End}

-- the worker that judges at a port of a node
abbrev pub port_worker : End → ℕ
port_worker end = 1 + 8 * end.node + end.port

-- the worker that ages a node
abbrev pub ager : ℕ → ℕ
ager node = 8 + 8 * node
