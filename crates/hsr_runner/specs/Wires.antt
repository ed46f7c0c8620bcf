-- Where the ports of nodes lead, and which thread does what.
--     wire_at     the link of a port, and the direction in which copies leave by it
--     role_at     the thread of a worker
use Rattle.std.specs.Prelude.{ℕ, ◌+◌, ◌*◌, ◌/◌, ◌%◌, ◌==◌, if◌then◌else◌, List, length, filter_map, map, option_map, Option, Some}
use Rattle.std.specs.List.{range_with_len}
use Rattle.hsr_link.specs.declared.row.Dir.{Dir}
use Rattle.hsr_link.specs.declared.row.Dir.TheVariants.{Forth, Back}
use Rattle.hsr_topology.specs.Links.{link_from}
use Rattle.hsr_topology.specs.Topology.{Topology}
use Rattle.hsr_runner.specs.declared.role.Role.{Role}
use Rattle.hsr_runner.specs.declared.role.Task.TheVariants.{Judge, Age}
use Rattle.hsr_runner.specs.declared.wire.Wire.{Wire}

-- a port that is a link's first end sends forth
abbrev pub wire_at : Topology → ℕ → ℕ → Option Wire
wire_at topology node port =
    option_map (λ at. record { link = at.0; out = if at.1 then Forth else Back }) (link_from 0 topology.links (record { node = node; port = port }))

abbrev pub other : Dir → Dir
other Forth = Back
other Back = Forth

-- Worker n + 1: of the eight workers of a node the first seven judge at its ports, as far as these have links, and the last ages it.
abbrev pub role_at : Topology → ℕ → Option Role
role_at topology n =
    if n % 8 == 7 then Some (record { worker = n + 1; node = n / 8; task = Age })
    else option_map (λ wire. record { worker = n + 1; node = n / 8; task = Judge (n % 8) wire }) (wire_at topology (n / 8) (n % 8))

-- the threads of the workers up to the n-th, as far as these have one
abbrev pub roles_below : Topology → ℕ → List Role
roles_below topology n = filter_map (λ role. role) (map (role_at topology) (range_with_len 0 n))

abbrev pub roles_of : Topology → List Role
roles_of topology = roles_below topology (8 * length topology.places)
