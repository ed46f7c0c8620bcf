use Rattle.std.proofs.Common.{rules, ◌≡◌, Some, None}
use Rattle.hsr_topology.specs.Topology.{topology_fault}
use Rattle.hsr_topology.proofs.Faults.{sound_where_none, sound_where_some}
use Rattle.hsr_topology.proofs.topology.Topology.new.Goals as goal

pub returns-in-Some-clause-sound : goal.returns-in-Some-clause-sound
returns-in-Some-clause-sound c =
    let fault : topology_fault c.args.places.items c.args.links.items ≡ Some c.in-Some.fault = search rules in
    sound_where_some _ _ c.in-Some.fault fault

pub returns-in-None-clause-sound : goal.returns-in-None-clause-sound
returns-in-None-clause-sound c =
    let none : topology_fault c.args.places.items c.args.links.items ≡ None = search rules in
    sound_where_none _ _ none
