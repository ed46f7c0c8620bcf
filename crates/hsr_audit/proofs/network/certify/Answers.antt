use Rattle.std.proofs.Common.{rules}
use Rattle.hsr_run_laws.specs.Run.{Run}
use Rattle.hsr_audit.specs.Doubts.{IsNetworkPremised}
use Rattle.hsr_audit.proofs.Promising.{certified_is, once_of, station_of}
use Rattle.hsr_audit.proofs.network.certify.Goals as goal

pub returns-clause-certified : goal.returns-clause-certified
returns-clause-certified g c =
    let run : Run = c.args.closed.now.run in
    let premised : IsNetworkPremised run = search rules in
    certified_is run c.topology.ensures.finished.closed (once_of run c.topology.ensures.finished.closed c.once_in_network.ensures c.late_decides.ensures premised)
    (station_of run c.topology.ensures.finished.closed c.once_to_station.ensures c.late_decides.ensures premised) c.lives_stay.ensures premised
    c.in_ok-deliveries.deliveries.sends.items (search rules)
