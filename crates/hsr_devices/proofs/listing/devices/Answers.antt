use Rattle.hsr_devices.proofs.Summing.{finished_sums}
use Rattle.hsr_devices.proofs.listing.devices.Goals as goal

pub returns-in_err-needed-clause-sums : goal.returns-in_err-needed-clause-sums
returns-in_err-needed-clause-sums g c = finished_sums c.args.closed.now c.topology-topology.ensures.finished

pub returns-in_err-put_devices-clause-sums : goal.returns-in_err-put_devices-clause-sums
returns-in_err-put_devices-clause-sums g c = finished_sums c.args.closed.now c.topology-topology.ensures.finished

pub returns-clause-sums : goal.returns-clause-sums
returns-clause-sums g c = finished_sums c.args.closed.now c.topology-topology.ensures.finished
