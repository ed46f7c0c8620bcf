use Rattle.std.proofs.Common.{rules}
use Rattle.hsr_finished_run.proofs.OfRecords.{finished_of}
use Rattle.hsr_finished_run.proofs.check.fault_of_records.Goals as goal

pub returns-in-Ok-None-clause-finished : goal.returns-in-Ok-None-clause-finished
returns-in-Ok-None-clause-finished g c = finished_of g.row.C c.args.topology.now c.args.kept.now c.args.rows.now c.args.plan.now c.places.ensures.wired (search rules)
