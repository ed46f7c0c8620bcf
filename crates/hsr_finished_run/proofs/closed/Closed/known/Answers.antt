use Rattle.hsr_finished_run.proofs.OfRecords.{finished_of}
use Rattle.hsr_finished_run.proofs.closed.Closed.known.Goals as goal

pub invariant_of-result : goal.invariant_of-result
invariant_of-result g c =
    let records = c.args.records in
    finished_of g.row.C records.topology records.kept.items records.rows.items records.plan.items c.places.ensures.wired c.requires.agree
