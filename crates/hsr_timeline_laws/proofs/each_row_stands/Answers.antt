use Rattle.hsr_timeline_laws.proofs.Standing.{rows_shown}
use Rattle.hsr_timeline_laws.proofs.each_row_stands.Goals as goal

pub returns : goal.returns
returns c = λ f finished stamp are. rows_shown f.run f.plan stamp finished.closed are
