use Rattle.hsr_quadbox.proofs.PastLaw as laws
use Rattle.hsr_quadbox.proofs.past.answers_as_past.Goals as goal

pub returns : goal.returns
returns g c = laws.answers_as_past g.row.C
