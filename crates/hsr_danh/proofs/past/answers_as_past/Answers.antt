use Rattle.hsr_danh.proofs.PastLaw.{answers_as_past}
use Rattle.hsr_danh.proofs.past.answers_as_past.Goals as goal

pub returns : goal.returns
returns g c = answers_as_past g.row.C
