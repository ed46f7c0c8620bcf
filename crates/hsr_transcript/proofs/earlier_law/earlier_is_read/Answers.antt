use Rattle.hsr_transcript.proofs.EarlierTexts.{finished_now, fits_now, text_now}
use Rattle.hsr_transcript.proofs.InFinerUnit.{closed_of_usual, usual_of_closed}
use Rattle.hsr_transcript.proofs.earlier_law.earlier_is_read.Goals as goal

pub returns-clause-same : goal.returns-clause-same
returns-clause-same c = λ run. (closed_of_usual run, usual_of_closed run)

pub returns-clause-finished : goal.returns-clause-finished
returns-clause-finished c = finished_now c.same_in_finer_unit.ensures.records

pub returns-clause-told : goal.returns-clause-told
returns-clause-told c = λ capacity f text is. (fits_now f is.fits is.in_range, text_now capacity f text is)
