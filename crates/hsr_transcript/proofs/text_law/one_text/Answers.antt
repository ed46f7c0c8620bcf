use Rattle.hsr_transcript.proofs.Texts.{form_again, form_spells}
use Rattle.hsr_transcript.proofs.text_law.one_text.Goals as goal

pub returns-clause-only : goal.returns-clause-only
returns-clause-only c = λ capacity text t e. (form_spells capacity text t e).1

pub returns-clause-again : goal.returns-clause-again
returns-clause-again c = form_again
