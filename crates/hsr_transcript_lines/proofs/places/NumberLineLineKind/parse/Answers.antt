use Rattle.std.proofs.Common.{rules}
use Rattle.hsr_transcript_lines.proofs.Exact.{number_exact}
use Rattle.hsr_transcript_lines.proofs.places.NumberLineLineKind.parse.Goals as goal

pub returns-clause-sure : goal.returns-clause-sure
returns-clause-sure c = λ _. number_exact _ _ (search rules)
