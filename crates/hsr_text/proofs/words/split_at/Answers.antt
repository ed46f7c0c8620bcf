use Rattle.std.proofs.Common.{subst}
use Rattle.memchr.specs.Find.{IsFirstByte, is_byte}
use Rattle.hsr_text.proofs.Cuts.{found}
use Rattle.hsr_text.proofs.words.split_at.Goals as goal

pub returns-in-Some : goal.returns-in-Some
returns-in-Some c =
    found c.args.separator c.args.text.now c.in-Some.i (subst (λ r. IsFirstByte (is_byte c.args.separator) c.args.text.now r) c.in-Some.is c.memchr.ensures)
