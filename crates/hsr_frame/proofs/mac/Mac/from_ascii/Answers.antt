use Rattle.std.proofs.Common.{◌∙◌}
use Rattle.hsr_frame.proofs.Texts.{address_of-printed}
use Rattle.hsr_frame.proofs.mac.Mac.from_ascii.Goals as goal

pub returns-clause-reads : goal.returns-clause-reads
returns-clause-reads c = λ o a e. c.read_mac.ensures.exact ∙ address_of-printed c.args.text.now o a e
