use Rattle.std.proofs.Common.{◌∙◌, sym}
use Rattle.hsr_judging.proofs.Verdict.{nothing_left}
use Rattle.hsr_judging.proofs.judgement.Judgement.conforms.Goals as goal

pub returns-clause-exact : goal.returns-clause-exact
returns-clause-exact c =
    let both = nothing_left c.args.self.now.observed_fates c.args.self.now.expected_fates in
    (λ is. both.0 (sym c.is_conforming.ensures ∙ is), λ left. c.is_conforming.ensures ∙ both.1 left)
