use Rattle.std.specs.Prelude.{option_map}
use Rattle.std.proofs.Common.{ap, ◌∙◌}
use Rattle.hsr_view.specs.Fault.{fault_of_read}
use Rattle.hsr_given.specs.Given.{given_of}
use Rattle.hsr_head.specs.Reads.{front}
use Rattle.hsr_view.proofs.Texts.{unread, unshown_run}
use Rattle.hsr_view.proofs.viewing.shown_with.Goals as goal

pub returns-in-Err-clause-unshown : goal.returns-in-Err-clause-unshown
returns-in-Err-clause-unshown g c =
    unread c.args.what.now (option_map (λ s. s.now) c.args.scenario) g.row.C (given_of (front c.args.head.now)) (g.R.Read.remaining c.args.reader.now) c.args.head.now c.in-Err.fault c.fault_of_read.result
    (c.fault_of_read.ensures ∙ ap (fault_of_read c.in-Err.fault) (c.given_of.ensures ∙ ap given_of c.front.ensures)) c.in-Err.ensures.none

pub returns-in-Ok-clause-unshown : goal.returns-in-Ok-clause-unshown
returns-in-Ok-clause-unshown g c =
    unshown_run c.args.what.now (option_map (λ s. s.now) c.args.scenario) g.row.C (given_of (front c.args.head.now)) (g.R.Read.remaining c.args.reader.now) c.args.head.now _ c.shown_of.result
    c.in-Ok.ensures.run c.shown_of.ensures.unshown
