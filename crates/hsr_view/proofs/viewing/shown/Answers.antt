use Rattle.std.specs.Prelude.{option_map}
use Rattle.std.proofs.Common.{ap, ◌∙◌}
use Rattle.hsr_head.specs.Reads.{front}
use Rattle.hsr_head.specs.Told.{told_size}
use Rattle.hsr_given.specs.Given.{given_of}
use Rattle.hsr_view.proofs.Texts.{shown_sized, unshown_sized}
use Rattle.hsr_view.proofs.viewing.shown.Goals as goal

pub returns-clause-shown : goal.returns-clause-shown
returns-clause-shown g c =
    shown_sized c.args.what.now (option_map (λ s. s.now) c.args.scenario) c.told_size-table.result (g.R.Read.remaining c.args.reader.now) c.args.head.now c.shown_at.result
    (c.told_size-table.ensures ∙ ap told_size c.front.ensures) c.shown_at.ensures.shown

pub returns-clause-unshown : goal.returns-clause-unshown
returns-clause-unshown g c =
    unshown_sized c.args.what.now (option_map (λ s. s.now) c.args.scenario) c.told_size-table.result (given_of (front c.args.head.now)) (g.R.Read.remaining c.args.reader.now) c.args.head.now c.shown_at.result
    (c.told_size-table.ensures ∙ ap told_size c.front.ensures) c.shown_at.ensures.unshown
