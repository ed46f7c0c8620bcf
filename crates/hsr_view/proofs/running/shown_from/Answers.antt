use Rattle.std.specs.Prelude.{option_map}
use Rattle.hsr_view.proofs.Texts.{shown_text, unshown_text}
use Rattle.hsr_view.proofs.running.shown_from.Goals as goal

pub returns-in-Ok-clause-shown : goal.returns-in-Ok-clause-shown
returns-in-Ok-clause-shown g c =
    shown_text c.args.what.now (option_map (λ s. s.now) c.args.scenario) (g.R.Read.remaining c.args.reader.now) (g.R.Read.remaining c.read_head.new.reader) c.in-Ok.head.items c.as_slice.result.now c.shown.result
    c.in-Ok.ensures c.as_slice.ensures.value c.shown.ensures.shown

pub returns-in-Ok-clause-unshown : goal.returns-in-Ok-clause-unshown
returns-in-Ok-clause-unshown g c =
    unshown_text c.args.what.now (option_map (λ s. s.now) c.args.scenario) (g.R.Read.remaining c.args.reader.now) (g.R.Read.remaining c.read_head.new.reader) c.in-Ok.head.items c.as_slice.result.now c.shown.result
    c.in-Ok.ensures c.as_slice.ensures.value c.shown.ensures.unshown
