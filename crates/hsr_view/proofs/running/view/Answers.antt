use Rattle.std.specs.Prelude.{option_map}
use Rattle.std.proofs.Common.{rules}
use Rattle.hsr_view.proofs.Texts.{not_shown}
use Rattle.hsr_view.proofs.running.view.Goals as goal

pub returns-in-Err : goal.returns-in-Err
returns-in-Err g c =
    not_shown c.args.what.now (option_map (λ s. s.now) c.args.scenario) (g.R.Read.remaining c.args.reader.now) (g.W.Write.contents c.args.writer.now) _ c.in-Err.fault c.in-Err.ensures.unshown (search rules)
