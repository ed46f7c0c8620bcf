use Rattle.std.specs.Io.Buffered.{reader_remaining}
use Rattle.hsr_commands.proofs.Turns.{way_fails}
use Rattle.hsr_commands.proofs.engine.answer_lines.Goals as goal

pub returns-in-Err : goal.returns-in-Err
returns-in-Err g c =
    way_fails _ _ _ _ (reader_remaining g.R.Read.remaining c.turn.new.reader) _ _ _ _ c.turn.new.node _ _ c.loop-number.invariant.way c.in-Err.ensures.turned
