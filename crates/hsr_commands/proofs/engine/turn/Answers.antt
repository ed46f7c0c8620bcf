use Rattle.std.proofs.Common.{◌≡◌, ◌==◌, ◌∙◌, Some, ap, sym}
use Rattle.std.specs.Io.Buffered.{reader_buffer, reader_capacity, reader_inner, reader_remaining}
use Rattle.hsr_text.specs.Words.{cut}
use Rattle.hsr_text.proofs.Standing.{drops_left, left_behind, line_read, shown_first}
use Rattle.hsr_commands.proofs.Turns.{turned_line, turned_line_err}
use Rattle.hsr_commands.proofs.engine.turn.Goals as goal

pub returns-in-Ok-clause-turned : goal.returns-in-Ok-clause-turned
returns-in-Ok-clause-turned g c =
    let remaining = g.R.Read.remaining in
    let buffer = reader_buffer c.args.reader.now in
    let line = c.in-Some.line.now in
    let first : cut 10 buffer ≡ (line, Some c.in-Some.ensures.first.0) = ap (cut 10) (sym c.buffer.ensures) ∙ c.in-Some.ensures.first.1 in
    let shown = shown_first (reader_capacity c.args.reader.now == 0) buffer (remaining (reader_inner c.args.reader.now)) in
    let read = line_read 4096 (reader_remaining remaining c.args.reader.now) _ buffer line _ shown first c.consume.ensures.bytes in
    turned_line _ _ (reader_remaining remaining c.args.reader.now) _ _ _ _ _ _ line read c.in-Some.ensures.short c.in-Ok.ensures

pub returns-in-Err-clause-turned : goal.returns-in-Err-clause-turned
returns-in-Err-clause-turned g c =
    let remaining = g.R.Read.remaining in
    let old = reader_remaining remaining c.args.reader.now in
    let buffer = reader_buffer c.args.reader.now in
    let line = c.in-Some.line.now in
    let first : cut 10 buffer ≡ (line, Some c.in-Some.ensures.first.0) = ap (cut 10) (sym c.buffer.ensures) ∙ c.in-Some.ensures.first.1 in
    let shown = shown_first (reader_capacity c.args.reader.now == 0) buffer (remaining (reader_inner c.args.reader.now)) in
    let read = line_read 4096 old (left_behind old line) buffer line _ shown first (drops_left old buffer line) in
    turned_line_err _ _ old (left_behind old line) _ _ _ _ _ line c.in-Err.fault read c.in-Some.ensures.short c.in-Err.ensures
