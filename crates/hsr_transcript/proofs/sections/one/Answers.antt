use Rattle.std.proofs.Common.{◌≡◌, ◌==◌, ◌∙◌, Some, None, Err, ap, subst, sym}
use Rattle.std.specs.Io.Buffered.{reader_buffer, reader_capacity, reader_inner, reader_remaining}
use Rattle.hsr_text.specs.Words.{Gives as Said, cut}
use Rattle.hsr_text.proofs.Standing.{drops_left, left_behind, line_read, shown_first}
use Rattle.hsr_transcript_lines.specs.Exact.{exactly}
use Rattle.hsr_transcript.proofs.Parts.{line_given, one_bad, one_given}
use Rattle.hsr_transcript.proofs.sections.one.Goals as goal

pub returns-in-Ok-clause-given : goal.returns-in-Ok-clause-given
returns-in-Ok-clause-given g c =
    let remaining = g.R.Read.remaining in
    let old = reader_remaining remaining c.args.reader.now in
    let buffer = reader_buffer c.args.reader.now in
    let line = c.in-Some.line.now in
    let first : cut 10 buffer ≡ (line, Some c.in-Some.ensures.first.0) = ap (cut 10) (sym c.buffer.ensures) ∙ c.in-Some.ensures.first.1 in
    let shown = shown_first (reader_capacity c.args.reader.now == 0) buffer (remaining (reader_inner c.args.reader.now)) in
    let read = line_read 8192 old _ buffer line _ shown first c.consume.ensures.bytes in
    one_given (λ v. v) _ old _ line _ _ _ (line_given old _ line _ read c.in-Some.ensures.short) c.in-Ok.ensures

pub returns-in-Err-Bad-clause-given : goal.returns-in-Err-Bad-clause-given
returns-in-Err-Bad-clause-given g c =
    let remaining = g.R.Read.remaining in
    let old = reader_remaining remaining c.args.reader.now in
    let buffer = reader_buffer c.args.reader.now in
    let line = c.in-Some.line.now in
    let first : cut 10 buffer ≡ (line, Some c.in-Some.ensures.first.0) = ap (cut 10) (sym c.buffer.ensures) ∙ c.in-Some.ensures.first.1 in
    let shown = shown_first (reader_capacity c.args.reader.now == 0) buffer (remaining (reader_inner c.args.reader.now)) in
    let read = line_read 8192 old (left_behind old line) buffer line _ shown first (drops_left old buffer line) in
    let none : exactly (g.K.LineKind.spelled c.args.kind.now) (g.K.LineKind.said c.args.kind.now) line ≡ None
    = subst (λ f. Said (λ v. v) (Err f) (exactly (g.K.LineKind.spelled c.args.kind.now) (g.K.LineKind.said c.args.kind.now) line)) c.in-Err-Bad.field-0-is c.in-Err-Bad.ensures in
    one_bad (λ v. v) _ old (left_behind old line) line _ _ (line_given old (left_behind old line) line _ read c.in-Some.ensures.short) none
