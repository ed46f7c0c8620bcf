use Rattle.std.proofs.Common.{codes}
use Rattle.hsr_transcript_lines.specs.Lines.{lines_each}
use Rattle.hsr_text.specs.declared.time_unit.TimeUnit.TheVariants.{Microseconds}
use Rattle.hsr_transcript.specs.Transcript.{carried_lines, record_lines, said_front, said_lines, said_in}
use Rattle.hsr_transcript.proofs.Grown.{whole_text}
use Rattle.hsr_transcript.proofs.writing.whole_text.Goals as goal

pub returns-clause-written : goal.returns-clause-written
unfolding said_lines
returns-clause-written g c =
    let f = c.args.closed.now in
    whole_text _ _ _ _ _ (codes "end") (said_front f.run.capacity (said_in Microseconds f)) (lines_each (record_lines Microseconds) f.run.places f.run.records) (lines_each (λ _. carried_lines) f.run.links f.run.rows)
    c.new-text.ensures.items c.in_ok-put_front.ensures.written c.in_ok-put_records.ensures.written c.in_ok-put_carried.ensures.written c.in_ok-extend_from_slice.ensures.items
