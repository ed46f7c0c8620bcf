use Rattle.std.proofs.Common.{◌≡◌, ◌<◌, ◌+◌, ◌++◌, ◌∙◌, [], drop, length, get_or, ap, sym, subst}
use Rattle.hsr_run_laws.specs.Run.{rows_of}
use Rattle.hsr_transcript.specs.Fits.{AreRowsFit}
use Rattle.hsr_transcript_lines.specs.Lines.{text_of}
use Rattle.hsr_transcript.specs.Transcript.{carried_lines}
use Rattle.hsr_transcript.proofs.Fitting.{below_next}
use Rattle.hsr_transcript_lines.proofs.Grown.{drop_next}
use Rattle.hsr_transcript.proofs.Grown.{lines_grown}
use Rattle.hsr_transcript.proofs.writing.put_carried.Goals as goal

pub loop-i-preserved : goal.loop-i-preserved
loop-i-preserved g c =
    let run = c.args.closed.now.run in
    let i = c.loop-i.i in
    let links : c.links-links.result.now ≡ run.links = c.links-links.ensures.value ∙ c.topology.ensures.links in
    let below : i < length run.links = subst (λ l. i < length l) links c.loop-i-test.true in
    let rows : i < length run.rows = subst (λ n. i < n) (sym c.topology.ensures.finished.closed.rows) below in
    let put : c.put_section.new.text.items ≡ c.loop-i.text.items ++ text_of (carried_lines (get_or run.rows i [])) =
    c.in_ok-put_section.ensures.written ∙ ap (λ l. c.loop-i.text.items ++ text_of (carried_lines l)) c.rows.ensures in
    let here : AreRowsFit (rows_of run i) = subst AreRowsFit c.rows.ensures (c.put_section.ensures.few, c.in_ok-put_section.ensures.fit) in
    record {
      written = lines_grown (λ _. carried_lines) (drop i run.links) (drop (i + 1) run.links) (drop i run.rows) (drop (i + 1) run.rows) (get_or run.links i []) (get_or run.rows i [])
          c.loop-i.text.items c.put_section.new.text.items _ (drop_next run.links i [] below) (drop_next run.rows i [] rows) put c.loop-i.invariant.written;
      fit = below_next (λ k. AreRowsFit (rows_of run k)) i c.loop-i.invariant.fit here;
    }
