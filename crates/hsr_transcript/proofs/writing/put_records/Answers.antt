use Rattle.std.proofs.Common.{◌≡◌, ◌<◌, ◌+◌, ◌++◌, ◌∙◌, ◌∷◌, [], drop, length, get_or, ap, sym, subst}
use Rattle.hsr_run_laws.specs.Run.{record_of}
use Rattle.hsr_transcript.specs.Fits.{AreEntriesFit}
use Rattle.hsr_transcript_lines.specs.Lines.{text_of}
use Rattle.hsr_text.specs.declared.time_unit.TimeUnit.TheVariants.{Microseconds}
use Rattle.hsr_transcript.specs.Transcript.{record_lines}
use Rattle.hsr_transcript.proofs.Fitting.{below_next}
use Rattle.hsr_transcript_lines.proofs.Grown.{drop_next}
use Rattle.hsr_transcript.proofs.Grown.{lines_grown}
use Rattle.hsr_transcript.proofs.writing.put_records.Goals as goal

pub loop-i-preserved : goal.loop-i-preserved
loop-i-preserved g c =
    let run = c.args.closed.now.run in
    let i = c.loop-i.i in
    let place = c.index-places-i.result in
    let places : c.places-places.result.now ≡ run.places = c.places-places.ensures.value ∙ c.topology.ensures.places in
    let below : i < length run.places = subst (λ l. i < length l) places c.loop-i-test.true in
    let records : i < length run.records = subst (λ n. i < n) (sym c.topology.ensures.finished.closed.records) below in
    let here : get_or run.places i place ≡ place = sym (ap (λ l. get_or l i place) places) ∙ sym c.index-places-i.is in
    let next : drop i run.places ≡ place ∷ drop (i + 1) run.places = drop_next run.places i place below ∙ ap (λ x. x ∷ drop (i + 1) run.places) here in
    let put : c.put_section.new.text.items ≡ c.loop-i.text.items ++ text_of (record_lines Microseconds place (get_or run.records i [])) =
    c.in_ok-put_section.ensures.written ∙ ap (λ l. c.loop-i.text.items ++ text_of (record_lines Microseconds place l)) c.entries.ensures in
    let fit : AreEntriesFit (record_of run i) = subst AreEntriesFit c.entries.ensures (c.put_section.ensures.few, c.in_ok-put_section.ensures.fit) in
    record {
      written = lines_grown (record_lines Microseconds) (drop i run.places) (drop (i + 1) run.places) (drop i run.records) (drop (i + 1) run.records) place (get_or run.records i [])
          c.loop-i.text.items c.put_section.new.text.items _ next (drop_next run.records i [] records) put c.loop-i.invariant.written;
      fit = below_next (λ k. AreEntriesFit (record_of run k)) i c.loop-i.invariant.fit fit;
    }
