use Rattle.std.proofs.Common.{◌≡◌, ◌+◌, ◌∙◌, map, sym, ap, arith, [], ◌∷◌, ◌++◌, drop, length, length-append}
use Rattle.std.specs.Io.Buffered.{reader_remaining}
use Rattle.std.proofs.lemmas.Grind.{common_steps}
use Rattle.std.proofs.lemmas.List.{map-append, drop_all}
use Rattle.hsr_transcript.specs.Form.{record_at, records_at}
use Rattle.hsr_transcript.specs.Items.{entries_of, entry_items}
use Rattle.hsr_transcript_lines.specs.Lines.{line_count}
use Rattle.hsr_transcript_lines.proofs.Grown.{drop_next, line_count_push}
use Rattle.hsr_transcript.proofs.Eaches.{each_pushed, each_fail, each_done}
use Rattle.hsr_transcript.proofs.form.records.Goals as goal

pub loop-i-preserved : goal.loop-i-preserved
loop-i-preserved g c =
    let i = c.loop-i.i in
    let nodes = c.args.nodes.now in
    let place = c.index-nodes-i.result in
    let next : drop i nodes ≡ place ∷ drop (i + 1) nodes = drop_next nodes i place c.loop-i-test.true ∙ ap (λ x. x ∷ drop (i + 1) nodes) (sym c.index-nodes-i.is) in
    let items : c.push.new.self.items ≡ c.loop-i.records.items ++ c.in-Ok.record ∷ [] = grind (arith, common_steps) in
    let pushed : entries_of c.push.new.self ≡ entries_of c.loop-i.records ++ entry_items c.in-Ok.record ∷ [] = ap (map entry_items) items ∙ map-append entry_items _ _ in
    record {
      part = each_pushed entry_items (record_at c.args.unit) (reader_remaining g.R.Read.remaining c.args.reader.now) (reader_remaining g.R.Read.remaining c.loop-i.reader) (reader_remaining g.R.Read.remaining c.record.new.reader) c.args.progress.now.number
          c.loop-i.progress.number c.record.new.progress.number nodes (drop i nodes) (drop (i + 1) nodes) place
          (entries_of c.loop-i.records) (entries_of c.push.new.self) c.in-Ok.record next pushed c.loop-i.invariant.part c.in-Ok.ensures.given;
      counted = omega arith;
      numbered = c.in-Ok.ensures.numbered ∙ let grown : line_count (entries_of c.push.new.self) ≡ line_count (entries_of c.loop-i.records) + (1 + length c.in-Ok.record.items) = ap line_count pushed ∙ line_count_push (entries_of c.loop-i.records) c.in-Ok.record.items in omega arith;
      filled = ap length items ∙ length-append c.loop-i.records.items (c.in-Ok.record ∷ []) ∙ omega arith;
    }

pub returns-in-Err-clause-given : goal.returns-in-Err-clause-given
unfolding records_at
returns-in-Err-clause-given g c =
    let i = c.loop-i.i in
    let nodes = c.args.nodes.now in
    let place = c.index-nodes-i.result in
    let next : drop i nodes ≡ place ∷ drop (i + 1) nodes = drop_next nodes i place c.loop-i-test.true ∙ ap (λ x. x ∷ drop (i + 1) nodes) (sym c.index-nodes-i.is) in
    each_fail entry_items entries_of (record_at c.args.unit) (reader_remaining g.R.Read.remaining c.args.reader.now) (reader_remaining g.R.Read.remaining c.loop-i.reader) (reader_remaining g.R.Read.remaining c.record.new.reader) c.args.progress.now.number
    c.loop-i.progress.number c.record.new.progress.number nodes (drop i nodes) (drop (i + 1) nodes) place (entries_of c.loop-i.records) c.in-Err.fault next c.loop-i.invariant.part c.in-Err.ensures.given

pub returns-clause-given : goal.returns-clause-given
unfolding records_at
returns-clause-given g c =
    each_done entries_of (record_at c.args.unit) (reader_remaining g.R.Read.remaining c.args.reader.now) (reader_remaining g.R.Read.remaining c.loop-i.reader) c.args.progress.now.number c.loop-i.progress.number
    c.args.nodes.now (drop c.loop-i.i c.args.nodes.now) c.loop-i.records (drop_all c.loop-i.i c.args.nodes.now c.loop-i-test.false) c.loop-i.invariant.part
