use Rattle.std.proofs.Common.{◌≡◌, ◌+◌, ◌∙◌, map, ap, arith, [], ◌∷◌, ◌++◌, drop, get_or}
use Rattle.std.specs.Io.Buffered.{reader_remaining}
use Rattle.std.proofs.lemmas.Grind.{common_steps}
use Rattle.std.proofs.lemmas.List.{map-append, drop_all}
use Rattle.hsr_transcript.specs.Form.{carried_at, rows_at}
use Rattle.hsr_transcript.specs.Items.{rows_of, row_items}
use Rattle.hsr_transcript_lines.proofs.Grown.{drop_next}
use Rattle.hsr_transcript.proofs.Eaches.{each_pushed, each_fail, each_done}
use Rattle.hsr_transcript.proofs.form.rows.Goals as goal

pub loop-preserved : goal.loop-preserved
loop-preserved g c =
    let i = c.loop.index in
    let links = c.args.links.now in
    let items : c.push.new.self.items ≡ c.loop.rows.items ++ c.in-Ok.of_link ∷ [] = grind (arith, common_steps) in
    let pushed : rows_of c.push.new.self ≡ rows_of c.loop.rows ++ row_items c.in-Ok.of_link ∷ [] = ap (map row_items) items ∙ map-append row_items _ _ in
    record {
      part = each_pushed row_items carried_at (reader_remaining g.R.Read.remaining c.args.reader.now) (reader_remaining g.R.Read.remaining c.loop.reader) (reader_remaining g.R.Read.remaining c.carried.new.reader) c.args.progress.now.number
          c.loop.progress.number c.carried.new.progress.number links (drop i links) (drop (i + 1) links) (get_or links i [])
          (rows_of c.loop.rows) (rows_of c.push.new.self) c.in-Ok.of_link (drop_next links i [] c.loop-test.true) pushed c.loop.invariant.part c.in-Ok.ensures.given;
      counted = omega arith;
    }

pub returns-in-Err-clause-given : goal.returns-in-Err-clause-given
unfolding rows_at
returns-in-Err-clause-given g c =
    let i = c.loop.index in
    let links = c.args.links.now in
    each_fail row_items rows_of carried_at (reader_remaining g.R.Read.remaining c.args.reader.now) (reader_remaining g.R.Read.remaining c.loop.reader) (reader_remaining g.R.Read.remaining c.carried.new.reader) c.args.progress.now.number
    c.loop.progress.number c.carried.new.progress.number links (drop i links) (drop (i + 1) links) (get_or links i []) (rows_of c.loop.rows) c.in-Err.fault (drop_next links i [] c.loop-test.true)
    c.loop.invariant.part c.in-Err.ensures.given

pub returns-clause-given : goal.returns-clause-given
unfolding rows_at
returns-clause-given g c =
    each_done rows_of carried_at (reader_remaining g.R.Read.remaining c.args.reader.now) (reader_remaining g.R.Read.remaining c.loop.reader) c.args.progress.now.number c.loop.progress.number
    c.args.links.now (drop c.loop.index c.args.links.now) c.loop.rows (drop_all c.loop.index c.args.links.now c.loop-test.false) c.loop.invariant.part
