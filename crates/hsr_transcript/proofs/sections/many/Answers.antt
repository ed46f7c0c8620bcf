use Rattle.std.proofs.Common.{Vec, Global, ◌≡◌, ◌-◌, ◌++◌, ◌∷◌, [], ◌+◌, ◌∙◌, length, length-append, ap, arith}
use Rattle.std.specs.Io.Buffered.{reader_remaining}
use Rattle.std.proofs.lemmas.Grind.{common_steps}
use Rattle.hsr_transcript_lines.specs.Exact.{exactly}
use Rattle.hsr_transcript.specs.Reading.{line_of}
use Rattle.hsr_transcript.proofs.Parts.{many_pushed, many_fail}
use Rattle.hsr_transcript.proofs.sections.many.Goals as goal

pub loop-left-preserved : goal.loop-left-preserved
loop-left-preserved g c =
    let pushed : c.push.new.self.items ≡ c.loop-left.values.items ++ c.in-Ok.value ∷ [] = grind (arith, common_steps) in
    record {
      part = many_pushed (λ v. v) (line_of (exactly (g.K.LineKind.spelled c.args.kind.now) (g.K.LineKind.said c.args.kind.now))) (reader_remaining g.R.Read.remaining c.args.reader.now) (reader_remaining g.R.Read.remaining c.loop-left.reader) (reader_remaining g.R.Read.remaining c.one.new.reader)
          c.args.progress.now.number c.args.count c.loop-left.progress.number c.one.new.progress.number c.loop-left.left (c.loop-left.left - 1) c.loop-left.values.items c.push.new.self.items c.in-Ok.value (omega arith) pushed
          c.loop-left.invariant.part c.in-Ok.ensures.given;
      counted = omega arith;
      numbered = omega (arith, c.in-Ok.ensures.numbered);
      filled = let grown : length c.push.new.self.items ≡ length c.loop-left.values.items + 1 = ap length pushed ∙ length-append c.loop-left.values.items (c.in-Ok.value ∷ []) ∙ omega arith in omega arith;
    }

pub returns-in-Err-clause-given : goal.returns-in-Err-clause-given
returns-in-Err-clause-given g c =
    many_fail (λ v. v) (λ (v : Vec g.row.K-Value.Denot Global). v.items) (line_of (exactly (g.K.LineKind.spelled c.args.kind.now) (g.K.LineKind.said c.args.kind.now))) (reader_remaining g.R.Read.remaining c.args.reader.now) (reader_remaining g.R.Read.remaining c.loop-left.reader)
    (reader_remaining g.R.Read.remaining c.one.new.reader) c.args.progress.now.number c.args.count c.loop-left.progress.number c.one.new.progress.number c.loop-left.left (c.loop-left.left - 1) c.loop-left.values.items c.in-Err.fault (omega arith)
    c.loop-left.invariant.part c.in-Err.ensures.given
