use Rattle.std.proofs.Common.{arith, rules, subst}
use Rattle.hsr_text.specs.Lines.{Advances}
use Rattle.hsr_text.proofs.Pieces.{goes_on}
use Rattle.hsr_text.proofs.lines.next_line.Goals as goal

pub loop-reads-preserved : goal.loop-reads-preserved
loop-reads-preserved g c =
    let found = g.R.Read.remaining c.loop-reads.reader in
    let new = g.R.Read.remaining c.advance.new.reader in
    let advanced = subst (Advances g.row.N found new c.loop-reads.line.items c.advance.new.line.items) c.in_default.is c.in_ok-front.ensures.advanced in
    let kept = goes_on g.row.N (g.R.Read.remaining c.args.reader.now) found new _ _ c.loop-reads.invariant.line c.loop-reads.invariant.taken advanced in
    record {
      line = kept.0;
      taken = kept.1;
      paid = search rules;
      reads = omega (arith, c.advance.ensures.bounded);
    }
