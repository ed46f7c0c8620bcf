use Rattle.std.proofs.Common.{subst, take}
use Rattle.std.proofs.BufReadLemmas.{Consumes_shown}
use Rattle.std.specs.Io.BufRead.{FillKeeps}
use Rattle.hsr_text.proofs.Pieces.{at_end}
use Rattle.hsr_text.proofs.lines.advance.Goals as goal

pub returns-clause-advanced : goal.returns-clause-advanced
returns-clause-advanced g c =
    let rested = c.fill_buf.follows.lender-at-none in
    let kept = subst (FillKeeps _ (g.R.Read.remaining rested) (g.R.BufRead.consumable_len rested)) c.in-Ok.is c.fill_buf.follows.holds-at-none in
    let taken = c.fill-taken.result.0 in
    let moved = Consumes_shown _ _ _ _ c.in-Ok.piece.now taken c.fill-taken.ensures.within c.in-Ok.ensures.front c.in-Ok.ensures.end kept.0 kept.1 c.consume.ensures.bytes in
    (take taken c.in-Ok.piece.now, moved.0, c.fill-taken.ensures.filled, λ rest. at_end _ _ c.in-Ok.ensures.end (c.fill-taken.ensures.last rest))
