use Rattle.std.proofs.Common.{rules, inl, inr}
use Rattle.hsr_head.proofs.Heads.{head_read}
use Rattle.hsr_head.proofs.head.read_head.Goals.{then-not-has_more-via-then-not-has_more, then-not-has_more-via-else-not-has_more+then-len-ge-FRONT_LIMIT}
use Rattle.hsr_head.proofs.head.read_head.Goals as goal

pub returns-then-not-has_more : goal.returns-then-not-has_more
returns-then-not-has_more g c =
    head_read (g.R.Read.remaining c.args.reader.now) (g.R.Read.remaining c.loop.reader) (g.R.Read.remaining c.read_piece.new.reader) c.loop.head.items c.read_piece.new.head.items c.in_ok-has_more.has_more
    c.loop.invariant c.in_ok-has_more.ensures
    (elim c.then-not-has_more.branch [ then-not-has_more-via-then-not-has_more w ↦ inl (search rules) | then-not-has_more-via-else-not-has_more+then-len-ge-FRONT_LIMIT w ↦ inr (search rules) ])
