use Rattle.std.proofs.Common.{ap, arith, false, refl}
use Rattle.std.proofs.lemmas.Option.{get_or_from_slice_get, slice_get_read}
use Rattle.hsr_frame_groups.specs.Frames.{past_of}
use Rattle.hsr_sightings.specs.Frames.{begins}
use Rattle.hsr_heard.specs.Hearing.{heard_at, heard_if, unread_at, unread_if}
use Rattle.hsr_heard.proofs.Telling.{those_more}
use Rattle.hsr_heard.proofs.heard.hearing_of.Goals as goal

pub loop-i-preserved : goal.loop-i-preserved
loop-i-preserved c =
    let copies = c.args.copies.now in
    let ring = c.args.ring.now in
    let i = c.loop-i.i in
    let own = c.index-copies-i.result in
    let here = slice_get_read copies _ i own refl (omega arith) c.index-copies-i.is in
    let began = get_or_from_slice_get c.args.began.now i (begins (past_of copies i) own) false (c.requires.began.each i own here) in
    record {
      heard = those_more (heard_at ring) copies i own c.loop-i.hearing.heard.items _ _ _ here (ap (λ b. heard_if ring i b own) began) c.in_ok-put_copy.ensures.heard c.loop-i.invariant.heard;
      unread = those_more unread_at copies i own c.loop-i.hearing.unread.items _ _ _ here (ap (λ b. unread_if i b own) began) c.in_ok-put_copy.ensures.unread c.loop-i.invariant.unread;
    }
