use Rattle.std.proofs.Common.{◌∷◌, ◌+◌, ◌∙◌, ap, arith}
use Rattle.std.proofs.lemmas.List.{length_push}
use Rattle.hsr_frame_groups.specs.Frames.{put_for}
use Rattle.hsr_frame_groups.proofs.Grouping.{one_more_first, one_more_ready, there}
use Rattle.hsr_frame_groups.proofs.frames.frames_of.Goals as goal

pub put_copy-requires : goal.put_copy-requires
put_copy-requires c =
    c.loop-i.invariant.ready.1.next c.index-copies-i.result (there c.args.copies.now c.loop-i.i c.index-copies-i.result (omega arith) c.index-copies-i.is)

pub loop-i-preserved : goal.loop-i-preserved
loop-i-preserved c =
    let copies = c.args.copies.now in
    let here = there copies c.loop-i.i c.index-copies-i.result (omega arith) c.index-copies-i.is in
    let puts = c.loop-i.invariant.ready.0 in
    let ready = c.loop-i.invariant.ready.1 in
    let is_first = c.first_of-first.ensures puts ready in
    record {
      ready = (
        put_for c.index-copies-i.result c.first_of-first.result ∷ puts,
        one_more_ready copies c.loop-i.table c.put_copy.new.table c.loop-i.i c.first_of-first.result puts c.index-copies-i.result c.requires.time ready here is_first
            (c.in_ok-put_copy.ensures.knows puts ready.knows) c.put_copy.ensures.moment c.put_copy.ensures.horizon,
      );
      long = rw c.in_ok-push.ensures.items (length_push c.loop-i.firsts.items c.first_of-first.result ∙ ap (λ n. n + 1) c.loop-i.invariant.long);
      each = rw c.in_ok-push.ensures.items (one_more_first copies c.loop-i.firsts.items c.loop-i.i c.first_of-first.result c.loop-i.invariant.long c.loop-i.invariant.each is_first);
    }
