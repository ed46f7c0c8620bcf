use Rattle.std.proofs.Common.{◌+◌, ◌∙◌, ap, arith, length, refl}
use Rattle.std.proofs.lemmas.List.{length_push}
use Rattle.std.proofs.lemmas.Option.{slice_get-get_or, slice_get_read}
use Rattle.hsr_health.proofs.Flagging.{flags_are, flags_more}
use Rattle.hsr_health.proofs.copy_reasons.flags_of.Goals as goal

pub loop-i-preserved : goal.loop-i-preserved
loop-i-preserved c =
    let carried = c.args.carried.now in
    let marks = c.args.marks.now in
    let i = c.loop-i.i in
    record {
      long = ap length c.in_ok-push.ensures.items ∙ length_push c.loop-i.flags.items _ ∙ ap (λ n. n + 1) c.loop-i.invariant.long;
      each = flags_more c.args.mark carried marks c.loop-i.flags.items _ i _ _ _ c.loop-i.invariant.long c.in_ok-push.ensures.items (slice_get-get_or carried i 0 (omega arith))
          (slice_get_read marks _ i c.index-marks-i.result refl (omega (arith, c.requires)) c.index-marks-i.is) c.is_such.ensures c.loop-i.invariant.each;
    }

pub returns : goal.returns
returns c = λ ring is_by_lane copies carried_told marks_told.
    flags_are c.args.mark ring is_by_lane copies c.args.carried.now c.args.marks.now c.loop-i.flags.items c.loop-i.i (omega arith) c.loop-i.invariant.long carried_told marks_told c.loop-i.invariant.each
