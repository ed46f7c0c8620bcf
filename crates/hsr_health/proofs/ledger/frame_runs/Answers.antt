use Rattle.std.proofs.Common.{◌∙◌, ◌&&◌, not, ap, arith, length, refl, subst}
use Rattle.std.proofs.lemmas.Option.{slice_get_read}
use Rattle.hsr_frame_groups.specs.Frames.{past_of}
use Rattle.hsr_health.specs.Counted.{mark_but_late}
use Rattle.hsr_health.specs.Marks.{Marked}
use Rattle.hsr_health.specs.Numbering.{numbered_at}
use Rattle.hsr_health.proofs.Gapping.{number_is, one_more_at_most}
use Rattle.hsr_health.proofs.Sourcing.{told_is}
use Rattle.hsr_heard.proofs.Telling.{those_end, those_more}
use Rattle.hsr_number_runs.specs.Runs.{AreRunsOf}
use Rattle.hsr_health.proofs.ledger.frame_runs.Goals as goal

pub loop-i-init : goal.loop-i-init
loop-i-init c =
    let none = c.in_ok-so_far.ensures in
    (omega (arith, ap length none), rw none refl)

pub loop-i-preserved : goal.loop-i-preserved
loop-i-preserved c =
    let copies = c.args.copies.now in
    let of_copy = c.args.of_copy.now in
    let groups = c.args.groups.now in
    let i = c.loop-i.i in
    let own = c.index-copies-i.result in
    let here = slice_get_read copies _ i own refl (omega arith) c.index-copies-i.is in
    let before = c.loop-i.invariant in
    let number = c.number_if-number.result in
    let told = c.index-marks-i.is ∙ told_is (mark_but_late c.requires.marks.0 c.requires.marks.1) copies c.args.marks.now i own c.index-marks-i.result c.requires.marks.2 here (omega (arith, c.requires.marks.2.long)) in
    let has = c.is_numbered-has_number.ensures ∙ ap (λ (m : Marked). m.begins && not m.is_clash) told in (
      one_more_at_most c.loop-i.so_far _ number i c.in_ok-so_far-2.ensures before.0,
      those_more (numbered_at of_copy groups) copies i own c.loop-i.so_far _ _ number here
          (number_is of_copy groups i _ _ _ own number c.sender_of-sender.ensures c.group_of-group.ensures c.number_if-number.ensures (past_of copies i) has)
          c.in_ok-so_far-2.ensures before.1,
    )

pub returns : goal.returns
returns c =
    let before = c.loop-i.invariant in
    subst (λ l. AreRunsOf l c.runs.result)
    (those_end (numbered_at c.args.of_copy.now c.args.groups.now) c.args.copies.now c.loop-i.i c.loop-i.so_far _ (omega arith) before.1) c.runs.ensures
