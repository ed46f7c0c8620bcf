use Rattle.std.proofs.Common.{◌∙◌, ap, arith, refl, sym}
use Rattle.std.proofs.lemmas.Option.{same_Some, slice_get_read}
use Rattle.hsr_heard.specs.declared.heard.Heard.{Heard}
use Rattle.hsr_heard.proofs.Subjects.{so_far_end, so_far_more}
use Rattle.hsr_heard.proofs.abouts.told_by.Goals as goal

pub loop-from-preserved : goal.loop-from-preserved
loop-from-preserved c =
    let copies = c.args.copies.now in
    let run = c.end_of_run-until.ensures in
    let own = c.index-copies-from.result in
    let here = slice_get_read copies _ c.loop-from.from own refl (omega (arith, c.loop-from-test.true)) c.index-copies-from.is in
    so_far_more copies c.args.start c.args.end c.loop-from.from c.end_of_run-until.result c.loop-from.told c.put_about.new.told c.requires run c.loop-from.invariant c.mac_of-mac.result
    (c.mac_of-mac.ensures ∙ ap (λ (x : Heard). x.said.about) (same_Some own run.first (sym here ∙ run.first_is))) c.in_ok-put_about.ensures

pub returns : goal.returns
returns c = so_far_end c.args.copies.now c.args.start c.args.end c.loop-from.from _ _ (omega (arith, c.loop-from-test.false)) c.loop-from.invariant
