use Rattle.std.proofs.Common.{◌∙◌, ap, arith, false, refl}
use Rattle.std.specs.Prelude.{filter}
use Rattle.std.proofs.lemmas.List.{take_all}
use Rattle.std.proofs.lemmas.Option.{slice_get-get_or, slice_get_read}
use Rattle.hsr_health.proofs.Breaking.{those_more}
use Rattle.hsr_health.proofs.broken.those_of.Goals as goal

pub loop-k-preserved : goal.loop-k-preserved
loop-k-preserved c = λ test tested.
    let macs = c.args.macs.now in
    let marks = c.args.marks.now in
    let k = c.loop-k.k in
    those_more macs c.loop-k.those.items _ marks k c.index-macs-k.result _ test (slice_get_read macs _ k c.index-macs-k.result refl (omega arith) c.index-macs-k.is)
    (slice_get-get_or marks k false (omega (arith, c.requires))) tested (c.loop-k.invariant test tested) c.in_ok-put_if.ensures

pub returns : goal.returns
returns c = λ test tested. c.loop-k.invariant test tested ∙ ap (filter test) (take_all c.loop-k.k c.args.macs.now (omega arith))
