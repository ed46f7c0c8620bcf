use Rattle.std.proofs.Common.{◌≡◌, ◌∙◌, Some, ap, arith, refl, sym}
use Rattle.std.proofs.lemmas.Option.{slice_get_read}
use Rattle.std.proofs.lemmas.Slice.Eq.{bytes_eq-Decides}
use Rattle.hsr_taps.proofs.points.index_of.Goals as goal

pub returns-then-eq-clause-found : goal.returns-then-eq-clause-found
returns-then-eq-clause-found c =
    let points = c.args.points.now in
    let here = slice_get_read points _ c.loop-k.k c.index-points-k.result refl (omega arith) c.index-points-k.is in
    let same : c.point.inside.name.now ≡ c.args.name.now = (bytes_eq-Decides c.point.inside.name.now c.args.name.now).0 (sym c.eq.ensures ∙ c.if-eq.true) in
    here ∙ ap Some (sym c.point.view_is ∙ same)
