use Rattle.std.proofs.Common.{◌+◌, ◌∙◌, ap, arith, drop, length, refl}
use Rattle.std.specs.Prelude.{slice_get}
use Rattle.std.proofs.lemmas.List.{length_push}
use Rattle.std.proofs.lemmas.Option.{slice_get_read}
use Rattle.hsr_taps.specs.Named.{names_from}
use Rattle.hsr_taps.proofs.Naming.{names_step, owners_more, owner_stays}
use Rattle.hsr_taps.proofs.points.points_of.Goals as goal

pub loop-i-preserved : goal.loop-i-preserved
loop-i-preserved c =
    let interfaces = c.args.interfaces.now in
    let choice = c.args.choice.now in
    let looked = c.args.looked_at.now in
    let i = c.loop-i.i in
    let interface = c.index-interfaces-i.result in
    let points = c.loop-i.points.items in
    let here = slice_get_read interfaces _ i interface refl (omega arith) c.index-interfaces-i.is in
    let names = c.in_ok-owner.ensures.names in
    record {
      names = ap (λ l. names_from choice looked l (i + 1) (drop (i + 1) interfaces)) names ∙ names_step choice looked points _ i interfaces interface here c.loop-i.invariant.names;
      long = ap length c.in_ok-push.ensures.items ∙ length_push c.loop-i.owners.items c.in_ok-owner.owner ∙ ap (λ n. n + 1) c.loop-i.invariant.long;
      owners = owners_more choice looked interfaces points _ c.loop-i.owners.items _ i interface c.in_ok-owner.owner c.loop-i.invariant.long here c.in_ok-push.ensures.items
          (λ k x at_k. ap (λ l. slice_get l k) names ∙ owner_stays choice looked points i interface k x at_k) c.in_ok-owner.ensures.owner c.loop-i.invariant.owners;
    }
