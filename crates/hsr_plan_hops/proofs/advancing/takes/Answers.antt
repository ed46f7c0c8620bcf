use Rattle.std.proofs.Common.{◌∙◌, ap, lit<, refl}
use Rattle.hsr_plan_hops.specs.Weaving.{Woven}
use Rattle.hsr_plan_hops.specs.declared.weaving.Weaving.TheInside.{Inside}
use Rattle.hsr_plan_hops.proofs.Next.{takes_at}
use Rattle.hsr_plan_hops.proofs.advancing.takes.Goals as goal

pub does-requires : goal.does-requires
does-requires g c = (
  lit< tt,
  (
    c.requires.idle.begun,
    (
      takes_at g.row.C c.args.transfer c.args.told.now.topology.links c.args.weaving.now.stage c.args.copy _ c.requires.idle.settled c.requires.next c.requires.now c.requires.first
          (ap (λ (i : Inside g.row.C). i.stage.told) c.weaving-inside.view_is ∙ ap (λ (w : Woven). w.stage.told) c.weaving.view_is),
      refl,
    ),
  ),
)
