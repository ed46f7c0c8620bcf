use Rattle.std.proofs.Common.{sym, ap, ◌∙◌, refl, List}
use Rattle.hsr_link.specs.declared.row.Row.{Row}
use Rattle.hsr_link.specs.declared.row.Fate.TheVariants.{Taken}
use Rattle.hsr_world_links.specs.Views.{lane_view}
use Rattle.hsr_world_links.proofs.Places.{turned_none, take_none}
use Rattle.hsr_world_links.proofs.span.take_into.Goals as goal

pub returns-in_default-clause-err : goal.returns-in_default-clause-err
returns-in_default-clause-err c =
    let none = sym c.in_default.is ∙ ap (λ p. p.0) c.take.ensures in
    (ap (λ p. p.1) c.take.ensures ∙ ap (λ (rows : List Row). record c.args.link.now { rows = rows }) (turned_none Taken c.args.dir c.args.link.now.rows none), refl, take_none c.args.dir c.args.link.now (lane_view c.args.lane.now) c.args.lane.now.hand c.if-is_some.ensures none)
