use Rattle.std.proofs.Common.{List, subst}
use Rattle.std.specs.Prelude.{◌↔◌, IsTrue}
use Rattle.hsr_node.specs.declared.place.Place.{Place}
use Rattle.hsr_topology.specs.declared.end.End.{End}
use Rattle.hsr_run_laws.specs.Run.{Run}
use Rattle.hsr_routes.specs.Networks.{AreGoingRound}
use Rattle.hsr_routes.specs.Routes.{bare}
use Rattle.hsr_audit.proofs.premises.are_going_round.Goals as goal

pub returns : goal.returns
returns g c =
    let run : Run = c.args.closed.now.run in
    let P : List Place → List (List End) → Type 0 = λ places links. IsTrue c.are_going_round.result ↔ AreGoingRound (bare places links) in
    subst (P run.places) c.topology.ensures.links (subst (λ places. P places c.topology.result.now.links) c.topology.ensures.places c.are_going_round.ensures)
