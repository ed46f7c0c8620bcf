use Rattle.std.proofs.Common.{List, subst}
use Rattle.std.specs.Prelude.{MatchOption}
use Rattle.hsr_node.specs.declared.place.Place.{Place}
use Rattle.hsr_topology.specs.declared.end.End.{End}
use Rattle.hsr_run_laws.specs.Run.{Run}
use Rattle.hsr_network_laws.specs.Network.{IsNetwork}
use Rattle.hsr_routes.specs.Networks.{AreGoingRound, HaveOwnAddresses, IsFirstUnlike}
use Rattle.hsr_routes.specs.Routes.{bare}
use Rattle.hsr_audit.proofs.Routed.{unlike_is}
use Rattle.hsr_audit.proofs.premises.first_unlike_link.Goals as goal

pub returns : goal.returns
returns g c =
    let run : Run = c.args.closed.now.run in
    let result = c.first_unlike_link.result in
    let P : List Place → List (List End) → Type 0 = λ places links.
    MatchOption result (AreGoingRound (bare places links) → HaveOwnAddresses (bare places links) → IsNetwork (bare places links)) (IsFirstUnlike (bare places links)) in
    unlike_is run result
    (subst (P run.places) c.topology.ensures.links (subst (λ places. P places c.topology.result.now.links) c.topology.ensures.places c.first_unlike_link.ensures))
