use Rattle.std.proofs.Common.{rules, ◌≡◌, true, List, subst}
use Rattle.hsr_node.specs.declared.place.Place.{Place}
use Rattle.hsr_topology.specs.declared.end.End.{End}
use Rattle.hsr_run_laws.specs.Run.{Run}
use Rattle.hsr_network_laws.specs.Network.{IsNetwork}
use Rattle.hsr_routes.specs.Routes.{bare}
use Rattle.hsr_routes.proofs.Bare.{network_is}
use Rattle.hsr_table_flaws.proofs.Clearing.{clear}
use Rattle.hsr_table_flaws.proofs.clear.is_clear.Goals as goal

pub returns : goal.returns
returns g c = λ told.
    let run : Run = c.args.closed.now.run in
    let yes : c.is_network.result ≡ true = search rules in
    let alone = c.is_network.ensures yes in
    let net : IsNetwork (bare run.places run.links) =
    subst (λ (places : List Place). IsNetwork (bare places run.links)) c.topology.ensures.places
    (subst (λ (links : List (List End)). IsNetwork (bare c.topology.result.now.places links)) c.topology.ensures.links alone) in
    clear run c.topology.ensures.finished.closed (network_is run net) (c.are_plain.ensures told)
