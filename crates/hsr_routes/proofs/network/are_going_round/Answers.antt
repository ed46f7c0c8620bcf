use Rattle.std.proofs.Common.{rules, ◌≡◌, sym, ◌∙◌}
use Rattle.std.specs.List.{list_all}
use Rattle.hsr_run_laws.specs.Run.{Run}
use Rattle.hsr_routes.specs.Routes.{bare}
use Rattle.hsr_network_laws.specs.Network.{is_in_h_or_u}
use Rattle.hsr_routes.proofs.Networked.{all_rounds, rounds_all}
use Rattle.hsr_routes.proofs.network.are_going_round.Goals as goal

pub returns : goal.returns
returns c =
    let run : Run = bare c.args.topology.now.places c.args.topology.now.links in
    let same : c.are_in_h_or_u.result ≡ list_all is_in_h_or_u run.places = search rules in
    (λ on. rounds_all run (sym same ∙ on), λ modes. same ∙ all_rounds run modes)
