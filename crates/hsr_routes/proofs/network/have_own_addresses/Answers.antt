use Rattle.std.proofs.Common.{rules, ◌↔◌, length}
use Rattle.std.specs.Prelude.{IsTrue}
use Rattle.hsr_run_laws.specs.Run.{Run}
use Rattle.hsr_routes.specs.Routes.{bare}
use Rattle.hsr_routes.specs.Addressed.{OwnBelow}
use Rattle.hsr_routes.proofs.Owned.{below_of_own, own_of_below}
use Rattle.hsr_routes.proofs.network.have_own_addresses.Goals as goal

pub returns : goal.returns
returns c =
    let run : Run = bare c.args.topology.now.places c.args.topology.now.links in
    let both : IsTrue c.are_own.result ↔ OwnBelow run.places (length run.places) = search rules in
    (λ on. own_of_below run (both.0 on), λ own. both.1 (below_of_own run own))
