use Rattle.std.proofs.Common.{rules, Option, Some, None}
use Rattle.std.specs.Prelude.{ℕ, MatchOption}
use Rattle.hsr_run_laws.specs.Run.{Run}
use Rattle.hsr_routes.specs.Routes.{bare}
use Rattle.hsr_network_laws.specs.Network.{IsNetwork}
use Rattle.hsr_topology.specs.Wired.{IsWired}
use Rattle.hsr_topology.proofs.Back.{back_of_wired}
use Rattle.hsr_routes.specs.Addressed.{IsUnlike}
use Rattle.hsr_routes.specs.Networks.{AreGoingRound, HaveOwnAddresses, IsFirstUnlike}
use Rattle.hsr_routes.proofs.Networked.{first_unlike_is, network_is}
use Rattle.hsr_routes.proofs.network.first_unlike_link.Goals as goal

so_first : (run : Run) (result : Option ℕ) → IsWired run.places run.links → IsUnlike run.places run.links result →
    MatchOption result (AreGoingRound run → HaveOwnAddresses run → IsNetwork run) (IsFirstUnlike run)
so_first run None wired like = λ modes own. network_is run wired (back_of_wired run.places run.links wired) modes own like
so_first run (Some l) wired unlike = first_unlike_is run l unlike

pub returns : goal.returns
returns c =
    let run : Run = bare c.args.topology.now.places c.args.topology.now.links in
    let wired : IsWired run.places run.links = search rules in
    let found : IsUnlike run.places run.links c.first_unlike.result = search rules in
    so_first run c.first_unlike.result wired found
