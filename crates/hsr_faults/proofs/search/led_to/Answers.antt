use Rattle.hsr_run_laws.specs.Run.{Run}
use Rattle.hsr_routes.specs.Routes.{bare, heading, sender_at}
use Rattle.hsr_routes.specs.Numbered.{is_found, is_in}
use Rattle.hsr_routes.proofs.Searching.{search_decides}
use Rattle.hsr_faults.proofs.search.led_to.Goals as goal

pub returns : goal.returns
returns c = λ k below.
    let net : Run = bare c.args.topology.now.places c.args.topology.now.links in
    let decided = search_decides net (sender_at c.args.frame.now.sender) (heading c.args.frame.now.dst c.args.frame.now.kind) (is_in c.args.avoid.now.words) (is_found net c.search.result.words) c.search.ensures k in
    let ends = c.ends.ensures k below in
    (λ is. decided.sound (ends.0 is), λ led. ends.1 (decided.complete led))
