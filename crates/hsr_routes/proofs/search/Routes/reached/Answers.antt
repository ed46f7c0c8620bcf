use Rattle.hsr_routes.specs.Routes.{heading, sender_at}
use Rattle.hsr_run_laws.specs.Run.{Run}
use Rattle.hsr_routes.specs.Numbered.{is_found, is_in}
use Rattle.hsr_routes.proofs.Searching.{search_decides}
use Rattle.hsr_routes.proofs.search.Routes.reached.Goals as goal

pub returns : goal.returns
returns c = λ k below.
    let run : Run = c.args.self.now in
    let decided = search_decides run (sender_at c.args.frame.now.sender) (heading c.args.frame.now.dst c.args.frame.now.kind) (is_in c.args.avoid.now) (is_found run c.search.result) c.search.ensures k in
    let ends = c.ends.ensures k below in
    (λ is. decided.sound (ends.0 is), λ reached. ends.1 (decided.complete reached))
